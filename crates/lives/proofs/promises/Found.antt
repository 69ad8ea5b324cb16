-- AFTER A CUT: who got an answer finds the sheet as it was answered; the next write is there wholly or not at all; nobody is connected. Assumes nothing.
use Rattle.octets.proofs.Kit.{ℕ, ◌≡◌, refl, sym, ap, ◌∙◌, Bool, true, false, cond, List, [], ◌∷◌, ◌++◌, get_or}
use Rattle.octets.proofs.Truths.{never}
use Rattle.slots.{specs.Medium.{Medium, Broken}, proofs.promises.Lives.rest_cut}
use Rattle.judge.specs.declared.Session.{Session}
use Rattle.device.{specs.{Events.State, Sessions.{fresh_of, session_of}, declared.Sessions.Sessions}, proofs.leaves.Connections.fresh_closed}
use Rattle.events.specs.Events.{Event}
use Rattle.history.{specs.{Location.{Location, Place}, Span.{names, gives}, Permit.spans, History.{wished, supplied, content, permitted}, Keeps.state_after}, proofs.promises.Keep.keeps}
use Rattle.link.specs.{Net.{Net, state_of}, Whose.Partner}
use Rattle.host.specs.Steps.{Steps}
use Rattle.lives.specs.Life.{Running, Happening, saved, cut, Starts, starts, Goes, loses, Ran, next, apart, tell, telling, told, kept, first_of, Begun}
use Rattle.lives.proofs.Follows.{At, same_sheet, steps_follow, lived}

module _ {x y : Running} {h : List Happening} {es : List Event} (b : Begun x) (k : Ran x (saved es ∷ h) y) where
  abbrev H : List Event
  H = told (saved es ∷ h)

  held_now : y.net.sheet ≡ (At (first_of x) H).sheet
  held_now = ap (λ (z : State). z.sheet) (lived b k).follows.state

  -- WHOLE OR NOT AT ALL: a cut during the next calls leaves the sheet after them exactly if the mark of its save was set, else the one before
  pub whole_or_not :
      {ds : List Event} {v : Net} (set : Bool) {m : Medium} {z : Running} → Steps y.net ds v → Broken set v.sheet y.medium m → Starts m z →
      z.net.sheet ≡ cond set v.sheet y.net.sheet
  unfolding telling tell
  whole_or_not {ds} {v} set {m} {z} s d t = by set (lived b (next k (loses s d t))).follows.state
    where
      then_held : v.sheet ≡ (At (first_of x) (ds ++ H)).sheet
      then_held = ap (λ (q : State). q.sheet) (steps_follow b.begins (lived b k).follows s).state

      by : (u : Bool) → state_of z.net ≡ At (first_of x) (apart (cond u (ds ++ H) H)) → z.net.sheet ≡ cond u v.sheet y.net.sheet
      by true e = ap (λ (q : State). q.sheet) e ∙ sym (same_sheet (first_of x) (ds ++ H)) ∙ sym then_held
      by false e = ap (λ (q : State). q.sheet) e ∙ sym (same_sheet (first_of x) H) ∙ sym held_now

  -- FOUND AGAIN: who got an answer finds, after a cut at rest or in a save of what was answered, the sheet byte for byte as it was answered
  pub found_again : (set : Bool) {m : Medium} {z : Running} → Broken set y.net.sheet y.medium m → Starts m z → z.net.sheet ≡ y.net.sheet
  found_again set d t = whole_or_not set Steps.begin d t ∙ same set
    where
      same : (u : Bool) → cond u y.net.sheet y.net.sheet ≡ y.net.sheet
      same true = refl
      same false = refl

-- THE HEIGHT THAT WAS ACKNOWLEDGED IS THE HEIGHT AFTER THE CUT: a permitted write that was saved and then answered has given, after a cut, every byte that it named
pub written_found :
    {x y : Running} {h : List Happening} {e : Event} → Begun x → Ran x (saved (e ∷ []) ∷ h) y → permitted (first_of x) (told h) e ≡ true →
    (a : Location) (p : ℕ) → Place x.net.sheet a p → names (spans x.net.sheet (content (first_of x) (told h)) (supplied e) (wished e)) a ≡ true →
    (set : Bool) {m : Medium} {z : Running} → Broken set y.net.sheet y.medium m → Starts m z →
    get_or z.net.sheet p 0 ≡ gives (spans x.net.sheet (content (first_of x) (told h)) (supplied e) (wished e)) a
unfolding telling tell state_after
written_found {x} {h = h} {e = e} b k may a p place named set d t =
    let o = (lived b k).follows.octets in
    ap (λ (s : List ℕ). get_or s p 0) (found_again b k set d t ∙ held_now b k)
    ∙ (keeps (first_of x) (told h) b.begins o.1).at_once e o.0 may a p place named

-- THE POWER MAY GO AT REST, AND WITHIN A CALL, whatever that has left in memory: a start from the medium as it is, is a cut of no events
pub rests : {x y z : Running} {h : List Happening} → Begun x → Ran x h y → Starts y.medium z → Goes y (cut false []) z
rests {x} {y} {h = h} b k t = loses Steps.begin (rest_cut (At (first_of x) (kept h)).sheet y.net.sheet y.medium (lived b k).ready) t

-- AT START THE LINK IS FRESH: no connection has a partner
pub starts_fresh : {m : Medium} {z : Running} → Starts m z → (z.net.link.sessions ≡ fresh_of) × ((c a : ℕ) → Partner z.net.link c a → ⊥)
starts_fresh (starts k n s d e) = (d, λ c a p. never (sym (ap (λ (q : Session). q.opened) (fresh_closed c)) ∙ ap (λ (q : Sessions). (session_of q c).opened) (sym d) ∙ p.«open»))
