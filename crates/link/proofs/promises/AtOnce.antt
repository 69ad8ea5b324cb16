-- WHAT IS DUE TAKES EFFECT AT ONCE, by frames: a permitted write that is due as a request is stored; a connect that is due has its sender for partner, at level 3; a disconnect that is due closes.
use Rattle.octets.proofs.Kit.{ℕ, ◌<◌, ◌≡◌, sym, ap, ◌∙◌, true, false, List, [], ◌∷◌, get_or, replicate, arith}
use Rattle.judge.specs.declared.Session.{Session}
use Rattle.device.{specs.{Sessions.{newly_open, closed, session_of}, Events.State}, proofs.leaves.Connections.with_own}
use Rattle.events.specs.Events.{Event, connect, disconnect, request, event_of, after}
use Rattle.history.specs.{Location.{Location, Place}, Span.{names, gives}, Wish.{asks, brings}, Permit.spans, History.{First, content, permitted}, Keeps.{state_after, Begins}, Rightful.ours}
use Rattle.history.proofs.promises.Keep.{keeps}
use Rattle.link.specs.{Hearing.own_of, Serving.{most, apdu_of}, Net.{Net, state_of, first_net, source_of, heard_in, events_of, frame, Item, events_by, net_by, net_after, events_after, AllBytes}}
use Rattle.link.specs.{Whose.Partner, Due.{Has, first, second, HeardDue, again, first_free, second_free, parts}, Granted.level_at, declared.Arrived.Arrived}
use Rattle.link.specs.declared.{Arrived.TheVariants.{Request, Connect, Disconnect}, Link.Link}
use Rattle.link.proofs.{promises.{Kept.{as_events, all_octets, octets_apdu}, Dues.heard_only}, Items.{left_one, joined_address}}

-- a frame b is due to y as r
abbrev pub DueTo : Net → List ℕ → Arrived → Type 0
DueTo y b r = HeardDue y.link (own_of y.sheet) b r

heard_as : (y : Net) (b : List ℕ) (r : Arrived) → DueTo y b r → heard_in y b ≡ r
unfolding heard_in
heard_as y b r d = sym (heard_only y.link (own_of y.sheet) b r d)

-- connections that are due are there
has_known : {k : Link} {a c : ℕ} → Has k a c → c < 2
has_known (first p) = omega arith
has_known (second n p) = omega arith

connect_known : {k : Link} {own c : ℕ} {b : List ℕ} → HeardDue k own b (Connect c) → c < 2
connect_known (again c o m h) = has_known h
connect_known (first_free o m s u) = omega arith
connect_known (second_free o m s u v) = omega arith

disconnect_known : {k : Link} {own c : ℕ} {b : List ℕ} → HeardDue k own b (Disconnect c) → c < 2
disconnect_known (parts c o m h) = has_known h

module _ (y : Net) (b : List ℕ) (c : ℕ) where
  -- A CONNECT THAT IS DUE: its sender is the partner, at level 3
  newly : DueTo y b (Connect c) → session_of (net_by y (frame b)).link.sessions c ≡ newly_open
  unfolding after event_of
  newly d =
      ap (λ (s : State). session_of s.sessions c) (left_one y (frame b) (connect c) (ap (λ (r : Arrived). events_of r (apdu_of b)) (heard_as y b (Connect c) d)))
      ∙ with_own y.link.sessions c newly_open (connect_known d)

  pub connects_at_once : DueTo y b (Connect c) → Partner (net_by y (frame b)).link c (source_of b) × (level_at (net_by y (frame b)) c ≡ 3)
  connects_at_once d =
      let o : (session_of (net_by y (frame b)).link.sessions c).opened ≡ true = ap (λ (s : Session). s.opened) (newly d) in
      (record { «open» = o; address = joined_address y b c (heard_as y b (Connect c) d) o }, ap (λ (s : Session). s.level) (newly d))

  -- A DISCONNECT THAT IS DUE: its connection is closed
  pub disconnects_at_once : DueTo y b (Disconnect c) → (session_of (net_by y (frame b)).link.sessions c).opened ≡ false
  unfolding after event_of
  disconnects_at_once d =
      ap (λ (s : State). (session_of s.sessions c).opened) (left_one y (frame b) (disconnect c) (ap (λ (r : Arrived). events_of r (apdu_of b)) (heard_as y b (Disconnect c) d)))
      ∙ ap (λ (s : Session). s.opened) (with_own y.link.sessions c closed (disconnect_known d))

-- a permitted write that is due
module _ (x : Net) (begins : Begins (first_net x)) (h : List Item) (b : List ℕ) (o : AllBytes (frame b ∷ h)) (mode c group : ℕ)
    (due : DueTo (net_after x h) b (Request mode c group)) where
  abbrev f : First
  f = first_net x

  abbrev g : List Event
  g = events_after x h

  abbrev e : Event
  e = request mode c group (apdu_of b) (replicate most 0)

  is_it : events_by (net_after x h) (frame b) ≡ e ∷ []
  is_it = ap (λ (r : Arrived). events_of r (apdu_of b)) (heard_as (net_after x h) b (Request mode c group) due)

  goes : state_of (net_after x (frame b ∷ h)) ≡ state_after ours f (e ∷ g)
  unfolding net_after state_after after
  goes = left_one (net_after x h) (frame b) e is_it ∙ ap (λ (s : State). after s e) (as_events x h)

  stored :
      permitted f g e ≡ true → (y : Location) (p : ℕ) → Place x.sheet y p →
      names (spans x.sheet (content f g) (brings (apdu_of b)) (asks (apdu_of b))) y ≡ true →
      get_or (net_after x (frame b ∷ h)).sheet p 0 ≡ gives (spans x.sheet (content f g) (brings (apdu_of b)) (asks (apdu_of b))) y
  unfolding state_after
  stored permits y p place named =
      ap (λ (s : State). get_or s.sheet p 0) goes
      ∙ (keeps f g begins (all_octets x h o.1)).at_once e (octets_apdu b o.0) permits y p place named

-- A PERMITTED WRITE THAT IS DUE TAKES EFFECT AT ONCE: every byte that it names holds what it gives
pub frames_at_once :
    (x : Net) → Begins (first_net x) → (h : List Item) (b : List ℕ) → AllBytes (frame b ∷ h) →
    (mode c group : ℕ) → DueTo (net_after x h) b (Request mode c group) →
    permitted (first_net x) (events_after x h) (request mode c group (apdu_of b) (replicate most 0)) ≡ true →
    (y : Location) (p : ℕ) → Place x.sheet y p →
    names (spans x.sheet (content (first_net x) (events_after x h)) (brings (apdu_of b)) (asks (apdu_of b))) y ≡ true →
    get_or (net_after x (frame b ∷ h)).sheet p 0 ≡ gives (spans x.sheet (content (first_net x) (events_after x h)) (brings (apdu_of b)) (asks (apdu_of b))) y
frames_at_once x begins h b o mode c group due permits y p place named = stored x begins h b o mode c group due permits y p place named
