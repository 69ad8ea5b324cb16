-- SINCE THE LAST START, by frames: the laptop beside the technician, through any number of cuts. After a start nobody has a level below 3, so what a frame may change is decided by what its sender has
-- offered since.
use Rattle.octets.proofs.Kit.{ℕ, ◌<◌, ◌≤◌, ◌≡◌, sym, ap, subst, Bool, List, ◌∷◌, get_or}
use Rattle.octets.specs.Octets.{Octets}
use Rattle.sheet.specs.Rules.{Accepted}
use Rattle.device.specs.{Events.State, declared.Sessions.Sessions}
use Rattle.events.specs.Events.{Event}
use Rattle.history.specs.{Location.{Location, Place}, Keeps.Begins, Keyless.{Closed, write_level}}
use Rattle.link.{specs.{Net.{Net, source_of, Item, frame}, Granted.{ByRight, NoKeyFrom}}, proofs.promises.Ran.{ran_by_right, ran_without_key}}
use Rattle.link.specs.Runs as frames
use Rattle.lives.specs.Life.{Running, Happening, cut, Starts, starts, loses, Ran, next, first_of, Begun}
use Rattle.lives.proofs.promises.Lives.{lives_keep}

-- z is what a life left that was cut at last, y what frames since have left, w what one more has
module _ {x z : Running} {h : List Happening} {set : Bool} {es : List Event} (b : Begun x) (k : Ran x (cut set es ∷ h) z) where
  pub begins_again : Begins (first_of z)
  begins_again =
      let p = lives_keep b k in
      let e = ap (λ (q : State). q.sheet) (sym p.1) in
      record { octets = subst Octets e p.0.octets; accepted = subst Accepted e p.0.accepted }

  closed_again : Closed (first_of z)
  closed_again = go k
    where
      fresh : {m : _} {v : Running} → Starts m v → Closed (first_of v)
      fresh (starts l n s d e) = (ap (λ (q : Sessions). q.first.opened) d, ap (λ (q : Sessions). q.second.opened) d)

      go : {v : Running} → Ran x (cut set es ∷ h) v → Closed (first_of v)
      go (next l (loses s d t)) = fresh t

  module _ {y w : Net} {is : List Item} {f : List ℕ} (r : frames.Ran z.net is y) (g : frames.Goes y (frame f) w) (a : Location) (p : ℕ) (place : Place z.net.sheet a p) where
    -- WHOEVER'S FRAME CHANGES A PROTECTED BYTE HAS THE RIGHT, given to it since the start
    pub lives_by_right :
        write_level z.net.sheet a < 3 → (get_or w.sheet p 0 ≡ get_or y.sheet p 0 → ⊥) → ByRight z.net is (source_of f) (write_level z.net.sheet a)
    lives_by_right = ran_by_right r g begins_again closed_again a p place

    -- WHO HAS OFFERED NO KEY since the start changes none, whatever others have offered
    pub lives_without_key : (l : ℕ) → l < 3 → NoKeyFrom z.net (source_of f) l is → write_level z.net.sheet a ≤ l → get_or w.sheet p 0 ≡ get_or y.sheet p 0
    lives_without_key = ran_without_key r g begins_again closed_again a p place
