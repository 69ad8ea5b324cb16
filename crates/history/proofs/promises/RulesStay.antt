-- The number of the rules never changes.
use Rattle.octets.proofs.Kit.{ℕ, ◌+◌, ◌≡◌, inr, List, arith}
use Rattle.octets.proofs.Numbers.{num_same}
use Rattle.sheet.{specs.{Head.rules_of, Rules.Accepted}, proofs.rules.Good.good}
use Rattle.sheet.specs.Head as head
use Rattle.events.specs.Events.{Event}
use Rattle.history.specs.{History.First, Keeps.{Device, state_after, Still, Kept, Begins, AllOctets, Keeps}}
use Rattle.history.proofs.places.Standing.{no_head, past_contents}

-- its byte is no location, and none of the others that events change
pub rules_still : (s : List ℕ) → Accepted s → Still s (head.rules).at
rules_still s ok =
    let g = good s ok in
    record {
      inside = omega (arith, g.framed);
      location = λ x. no_head g (omega arith) (inr (omega arith));
      group = λ i h. omega (arith, past_contents g h);
      address = inr (omega arith);
      flags = λ e. omega arith;
    }

-- A DEVICE THAT KEEPS DEMAND 3 KEEPS THE RULES OF ITS FIRST SHEET
pub rules_stay :
    (step : Device) → Keeps step → (f : First) (h : List Event) → Begins f → AllOctets h → rules_of (state_after step f h).sheet ≡ rules_of f.sheet
unfolding rules_of
rules_stay step keeps f h b o =
    let k : Kept step f h = keeps f h b o in
    num_same (state_after step f h).sheet f.sheet (head.rules).at (head.rules).at (head.rules).width
    (λ i l. let e : (head.rules).at + i ≡ (head.rules).at = omega arith in rw e (k.still (head.rules).at (rules_still f.sheet b.accepted)))
