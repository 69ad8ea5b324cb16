-- The button, as the code's returns ask.
use Rattle.std.proofs.Common.{Result, Ok, Err}
use Rattle.std.specs.Prelude.{IsErrAnd}
use Rattle.sheet.specs.declared.Refused.{Refused, TheVariants.{Bad, Old}}
use Rattle.sheet.specs.Refused.{number_of, told, told_converted}
use Rattle.octets.proofs.Kit.{refl, ap, ℕ, ◌+◌, ◌-◌, ◌≤◌, ◌≡◌, ap₂, sym, subst, ◌∙◌, Bool, List, arith, length, ne_eqb}
use Rattle.octets.specs.{Bytes.bytes_of, Splice.splice}
use Rattle.sheet.{specs.{Layout.◌of◌, Rules.refusal_of}, proofs.{promises.Verdicts.not_refused, rules.Good.good}}
use Rattle.sheet.specs.Head as head
use Rattle.device.specs.Events.{bit, pressed, press_outcome, press_sheet, button_outcome, button_sheet, Pressed}

-- an accepted sheet has room for its head
pub head_room : (s : List ℕ) (c : ℕ) → c ≡ refusal_of s → c ≡ 0 → head.size ≤ length s
head_room s c e z = (good s (not_refused s c e z)).framed.0

some : (r : Refused) → number_of r ≡ 0 → ⊥
some Bad h = omega arith
some Old h = omega arith

refused_by : (s : List ℕ) (on : Bool) (r : Refused) → number_of r ≡ refusal_of s → Pressed s on (number_of r) s
unfolding button_outcome button_sheet
refused_by s on r h =
    let t = ne_eqb (number_of r) 0 (some r) in
    let u : (number_of r ≡ press_outcome (number_of r)) × (s ≡ press_sheet (number_of r) s on) = (rw t, rw t) in
    let w = subst (λ (n : ℕ). (number_of r ≡ press_outcome n) × (s ≡ press_sheet n s on)) h u in
    record { outcome = w.0; sheet = w.1 }

-- what refuses the sheet is told, and the sheet is as found
pub not_pressed :
    (s : List ℕ) (on : Bool) (x y : Result (Unit {0}) Refused) (e : Refused) → told x ≡ refusal_of s → x ≡ Err e → IsErrAnd y (λ r. r ≡ e) →
    Pressed s on (told_converted y) s
not_pressed s on x (Ok u) e h g k = absurd k
not_pressed s on x (Err r) e h g k = refused_by s on r (ap number_of k ∙ ap told (sym g) ∙ h)

module _ (s : List ℕ) (x : Result (Unit {0}) Refused) (x-is : told x ≡ refusal_of s) (u : Unit {0}) (h : x ≡ Ok u) where
  none : refusal_of s ≡ 0
  none = sym x-is ∙ ap told h

  pub was_pressed :
      (s' t : List ℕ) (on : Bool) (at new : ℕ) → t ≡ s →
      at ≡ (head.flags).at → new ≡ head.flags of t - head.programming t + bit on → s' ≡ splice s at (bytes_of 1 new) → Pressed s on 1 s'
  unfolding button_outcome button_sheet pressed
  was_pressed s' t on at new e p q g =
      let n : new ≡ head.flags of s - head.programming s + bit on = q ∙ ap (λ (x : List ℕ). head.flags of x - head.programming x + bit on) e in
      record { outcome = rw none; sheet = rw none (g ∙ ap₂ (λ (o x : ℕ). splice s o (bytes_of 1 x)) p n) }

  pub put_room : (at : ℕ) → at ≡ (head.flags).at → at + 1 ≤ length s
  put_room at p = omega (arith, head_room s 0 (sym none) refl)
