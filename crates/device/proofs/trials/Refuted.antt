-- WHAT DEMAND 2 RULES OUT: a device that refuses everything, sends one answer, invents the count, stores what it refuses, has the levels turned, or lets level 1 set key 0.
use Rattle.octets.proofs.Kit.{ℕ, ◌≡◌, refl, ap, ◌∙◌, List, true, get_or, arith}
use Rattle.sheet.specs.Head as head
use Rattle.device.specs.{Step.Step, Asked.Asked, Demand2.{Serves, done}, Marked.{sample, Case, Result, read_element, read_count, write_element, cases, asked, found, wanted}}
use Rattle.device.proofs.trials.Wrong.{refuses_all, fixed_answer, invents_count, invents_stored, stores_denied, levels_turned, key_of_another, keyless_write, write_key0}
use Rattle.device.proofs.{leaves.Octet.{is_bytes, octets_by}, promises.{Rightly.right_only, Cases.marked}}
use Rattle.device.proofs.trials.WrongSteps.{invented, invented_stored, stored, denied_stored, turned_stored, element_kept, key_stored, key_kept}

-- what is due for a read of the element, and of the count
marked_element : found read_element ≡ wanted read_element
unfolding cases
marked_element = let m = marked in cc

marked_count : found read_count ≡ wanted read_count
unfolding cases
marked_count = let m = marked in cc

-- what a device that meets the demand answers to them
module _ (step : Asked → Step) (f : Serves step) where
  only : (c : Case) → is_bytes c.request ≡ true → step (asked c) ≡ done (asked c)
  unfolding sample
  only c e =
      right_only (asked c) (octets_by sample refl) (octets_by c.request e) (step (asked c)) (f (asked c) (octets_by sample refl) (octets_by c.request e))

  element_answered : (step (asked read_element)).answer ≡ read_element.answer
  unfolding found wanted
  element_answered = ap (λ (r : Step). r.answer) (only read_element refl) ∙ ap (λ (r : Result). r.answer) marked_element

  count_answered : (step (asked read_count)).answer ≡ read_count.answer
  unfolding found wanted
  count_answered = ap (λ (r : Step). r.answer) (only read_count refl) ∙ ap (λ (r : Result). r.answer) marked_count

  -- a byte of the sheet that it leaves is the one that ours leaves
  byte_left : (c : Case) → is_bytes c.request ≡ true → (i : ℕ) → get_or (step (asked c)).sheet i 0 ≡ get_or (done (asked c)).sheet i 0
  byte_left c e i = ap (λ (r : Step). get_or r.sheet i 0) (only c e)

  -- the count after a write of the element; the element after one without a key; key 0 after it was written at level 1
  count_stored : get_or (step (asked write_element)).sheet 47 0 ≡ 1
  count_stored = byte_left write_element refl 47 ∙ stored

  element_left : get_or (step (asked keyless_write)).sheet 65 0 ≡ 0xE8
  element_left = byte_left keyless_write refl 65 ∙ element_kept

  key_left : get_or (step (asked write_key0)).sheet 18 0 ≡ 0x11
  key_left = byte_left write_key0 refl (head.key 0).at ∙ key_kept

-- NOT OF ONE THAT REFUSES EVERYTHING: a read of the element
pub refuses_refuted : (n : ℕ) → Serves (refuses_all n) → ⊥
unfolding refuses_all
refuses_refuted n f = let e : ◌≡◌ {A = ℕ} 0 3 = ap (λ (l : List ℕ). get_or l 0 0) (element_answered (refuses_all n) f) in omega arith

-- NOT OF ONE THAT SENDS ONE ANSWER, WHATEVER IT IS: reads of the element and of the count
pub fixed_refuted : (b : List ℕ) → Serves (fixed_answer b) → ⊥
unfolding fixed_answer
fixed_refuted b f =
    let e : get_or b 5 0 ≡ 1 = ap (λ (l : List ℕ). get_or l 5 0) (element_answered (fixed_answer b) f) in
    let g : get_or b 5 0 ≡ 0 = ap (λ (l : List ℕ). get_or l 5 0) (count_answered (fixed_answer b) f) in
    omega arith

-- NOT OF ONE THAT INVENTS THE COUNT: that it answers, a read of the count
pub invents_refuted : Serves invents_count → ⊥
invents_refuted f = omega (arith, invented, ap (λ (l : List ℕ). get_or l 7 0) (count_answered invents_count f))

-- or that it stores, a write of the element
pub stored_refuted : Serves invents_stored → ⊥
stored_refuted f = omega (arith, invented_stored, count_stored invents_stored f)

-- NOT OF ONE THAT ANSWERS THE REFUSAL AND STORES: a write of the element without a key
pub denied_refuted : Serves stores_denied → ⊥
denied_refuted f = omega (arith, denied_stored, element_left stores_denied f)

-- NOT OF ONE WITH THE LEVELS TURNED: the same write
pub turned_refuted : Serves levels_turned → ⊥
turned_refuted f = omega (arith, turned_stored, element_left levels_turned f)

-- NOT OF ONE THAT LETS LEVEL 1 SET KEY 0
pub key_refuted : Serves key_of_another → ⊥
key_refuted f = omega (arith, key_stored, key_left key_of_another f)
