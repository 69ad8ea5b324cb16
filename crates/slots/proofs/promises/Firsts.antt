-- A NEW UNIT, whose slots hold nothing; and where the save after a save goes. Assumes nothing.
use Rattle.octets.proofs.Kit.{ℕ, ◌-◌, ◌≤◌, ◌≡◌, refl, sym, ap, ◌∙◌, subst, List, Bool, true, false, arith, length}
use Rattle.slots.specs.{Slot.{longest, next_of, slot_of}, Medium.{pieces, Did, Cut, Medium, goal, Saved, Broken}, Lives.{Older, none, last, Ready, one, two, Blank, FirstCut}}
use Rattle.slots.specs.declared.Target.{Target}
use Rattle.slots.specs.Medium as medium
use Rattle.slots.proofs.{Returns.{neither, to_none_lem}, Cuts.{Holds, kept, made, cut_slot, saved_slot}, promises.Numbered.{next_below, is_bad, one_goal, two_goal}}

module _ (t : List ℕ) (m : Medium) (short : length t ≤ longest) (b : Blank m) where
  blank_goal : record { slot = 0; number = 0 } ≡ goal m
  unfolding goal
  blank_goal =
      let e = neither (slot_of m.first) (slot_of m.second) (is_bad m.first b.first) (is_bad m.second b.second) in
      to_none_lem (slot_of m.first) (slot_of m.second) 2 e (λ z. omega arith) (λ z. omega arith)

  slot_is : (goal m).slot ≡ 0
  slot_is = sym (ap (λ (x : Target). x.slot) blank_goal)

  number_is : (goal m).number ≡ 0
  number_is = sym (ap (λ (x : Target). x.number) blank_goal)

  -- THE FIRST SAVE
  pub first_save : {m' : Medium} → Saved t m m' → Ready t m'
  first_save (medium.one {b = y} e d) =
      one 0 (omega arith)
      (saved_slot 0 t (omega arith) short m.first y (subst (λ (k : ℕ). Did (pieces k t) m.first y) number_is d))
      (subst (Older 0) (sym b.second) none)
  first_save (medium.two e d) = let z = slot_is in absurd (omega arith)

  -- AND ONE THAT WAS CUT: t exactly if the mark was set, else nothing yet
  pub first_cut : (set : Bool) {m' : Medium} → Broken set t m m' → FirstCut set t m'
  first_cut set (medium.one {b = y} e d) =
      go set (cut_slot 0 t (omega arith) short set m.first y (subst (λ (k : ℕ). Cut set (pieces k t) m.first y) number_is d))
    where
      go : (is : Bool) → Holds 0 t m.first y is → FirstCut is t record { first = y; second = m.second }
      go false (kept f) = record { first = f ∙ b.first; second = b.second }
      go false (made f) = record { first = f; second = b.second }
      go true (made f) = one 0 (omega arith) f (subst (Older 0) (sym b.second) none)
  first_cut set (medium.two e d) = let z = slot_is in absurd (omega arith)

-- AFTER A SAVE the next one goes to the other slot, under the number after it: no slot has to be judged again
pub next_goal :
    (s t : List ℕ) (m : Medium) {m' : Medium} → length t ≤ longest → Ready s m → Saved t m m' →
    ((goal m').slot ≡ 1 - (goal m).slot) × ((goal m').number ≡ next_of (goal m).number)
next_goal s t m short (one n small h o) (medium.one e d) = let g = one_goal m n s h o in absurd (omega arith)
next_goal s t m short (one n small h o) (medium.two {b = y} e d) =
    let g = one_goal m n s h o in
    let q : Did (pieces (next_of n) t) m.second y = subst (λ (k : ℕ). Did (pieces k t) m.second y) g.1 d in
    let w = saved_slot (next_of n) t (next_below n small) short m.second y q in
    let z = two_goal record { first = m.first; second = y } (next_of n) t w (subst (Older (next_of n)) (sym h) (last n s small refl)) in
    (omega arith, z.1 ∙ ap next_of (sym g.1))
next_goal s t m short (two n small h o) (medium.one {b = y} e d) =
    let g = two_goal m n s h o in
    let q : Did (pieces (next_of n) t) m.first y = subst (λ (k : ℕ). Did (pieces k t) m.first y) g.1 d in
    let w = saved_slot (next_of n) t (next_below n small) short m.first y q in
    let z = one_goal record { first = y; second = m.second } (next_of n) t w (subst (Older (next_of n)) (sym h) (last n s small refl)) in
    (omega arith, z.1 ∙ ap next_of (sym g.1))
next_goal s t m short (two n small h o) (medium.two e d) = let g = two_goal m n s h o in absurd (omega arith)
