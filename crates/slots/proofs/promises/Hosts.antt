-- THE LOOP OF A HOST IS A SAVE, and on a medium of bytes a loop that was cut is a save that was cut; and a save can be made, and cut. Assumes nothing.
use Rattle.octets.proofs.Kit.{ℕ, ◌+◌, ◌≤◌, ◌<◌, ◌≡◌, refl, sym, ap, ◌∙◌, subst, List, [], ◌∷◌, true, false, ◌⊎◌, inl, inr, arith, eqb, length, take, drop, replicate, length-replicate}
use Rattle.octets.proofs.Kit.{take_at, eq-eqb}
use Rattle.octets.{specs.{Bytes.num_at, Splice.splice}, proofs.{Splices.{splice_front, length_splice}, Walks.by_lt}}
use Rattle.slots.specs.{Slot.{longest, mark, marked, head_at, sheet_at, mark_unit, blank_unit, head_of}, Saving.{writes, piece_of, work_of, unit_of, WorksAs}}
use Rattle.slots.specs.Medium.{held, Piece, clear, put, pieces, Done, cleared, written, Torn, clearing, Did, end, next, Cut, before, within, last, over as finished, later}
use Rattle.slots.specs.{Host.{Carried, wrote, erased, spared, copied, Loops, over, turn, wiped, Partly, Halts, between, inside, after, Cuts, cuts}, declared.Work.Work}
use Rattle.slots.proofs.{Cuts.head_length, Bytewise.{partly_put, partly_unmark, partly_erase, partly_same, fill_bare}}

-- a piece of work is refused, or there is room for it and it is the piece
record Due (k buffer room long : ℕ) (w : Work) : Type 0 where
  buffered : 32 ≤ buffer
  short : long ≤ longest
  fit : 64 + long ≤ room
  is : w ≡ piece_of k room long

-- a refusal is no work and says why
record Refused (w : Work) : Type 0 where
  idle : w.work ≡ 0
  why : 0 < w.refusal

work_cases : (k buffer room long : ℕ) → (Refused (work_of k buffer room long)) ⊎ Due k buffer room long (work_of k buffer room long)
unfolding work_of
work_cases k buffer room long =
    let P : Work → Type 0 = λ z. (Refused z) ⊎ Due k buffer room long z in
    by_lt P buffer 32 _ _ (λ a. inl record { idle = refl; why = omega arith })
    (λ a.
    by_lt P longest long _ _ (λ b. inl record { idle = refl; why = omega arith })
    (λ b. by_lt P room (64 + long) _ _ (λ c. inl record { idle = refl; why = omega arith }) (λ c. inr record { buffered = a; short = b; fit = c; is = refl })))

blank_bare : (b : List ℕ) → marked (splice b 0 blank_unit) ≡ false
unfolding marked num_at
blank_bare b = ap (λ (l : List ℕ). eqb (num_at l 0 6) mark) (splice_front b blank_unit)

unit_read : (o u : List ℕ) → length u ≡ 32 → take 32 (splice o 0 u) ≡ u
unit_read o u e = ap (take 32) (splice_front o u) ∙ take_at u (drop (length u) o) 32 e

module _ (n : ℕ) (t : List ℕ) where
  -- what a call that was not refused has given
  module _ (k : ℕ) (b o o' : List ℕ) (w : Work) (c : WorksAs k n t (length b) o w o') where
    kind_of_lem : (q : ℕ) → w.work ≡ q → (work_of k (length o) (length b) (length t)).work ≡ q
    kind_of_lem q e = sym (ap (λ (z : Work). z.work) c.work) ∙ e

    unless : (Refused w → ⊥) → Due k (length o) (length b) (length t) w
    unless f = go (work_cases k (length o) (length b) (length t))
      where
        go : (Refused (work_of k (length o) (length b) (length t))) ⊎ Due k (length o) (length b) (length t) (work_of k (length o) (length b) (length t)) → Due k (length o) (length b) (length t) w
        go (inl r) = absurd (f (subst Refused (sym c.work) r))
        go (inr d) = subst (Due k (length o) (length b) (length t)) (sym c.work) d

    due : (w.work ≡ 0 → ⊥) → Due k (length o) (length b) (length t) w
    due f = unless (λ r. f r.idle)

    bytes_are : w.work ≡ 1 → length (unit_of k n t) ≡ 32 → take 32 o' ≡ unit_of k n t
    bytes_are e l =
        let g : o' ≡ splice o 0 (unit_of k n t) = c.bytes ∙ rw (eq-eqb (work_of k (length o) (length b) (length t)).work 1 (kind_of_lem 1 e)) in
        ap (take 32) g ∙ unit_read o (unit_of k n t) l

    -- written from a place on
    wrote_is : (at : ℕ) {x : List ℕ} → w ≡ writes at → length (unit_of k n t) ≡ 32 → x ≡ splice b w.at (take w.count o') → x ≡ splice b at (unit_of k n t)
    wrote_is at e l f =
        f
        ∙ ap (λ (z : Work). splice b z.at (take z.count o')) e
        ∙ ap (splice b at) (bytes_are (ap (λ (z : Work). z.work) e) l)

    -- of another kind than the piece has
    other : (q : ℕ) → w.work ≡ q → (q ≡ 0 → ⊥) → ((piece_of k (length b) (length t)).work ≡ q → ⊥) → ⊥
    other q e f g = g (sym (ap (λ (z : Work). z.work) (due (λ z. f (sym e ∙ z))).is) ∙ e)

    -- over, with a piece left
    early : w.refusal ≡ 0 → w.work ≡ 0 → ((piece_of k (length b) (length t)).work ≡ 0 → ⊥) → ⊥
    early h e g =
        let d = unless (λ r. let z = r.why in omega arith) in
        g (sym (ap (λ (z : Work). z.work) d.is) ∙ e)

  -- PIECE BY PIECE
  module _ (b x o o' : List ℕ) (w : Work) where
    unmark_is : WorksAs 0 n t (length b) o w o' → Carried w o' t b x → (x ≡ splice b 0 blank_unit) × (0 + length blank_unit ≤ length b)
    unfolding piece_of unit_of
    unmark_is c (wrote e f) =
        let d = due 0 b o o' w c (λ z. omega arith) in
        let q = d.fit in
        (wrote_is 0 b o o' w c 0 d.is refl f, omega arith)
    unmark_is c (erased v e is f) = absurd (other 0 b o o' w c 2 e (λ z. omega arith) (λ z. omega arith))
    unmark_is c (spared e f) = absurd (other 0 b o o' w c 2 e (λ z. omega arith) (λ z. omega arith))
    unmark_is c (copied e f) = absurd (other 0 b o o' w c 3 e (λ z. omega arith) (λ z. omega arith))

    unmarked : WorksAs 0 n t (length b) o w o' → Carried w o' t b x → marked x ≡ false
    unmarked c k = ap marked (unmark_is c k).0 ∙ blank_bare b

    unmarks : WorksAs 0 n t (length b) o w o' → Carried w o' t b x → Done clear b x
    unmarks c k = let u = unmark_is c k in cleared (ap length u.0 ∙ length_splice b 0 blank_unit u.1) (unmarked c k)

    clears : marked b ≡ false → WorksAs 1 n t (length b) o w o' → Carried w o' t b x → Done clear b x
    unfolding piece_of
    clears m c (wrote e f) = absurd (other 1 b o o' w c 1 e (λ z. omega arith) (λ z. omega arith))
    clears m c (erased v e is f) =
        let d = due 1 b o o' w c (λ z. omega arith) in
        let r : 6 ≤ length b = let q = d.fit in omega arith in
        cleared (ap length f ∙ length-replicate (length b) v) (ap marked f ∙ fill_bare (length b) v r is)
    clears m c (spared e f) = cleared (ap length f) (ap marked f ∙ m)
    clears m c (copied e f) = absurd (other 1 b o o' w c 3 e (λ z. omega arith) (λ z. omega arith))

    heads : WorksAs 2 n t (length b) o w o' → Carried w o' t b x → Done (put head_at (head_of n t)) b x
    unfolding piece_of unit_of
    heads c (wrote e f) =
        let d = due 2 b o o' w c (λ z. omega arith) in
        let q = d.fit in
        let r : 32 + length (head_of n t) ≤ length b = omega (arith, head_length n t) in
        written r (wrote_is 2 b o o' w c 32 d.is (head_length n t) f)
    heads c (erased v e is f) = absurd (other 2 b o o' w c 2 e (λ z. omega arith) (λ z. omega arith))
    heads c (spared e f) = absurd (other 2 b o o' w c 2 e (λ z. omega arith) (λ z. omega arith))
    heads c (copied e f) = absurd (other 2 b o o' w c 3 e (λ z. omega arith) (λ z. omega arith))

    sheets : WorksAs 3 n t (length b) o w o' → Carried w o' t b x → Done (put sheet_at t) b x
    unfolding piece_of
    sheets c (wrote e f) = absurd (other 3 b o o' w c 1 e (λ z. omega arith) (λ z. omega arith))
    sheets c (erased v e is f) = absurd (other 3 b o o' w c 2 e (λ z. omega arith) (λ z. omega arith))
    sheets c (spared e f) = absurd (other 3 b o o' w c 2 e (λ z. omega arith) (λ z. omega arith))
    sheets c (copied e f) =
        let d = due 3 b o o' w c (λ z. omega arith) in written d.fit (f ∙ ap (λ (z : Work). splice b z.at t) d.is)

    marks : WorksAs 4 n t (length b) o w o' → Carried w o' t b x → Done (put 0 mark_unit) b x
    unfolding piece_of unit_of
    marks c (wrote e f) =
        let d = due 4 b o o' w c (λ z. omega arith) in
        let q = d.fit in
        let r : 0 + length mark_unit ≤ length b = omega arith in
        written r (wrote_is 4 b o o' w c 0 d.is refl f)
    marks c (erased v e is f) = absurd (other 4 b o o' w c 2 e (λ z. omega arith) (λ z. omega arith))
    marks c (spared e f) = absurd (other 4 b o o' w c 2 e (λ z. omega arith) (λ z. omega arith))
    marks c (copied e f) = absurd (other 4 b o o' w c 3 e (λ z. omega arith) (λ z. omega arith))

  no_work : (b x o o' : List ℕ) (w : Work) → WorksAs 5 n t (length b) o w o' → Carried w o' t b x → ⊥
  unfolding piece_of
  no_work b x o o' w c (wrote e f) = other 5 b o o' w c 1 e (λ z. omega arith) (λ z. omega arith)
  no_work b x o o' w c (erased v e is f) = other 5 b o o' w c 2 e (λ z. omega arith) (λ z. omega arith)
  no_work b x o o' w c (spared e f) = other 5 b o o' w c 2 e (λ z. omega arith) (λ z. omega arith)
  no_work b x o o' w c (copied e f) = other 5 b o o' w c 3 e (λ z. omega arith) (λ z. omega arith)

  -- THE LOOP
  at_end : (b b' : List ℕ) → Loops n t 5 b b' → Did [] b b'
  at_end b b' (over c h e) = end
  at_end b b' (turn {x = x} {o = o} {o' = o'} {w = w} c k l) = absurd (no_work b x o o' w c k)

  at_mark : (b b' : List ℕ) → Loops n t 4 b b' → Did (put 0 mark_unit ∷ []) b b'
  unfolding piece_of
  at_mark b b' (over {o = o} {o' = o'} {w = w} c h e) = absurd (early 4 b o o' w c h e (λ z. omega arith))
  at_mark b b' (turn {x = x} {o = o} {o' = o'} {w = w} c k l) = next (marks b x o o' w c k) (at_end x b' l)

  at_sheet : (b b' : List ℕ) → Loops n t 3 b b' → Did (put sheet_at t ∷ put 0 mark_unit ∷ []) b b'
  unfolding piece_of
  at_sheet b b' (over {o = o} {o' = o'} {w = w} c h e) = absurd (early 3 b o o' w c h e (λ z. omega arith))
  at_sheet b b' (turn {x = x} {o = o} {o' = o'} {w = w} c k l) = next (sheets b x o o' w c k) (at_mark x b' l)

  at_head : (b b' : List ℕ) → Loops n t 2 b b' → Did (put head_at (head_of n t) ∷ put sheet_at t ∷ put 0 mark_unit ∷ []) b b'
  unfolding piece_of
  at_head b b' (over {o = o} {o' = o'} {w = w} c h e) = absurd (early 2 b o o' w c h e (λ z. omega arith))
  at_head b b' (turn {x = x} {o = o} {o' = o'} {w = w} c k l) = next (heads b x o o' w c k) (at_sheet x b' l)

  at_erase : (b b' : List ℕ) → marked b ≡ false → Loops n t 1 b b' → Did (clear ∷ put head_at (head_of n t) ∷ put sheet_at t ∷ put 0 mark_unit ∷ []) b b'
  unfolding piece_of
  at_erase b b' m (over {o = o} {o' = o'} {w = w} c h e) = absurd (early 1 b o o' w c h e (λ z. omega arith))
  at_erase b b' m (turn {x = x} {o = o} {o' = o'} {w = w} c k l) = next (clears b x o o' w m c k) (at_head x b' l)

  -- THE LOOP OF A HOST IS A SAVE
  pub loop_saves : (b b' : List ℕ) → Loops n t 0 b b' → Did (pieces n t) b b'
  unfolding piece_of
  loop_saves b b' (over {o = o} {o' = o'} {w = w} c h e) = absurd (early 0 b o o' w c h e (λ z. omega arith))
  loop_saves b b' (turn {x = x} {o = o} {o' = o'} {w = w} c k l) =
      next (unmarks b x o o' w c k) (at_erase x b' (unmarked b x o o' w c k) l)
  loop_saves b b' (wiped {o = o} {o' = o'} {w = w} v c e is l) =
      let d = due 0 b o o' w c (λ z. omega arith) in
      let r : 6 ≤ length b = let q = d.fit in omega arith in
      let m = fill_bare (length b) v r is in
      next (cleared (length-replicate (length b) v) m) (at_erase (replicate (length b) v) b' m l)

  -- PIECES TORN, on a medium of bytes
  torn_put : (at : ℕ) (ds b x b' : List ℕ) → Done (put at ds) b x → Partly b x b' → Torn (put at ds) b b'
  torn_put at ds b x b' (written r e) p = partly_put at ds b b' r (subst (λ (z : List ℕ). Partly b z b') e p)

  torn_unmark : (b x b' o o' : List ℕ) (w : Work) → WorksAs 0 n t (length b) o w o' → Carried w o' t b x → Partly b x b' → Torn clear b b'
  torn_unmark b x b' o o' w c k p =
      let u = unmark_is b x o o' w c k in partly_unmark b b' u.1 (subst (λ (z : List ℕ). Partly b z b') u.0 p)

  torn_erase :
      (b x b' o o' : List ℕ) (w : Work) → marked b ≡ false → WorksAs 1 n t (length b) o w o' → Carried w o' t b x → Partly b x b' →
      Torn clear b b'
  unfolding piece_of
  torn_erase b x b' o o' w m c (wrote e f) p = absurd (other 1 b o o' w c 1 e (λ z. omega arith) (λ z. omega arith))
  torn_erase b x b' o o' w m c (erased v e is f) p =
      let d = due 1 b o o' w c (λ z. omega arith) in
      let r : 6 ≤ length b = let q = d.fit in omega arith in
      partly_erase b b' v is r m (subst (λ (z : List ℕ). Partly b z b') f p)
  torn_erase b x b' o o' w m c (spared e f) p =
      let q : b' ≡ b = partly_same b b' (subst (λ (z : List ℕ). Partly b z b') f p) in clearing p.long (inr (ap held q))
  torn_erase b x b' o o' w m c (copied e f) p = absurd (other 1 b o o' w c 3 e (λ z. omega arith) (λ z. omega arith))

  -- THE LOOP WITH THE POWER LOST
  one_more_lem : {p : Piece} {ps : List Piece} {b x b' : List ℕ} → Done p b x → Cuts ps x b' → Cuts (p ∷ ps) b b'
  one_more_lem d (cuts set k) = cuts set (later d k)

  halt_end : (b b' : List ℕ) → Halts n t 5 b b' → Cuts [] b b'
  halt_end b b' between = cuts true finished
  halt_end b b' (inside {x = x} {o = o} {o' = o'} {w = w} c k p) = absurd (no_work b x o o' w c k)
  halt_end b b' (after {x = x} {o = o} {o' = o'} {w = w} c k l) = absurd (no_work b x o o' w c k)

  halt_mark : (b b' : List ℕ) → Halts n t 4 b b' → Cuts (put 0 mark_unit ∷ []) b b'
  halt_mark b b' between = cuts false before
  halt_mark b b' (inside {x = x} {o = o} {o' = o'} {w = w} c k p) = cuts (marked b') (last (torn_put 0 mark_unit b x b' (marks b x o o' w c k) p))
  halt_mark b b' (after {x = x} {o = o} {o' = o'} {w = w} c k l) = one_more_lem (marks b x o o' w c k) (halt_end x b' l)

  halt_sheet : (b b' : List ℕ) → Halts n t 3 b b' → Cuts (put sheet_at t ∷ put 0 mark_unit ∷ []) b b'
  halt_sheet b b' between = cuts false before
  halt_sheet b b' (inside {x = x} {o = o} {o' = o'} {w = w} c k p) = cuts false (within (torn_put sheet_at t b x b' (sheets b x o o' w c k) p))
  halt_sheet b b' (after {x = x} {o = o} {o' = o'} {w = w} c k l) = one_more_lem (sheets b x o o' w c k) (halt_mark x b' l)

  halt_head : (b b' : List ℕ) → Halts n t 2 b b' → Cuts (put head_at (head_of n t) ∷ put sheet_at t ∷ put 0 mark_unit ∷ []) b b'
  halt_head b b' between = cuts false before
  halt_head b b' (inside {x = x} {o = o} {o' = o'} {w = w} c k p) = cuts false (within (torn_put head_at (head_of n t) b x b' (heads b x o o' w c k) p))
  halt_head b b' (after {x = x} {o = o} {o' = o'} {w = w} c k l) = one_more_lem (heads b x o o' w c k) (halt_sheet x b' l)

  halt_erase :
      (b b' : List ℕ) → marked b ≡ false → Halts n t 1 b b' →
      Cuts (clear ∷ put head_at (head_of n t) ∷ put sheet_at t ∷ put 0 mark_unit ∷ []) b b'
  halt_erase b b' m between = cuts false before
  halt_erase b b' m (inside {x = x} {o = o} {o' = o'} {w = w} c k p) = cuts false (within (torn_erase b x b' o o' w m c k p))
  halt_erase b b' m (after {x = x} {o = o} {o' = o'} {w = w} c k l) = one_more_lem (clears b x o o' w m c k) (halt_head x b' l)

  -- ON A MEDIUM OF BYTES A LOOP THAT WAS CUT IS A SAVE THAT WAS CUT, with nothing assumed of the medium or asked of a check sum
  pub halt_cuts : (b b' : List ℕ) → Halts n t 0 b b' → Cuts (pieces n t) b b'
  halt_cuts b b' between = cuts false before
  halt_cuts b b' (inside {x = x} {o = o} {o' = o'} {w = w} c k p) = cuts false (within (torn_unmark b x b' o o' w c k p))
  halt_cuts b b' (after {x = x} {o = o} {o' = o'} {w = w} c k l) =
      one_more_lem (unmarks b x o o' w c k) (halt_erase x b' (unmarked b x o o' w c k) l)

  -- A SAVE CAN BE MADE wherever there is room: what stands in the slot then
  pub can_save :
      (b : List ℕ) → 64 + length t ≤ length b → Did (pieces n t) b (splice (splice (splice (splice b 0 blank_unit) head_at (head_of n t)) sheet_at t) 0 mark_unit)
  can_save b r =
      let b₁ : List ℕ = splice b 0 blank_unit in
      let b₂ : List ℕ = splice b₁ head_at (head_of n t) in
      let b₃ : List ℕ = splice b₂ sheet_at t in
      let r₁ : 0 + length blank_unit ≤ length b = omega arith in
      let l₁ : length b₁ ≡ length b = length_splice b 0 blank_unit r₁ in
      let r₂ : head_at + length (head_of n t) ≤ length b₁ = omega (arith, head_length n t) in
      let l₂ : length b₂ ≡ length b₁ = length_splice b₁ head_at (head_of n t) r₂ in
      let r₃ : sheet_at + length t ≤ length b₂ = omega arith in
      let l₃ : length b₃ ≡ length b₂ = length_splice b₂ sheet_at t r₃ in
      let r₄ : 0 + length mark_unit ≤ length b₃ = omega arith in
      next (cleared l₁ (blank_bare b)) (next (cleared refl (blank_bare b)) (next (written r₂ refl) (next (written r₃ refl) (next (written r₄ refl) end))))

-- AND BE CUT AFTER ITS LAST PIECE, the mark being set; that it can be before its first is `before`
pub cut_after : {ps : List Piece} {b b' : List ℕ} → Did ps b b' → Cut true ps b b'
cut_after end = finished
cut_after (next d k) = later d (cut_after k)
