-- A SAVE OF ONE SLOT, done or cut. Assumes nothing.
use Rattle.octets.proofs.Kit.{ℕ, ◌+◌, ◌≤◌, ◌<◌, ◌≡◌, refl, sym, ap, ◌∙◌, subst, List, [], ◌∷◌, Bool, true, false, cond, ◌⊎◌, inl, inr, arith, eqb, length, get_or}
use Rattle.octets.{specs.{Bytes.{num_at, bytes_of}, Splice.splice}, proofs.{Numbers.num_same, Splices.{length_splice, splice_in, splice_outside, splice_front}, Truths.decided}}
use Rattle.slots.specs.Slot.{longest, mark, marked, mark_unit, tail_of, head_of}
use Rattle.slots.specs.Medium.{nothing, sheet, held, clear, put, pieces, cleared, written, clearing, writing, Did, end, next, Cut, before, within, last, over, later}
use Rattle.slots.proofs.promises.Backs.{Whole, slot_back, bare}

-- the mark is the first six bytes
marked_same : (b b' : List ℕ) → ((i : ℕ) → i < 6 → get_or b' i 0 ≡ get_or b i 0) → marked b' ≡ marked b
unfolding marked
marked_same b b' h =
    ap (λ (k : ℕ). eqb k mark)
    (num_same b' b 0 0 6
    (λ i k. let e : 0 + i ≡ i = omega arith in ap (λ (j : ℕ). get_or b' j 0) e ∙ h i k ∙ ap (λ (j : ℕ). get_or b j 0) (sym e)))

unit_marks : (b : List ℕ) → marked (splice b 0 mark_unit) ≡ true
unfolding marked num_at
unit_marks b = ap (λ (l : List ℕ). eqb (num_at l 0 6) mark) (splice_front b mark_unit)

pub head_length : (n : ℕ) (t : List ℕ) → length (head_of n t) ≡ 32
unfolding head_of tail_of bytes_of
head_length n t = refl

-- outside a run
abbrev Outside : ℕ → List ℕ → List ℕ → List ℕ → Type 0
Outside at ds b b' = (i : ℕ) → (i < at) ⊎ (at + length ds ≤ i) → get_or b' i 0 ≡ get_or b i 0

still_bare : (at : ℕ) (ds b b' : List ℕ) → 6 ≤ at → Outside at ds b b' → marked b ≡ false → marked b' ≡ false
still_bare at ds b b' h f m = marked_same b b' (λ i k. f i (inl (omega arith))) ∙ m

-- what a slot that held x holds after a save of t that was cut
pub data Holds (n : ℕ) (t x y : List ℕ) : Bool → Type 0 where
  kept : held y ≡ held x → Holds n t x y false
  made : {set : Bool} → held y ≡ cond set (sheet n t) nothing → Holds n t x y set

module _ (n : ℕ) (t : List ℕ) (small : n < 4294967296) (short : length t ≤ longest) where
  -- the head stands
  abbrev Headed : List ℕ → Type 0
  Headed b = (i : ℕ) → i < 32 → get_or b (32 + i) 0 ≡ get_or (head_of n t) i 0

  -- outside the mark's unit nothing changes
  whole_stays : (b b' : List ℕ) → length b' ≡ length b → Outside 0 mark_unit b b' → Whole n t b → Whole n t b'
  whole_stays b b' l f w =
      record {
        room = let r = w.room in omega arith;
        head = λ i h. f (32 + i) (inr (omega arith)) ∙ w.head i h;
        sheet = λ i h. f (64 + i) (inr (omega arith)) ∙ w.sheet i h;
      }

  -- what a slot holds after the mark has gone
  abbrev NewOrNone : Bool → List ℕ → Type 0
  NewOrNone set y = held y ≡ cond set (sheet n t) nothing

  -- the mark is set
  marks : (x y : List ℕ) → Whole n t x → 0 + length mark_unit ≤ length x → y ≡ splice x 0 mark_unit → held y ≡ sheet n t
  marks x y w r e =
      let o = whole_stays x (splice x 0 mark_unit) (length_splice x 0 mark_unit r) (splice_outside x 0 mark_unit r) w in
      ap held e ∙ slot_back n t (splice x 0 mark_unit) small short o (unit_marks x)

  -- the sheet is written, after the head; and the head
  copies : (x y : List ℕ) → Headed x → 64 + length t ≤ length x → y ≡ splice x 64 t → Whole n t y
  copies x y h r e =
      subst (Whole n t) (sym e)
      record {
        room = rw (length_splice x 64 t r) r;
        head = λ i k. splice_outside x 64 t r (32 + i) (inl (omega arith)) ∙ h i k;
        sheet = λ i k. splice_in x 64 t r i k;
      }

  heads : (x y : List ℕ) → 32 + length (head_of n t) ≤ length x → y ≡ splice x 32 (head_of n t) → Headed y
  heads x y r e i k =
      ap (λ (l : List ℕ). get_or l (32 + i) 0) e ∙ splice_in x 32 (head_of n t) r i (rw (head_length n t) k)

  -- a write above the mark
  above : (at : ℕ) (ds x y : List ℕ) → 6 ≤ at → marked x ≡ false → at + length ds ≤ length x → y ≡ splice x at ds → marked y ≡ false
  above at ds x y h m r e = ap marked e ∙ still_bare at ds x (splice x at ds) h (splice_outside x at ds r) m

  -- FROM THE LAST PIECE TO THE FIRST
  cut_mark : (set : Bool) (x y : List ℕ) → marked x ≡ false → Whole n t x → Cut set (put 0 mark_unit ∷ []) x y → NewOrNone set y
  cut_mark set x y m w before = bare x m
  cut_mark set x y m w (last (writing l f)) = go (decided (marked y))
    where
      go : (marked y ≡ true) ⊎ (marked y ≡ false) → held y ≡ cond (marked y) (sheet n t) nothing
      go (inl e) = slot_back n t y small short (whole_stays x y l f w) e ∙ sym (rw e)
      go (inr e) = bare y e ∙ sym (rw e)
  cut_mark set x y m w (later (written r e) over) = marks x y w r e

  cut_sheet : (set : Bool) (x y : List ℕ) → marked x ≡ false → Headed x → Cut set (put 64 t ∷ put 0 mark_unit ∷ []) x y → NewOrNone set y
  cut_sheet set x y m h before = bare x m
  cut_sheet set x y m h (within (writing l f)) = bare y (still_bare 64 t x y (omega arith) f m)
  cut_sheet set x y m h (later {x = z} (written r e) k) =
      cut_mark set z y (above 64 t x z (omega arith) m r e) (copies x z h r e) k

  cut_head : (set : Bool) (x y : List ℕ) → marked x ≡ false → Cut set (put 32 (head_of n t) ∷ put 64 t ∷ put 0 mark_unit ∷ []) x y → NewOrNone set y
  cut_head set x y m before = bare x m
  cut_head set x y m (within (writing l f)) = bare y (still_bare 32 (head_of n t) x y (omega arith) f m)
  cut_head set x y m (later {x = z} (written r e) k) =
      cut_sheet set z y (above 32 (head_of n t) x z (omega arith) m r e) (heads x z r e) k

  cut_erase : (set : Bool) (x y : List ℕ) → marked x ≡ false → Cut set (clear ∷ put 32 (head_of n t) ∷ put 64 t ∷ put 0 mark_unit ∷ []) x y → NewOrNone set y
  cut_erase set x y m before = bare x m
  cut_erase set x y m (within (clearing l (inl h))) = h
  cut_erase set x y m (within (clearing l (inr h))) = h ∙ bare x m
  cut_erase set x y m (later {x = z} (cleared l e) k) = cut_head set z y e k

  -- A SAVE THAT WAS CUT: the slot holds the new sheet exactly if the mark was set; else what it held, or nothing
  pub cut_slot : (set : Bool) (x y : List ℕ) → Cut set (pieces n t) x y → Holds n t x y set
  cut_slot set x y before = kept refl
  cut_slot set x y (within (clearing l (inl h))) = made h
  cut_slot set x y (within (clearing l (inr h))) = kept h
  cut_slot set x y (later {x = z} (cleared l e) k) = made (cut_erase set z y e k)

  -- A SAVE THAT WAS NOT: the slot holds the new sheet
  pub saved_slot : (x y : List ℕ) → Did (pieces n t) x y → held y ≡ sheet n t
  saved_slot x y (next (cleared l e) (next {x = a} (cleared k d) (next {x = b} (written r f) (next {x = z} (written q g) (next (written p h) end))))) =
      marks z y (copies b z (heads a b r f) q g) p h
