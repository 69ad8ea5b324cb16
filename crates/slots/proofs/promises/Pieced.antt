-- A SLOT IN PARTS, of whatever sizes, is judged as the whole. Assumes nothing.
use Rattle.octets.proofs.Kit.{ℕ, ◌+◌, ◌-◌, ◌≤◌, ◌<◌, ◌≡◌, refl, sym, ap, ap₂, ◌∙◌, List, [], ◌∷◌, ◌++◌, true, false, cond, ◌⊎◌, inl, inr, dec_lt, arith, ltb, eqb, length, take, drop, get_or}
use Rattle.octets.proofs.Kit.{length-append, length-drop, List·getD-append, take_all, take-nil, take-append-le, take-append-add, length-take-le, get_or-take, get_or-drop, get_or-append-add}
use Rattle.octets.proofs.Kit.{ext_get_or, lt-ltb, le-ltb, ne_eqb}
use Rattle.octets.{specs.Bytes.num_at, proofs.{Numbers.num_same, Truths.decided, Walks.{by_lt, by_not}}}
use Rattle.slots.specs.{Crc.{ones, crc_from, crc_of}, Slot.{longest, mark, marked, bad, covered, numbered, slot_of}, Parts.{barred, gone_on, begin_of, more_of, end_of, handed, joined}}
use Rattle.slots.specs.declared.{Slot.Slot, Judging.Judging}
use Rattle.slots.proofs.promises.Crcs.{crc_append}

append_none : (l : List ℕ) → l ++ [] ≡ l
append_none [] = refl
append_none (x ∷ l) = ap (λ (r : List ℕ). x ∷ r) (append_none l)

-- TWO PARTS ARE AS ONE
take_both : (n : ℕ) (p q : List ℕ) → take n p ++ take (n - length p) q ≡ take n (p ++ q)
take_both n p q = go (dec_lt n (length p))
  where
    go : Dec (n < length p) → take n p ++ take (n - length p) q ≡ take n (p ++ q)
    go (yes h) =
        let z : n - length p ≡ 0 = omega arith in
        ap (λ (k : ℕ). take n p ++ take k q) z ∙ sym (take-append-le n p q (omega arith) ∙ sym (append_none (take n p)))
    go (no h) =
        let z : length p + (n - length p) ≡ n = omega arith in
        ap (λ (r : List ℕ). r ++ take (n - length p) q) (take_all n p (omega arith))
        ∙ sym (take-append-add p q (n - length p))
        ∙ ap (λ (k : ℕ). take k (p ++ q)) z

more_more : (j : Judging) (p q : List ℕ) → more_of (more_of j p) q ≡ more_of j (p ++ q)
unfolding more_of
more_more j p q =
    let l : j.left - length p - length q ≡ j.left - length (p ++ q) = let e = length-append p q in omega arith in
    ap₂ (λ (n c : ℕ). gone_on j n c) l
    (sym (crc_append j.sum (take j.left p) (take (j.left - length p) q)) ∙ ap (crc_from j.sum) (take_both j.left p q))

more_none : (j : Judging) → more_of j [] ≡ j
unfolding more_of crc_from
more_none j =
    let l : j.left - 0 ≡ j.left = omega arith in
    ap₂ (λ (n c : ℕ). gone_on j n c) l (ap (crc_from j.sum) (take-nil j.left))

-- PARTS OF WHATEVER SIZES ARE AS ONE
pub parts_joined : (j : Judging) (ps : List (List ℕ)) → handed j ps ≡ more_of j (joined ps)
unfolding handed joined
parts_joined j [] = sym (more_none j)
parts_joined j (p ∷ ps) = parts_joined (more_of j p) ps ∙ more_more j p (joined ps)

-- FROM THE FRONT TO THE END
-- the head is read, its numbers being the slot's
abbrev headed_in : List ℕ → List ℕ → Judging
headed_in f b = record { refusal = 0; number = num_at b 36 4; length = num_at b 40 4; left = num_at b 40 4; stated = num_at b 32 4; sum = crc_from ones (take 28 (drop 36 f)) }

module _ (f b : List ℕ) (front : take 64 f ≡ take 64 b) (long : 64 ≤ length b) where
  front_long : 64 ≤ length f
  front_long =
      let e : length (take 64 f) ≡ length (take 64 b) = ap length front in
      let p = length-take-le 64 b long in
      go (dec_lt (length f) 64) e p
    where
      go : Dec (length f < 64) → length (take 64 f) ≡ length (take 64 b) → length (take 64 b) ≡ 64 → 64 ≤ length f
      go (yes h) e p = let q = ap length (take_all 64 f (omega arith)) in omega arith
      go (no h) e p = omega arith

  at_front : (i : ℕ) → i < 64 → get_or f i 0 ≡ get_or b i 0
  at_front i h = sym (get_or-take 64 f i 0 h) ∙ ap (λ (l : List ℕ). get_or l i 0) front ∙ get_or-take 64 b i 0 h

  number_same : (at w : ℕ) → at + w ≤ 64 → num_at f at w ≡ num_at b at w
  number_same at w h = num_same f b at at w (λ i k. at_front (at + i) (omega arith))

  marked_same : marked f ≡ marked b
  unfolding marked
  marked_same = ap (λ (k : ℕ). eqb k mark) (number_same 0 6 (omega arith))

  -- with the sheet to come, in bytes c that stand behind the front
  module _ (c rest : List ℕ) (behind : drop 64 b ≡ c ++ rest) (fit : 64 + num_at b 40 4 ≤ length b) (all : num_at b 40 4 - length c ≡ 0) where
    abbrev X : ℕ
    X = num_at b 40 4

    covered_at : (i : ℕ) → i < 28 + X → get_or (take 28 (drop 36 f) ++ take X c) i 0 ≡ get_or b (36 + i) 0
    covered_at i h = go (dec_lt i 28)
      where
        short : length (take 28 (drop 36 f)) ≡ 28
        short = let q = front_long in length-take-le 28 (drop 36 f) (let e = length-drop 36 f in omega arith)

        go : Dec (i < 28) → get_or (take 28 (drop 36 f) ++ take X c) i 0 ≡ get_or b (36 + i) 0
        go (yes k) =
            List·getD-append (take 28 (drop 36 f)) (take X c) 0 i (rw short k)
            ∙ get_or-take 28 (drop 36 f) i 0 k
            ∙ get_or-drop 36 f i 0
            ∙ at_front (36 + i) (omega arith)
        go (no k) =
            let e : i ≡ length (take 28 (drop 36 f)) + (i - 28) = omega (arith, short) in
            let g : 64 + (i - 28) ≡ 36 + i = omega arith in
            let m : i - 28 < length c = omega arith in
            ap (λ (j : ℕ). get_or (take 28 (drop 36 f) ++ take X c) j 0) e
            ∙ get_or-append-add (take 28 (drop 36 f)) (take X c) (i - 28) 0
            ∙ get_or-take X c (i - 28) 0 (omega arith)
            ∙ sym (List·getD-append c rest 0 (i - 28) m)
            ∙ ap (λ (l : List ℕ). get_or l (i - 28) 0) (sym behind)
            ∙ get_or-drop 64 b (i - 28) 0
            ∙ ap (λ (j : ℕ). get_or b j 0) g

    covered_is : take 28 (drop 36 f) ++ take X c ≡ covered b X
    covered_is =
        let p : length (take 28 (drop 36 f) ++ take X c) ≡ 28 + X =
        let q = front_long in
        let e = length-drop 36 f in
        let s₁ = length-take-le 28 (drop 36 f) (omega arith) in
        let s₂ = length-take-le X c (omega arith) in
        let s₃ = length-append (take 28 (drop 36 f)) (take X c) in
        omega arith
        in
        let l : length (covered b X) ≡ 28 + X = let e = length-drop 36 b in length-take-le (28 + X) (drop 36 b) (omega arith) in
        ext_get_or 0 (take 28 (drop 36 f) ++ take X c) (covered b X) (p ∙ sym l)
        (λ i h.
        let k : i < 28 + X = omega (arith, p) in
        covered_at i k ∙ sym (get_or-take (28 + X) (drop 36 b) i 0 k ∙ get_or-drop 36 b i 0))

    sum_is : crc_from (crc_from ones (take 28 (drop 36 f))) (take X c) ≡ crc_from ones (covered b X)
    sum_is = sym (crc_append ones (take 28 (drop 36 f)) (take X c)) ∙ ap (crc_from ones) covered_is

    headed_ends : end_of (more_of (headed_in f b) c) ≡ cond (eqb (num_at b 32 4) (crc_of (covered b X))) (numbered b X) (bad 84)
    unfolding end_of more_of crc_of
    headed_ends = rw (all, sum_is)

-- a slot that is refused at its front is refused at the end
barred_ends : (r : ℕ) (c : List ℕ) → (r ≡ 0 → ⊥) → end_of (more_of (barred r) c) ≡ bad r
unfolding end_of more_of
barred_ends r c h = rw (ne_eqb r 0 h)

-- THE FRONT OF A SLOT AND BYTES BEHIND IT, the whole sheet among them, are judged as the slot is
module _ (f b c rest : List ℕ) (front : take 64 f ≡ take 64 b) (behind : drop 64 b ≡ c ++ rest) where
  abbrev Same : Judging → Slot → Type 0
  Same j r = (more_of j c).left ≡ 0 → end_of (more_of j c) ≡ r

  module _ (h : 64 ≤ length b) where
    abbrev Long : ℕ
    Long = num_at b 40 4

    by_sum : 64 + Long ≤ length b → Same (headed_in f b) (cond (eqb (num_at b 32 4) (crc_of (covered b Long))) (numbered b Long) (bad 84))
    unfolding more_of
    by_sum k e = headed_ends f b front h c rest behind k e

    by_room : Dec (length b < 64 + Long) →
        Same (cond (ltb (length b) (64 + Long)) (barred 82) (headed_in f b))
        (cond (ltb (length b) (64 + Long)) (bad 82) (cond (eqb (num_at b 32 4) (crc_of (covered b Long))) (numbered b Long) (bad 84)))
    by_room (yes k) = rw (lt-ltb (length b) (64 + Long) k) (λ e. barred_ends 82 c (λ z. omega arith))
    by_room (no k) = let q : 64 + Long ≤ length b = omega arith in rw (le-ltb (length b) (64 + Long) q) (by_sum q)

    by_long : Dec (longest < Long) →
        Same (cond (ltb longest Long) (barred 82) (cond (ltb (length b) (64 + Long)) (barred 82) (headed_in f b)))
        (cond (ltb longest Long) (bad 82)
        (cond (ltb (length b) (64 + Long)) (bad 82) (cond (eqb (num_at b 32 4) (crc_of (covered b Long))) (numbered b Long) (bad 84))))
    by_long (yes k) = rw (lt-ltb longest Long k) (λ e. barred_ends 82 c (λ z. omega arith))
    by_long (no k) = let q : Long ≤ longest = omega arith in rw (le-ltb longest Long q) (by_room (dec_lt (length b) (64 + Long)))

    by_mark : (marked b ≡ true) ⊎ (marked b ≡ false) → Same (begin_of f (length b)) (slot_of b)
    unfolding begin_of slot_of
    by_mark (inl m) =
        let same = number_same f b front h in
        rw (le-ltb (length b) 64 h, le-ltb (length f) 64 (front_long f b front h), marked_same f b front h, m, same 40 4 (omega arith), same 36 4 (omega arith), same 32 4 (omega arith))
        (by_long (dec_lt longest Long))
    by_mark (inr m) =
        rw (le-ltb (length b) 64 h, le-ltb (length f) 64 (front_long f b front h), marked_same f b front h, m) (λ e. barred_ends 81 c (λ z. omega arith))

  judged_once : Dec (length b < 64) → Same (begin_of f (length b)) (slot_of b)
  unfolding begin_of slot_of
  judged_once (yes h) = rw (lt-ltb (length b) 64 h) (λ e. barred_ends 80 c (λ z. omega arith))
  judged_once (no h) = by_mark (omega arith) (decided (marked b))

-- PARTS-JUDGE: the front of a slot and the bytes behind it, in parts of whatever sizes, at least up to the end of the sheet: what stands in it is what stands in the whole
pub parts_judge :
    (b f : List ℕ) (ps : List (List ℕ)) (rest : List ℕ) → take 64 f ≡ take 64 b → drop 64 b ≡ joined ps ++ rest → (handed (begin_of f (length b)) ps).left ≡ 0 →
    end_of (handed (begin_of f (length b)) ps) ≡ slot_of b
parts_judge b f ps rest front behind e =
    let p = parts_joined (begin_of f (length b)) ps in
    ap end_of p ∙ judged_once f b (joined ps) rest front behind (dec_lt (length b) 64) (ap (λ (j : Judging). j.left) (sym p) ∙ e)

-- handed over to the end of the slot nothing is left
begin_left : (f b : List ℕ) → (begin_of f (length b)).left ≤ length b - 64
unfolding begin_of
begin_left f b =
    by_lt P (length b) 64 _ _ (λ h. omega arith)
    (λ h.
    by_lt P (length f) 64 _ _ (λ h. omega arith)
    (λ k.
    by_not P (marked f) _ _ (λ h. omega arith)
    (λ m. by_lt P longest (num_at f 40 4) _ _ (λ h. omega arith) (λ l. by_lt P (length b) (64 + num_at f 40 4) _ _ (λ h. omega arith) (λ n. omega arith)))))
  where
    P : Judging → Type 0
    P j = j.left ≤ length b - 64

-- ALL OF IT
pub whole_judge : (b f : List ℕ) (ps : List (List ℕ)) → take 64 f ≡ take 64 b → drop 64 b ≡ joined ps → end_of (handed (begin_of f (length b)) ps) ≡ slot_of b
unfolding more_of
whole_judge b f ps front behind =
    let l = begin_left f b in
    let d = length-drop 64 b in
    let e : length (drop 64 b) ≡ length (joined ps) = ap length behind in
    let z : (begin_of f (length b)).left - length (joined ps) ≡ 0 = omega arith in
    parts_judge b f ps [] front (behind ∙ sym (append_none (joined ps))) (ap (λ (j : Judging). j.left) (parts_joined (begin_of f (length b)) ps) ∙ z)

-- what `judge` returns
pub judged_short : (b : List ℕ) (j : Judging) (r : Slot) → length b < 64 → j ≡ begin_of b (length b) → r ≡ end_of j → r ≡ slot_of b
unfolding begin_of slot_of end_of
judged_short b j r h e d =
    let t = lt-ltb (length b) 64 h in
    let f : begin_of b (length b) ≡ barred 80 = rw t in
    let g : slot_of b ≡ bad 80 = rw t in
    d ∙ ap end_of (e ∙ f) ∙ sym g

pub judged_whole :
    (b : List ℕ) (j k : Judging) (r : Slot) → 64 ≤ length b → j ≡ begin_of b (length b) → k ≡ more_of j (take (length b - 64) (drop 64 b)) → r ≡ end_of k → r ≡ slot_of b
unfolding handed joined
judged_whole b j k r h e f d =
    let l = length-drop 64 b in
    let q : take (length b - 64) (drop 64 b) ≡ drop 64 b = take_all (length b - 64) (drop 64 b) (omega arith) in
    d
    ∙ ap end_of (f ∙ ap₂ more_of e q)
    ∙ whole_judge b b (drop 64 b ∷ []) refl (sym (append_none (drop 64 b)))
