-- What a call of `cemi::write` leaves in the buffer. Assumes nothing.
use Rattle.std.specs.Prelude.{Result, Ok, Err}
use Rattle.octets.proofs.Kit.{ℕ, ◌-◌, ◌≤◌, ◌≡◌, refl, sym, ap, ◌∙◌, Bool, true, false, cond, ◌⊎◌, inl, inr, List, ◌++◌, arith, length, take, drop, take_at, ltb, le-ltb}
use Rattle.octets.proofs.Splices.{splice_front}
use Rattle.cemi.specs.{Layout.{table, Fit}, Read.read_frame, Write.{numbers_of, encoded, frame_of, count_of, writable, write_of, write_outcome, write_count, buffer_of, Wrote}}
use Rattle.cemi.specs.declared.{Fields.Fields, WriteRefusal.WriteRefusal}
use Rattle.cemi.specs.declared.WriteRefusal.TheVariants as why
use Rattle.cemi.proofs.{Wrote.bounds, promises.Backs.{length_encoded, read_back}}

-- the ways that a writing can go
pub data Went (f : Fields) (l k room : ℕ) : Result ℕ WriteRefusal → Type 0 where
  wrong : writable f l k ≡ false → Went f l k room (Err why.Fields)
  narrow : writable f l k ≡ true → ltb room (count_of l k) ≡ true → Went f l k room (Err why.Room)
  done : writable f l k ≡ true → ltb room (count_of l k) ≡ false → Went f l k room (Ok (count_of l k))

pub went : (f : Fields) (l k room : ℕ) → Went f l k room (write_of f l k room)
unfolding write_of
went f l k room = go (writable f l k) (ltb room (count_of l k)) refl refl
  where
    go : (t u : Bool) → writable f l k ≡ t → ltb room (count_of l k) ≡ u → Went f l k room (cond t (cond u (Err why.Room) (Ok (count_of l k))) (Err why.Fields))
    go true true e d = narrow e d
    go true false e d = done e d
    go false u e d = wrong e

-- 0, 46 OR 47
pub writes_one : (f : Fields) (l k room : ℕ) → (write_outcome (write_of f l k room) ≡ 0) ⊎ (write_outcome (write_of f l k room) ≡ 46) ⊎ (write_outcome (write_of f l k room) ≡ 47)
writes_one f l k room = go (write_of f l k room) (went f l k room)
  where
    go : (w : Result ℕ WriteRefusal) → Went f l k room w → (write_outcome w ≡ 0) ⊎ (write_outcome w ≡ 46) ⊎ (write_outcome w ≡ 47)
    go w (wrong e) = inr (inr refl)
    go w (narrow e d) = inr (inl refl)
    go w (done e d) = inl refl

-- what may be written is, where there is room
pub writes_0 : (f : Fields) (l k room : ℕ) → writable f l k ≡ true → count_of l k ≤ room → write_outcome (write_of f l k room) ≡ 0
unfolding write_of
writes_0 f l k room w h = simp (w, le-ltb room (count_of l k) h)

-- AT MOST 280 BYTES
pub count_few : (f : Fields) (l k room : ℕ) → write_count (write_of f l k room) ≤ 280
count_few f l k room = go (write_of f l k room) (went f l k room)
  where
    go : (w : Result ℕ WriteRefusal) → Went f l k room w → write_count w ≤ 280
    go w (wrong e) = omega arith
    go w (narrow e d) = omega arith
    go w (done e d) = omega (arith, bounds f l k e)

module _ (f : Fields) (i a o e : List ℕ) (r : Result ℕ WriteRefusal) (w : Wrote f i a o r e) where
  abbrev all : ℕ
  all = count_of (length i) (length a)

  given : Went f (length i) (length a) (length o) r
  given = rw w.result (went f (length i) (length a) (length o))

  -- AFTER 0: so many bytes as counted are the frame's, and the rest is as found
  pub buffer_filled : write_outcome r ≡ 0 → (write_count r ≡ length (encoded f i a)) × (e ≡ encoded f i a ++ drop (write_count r) o)
  buffer_filled z = go r given z w.buffer
    where
      go :
          (v : Result ℕ WriteRefusal) → Went f (length i) (length a) (length o) v → write_outcome v ≡ 0 → e ≡ buffer_of f i a o v →
          (write_count v ≡ length (encoded f i a)) × (e ≡ encoded f i a ++ drop (write_count v) o)
      go v (wrong t) y b = absurd (omega arith)
      go v (narrow t u) y b = absurd (omega arith)
      go v (done t u) y b =
          let n : all ≡ length (encoded f i a) = sym (length_encoded f i a) in
          (n, b ∙ splice_front o (encoded f i a) ∙ ap (λ (k : ℕ). encoded f i a ++ drop k o) (sym n))

  -- AND AFTER A REFUSAL: all as found
  pub buffer_left : (write_outcome r ≡ 0 → ⊥) → (write_count r ≡ 0) × (e ≡ o)
  buffer_left z = go r given z w.buffer
    where
      go : (v : Result ℕ WriteRefusal) → Went f (length i) (length a) (length o) v → (write_outcome v ≡ 0 → ⊥) → e ≡ buffer_of f i a o v → (write_count v ≡ 0) × (e ≡ o)
      go v (wrong t) y b = (refl, b)
      go v (narrow t u) y b = (refl, b)
      go v (done t u) y b = absurd (y refl)

  -- what went in was a frame's
  pub went_well : write_outcome r ≡ 0 → writable f (length i) (length a) ≡ true
  went_well z = go r given z
    where
      go : (v : Result ℕ WriteRefusal) → Went f (length i) (length a) (length o) v → write_outcome v ≡ 0 → writable f (length i) (length a) ≡ true
      go v (wrong t) y = absurd (omega arith)
      go v (narrow t u) y = absurd (omega arith)
      go v (done t u) y = t

  -- READ BACK FROM THE BUFFER
  pub buffer_back : Fit table (numbers_of f (length a - 1)) → write_outcome r ≡ 0 → read_frame (take (write_count r) e) ≡ Ok (frame_of f i a)
  buffer_back fit z =
      let b = buffer_filled z in
      ap read_frame (ap (take (write_count r)) b.1 ∙ take_at (encoded f i a) (drop (write_count r) o) (write_count r) (sym b.0))
      ∙ read_back f i a fit (went_well z)
