-- What two sheets that are the same but at some positions have in common: numbers and parts that miss these, and the same run stored in both.
use Rattle.octets.proofs.Kit.{ℕ, ◌+◌, ◌-◌, ◌<◌, ◌≤◌, ◌≡◌, sym, ap, ◌∙◌, List, length, get_or, take, drop, length-take, length-drop, get_or-take, get_or-drop, ext_get_or, dec_lt, arith}
use Rattle.octets.{specs.Splice.splice, proofs.{Numbers.num_same, Splices.{length_splice, splice_in, splice_below, splice_above}}}
use Rattle.sheet.specs.{Layout.{Field, ◌of◌}, But.But}

-- a part of two lists that have the same bytes there
pub part_same :
    (s s' : List ℕ) (o n : ℕ) → length s' ≡ length s → ((i : ℕ) → i < n → get_or s' (o + i) 0 ≡ get_or s (o + i) 0) →
    take n (drop o s') ≡ take n (drop o s)
part_same s s' o n l f =
    ext_get_or 0 (take n (drop o s')) (take n (drop o s)) (simp (length-take, length-drop, l))
    (λ i k.
    let h : i < n = omega (arith, simp length-take at k) in
    get_or-take n (drop o s') i 0 h ∙ get_or-drop o s' i 0 ∙ f i h ∙ sym (get_or-drop o s i 0) ∙ sym (get_or-take n (drop o s) i 0 h))

-- a byte of a run that was stored
pub run_byte : (s : List ℕ) (o : ℕ) (ds : List ℕ) → o + length ds ≤ length s → (p : ℕ) → o ≤ p → p < o + length ds → get_or (splice s o ds) p 0 ≡ get_or ds (p - o) 0
run_byte s o ds r p k l =
    let e : p ≡ o + (p - o) = omega arith in
    ap (λ (n : ℕ). get_or (splice s o ds) n 0) e ∙ splice_in s o ds r (p - o) (omega arith)

-- the n positions from o on are none of H
abbrev pub Misses : (ℕ → Type 0) → ℕ → ℕ → Type 0
Misses H o n = (j : ℕ) → j < n → H (o + j) → ⊥

module _ {H : ℕ → Type 0} {s s' : List ℕ} (b : But H s s') where
  -- the other way round
  pub but_sym : But H s' s
  but_sym = record { long = sym b.long; others = λ p n. sym (b.others p n) }

  -- a part, and a field of the head, that miss them
  pub part_but : (o n : ℕ) → Misses H o n → take n (drop o s') ≡ take n (drop o s)
  part_but o n m = part_same s s' o n b.long (λ j l. b.others (o + j) (m j l))

  pub field_but : (f : Field) → Misses H f.at f.width → f of s' ≡ f of s
  field_but f m = num_same s' s f.at f.at f.width (λ j l. b.others (f.at + j) (m j l))

  -- THE SAME RUN STORED IN BOTH
  pub splice_but : (o : ℕ) (ds : List ℕ) → o + length ds ≤ length s → But H (splice s o ds) (splice s' o ds)
  splice_but o ds h =
      record {
        long = length_splice s' o ds h' ∙ b.long ∙ sym (length_splice s o ds h);
        others = λ p n. at p n (dec_lt p o) (dec_lt p (o + length ds));
      }
    where
      h' : o + length ds ≤ length s'
      h' = omega (arith, b.long)

      at : (p : ℕ) → (H p → ⊥) → Dec (p < o) → Dec (p < o + length ds) → get_or (splice s' o ds) p 0 ≡ get_or (splice s o ds) p 0
      at p n (yes l) d = splice_below s' o ds h' p l ∙ b.others p n ∙ sym (splice_below s o ds h p l)
      at p n (no l) (yes m) = run_byte s' o ds h' p (omega arith) m ∙ sym (run_byte s o ds h p (omega arith) m)
      at p n (no l) (no m) = splice_above s' o ds h' p (omega arith) ∙ b.others p n ∙ sym (splice_above s o ds h p (omega arith))
