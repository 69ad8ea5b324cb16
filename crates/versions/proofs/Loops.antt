-- The loops that look for a number and for the bodies' end, as their needs ask.
use Rattle.octets.proofs.Kit.{ℕ, suc, ◌+◌, ◌-◌, ◌*◌, ◌≤◌, ◌<◌, ◌≡◌, sym, ap, ap₂, subst, ◌∙◌, List, dec_lt, arith, length}
use Rattle.std.specs.Prelude.{None, Some}
use Rattle.octets.specs.Bytes.{IsNum}
use Rattle.versions.specs.{Store.{table_end, in_row}, Ends.end_from, Walk.{Tabled, FoundIn, Ended, number_in}}
use Rattle.versions.specs.Head as head
use Rattle.versions.specs.Row as row

pub record Sought (s : List ℕ) (n x i : ℕ) : Type 0 where
  pub few : n ≤ 8
  pub room : table_end n ≤ length s
  pub within : i ≤ n
  pub before : (j : ℕ) → j < i → number_in s j ≡ x → ⊥

module _ (s : List ℕ) (n x : ℕ) where
  pub seek_begin : Tabled s n → Sought s n x 0
  seek_begin t = record { few = t.few; room = t.room; within = omega arith; before = λ j h e. omega arith }

  module _ (i p y : ℕ) (w : Sought s n x i) (h : i < n) (t : p ≡ table_end i) (k : IsNum s (p + (row.number).at) 2 65536 y) where
    e : IsNum s (table_end i + (row.number).at) 2 65536 y
    e = subst (λ (q : ℕ). IsNum s (q + (row.number).at) 2 65536 y) t k

    pub seek_found : y ≡ x → FoundIn s n x (Some i)
    seek_found q = (record { within = w.within; before = w.before; here = λ l. sym e.value ∙ q }, h)

    pub seek_go : (y ≡ x → ⊥) → Sought s n x (i + 1)
    seek_go q =
        record { few = w.few; room = w.room; within = omega arith; before = λ j l f. go j (dec_lt j i) l f }
      where
        go : (j : ℕ) → Dec (j < i) → j < i + 1 → number_in s j ≡ x → ⊥
        go j (yes k) l f = w.before j k f
        go j (no k) l f = let m : j ≡ i = omega arith in q (e.value ∙ ap (number_in s) (sym m) ∙ f)

  pub seek_end : (i : ℕ) → Sought s n x i → n ≤ i → FoundIn s n x None
  seek_end i w h =
      record { within = omega arith; before = λ j l f. w.before j (omega arith) f; here = λ l. absurd (omega arith) }

pub record Ending (s : List ℕ) (n i at : ℕ) : Type 0 where
  pub few : n ≤ 8
  pub room : table_end n ≤ length s
  pub within : i ≤ n
  pub far : at ≤ 80 + 65536 * i
  pub rest : end_from s (table_end i) at (n - i) ≡ end_from s head.size (table_end n) n

module _ (s : List ℕ) (n : ℕ) where
  pub end_begin : (t : ℕ) → t ≡ table_end n → Tabled s n → Ending s n 0 t
  end_begin t q h =
      let e : n - 0 ≡ n = omega arith in
      record { few = h.few; room = h.room; within = omega arith; far = omega (arith, h.few); rest = ap₂ (end_from s head.size) q e }

  module _ (i at : ℕ) (w : Ending s n i at) where
    pub end_go : (p y : ℕ) → p ≡ table_end i → i < n → IsNum s (p + (row.long).at) 2 65536 y → Ending s n (i + 1) (at + y)
    unfolding end_from
    end_go p y q h k =
        let e : IsNum s (table_end i + (row.long).at) 2 65536 y = subst (λ (j : ℕ). IsNum s (j + (row.long).at) 2 65536 y) q k in
        let m : n - i ≡ suc (n - (i + 1)) = omega arith in
        let o : table_end (i + 1) ≡ table_end i + row.size = omega arith in
        record {
          few = w.few;
          room = w.room;
          within = omega arith;
          far = omega (arith, w.far, e.below);
          rest = rw e.value (ap (λ (j : ℕ). end_from s j (at + in_row s (table_end i) row.long) (n - (i + 1))) o ∙ sym (ap (end_from s (table_end i) at) m) ∙ w.rest);
        }

    pub end_end : n ≤ i → Ended s n at
    unfolding end_from
    end_end h =
        let m : n - i ≡ 0 = omega (arith, w.within) in
        record { is = sym (ap (end_from s (table_end i) at) m) ∙ w.rest; low = omega (arith, w.far, w.few, w.within) }
