-- Where the entries of a sheet stand: one after the other, from the head to the end of the contents.
use Rattle.octets.proofs.Kit.{ℕ, suc, ◌+◌, ◌-◌, ◌<◌, ◌≤◌, ◌≡◌, ◌∙◌, ap, subst⁻¹, List, get_or, get_or-take, get_or-drop, arith}
use Rattle.octets.{specs.Bytes.num_at, proofs.Numbers.num_same}
use Rattle.sheet.specs.{Kind.kinds, Layout.{Field, ◌of◌}, Entries.{count, size, base, place, contents, entry}}
use Rattle.sheet.specs.Head as head
use Rattle.sheet.proofs.places.Rising.{Step, between, rising, once}

-- byte j of an entry
pub entry_at : (s : List ℕ) (k i j : ℕ) → j < size k → get_or (entry s k i) j 0 ≡ get_or s (place s k i + j) 0
unfolding entry
entry_at s k i j h = get_or-take (size k) _ j 0 h ∙ get_or-drop (place s k i) s j 0

-- a field of an entry
pub field_at :
    (s : List ℕ) (k i : ℕ) (f : Field) → f.at + f.width ≤ size k → f of entry s k i ≡ num_at s (place s k i + f.at) f.width
field_at s k i f h =
    num_same (entry s k i) s f.at (place s k i + f.at) f.width
    (λ j l. entry_at s k i (f.at + j) (omega arith) ∙ ap (λ (p : ℕ). get_or s p 0) (omega arith))

-- position p is byte j of entry i of kind k
pub record InEntry (s : List ℕ) (k i j p : ℕ) : Type 0 where
  pub kind : k < kinds
  pub below : i < count s k
  pub short : j < size k
  pub here : p ≡ place s k i + j

module _ (s : List ℕ) where
  base_up : (k : ℕ) → k < kinds → base s k ≤ base s (suc k)
  base_up k h = omega arith

  place_up : (k i : ℕ) → i < count s k → place s k i ≤ place s k (suc i)
  place_up k i h = omega arith

  module _ (k i : ℕ) (hk : k < kinds) (hi : i < count s k) where
    -- an entry stands after the head
    pub after_head : head.size ≤ place s k i
    after_head = omega (arith, rising (base s) kinds base_up 0 k (omega arith) (omega arith))

    to_base : place s k i + size k ≤ base s (suc k)
    to_base = omega (arith, rising (place s k) (count s k) (place_up k) (suc i) (count s k) hi (omega arith))

    -- an entry stands within the contents
    pub place_in : place s k i + size k ≤ contents s
    place_in = omega (arith, to_base, rising (base s) kinds base_up (suc k) kinds hk (omega arith))

  kind_step : (k i j p : ℕ) → InEntry s k i j p → Step (base s) kinds p
  kind_step k i j p b =
      record {
        index = k;
        below = b.kind;
        from = omega (arith, b);
        to = omega (arith, b, to_base k i b.kind b.below);
      }

  entry_step : (k i j p : ℕ) → InEntry s k i j p → Step (place s k) (count s k) p
  entry_step k i j p b = record { index = i; below = b.below; from = omega (arith, b); to = omega (arith, b) }

  -- A POSITION IS A BYTE OF ONE ENTRY AT MOST
  pub one_entry : (k i j m n o p : ℕ) → InEntry s k i j p → InEntry s m n o p → (k ≡ m) × (i ≡ n) × (j ≡ o)
  unfolding kind_step entry_step
  one_entry k i j m n o p a b =
      let e : k ≡ m = once (base s) kinds base_up (kind_step k i j p a) (kind_step m n o p b) in
      let c : InEntry s k n o p = subst⁻¹ (λ (x : ℕ). InEntry s x n o p) e b in
      let f : i ≡ n = once (place s k) (count s k) (place_up k) (entry_step k i j p a) (entry_step k n o p c) in
      let d : InEntry s k i o p = subst⁻¹ (λ (x : ℕ). InEntry s k x o p) f c in
      (e, f, omega (arith, a.here, d.here))

  -- A POSITION BETWEEN THE HEAD AND THE CONTENTS' END IS A BYTE OF AN ENTRY
  pub some_entry : (p : ℕ) → head.size ≤ p → p < contents s → (k : ℕ) × (i : ℕ) × (j : ℕ) × InEntry s k i j p
  some_entry p h l =
      let a = between (base s) kinds p h l in
      let k : ℕ = a.index in
      let b = between (place s k) (count s k) p (omega (arith, a.from)) a.to in
      (k, b.index, p - place s k b.index, record { kind = a.below; below = b.below; short = omega (arith, b.from, b.to); here = omega (arith, b.from) })
