-- LAWS of ranges by one address more: what is found, and what they have in common.
use Rattle.octets.proofs.Kit.{ℕ, suc, ◌+◌, ◌-◌, ◌/◌, ◌%◌, ◌<◌, ◌≤◌, ◌≡◌, ap, List, ◌↔◌, cond, ltb, arith, lt-ltb, le-ltb}
use Rattle.std.specs.Prelude.{None}
use Rattle.sheet.specs.{Lookup.{common, place_of, joined, range_of}, Places.{Stands, Ranged}, declared.Memory.Memory}
use Rattle.sheet.proofs.{rules.Good.Good, places.Levels.{common_reading, common_writing, below_suc}, searches.Regions.{Covered, in_region, place_none, stands_next}}

pub none_at : (s : List ℕ) (m : Memory) (y z : ℕ) → y ≡ z → ((p l : ℕ) → Stands s m y p l → ⊥) → place_of s m z ≡ None
none_at s m y z e f = place_none s m z (λ j c. let b : Covered s m j y = rw e c in f _ _ (in_region b))

-- a range is the one before, and one address more
pub range_suc :
    (s : List ℕ) (m : Memory) (a n : ℕ) → range_of s m a (suc (suc n)) ≡ joined (range_of s m a (suc n)) (place_of s m (a + suc n))
unfolding range_of
range_suc s m a n = ap (λ (y : ℕ). joined (range_of s m a (suc n)) (place_of s m y)) (omega arith)

-- one address is a range, and a range goes on with the address after it
pub one : {s : List ℕ} {m : Memory} {a o l : ℕ} → Stands s m a o l → Ranged s m a 1 o l
one {s} {m} {a} {o} {l} h =
    record {
      some = omega arith;
      at = λ i. l;
      each = λ i k. let e : a + i ≡ a = omega arith in let q : o + i ≡ o = omega arith in rw (e, q) h;
      reading = λ level. (λ b i k. b, λ b. b 0 (omega arith));
      writing = λ level. (λ b i k. b, λ b. b 0 (omega arith));
    }

abbrev then : (ℕ → ℕ) → ℕ → ℕ → ℕ → ℕ
then f n k i = cond (ltb i n) (f i) k

module _ (f : ℕ → ℕ) (n k : ℕ) where
  then_before : (i : ℕ) → i < n → then f n k i ≡ f i
  then_before i h = rw (lt-ltb i n h)

  then_last : then f n k n ≡ k
  then_last = rw (le-ltb n n (omega arith))

  -- a level that suffices under what they have in common suffices for all of them, by either half
  then_each :
      (half : ℕ → ℕ) (l level : ℕ) → (level ≤ half (common l k)) ↔ ((level ≤ half l) × (level ≤ half k)) →
      (level ≤ half l) ↔ ((i : ℕ) → i < n → level ≤ half (f i)) →
      (level ≤ half (common l k)) ↔ ((i : ℕ) → i < suc n → level ≤ half (then f n k i))
  then_each half l level c e = (
    λ h. (below_suc (λ i. level ≤ half (then f n k i)) n).0 (λ i b. rw (then_before i b) (e.0 (c.0 h).0 i b), rw then_last (c.0 h).1),
    λ h.
        let b = (below_suc (λ i. level ≤ half (then f n k i)) n).1 h in
        c.1 (e.1 (λ i d. rw (then_before i d) at (b.0 i d)), rw then_last at b.1),
  )

module _ {s : List ℕ} (g : Good s) {m : Memory} {a : ℕ} where
  pub longer : {n o l p k : ℕ} → Ranged s m a n o l → Stands s m (a + n) p k → Ranged s m a (suc n) o (common l k)
  longer {n} {o} {l} {p} {k} r h =
      record {
        some = omega arith;
        at = then r.at n k;
        each = (below_suc (λ i. Stands s m (a + i) (o + i) (then r.at n k i)) n).0
            (λ i b. rw (then_before r.at n k i b) (r.each i b), rw (then_last r.at n k) last);
        reading = λ level. then_each r.at n k (λ x. x / 16) l level (common_reading l k level) (r.reading level);
        writing = λ level. then_each r.at n k (λ x. x % 16) l level (common_writing l k level) (r.writing level);
      }
    where
      last : Stands s m (a + n) (o + n) k
      last =
          let b : Stands s m (a + (n - 1)) (o + (n - 1)) _ = r.each (n - 1) (omega (arith, r.some)) in
          let c : a + n ≡ suc (a + (n - 1)) = omega (arith, r.some) in
          let e : p ≡ suc (o + (n - 1)) = stands_next g b (rw c at h) in
          let d : p ≡ o + n = omega (arith, r.some) in
          rw d at h
