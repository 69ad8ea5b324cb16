-- Where the bodies of a sheet that breaks no rule lie: one after the other, from the contents to the end.
use Rattle.octets.proofs.Kit.{ℕ, suc, ◌+◌, ◌<◌, ◌≤◌, ◌≡◌, refl, subst⁻¹, List, length, arith}
use Rattle.sheet.specs.{Kind.kinds, Entries.{count, contents, entry, length_of, body_at, body_end, start_of, reached, InBody}, Rules.body_demands, Stores.Inside}
use Rattle.sheet.proofs.{rules.Good.GoodIn, places.Rising.{Step, between, rising, once}}

-- each position of a run inside a body lies in that body
pub inside_at : {s : List ℕ} {k i o n : ℕ} → Inside s k i o n → (p : ℕ) → o ≤ p → p < o + n → InBody s k i p
inside_at h p l m = record { kind = h.kind; below = h.below; from = omega (arith, h.from); to = omega (arith, h.to) }

-- a body ends at its start and its length
pub end_is : (s : List ℕ) (k i : ℕ) → body_end s k i ≡ body_at s k i + length_of k (entry s k i)
unfolding body_end body_at
end_is s k i = refl

-- the bodies of a kind begin at the first, go on from one to the next, and end where those of the next kind begin
module _ (s : List ℕ) (k : ℕ) where
  pub reached_first : reached s k 0 ≡ start_of s k
  unfolding reached
  reached_first = refl

  pub reached_next : (i : ℕ) → reached s k (suc i) ≡ body_end s k i
  unfolding reached
  reached_next i = refl

  pub reached_last : reached s k (count s k) ≡ start_of s (suc k)
  unfolding reached start_of
  reached_last = refl

-- the bodies begin where the contents end
pub start_first : (s : List ℕ) → start_of s 0 ≡ contents s
unfolding start_of
start_first s = refl

module _ {ed : ℕ} {s : List ℕ} (g : GoodIn ed s) where
  -- a body starts where the one before ended
  pub starts : (k i : ℕ) → k < kinds → i < count s k → body_at s k i ≡ reached s k i
  unfolding body_demands body_at
  starts k i hk hi = (g.bodies k i hk hi).0

  -- the ends of the bodies of a kind rise
  pub reached_up : (k : ℕ) → k < kinds → (i : ℕ) → i < count s k → reached s k i ≤ reached s k (suc i)
  reached_up k hk i hi = omega (arith, starts k i hk hi, end_is s k i, reached_next s k i)

  reached_rising : (k i j : ℕ) → k < kinds → i ≤ j → j ≤ count s k → reached s k i ≤ reached s k j
  reached_rising k i j hk = rising (reached s k) (count s k) (reached_up k hk) i j

  -- and so do the starts of the kinds
  pub start_up : (k : ℕ) → k < kinds → start_of s k ≤ start_of s (suc k)
  start_up k hk =
      omega
      (arith, reached_first s k, reached_last s k, reached_rising k 0 (count s k) hk (omega arith) (omega arith))

  start_rising : (k m : ℕ) → k ≤ m → m ≤ kinds → start_of s k ≤ start_of s m
  start_rising = rising (start_of s) kinds start_up

  module _ (k i : ℕ) (hk : k < kinds) (hi : i < count s k) where
    -- a body lies among those of its kind
    pub from_start : start_of s k ≤ body_at s k i
    from_start =
        omega (arith, reached_first s k, starts k i hk hi, reached_rising k 0 i hk (omega arith) (omega arith))

    pub to_next : body_end s k i ≤ start_of s (suc k)
    to_next = omega (arith, reached_next s k i, reached_last s k, reached_rising k (suc i) (count s k) hk hi (omega arith))

    -- a body lies after the contents
    pub after_contents : contents s ≤ body_at s k i
    after_contents = omega (arith, start_first s, from_start, start_rising 0 k (omega arith) (omega arith))

    -- a body lies within the sheet
    pub within : body_end s k i ≤ length s
    within = omega (arith, to_next, start_rising (suc k) kinds hk (omega arith), g.last)

    -- a body ends before a later one of its kind starts
    pub apart : (j : ℕ) → i < j → j < count s k → body_end s k i ≤ body_at s k j
    apart j h l = omega (arith, reached_next s k i, starts k j hk l, reached_rising k (suc i) j hk h (omega arith))

  -- a run inside a body lies within the sheet
  pub inside_within : {k i o n : ℕ} → Inside s k i o n → o + n ≤ length s
  inside_within {k} {i} h = omega (arith, h.to, within k i h.kind h.below)

  -- the kind, and then the entry, in whose body a position lies
  kind_step : (k i p : ℕ) → InBody s k i p → Step (start_of s) kinds p
  kind_step k i p b =
      record {
        index = k;
        below = b.kind;
        from = omega (arith, b, from_start k i b.kind b.below);
        to = omega (arith, b, to_next k i b.kind b.below);
      }

  body_step : (k i p : ℕ) → InBody s k i p → Step (reached s k) (count s k) p
  body_step k i p b =
      record {
        index = i;
        below = b.below;
        from = omega (arith, b, starts k i b.kind b.below);
        to = omega (arith, b, reached_next s k i);
      }

  -- A POSITION LIES IN ONE BODY AT MOST
  pub disjoint : (k i m j p : ℕ) → InBody s k i p → InBody s m j p → (k ≡ m) × (i ≡ j)
  unfolding kind_step body_step
  disjoint k i m j p a b =
      let e : k ≡ m = once (start_of s) kinds start_up (kind_step k i p a) (kind_step m j p b) in
      let c : InBody s k j p = subst⁻¹ (λ (x : ℕ). InBody s x j p) e b in
      (e, once (reached s k) (count s k) (reached_up k a.kind) (body_step k i p a) (body_step k j p c))

  -- A POSITION AFTER THE CONTENTS LIES IN A BODY
  pub some_body : (p : ℕ) → contents s ≤ p → p < length s → (k : ℕ) × (i : ℕ) × InBody s k i p
  some_body p h l =
      let a = between (start_of s) kinds p (omega (arith, start_first s)) (omega (arith, g.last)) in
      let k : ℕ = a.index in
      let b = between (reached s k) (count s k) p (omega (arith, a.from, reached_first s k)) (omega (arith, a.to, reached_last s k)) in (
        k,
        b.index,
        record {
          kind = a.below;
          below = b.below;
          from = omega (arith, b.from, starts k b.index a.below b.below);
          to = omega (arith, b.to, reached_next s k b.index);
        },
      )
