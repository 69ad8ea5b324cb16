-- A search by halves, as a loop makes it: the first words rise. It finds what a search from the front finds.
use Rattle.octets.proofs.Kit.{ℕ, ◌+◌, ◌-◌, ◌/◌, ◌<◌, ◌≤◌, ◌≡◌, sym, ◌∙◌, List, dec_lt, arith}
use Rattle.sheet.specs.{Kind.kinds, Entries.{count, key_of}, Rules.Accepted, Lookup.index_of, Walk.{Entry, Counted, Lower}}
use Rattle.sheet.proofs.{rules.Good.good, promises.Keys.{key_rising, index_hit, index_none}, searches.SearchLoops.ok_framed}

-- THE INVARIANT: before lo the first words are below x, from hi on they are not
pub record Halved (s : List ℕ) (k x lo hi : ℕ) : Type 0 where
  pub order : lo ≤ hi
  pub within : hi ≤ count s k
  pub before : (j : ℕ) → j < lo → key_of s k j < x
  pub from : (j : ℕ) → hi ≤ j → j < count s k → x ≤ key_of s k j

pub halves_begin : (s : List ℕ) (k x n : ℕ) → Counted s k n → Halved s k x 0 n
halves_begin s k x n c =
    record {
      order = omega arith;
      within = omega (arith, c.is);
      before = λ j h. absurd (omega arith);
      from = λ j h l. absurd (omega (arith, c.is));
    }

module _ (s : List ℕ) (ok : Accepted s) (k : ℕ) (hk : k < kinds) (x lo hi : ℕ) (h : Halved s k x lo hi) (l : lo < hi) where
  -- the middle is an entry
  abbrev mid : ℕ
  mid = lo + (hi - lo) / 2

  pub half_there : Entry s k mid
  half_there = record { framed = ok_framed s ok; kind = hk; below = omega (arith, h.within) }

  rises : (i j : ℕ) → i < j → j < count s k → key_of s k i < key_of s k j
  rises = key_rising (good s ok) k hk

  module _ (r : ℕ) (e : r ≡ key_of s k mid) where
    pub upper_half : r < x → Halved s k x (mid + 1) hi
    upper_half q = record { order = omega arith; within = h.within; before = λ j w. go j w (dec_lt j mid); from = h.from }
      where
        go : (j : ℕ) → j < mid + 1 → Dec (j < mid) → key_of s k j < x
        go j w (yes d) = omega (arith, rises j mid d (omega (arith, h.within)), e)
        go j w (no d) = let z : j ≡ mid = omega arith in rw z (omega (arith, e))

    pub lower_half : x ≤ r → Halved s k x lo mid
    lower_half q =
        record { order = omega arith; within = omega (arith, h.within); before = h.before; from = λ j w v. go j w v (dec_lt mid j) }
      where
        go : (j : ℕ) → mid ≤ j → j < count s k → Dec (mid < j) → x ≤ key_of s k j
        go j w v (yes d) = omega (arith, rises mid j d v, e)
        go j w v (no d) = let z : j ≡ mid = omega arith in rw z (omega (arith, e))

pub halves_end : (s : List ℕ) (k x lo hi : ℕ) → Halved s k x lo hi → hi ≤ lo → Lower s k x lo
halves_end s k x lo hi h l =
    record { within = omega (arith, h.order, h.within); before = h.before; from = λ j q w. h.from j (omega (arith, h.order)) w }

-- WHAT IS FOUND is what a search from the front finds
module _ (s : List ℕ) (ok : Accepted s) (k : ℕ) (hk : k < kinds) (x n i : ℕ) (c : Counted s k n) (l : Lower s k x i) where
  pub half_past : n ≤ i → n ≡ index_of s k x
  half_past h =
      c.is ∙ sym (index_none s k x (λ j w e. omega (arith, l.before j (omega (arith, c.is)))))

  pub half_missed : (r : ℕ) → i < n → r ≡ key_of s k i → (r ≡ x → ⊥) → n ≡ index_of s k x
  half_missed r h e q = c.is ∙ sym (index_none s k x (λ j w z. go j w z (dec_lt j i) (dec_lt i j)))
    where
      there : i < count s k
      there = omega (arith, c.is)

      go : (j : ℕ) → j < count s k → key_of s k j ≡ x → Dec (j < i) → Dec (i < j) → ⊥
      go j w z (yes d) f = omega (arith, l.before j d)
      go j w z (no d) (yes f) = omega (arith, key_rising (good s ok) k hk i j f w, l.from i (omega arith) there)
      go j w z (no d) (no f) = let u : j ≡ i = omega arith in q (e ∙ rw u at z)

  pub half_found : (r : ℕ) → i < n → r ≡ key_of s k i → r ≡ x → i ≡ index_of s k x
  half_found r h e q = sym (index_hit s ok k hk i x (omega (arith, c.is)) (sym e ∙ q))
