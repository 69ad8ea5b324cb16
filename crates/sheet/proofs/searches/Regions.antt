-- The regions of a memory by address: at most one has it, and neighbours touch.
use Rattle.octets.proofs.Kit.{ℕ, suc, ◌+◌, ◌-◌, ◌<◌, ◌≤◌, ◌≡◌, refl, sym, ◌∙◌, ap, List, ◌⊎◌, inl, inr, Bool, true, false, cond, and-eq-true_iff, leb, ltb, dec_lt, arith, le-leb, leb-true, lt-ltb}
use Rattle.octets.proofs.Kit.{le-ltb, ltb-true}
use Rattle.std.specs.Prelude.{Option, Some, None}
use Rattle.sheet.specs.{Kind.{regions, users, kind_of}, Layout.◌of◌, Entries.{count, key_of, floor, body_at, body_end}, Lookup.{At, seek, covers, run_in, place_of}, Places.{region_at, Stands}}
use Rattle.sheet.specs.{Rules.entry_demands, declared.{Run.Run, Memory.{Memory, TheVariants.{Device, User}}}}
use Rattle.sheet.specs.Region as region
use Rattle.sheet.proofs.{rules.Good.Good, promises.Keys.past_floor, places.BodyPlaces.{starts, reached_next}, searches.FrontSearch.{seek_passes, seek_hit, seek_none}}

-- where region i of a memory begins, and where it ends
abbrev pub starts_at : List ℕ → Memory → ℕ → ℕ
starts_at s m i = region.address of region_at s m i

abbrev pub ends_at : List ℕ → Memory → ℕ → ℕ
ends_at s m i = region.address of region_at s m i + region.length of region_at s m i

-- region i has address y
pub record Covered (s : List ℕ) (m : Memory) (i y : ℕ) : Type 0 where
  pub below : i < count s (kind_of m)
  pub from : starts_at s m i ≤ y
  pub to : y < ends_at s m i

-- the test says so of an entry
pub covering : (e : List ℕ) (y : ℕ) → covers e y ≡ true → (region.address of e ≤ y) × (y < region.address of e + region.length of e)
unfolding covers
covering e y q =
    let p = (and-eq-true_iff (leb (region.address of e) y) (ltb y (region.address of e + region.length of e))).0 q in
    (leb-true _ _ p.0, ltb-true _ _ p.1)

-- and passes for such a region
pub covered : {s : List ℕ} {m : Memory} {i y : ℕ} → Covered s m i y → covers (region_at s m i) y ≡ true
unfolding covers
covered {s} {m} {i} {y} c =
    (and-eq-true_iff (leb (starts_at s m i) y) _).1 (le-leb _ _ c.from, lt-ltb _ _ c.to)

-- an address that stands somewhere lies in its region, and one that lies in a region stands there
pub covers_stands : {s : List ℕ} {m : Memory} {y p l : ℕ} (h : Stands s m y p l) → Covered s m h.index y
covers_stands h = record { below = h.below; from = h.from; to = h.to }

pub in_region :
    {s : List ℕ} {m : Memory} {i y : ℕ} → Covered s m i y →
    Stands s m y (region.offset of region_at s m i + (y - starts_at s m i)) (region.levels of region_at s m i)
in_region {s} {m} {i} c = record { index = i; below = c.below; from = c.from; to = c.to; here = refl; under = refl }

abbrev offset_of_run : Option Run → ℕ
offset_of_run (Some r) = r.offset
offset_of_run None = 0

abbrev levels_of_run : Option Run → ℕ
levels_of_run (Some r) = r.levels
levels_of_run None = 0

-- one run has one place and one byte of levels
pub at_once : {o o' l l' : ℕ} → At o l ≡ At o' l' → (o ≡ o') × (l ≡ l')
at_once q = (ap offset_of_run q, ap levels_of_run q)

-- a run is nowhere or somewhere, and not both
pub not_both : {o l : ℕ} → None ≡ At o l → ⊥
not_both q = let z : ◌≡◌ {A = ℕ} 0 1 = cc in omega arith

module _ (s : List ℕ) (m : Memory) (y : ℕ) where
  sought : ℕ
  sought = seek (λ j. covers (region_at s m j) y) 0 (count s (kind_of m))

  -- what is found stands there
  pub place_stands : {p l : ℕ} → place_of s m y ≡ At p l → Stands s m y p l
  unfolding place_of sought
  place_stands {p} {l} e = go (ltb sought (count s (kind_of m))) refl e
    where
      go : (b : Bool) → ltb sought (count s (kind_of m)) ≡ b → cond b (run_in (region_at s m sought) y) None ≡ At p l → Stands s m y p l
      go true h q =
          let b : sought < count s (kind_of m) = ltb-true _ _ h in
          let c = covering (region_at s m sought) y (seek_passes (λ j. covers (region_at s m j) y) (count s (kind_of m)) b) in
          let e = at_once q in
          record { index = sought; below = b; from = c.0; to = c.1; here = sym e.0; under = sym e.1 }
      go false h q = absurd (not_both q)

  -- what no region has is nowhere
  pub place_none : ((i : ℕ) → Covered s m i y → ⊥) → place_of s m y ≡ None
  unfolding place_of
  place_none f =
      let e = seek_none (λ j. covers (region_at s m j) y) (count s (kind_of m))
      (λ i h q. let c = covering (region_at s m i) y q in f i (record { below = h; from = c.0; to = c.1 })) in
      rw (e, le-ltb (count s (kind_of m)) (count s (kind_of m)) (omega arith))

module _ {s : List ℕ} (g : Good s) where
  -- a region ends before a later one of its memory begins
  pub regions_apart :
      (m : Memory) (i j : ℕ) → i < j → j < count s (kind_of m) →
      ends_at s m i ≤ starts_at s m j
  unfolding floor key_of
  regions_apart Device i j h l = past_floor g regions (omega arith) i j h l
  regions_apart User i j h l = past_floor g users (omega arith) i j h l

  -- it has an address at least, and none past the top
  pub region_rows :
      (m : Memory) (i : ℕ) → i < count s (kind_of m) →
      (1 ≤ region.length of region_at s m i) × (ends_at s m i ≤ 65536)
  unfolding entry_demands
  region_rows Device i h = omega (arith, g.entries regions i (omega arith) h)
  region_rows User i h = omega (arith, g.entries users i (omega arith) h)

  -- its body starts where that of the one before ends
  body_next :
      (m : Memory) (i : ℕ) → suc i < count s (kind_of m) →
      region.offset of region_at s m (suc i) ≡ region.offset of region_at s m i + region.length of region_at s m i
  unfolding body_at body_end
  body_next Device i h = starts g regions (suc i) (omega arith) h ∙ reached_next s regions i
  body_next User i h = starts g users (suc i) (omega arith) h ∙ reached_next s users i

  -- no memory has an address past the top
  pub below_top : {m : Memory} {i y : ℕ} → Covered s m i y → y < 65536
  below_top {m} {i} c = omega (arith, c.to, region_rows m i c.below)

  module _ (m : Memory) where
    -- two regions that share an address are one
    pub region_once : (i j y : ℕ) → Covered s m i y → Covered s m j y → i ≡ j
    region_once i j y a b = go (dec_lt i j) (dec_lt j i)
      where
        go : Dec (i < j) → Dec (j < i) → i ≡ j
        go (yes h) d = absurd (omega (arith, a, b, regions_apart m i j h b.below))
        go (no h) (yes l) = absurd (omega (arith, a, b, regions_apart m j i l a.below))
        go (no h) (no l) = omega arith

    region_hit : (i y : ℕ) → Covered s m i y → place_of s m y ≡ run_in (region_at s m i) y
    unfolding place_of
    region_hit i y c =
        let e = seek_hit (λ j. covers (region_at s m j) y) (count s (kind_of m)) i c.below (covered c)
        (λ j h q. let d = covering (region_at s m j) y q in region_once j i y (record { below = h; from = d.0; to = d.1 }) c) in
        rw (e, lt-ltb i (count s (kind_of m)) c.below)

  -- AN ADDRESS IS FOUND WHERE IT STANDS
  pub place_hit : {m : Memory} {y p l : ℕ} → Stands s m y p l → place_of s m y ≡ At p l
  place_hit {m} {y} h = region_hit m h.index y (covers_stands h) ∙ rw (h.here, h.under) refl

-- region j of a memory is the next one, and begins where region i ends
pub record Follows (s : List ℕ) (m : Memory) (i j : ℕ) : Type 0 where
  pub next : j ≡ suc i
  pub touches : starts_at s m j ≡ ends_at s m i

module _ {s : List ℕ} (g : Good s) {m : Memory} where
  -- TWO ADDRESSES SIDE BY SIDE lie in one region, or in two that follow each other without a gap
  pub neighbours : {i j y : ℕ} → Covered s m i y → Covered s m j (suc y) → (i ≡ j) ⊎ Follows s m i j
  neighbours {i} {j} {y} a b = go (dec_lt i j) (dec_lt j i) (dec_lt (suc i) j)
    where
      go : Dec (i < j) → Dec (j < i) → Dec (suc i < j) → (i ≡ j) ⊎ Follows s m i j
      go (yes h) d (yes l) =
          absurd (omega (arith, a, b, regions_apart g m i (suc i) (omega arith) (omega (arith, b)), regions_apart g m (suc i) j l b.below, region_rows g m (suc i) (omega (arith, b))))
      go (yes h) d (no l) =
          inr (record { next = omega arith; touches = omega (arith, a, b, regions_apart g m i j h b.below) })
      go (no h) (yes l) d = absurd (omega (arith, a, b, regions_apart g m j i l a.below))
      go (no h) (no l) d = inl (omega arith)

  -- AND THEY STAND SIDE BY SIDE
  pub stands_next : {y p q l k : ℕ} → Stands s m y p l → Stands s m (suc y) q k → q ≡ suc p
  stands_next {y} {p} {q} a b = go (neighbours (covers_stands a) (covers_stands b))
    where
      go : (a.index ≡ b.index) ⊎ Follows s m a.index b.index → q ≡ suc p
      go (inl e) =
          let f : starts_at s m a.index ≡ starts_at s m b.index = ap (starts_at s m) e in
          let o : region.offset of region_at s m a.index ≡ region.offset of region_at s m b.index = ap (λ (i : ℕ). region.offset of region_at s m i) e in
          omega (arith, a.from, a.here, b.here, f, o)
      go (inr f) =
          let o : region.offset of region_at s m b.index ≡ region.offset of region_at s m (suc a.index) = ap (λ (i : ℕ). region.offset of region_at s m i) f.next in
          let n = body_next g m a.index (omega (arith, b.below, f.next)) in
          omega (arith, a.from, a.to, b.from, a.here, b.here, f.touches, o, n)
