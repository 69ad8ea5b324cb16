-- LAWS of the bodies of regions: a memory has a kind of its own, an address that stands somewhere stands in a body, and no two at one place.
use Rattle.octets.proofs.Kit.{ℕ, ◌+◌, ◌<◌, ◌≤◌, ◌≡◌, refl, ap, List, arith}
use Rattle.sheet.specs.{Kind.{properties, groups, kind_of}, Layout.◌of◌, Entries.{count, body_at, body_end, InBody}, Places.{region_at, Stands}, declared.Memory.Memory}
use Rattle.sheet.specs.declared.Memory.TheVariants.{Device, User}
use Rattle.sheet.specs.Region as region
use Rattle.sheet.proofs.{rules.Good.Good, places.BodyPlaces.disjoint}

-- memories have kinds of their own, and a region is no property and no group object
pub kind_once : (m m' : Memory) → kind_of m ≡ kind_of m' → m ≡ m'
kind_once Device Device e = refl
kind_once Device User e = absurd (omega arith)
kind_once User Device e = absurd (omega arith)
kind_once User User e = refl

pub no_property_lem : (m : Memory) → kind_of m ≡ properties → ⊥
no_property_lem Device e = omega arith
no_property_lem User e = omega arith

pub no_group_lem : (m : Memory) → kind_of m ≡ groups → ⊥
no_group_lem Device e = omega arith
no_group_lem User e = omega arith

-- a position of a region's body
in_body_lem :
    (s : List ℕ) (m : Memory) (i p : ℕ) → i < count s (kind_of m) → region.offset of region_at s m i ≤ p →
    p < region.offset of region_at s m i + region.length of region_at s m i → InBody s (kind_of m) i p
unfolding body_at body_end
in_body_lem s Device i p h f t = record { kind = omega arith; below = h; from = f; to = t }
in_body_lem s User i p h f t = record { kind = omega arith; below = h; from = f; to = t }

module _ {s : List ℕ} (g : Good s) where
  -- an address that stands somewhere stands in a body
  pub stands_in : {m : Memory} {y p l : ℕ} (h : Stands s m y p l) → InBody s (kind_of m) h.index p
  stands_in {m} {y} {p} h =
      in_body_lem s m h.index p h.below (omega (arith, h.here)) (omega (arith, h.from, h.to, h.here))

  -- no two addresses of a memory stand at one place
  pub stands_back : {m : Memory} {y y' p l l' : ℕ} → Stands s m y p l → Stands s m y' p l' → y ≡ y'
  stands_back {m} {y} {y'} {p} a b =
      let e = (disjoint g (kind_of m) a.index (kind_of m) b.index p (stands_in a) (stands_in b)).1 in
      let q : region.offset of region_at s m a.index ≡ region.offset of region_at s m b.index = ap (λ (i : ℕ). region.offset of region_at s m i) e in
      let r : region.address of region_at s m a.index ≡ region.address of region_at s m b.index = ap (λ (i : ℕ). region.address of region_at s m i) e in
      omega (arith, a.from, b.from, a.here, b.here)
