-- The region of an address, and the property of an object and id: the searches find the one that there is.
use Rattle.octets.proofs.Kit.{ℕ, ◌+◌, ◌*◌, ◌/◌, ◌%◌, ◌<◌, ◌≡◌, List, leb, arith, lt-ltb}
use Rattle.octets.proofs.Numbers.{num_one}
use Rattle.sheet.specs.{Kind.{properties, kind_of}, Layout.◌of◌, Entries.{count, place, entry, key_of}, Lookup.covers, Places.{region_at, PropertyWith}, declared.Memory.Memory}
use Rattle.sheet.proofs.{rules.Good.{Good, accepted}, places.Standing.entry_at, searches.FrontSearch.{seek_hit, seek_passes}, promises.Keys.{index_hit, index_key, key_is, key_parts}}
use Rattle.sheet.proofs.searches.Regions.{Covered, covering, covered, region_once}
use Rattle.sheet.specs.Region as region
use Rattle.sheet.specs.Property as property
use Rattle.device.specs.Octets.{Octets}
use Rattle.history.specs.Permit.{region_for, may_read, may_write, index_for}

-- the region that the search gives has the address
pub region_covers : (s : List ℕ) (m : Memory) (y : ℕ) → region_for s m y < count s (kind_of m) → Covered s m (region_for s m y) y
unfolding region_for
region_covers s m y h =
    let c = covering (region_at s m (region_for s m y)) y (seek_passes (λ i. covers (region_at s m i) y) (count s (kind_of m)) h) in
    record { below = h; from = c.0; to = c.1 }

module _ {s : List ℕ} (g : Good s) where
  module _ {m : Memory} {i y : ℕ} where
    -- and a region that has it is the one
    pub region_hit : Covered s m i y → region_for s m y ≡ i
    unfolding region_for
    region_hit c =
        seek_hit (λ j. covers (region_at s m j) y) (count s (kind_of m)) i c.below (covered c)
        (λ k l q. let d = covering (region_at s m k) y q in region_once g m k i y (record { below = l; from = d.0; to = d.1 }) c)

    -- what may be done with a byte is what its region says
    pub may_read_lem : (level : ℕ) → Covered s m i y → may_read s m level y ≡ leb level (region.levels of region_at s m i / 16)
    unfolding may_read
    may_read_lem level c = rw (region_hit c, lt-ltb i (count s (kind_of m)) c.below)

    pub may_write_lem : (level : ℕ) → Covered s m i y → may_write s m level y ≡ leb level (region.levels of region_at s m i % 16)
    unfolding may_write
    may_write_lem level c = rw (region_hit c, lt-ltb i (count s (kind_of m)) c.below)

  -- a property that has the object and the id is the one
  pub property_hit : {object id i : ℕ} → PropertyWith s object id i → index_for s object id ≡ i
  unfolding index_for key_of
  property_hit {object} {id} {i} q =
      index_hit s (accepted g) properties (omega arith) i (object * 256 + id) q.there (omega (arith, key_is (entry s properties i), q.same_object, q.same_id))

-- the property that the search gives has the object and the id, ids being bytes
pub property_found :
    (s : List ℕ) (object id : ℕ) → Octets s → id < 256 → index_for s object id < count s properties → PropertyWith s object id (index_for s object id)
unfolding index_for key_of
property_found s object id small low h =
    let i : ℕ = index_for s object id in
    let k : property.object_id of entry s properties i ≡ object * 256 + id = index_key s properties (object * 256 + id) h in
    let b : property.id of entry s properties i < 256 =
    omega (arith, num_one (entry s properties i) (property.id).at, entry_at s properties i (property.id).at (omega arith), small (place s properties i + (property.id).at)) in
    let q = key_parts (entry s properties i) object id b low k in
    record { there = h; same_object = q.0; same_id = q.1 }
