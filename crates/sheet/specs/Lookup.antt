-- Finding entries, and the part of a sheet that a value lookup hands back.
use Rattle.std.specs.Prelude.{◌≡◌, ℕ, zero, suc, ◌+◌, ◌-◌, ◌*◌, ◌/◌, ◌%◌, ◌<◌, min, Bool, true, false, cond, ◌&&◌, Option, Some, None, List, [], length, take, drop, ◌==◌, nat_eq, nat_le, nat_lt}
use Rattle.std.specs.Borrow.{Bor}
use Rattle.sheet.specs.Kind.{regions, properties, groups, users, kind_of}
use Rattle.sheet.specs.Layout.{◌of◌}
use Rattle.sheet.specs.Region as region
use Rattle.sheet.specs.Property as property
use Rattle.sheet.specs.Rules.{is_accepted}
use Rattle.sheet.specs.Entries.{count, entry, key_of, offset_of, length_of}
use Rattle.sheet.specs.declared.Part.{Part}
use Rattle.sheet.specs.declared.Memory.{Memory}
use Rattle.sheet.specs.declared.Run.{Run}

-- the first of i, i + 1, .., i + d - 1 that passes a test, and i + d where none does
unfoldable pub seek : (ℕ → Bool) → ℕ → ℕ → ℕ
seek t i zero = i
seek t i (suc d) = cond (t i) i (seek t (suc i) d)

-- the entry of kind k whose first word is x, and the count where there is none
unfoldable pub index_of : List ℕ → ℕ → ℕ → ℕ
index_of s k x = seek (λ i. nat_eq (key_of s k i) x) 0 (count s k)

-- r is entry i of n, and None where i is the n that says that there is none
abbrev pub Finds : ℕ → ℕ → Option ℕ → Type 0
Finds n i (Some r) = (r ≡ i) × (i < n)
Finds n i None = i ≡ n

abbrev pub when : Bool → List ℕ → List ℕ
when true l = l
when false l = []

-- the body of entry i of kind k, and nothing where that is no entry
unfoldable pub body_of : List ℕ → ℕ → ℕ → List ℕ
body_of s k i = when (nat_lt i (count s k)) (take (length_of k (entry s k i)) (drop (offset_of k (entry s k i)) s))

-- the same of an accepted sheet, and nothing of any other
unfoldable pub lookup : List ℕ → ℕ → ℕ → List ℕ
lookup s k i = when (is_accepted s) (body_of s k i)

-- where in the sheet that part starts; an empty one at 0
unfoldable pub body_from : List ℕ → ℕ → ℕ → ℕ
body_from s k i = cond (nat_lt i (count s k)) (offset_of k (entry s k i)) 0

unfoldable pub lookup_from : List ℕ → ℕ → ℕ → ℕ
lookup_from s k i = cond (is_accepted s) (body_from s k i) 0

-- r refers to the very bytes of s from a place on, no copy: these bytes, in the block of memory that s lies in, so far behind its start
pub record PartOf (s r : Bor (List ℕ)) (bytes : List ℕ) (from : ℕ) : Type 0 where
  pub is : r.now ≡ bytes
  pub block : r.ref_ptr.0 ≡ s.ref_ptr.0
  pub place : r.ref_ptr.1 ≡ s.ref_ptr.1 + from

-- the same for one who is told numbers: r says from where on these bytes stand in s, and how many they are
pub record StandsIn (s : List ℕ) (r : Part) (bytes : List ℕ) (from : ℕ) : Type 0 where
  pub is : take r.length (drop r.offset s) ≡ bytes
  pub long : r.length ≡ length bytes
  pub place : r.offset ≡ from

-- WHAT THE LOOKUPS HAND BACK, and from where
abbrev pub region_of : List ℕ → ℕ → List ℕ
region_of s k = lookup s regions k

abbrev pub user_region_of : List ℕ → ℕ → List ℕ
user_region_of s k = lookup s users k

abbrev pub property_of : List ℕ → ℕ → ℕ → List ℕ
property_of s object id = lookup s properties (index_of s properties (object * 256 + id))

abbrev pub group_of : List ℕ → ℕ → List ℕ
group_of s address = lookup s groups (index_of s groups address)

abbrev pub region_from : List ℕ → ℕ → ℕ
region_from s k = lookup_from s regions k

abbrev pub user_region_from : List ℕ → ℕ → ℕ
user_region_from s k = lookup_from s users k

abbrev pub property_from : List ℕ → ℕ → ℕ → ℕ
property_from s object id = lookup_from s properties (index_of s properties (object * 256 + id))

abbrev pub group_from : List ℕ → ℕ → ℕ
group_from s address = lookup_from s groups (index_of s groups address)

-- the object of property i, and how many of the first i properties have an object
unfoldable pub object_at : List ℕ → ℕ → ℕ
object_at s i = property.object of entry s properties i

unfoldable pub rank : List ℕ → ℕ → ℕ → ℕ
rank s object zero = 0
rank s object (suc i) = rank s object i + cond (object_at s i == object) 1 0

-- the property of an object by its index, counted from 0 within the object, and the count where there is none
unfoldable pub nth_of : List ℕ → ℕ → ℕ → ℕ
nth_of s object index = seek (λ i. (object_at s i == object) && rank s object i == index) 0 (count s properties)

-- address y lies in the region of entry e
unfoldable pub covers : List ℕ → ℕ → Bool
covers e y = nat_le (region.address of e) y && nat_lt y (region.address of e + region.length of e)

-- the run from a place on, under these levels
abbrev pub At : ℕ → ℕ → Option Run
At o l = Some (record { offset = o; levels = l })

-- the sheet byte that this address is, with the region's levels
abbrev pub run_in : List ℕ → ℕ → Option Run
run_in e y = At (region.offset of e + (y - region.address of e)) (region.levels of e)

-- where one address of a memory stands, and under which levels
unfoldable pub place_of : List ℕ → Memory → ℕ → Option Run
place_of s m y =
    let k = kind_of m in
    let i = seek (λ j. covers (entry s k j) y) 0 (count s k) in cond (nat_lt i (count s k)) (run_in (entry s k i) y) None

-- the rights that two bytes of levels have in common: of each half the smaller
unfoldable pub common : ℕ → ℕ → ℕ
common l k = min (l / 16) (k / 16) * 16 + min (l % 16) (k % 16)

-- a run, and one address more
abbrev pub joined : Option Run → Option Run → Option Run
joined (Some r) (Some q) = At r.offset (common r.levels q.levels)
joined (Some r) None = None
joined None r = None

-- the run of sheet bytes that the n addresses from a on are: from where the first stands, with the rights that all have in common
unfoldable pub range_of : List ℕ → Memory → ℕ → ℕ → Option Run
range_of s m a zero = None
range_of s m a (suc zero) = place_of s m a
range_of s m a (suc (suc n)) = joined (range_of s m a (suc n)) (place_of s m (a + suc n))
