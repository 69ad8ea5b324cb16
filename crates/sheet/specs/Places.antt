-- What a position of an accepted sheet is, where an address of a memory stands, which property has an object and id, and what calls of this crate promise of entries.
use Rattle.std.specs.Prelude.{◌≡◌, ℕ, ◌+◌, ◌-◌, ◌*◌, ◌/◌, ◌%◌, ◌<◌, ◌≤◌, max, ◌↔◌, List, length}
use Rattle.sheet.specs.Kind.{kinds, properties, groups, kind_of}
use Rattle.sheet.specs.Layout.{◌of◌}
use Rattle.sheet.specs.Head as head
use Rattle.sheet.specs.Region as region
use Rattle.sheet.specs.Property as property
use Rattle.sheet.specs.Group as group
use Rattle.sheet.specs.Entries.{count, size, place, entry, InBody}
use Rattle.sheet.specs.declared.Memory.{Memory}
use Rattle.sheet.specs.declared.PropertyEntry.{PropertyEntry}
use Rattle.sheet.specs.declared.GroupEntry.{GroupEntry}

-- a position is a byte of the head, of an entry or of a body
pub data Position (s : List ℕ) : ℕ → Type 0 where
  in_head : {p : ℕ} → p < head.size → Position s p
  in_entry : {p : ℕ} (k i j : ℕ) → k < kinds → i < count s k → j < size k → p ≡ place s k i + j → Position s p
  in_body : {p : ℕ} (k i : ℕ) → InBody s k i p → Position s p

-- which byte it is: one of the head, byte j of entry i of kind k, or one of body i of kind k
pub data Which : Type 0 where
  head_byte : Which
  entry_byte : ℕ → ℕ → ℕ → Which
  body_byte : ℕ → ℕ → Which

abbrev pub which_of : {s : List ℕ} {p : ℕ} → Position s p → Which
which_of (in_head h) = head_byte
which_of (in_entry k i j hk hi hj e) = entry_byte k i j
which_of (in_body k i b) = body_byte k i

-- entry i among the regions of a memory
abbrev pub region_at : List ℕ → Memory → ℕ → List ℕ
region_at s m i = entry s (kind_of m) i

-- address y of a memory stands at position p, under these levels
pub record Stands (s : List ℕ) (m : Memory) (y p levels : ℕ) : Type 0 where
  pub index : ℕ
  pub below : index < count s (kind_of m)
  pub from : region.address of region_at s m index ≤ y
  pub to : y < region.address of region_at s m index + region.length of region_at s m index
  pub here : p ≡ region.offset of region_at s m index + (y - region.address of region_at s m index)
  pub under : levels ≡ region.levels of region_at s m index

-- the n addresses from a on of a memory, one at least, stand side by side from position o on, each under levels of its own;
-- a level suffices under `levels` exactly if it suffices under those of each
pub record Ranged (s : List ℕ) (m : Memory) (a n o levels : ℕ) : Type 0 where
  pub some : 1 ≤ n
  pub at : ℕ → ℕ
  pub each : (i : ℕ) → i < n → Stands s m (a + i) (o + i) (at i)
  pub reading : (level : ℕ) → (level ≤ levels / 16) ↔ ((i : ℕ) → i < n → level ≤ at i / 16)
  pub writing : (level : ℕ) → (level ≤ levels % 16) ↔ ((i : ℕ) → i < n → level ≤ at i % 16)

-- property i has that object and id
pub record PropertyWith (s : List ℕ) (object id i : ℕ) : Type 0 where
  pub there : i < count s properties
  pub same_object : property.object of entry s properties i ≡ object
  pub same_id : property.id of entry s properties i ≡ id

-- r has the fields of property i
pub record IsProperty (s : List ℕ) (i : ℕ) (r : PropertyEntry) : Type 0 where
  pub object : r.object ≡ property.object of entry s properties i
  pub id : r.id ≡ property.id of entry s properties i
  pub typ : r.typ ≡ property.typ of entry s properties i
  pub element : r.element ≡ property.element of entry s properties i
  pub maximum : r.maximum ≡ property.maximum of entry s properties i
  pub count : r.count ≡ property.count of entry s properties i
  pub offset : r.offset ≡ property.offset of entry s properties i
  pub levels : r.levels ≡ property.levels of entry s properties i
  pub place : r.place ≡ place s properties i

-- r has the fields of group object i
pub record IsGroup (s : List ℕ) (i : ℕ) (r : GroupEntry) : Type 0 where
  pub code : r.code ≡ group.code of entry s groups i
  pub flags : r.flags ≡ group.flags of entry s groups i
  pub offset : r.offset ≡ group.offset of entry s groups i

-- the same of an accepted sheet: within the limits, and its body and entry within the sheet
pub record PropertyIn (s : List ℕ) (i : ℕ) (r : PropertyEntry) : Type 0 where
  pub is : IsProperty s i r
  pub filled : 1 ≤ r.element
  pub short : r.element ≤ 10
  pub some : 1 ≤ r.maximum
  pub most : r.maximum ≤ 4095
  pub counted : r.count ≤ r.maximum
  pub body : r.offset + r.element * r.maximum ≤ length s
  pub room : r.place + property.size ≤ length s

pub record GroupIn (s : List ℕ) (i : ℕ) (r : GroupEntry) : Type 0 where
  pub is : IsGroup s i r
  pub short : r.code ≤ 14
  pub body : r.offset + max 1 r.code ≤ length s
