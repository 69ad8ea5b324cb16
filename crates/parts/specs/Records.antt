-- What the records of a sheet are.
use Rattle.std.specs.Prelude.{ℕ, ◌+◌, ◌*◌, ◌/◌, ◌%◌, ◌<◌, ◌≤◌, ◌≡◌, List, false, eqb, length, get_or}
use Rattle.octets.specs.Bytes.{num_at}
use Rattle.sheet.specs.Kind.{regions, properties, groups, users}
use Rattle.sheet.specs.Layout.{◌of◌}
use Rattle.sheet.specs.Head as head
use Rattle.sheet.specs.Entries.{count, base, contents}
use Rattle.parts.specs.declared.Region.{Region}
use Rattle.parts.specs.declared.Property.{Property}
use Rattle.parts.specs.declared.Group.{Group}
use Rattle.parts.specs.declared.Head.{Head}
use Rattle.parts.specs.declared.Counts.{Counts}
use Rattle.parts.specs.declared.Parts.{Parts}

abbrev pub no_region : Region
no_region = record { address = 0; length = 0; offset = 0; read = 0; write = 0 }

abbrev pub no_property : Property
no_property =
    record { object = 0; id = 0; writable = false; typ = 0; size = 0; maximum = 0; count = 0; offset = 0; read = 0; write = 0 }

abbrev pub no_group : Group
no_group = record { address = 0; code = 0; read = false; write = false; response = false; offset = 0 }

-- e has the fields of the entry at a place
pub record IsRegion (e : Region) (s : List ℕ) (at : ℕ) : Type 0 where
  pub address : e.address ≡ num_at s at 2
  pub long : e.length ≡ num_at s (at + 2) 2
  pub offset : e.offset ≡ num_at s (at + 4) 2
  pub read : e.read ≡ num_at s (at + 6) 1 / 16
  pub write : e.write ≡ num_at s (at + 6) 1 % 16

pub record IsProperty (e : Property) (s : List ℕ) (at : ℕ) : Type 0 where
  pub object : e.object ≡ num_at s at 1
  pub id : e.id ≡ num_at s (at + 1) 1
  pub writable : e.writable ≡ eqb (num_at s (at + 2) 1 / 128) 1
  pub typ : e.typ ≡ num_at s (at + 2) 1 % 128
  pub size : e.size ≡ num_at s (at + 3) 1
  pub maximum : e.maximum ≡ num_at s (at + 4) 2
  pub count : e.count ≡ num_at s (at + 6) 2
  pub offset : e.offset ≡ num_at s (at + 8) 2
  pub read : e.read ≡ num_at s (at + 10) 1 / 16
  pub write : e.write ≡ num_at s (at + 10) 1 % 16

pub record IsGroup (e : Group) (s : List ℕ) (at : ℕ) : Type 0 where
  pub address : e.address ≡ num_at s at 2
  pub code : e.code ≡ num_at s (at + 2) 1
  pub read : e.read ≡ eqb (num_at s (at + 3) 1 % 2) 1
  pub write : e.write ≡ eqb (num_at s (at + 3) 1 / 2 % 2) 1
  pub response : e.response ≡ eqb (num_at s (at + 3) 1 / 4 % 2) 1
  pub offset : e.offset ≡ num_at s (at + 4) 2

pub record IsHead (h : Head) (s : List ℕ) : Type 0 where
  pub serial : h.serial ≡ head.serial of s
  pub mask : h.mask ≡ head.mask of s
  pub programming : h.programming ≡ eqb (head.programming s) 1
  pub verify : h.verify ≡ eqb (head.verify s) 1
  pub address : h.address ≡ head.address of s
  pub three : length h.keys ≡ 3
  pub key0 : get_or h.keys 0 0 ≡ head.key 0 of s
  pub key1 : get_or h.keys 1 0 ≡ head.key 1 of s
  pub key2 : get_or h.keys 2 0 ≡ head.key 2 of s
  pub rules : h.rules ≡ head.rules of s

-- the numbers of entries, which are few
pub record IsCounts (z : Counts) (s : List ℕ) : Type 0 where
  pub regions : z.regions ≡ count s regions
  pub properties : z.properties ≡ count s properties
  pub groups : z.groups ≡ count s groups
  pub users : z.users ≡ count s users
  pub few_regions : z.regions ≤ 16
  pub few_properties : z.properties ≤ 64
  pub few_groups : z.groups ≤ 64
  pub few_users : z.users ≤ 16
  pub fits : 32 + 8 * z.regions + 12 * z.properties + 8 * z.groups + 8 * z.users ≤ length s
  pub short : length s ≤ 16384

-- THE SHEET s IS WHAT THE PARTS u SAY
pub record Taken (s : List ℕ) (u : Parts) : Type 0 where
  pub front : IsHead u.head s
  pub counts : IsCounts u.counts s
  pub regions : (i : ℕ) → i < count s regions → IsRegion (get_or u.regions i no_region) s (base s regions + 8 * i)
  pub properties : (i : ℕ) → i < count s properties → IsProperty (get_or u.properties i no_property) s (base s properties + 12 * i)
  pub groups : (i : ℕ) → i < count s groups → IsGroup (get_or u.groups i no_group) s (base s groups + 8 * i)
  pub users : (i : ℕ) → i < count s users → IsRegion (get_or u.users i no_region) s (base s users + 8 * i)
  pub bodies : (p : ℕ) → contents s ≤ p → p < length s → get_or u.bodies p 0 ≡ get_or s p 0
  pub long : u.length ≡ length s
  -- all places of the arrays, those not in use too
  pub many : length u.properties ≡ 64
  pub room : length u.bodies ≡ 16384
