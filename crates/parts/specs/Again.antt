-- The bytes of records, and what is restored when they are written.
use Rattle.std.specs.Prelude.{ℕ, ◌+◌, ◌*◌, ◌%◌, ◌<◌, ◌≤◌, ◌≡◌, List, Bool, cond, length, get_or}
use Rattle.octets.specs.Bytes.{num_at}
use Rattle.octets.specs.Octets.{Octets}
use Rattle.parts.specs.declared.Region.{Region}
use Rattle.parts.specs.declared.Property.{Property}
use Rattle.parts.specs.declared.Group.{Group}
use Rattle.parts.specs.declared.Head.{Head}
use Rattle.parts.specs.declared.Counts.{Counts}
use Rattle.parts.specs.declared.Parts.{Parts}
use Rattle.parts.specs.Records.{IsRegion, IsProperty, IsGroup, no_region, no_property, no_group}

abbrev pub levels_of : ℕ → ℕ → ℕ
levels_of r w = r % 16 * 16 + w % 16

-- a bit of that weight, where it is set
abbrev pub bit_of : Bool → ℕ → ℕ
bit_of b w = cond b w 0

abbrev pub type_of : Property → ℕ
type_of e = e.typ % 128 + bit_of e.writable 128

abbrev pub group_flags : Group → ℕ
group_flags e = bit_of e.read 1 + bit_of e.write 2 + bit_of e.response 4

abbrev pub head_flags : Head → ℕ
head_flags h = bit_of h.programming 1 + bit_of h.verify 2

-- the entry at a place has the fields of e, zero bytes after them, and no bits but those named
pub record WholeRegion (e : Region) (at : ℕ) (s : List ℕ) : Type 0 where
  pub is : IsRegion e s at
  pub zero : num_at s (at + 7) 1 ≡ 0

pub record WholeProperty (e : Property) (at : ℕ) (s : List ℕ) : Type 0 where
  pub is : IsProperty e s at
  pub zero : num_at s (at + 11) 1 ≡ 0

pub record WholeGroup (e : Group) (at : ℕ) (s : List ℕ) : Type 0 where
  pub is : IsGroup e s at
  pub flags : group_flags e ≡ num_at s (at + 3) 1
  pub zeros : num_at s (at + 6) 2 ≡ 0

-- t has the first n bytes of s
pub record SameFront (t s : List ℕ) (n : ℕ) : Type 0 where
  pub long : length t ≡ length s
  pub front : (p : ℕ) → p < n → get_or t p 0 ≡ get_or s p 0

-- if t has the bytes of a sheet up to a, then t' has them up to b, of every sheet of which P holds
pub record Restores (P : List ℕ → Type 0) (t t' : List ℕ) (a b : ℕ) : Type 0 where
  pub restored : (s : List ℕ) → Octets s → P s → SameFront t s a → SameFront t' s b

pub record Each (n : ℕ) (P : ℕ → List ℕ → Type 0) (s : List ℕ) : Type 0 where
  pub each : (i : ℕ) → i < n → P i s

-- the number in the w bytes from a place on is x
pub record IsAt (at w x : ℕ) (s : List ℕ) : Type 0 where
  pub is : x ≡ num_at s at w

-- the keys, and the head, field by field
pub record WholeKeys (ks : List ℕ) (s : List ℕ) : Type 0 where
  pub key0 : get_or ks 0 0 ≡ num_at s 18 4
  pub key1 : get_or ks 1 0 ≡ num_at s 22 4
  pub key2 : get_or ks 2 0 ≡ num_at s 26 4

pub record WholeHead (h : Head) (z : Counts) (n : ℕ) (s : List ℕ) : Type 0 where
  pub edition : 2 ≡ num_at s 0 1
  pub regions : z.regions ≡ num_at s 1 1
  pub properties : z.properties ≡ num_at s 2 1
  pub groups : z.groups ≡ num_at s 3 1
  pub stated : n ≡ num_at s 4 2
  pub serial : h.serial ≡ num_at s 6 6
  pub mask : h.mask ≡ num_at s 12 2
  pub flags : head_flags h ≡ num_at s 14 1
  pub users : z.users ≡ num_at s 15 1
  pub address : h.address ≡ num_at s 16 2
  pub keys : WholeKeys h.keys s
  pub rules : h.rules ≡ num_at s 30 1
  pub zero : 0 ≡ num_at s 31 1

pub record WholeBodies (from : ℕ) (b : List ℕ) (n : ℕ) (s : List ℕ) : Type 0 where
  pub each : (p : ℕ) → from ≤ p → p < n → get_or b p 0 ≡ get_or s p 0

-- where the entries of each kind begin, and where the bodies do
abbrev pub second : Counts → ℕ
second z = 32 + 8 * z.regions

abbrev pub third : Counts → ℕ
third z = second z + 12 * z.properties

abbrev pub fourth : Counts → ℕ
fourth z = third z + 8 * z.groups

abbrev pub end : Counts → ℕ
end z = fourth z + 8 * z.users

pub record WholeEntries (u : Parts) (s : List ℕ) : Type 0 where
  pub regions : Each u.counts.regions (λ i s. WholeRegion (get_or u.regions i no_region) (32 + 8 * i) s) s
  pub properties : Each u.counts.properties (λ i s. WholeProperty (get_or u.properties i no_property) (second u.counts + 12 * i) s) s
  pub groups : Each u.counts.groups (λ i s. WholeGroup (get_or u.groups i no_group) (third u.counts + 8 * i) s) s
  pub users : Each u.counts.users (λ i s. WholeRegion (get_or u.users i no_region) (fourth u.counts + 8 * i) s) s

-- s is the sheet of the parts u, byte by byte
pub record Whole (u : Parts) (s : List ℕ) : Type 0 where
  pub front : WholeHead u.head u.counts u.length s
  pub entries : WholeEntries u s
  pub bodies : WholeBodies (end u.counts) u.bodies u.length s

-- the parts fit a buffer of n bytes
pub record Roomy (u : Parts) (n : ℕ) : Type 0 where
  pub regions : u.counts.regions ≤ 16
  pub properties : u.counts.properties ≤ 64
  pub groups : u.counts.groups ≤ 64
  pub users : u.counts.users ≤ 16
  pub contents : end u.counts ≤ u.length
  pub short : u.length ≤ 16384
  pub long : u.length ≡ n
  pub room : length u.bodies ≡ 16384
