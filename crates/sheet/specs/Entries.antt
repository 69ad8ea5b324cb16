-- The entries of a sheet by kind and number, and their bodies.
use Rattle.std.specs.Prelude.{ℕ, zero, suc, ◌+◌, ◌*◌, ◌<◌, ◌≤◌, max, cond, List, take, drop, nat_le}
use Rattle.octets.specs.Bytes.{num_at}
use Rattle.sheet.specs.Kind.{by_kind, kinds}
use Rattle.sheet.specs.Layout.{◌of◌}
use Rattle.sheet.specs.Head as head
use Rattle.sheet.specs.Region as region
use Rattle.sheet.specs.Property as property
use Rattle.sheet.specs.Group as group

-- how many entries of a kind there are, and how long one is
abbrev pub count : List ℕ → ℕ → ℕ
count s zero = head.regions of s
count s (suc zero) = head.properties of s
count s (suc (suc zero)) = head.groups of s
count s (suc (suc (suc k))) = head.users s

abbrev pub size : ℕ → ℕ
size k = by_kind k region.size property.size group.size

-- where the entries of a kind begin: after the head, and after those of the kinds before
abbrev pub base : List ℕ → ℕ → ℕ
base s zero = head.size
base s (suc k) = base s k + size k * count s k

-- where entry i of a kind stands, and where the contents end
abbrev pub place : List ℕ → ℕ → ℕ → ℕ
place s k i = base s k + size k * i

abbrev pub contents : List ℕ → ℕ
contents s = base s kinds

-- entry i of a kind, as its own bytes
unfoldable pub entry : List ℕ → ℕ → ℕ → List ℕ
entry s k i = take (size k) (drop (place s k i) s)

-- the first word of an entry: where a region starts, object and id of a property, the address of a group object
unfoldable pub key_of : List ℕ → ℕ → ℕ → ℕ
key_of s k i = by_kind k region.address property.object_id group.address of entry s k i

-- the least first word that the entry after e may have: a region's end, one more than the key of another
abbrev pub floor_after : ℕ → List ℕ → ℕ
floor_after k e =
    by_kind k (region.address of e + region.length of e) (property.object_id of e + 1) (group.address of e + 1)

unfoldable pub floor : List ℕ → ℕ → ℕ → ℕ
floor s k zero = 0
floor s k (suc i) = floor_after k (entry s k i)

-- where the body of an entry e starts, and how long it is
abbrev pub offset_of : ℕ → List ℕ → ℕ
offset_of k e = by_kind k (region.offset of e) (property.offset of e) (group.offset of e)

abbrev pub length_of : ℕ → List ℕ → ℕ
length_of k e = by_kind k (region.length of e) (property.element of e * property.maximum of e) (max 1 (group.code of e))

-- where body i of a kind starts and ends
unfoldable pub body_at : List ℕ → ℕ → ℕ → ℕ
body_at s k i = offset_of k (entry s k i)

unfoldable pub body_end : List ℕ → ℕ → ℕ → ℕ
body_end s k i = offset_of k (entry s k i) + length_of k (entry s k i)

-- where the body before body i of kind k ended, z being where the kind's bodies begin
abbrev pub end_from : List ℕ → ℕ → ℕ → ℕ → ℕ
end_from s k z zero = z
end_from s k z (suc i) = body_end s k i

-- where the bodies of kind k begin: after the contents, and after those of the kinds before
unfoldable pub start_of : List ℕ → ℕ → ℕ
start_of s zero = contents s
start_of s (suc k) = end_from s k (start_of s k) (count s k)

unfoldable pub reached : List ℕ → ℕ → ℕ → ℕ
reached s k i = end_from s k (start_of s k) i

-- the byte of a code-0 group object; 0 for any other entry
unfoldable pub six_bits : List ℕ → ℕ → List ℕ → ℕ
six_bits s k e = by_kind k 0 0 (cond (nat_le 1 (group.code of e)) 0 (num_at s (group.offset of e) 1))

-- position p lies in body i of kind k
pub record InBody (s : List ℕ) (k i p : ℕ) : Type 0 where
  pub kind : k < kinds
  pub below : i < count s k
  pub from : body_at s k i ≤ p
  pub to : p < body_end s k i
