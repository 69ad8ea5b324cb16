-- S1 to S9 as nine propositions about a sheet, for a reader who trusts no rows.
use Rattle.std.specs.Prelude.{◌≡◌, ℕ, suc, ◌+◌, ◌/◌, ◌%◌, ◌<◌, ◌≤◌, List, length}
use Rattle.octets.specs.Bytes.{num_at}
use Rattle.sheet.specs.Kind.{regions, properties, groups, users, kinds}
use Rattle.sheet.specs.Layout.{◌of◌}
use Rattle.sheet.specs.Head as head
use Rattle.sheet.specs.Region as region
use Rattle.sheet.specs.Property as property
use Rattle.sheet.specs.Group as group
use Rattle.sheet.specs.Entries.{count, contents, entry, body_at, body_end, start_of}

abbrev pub S1 : List ℕ → Type 0
S1 s = (32 ≤ length s) × (length s ≤ 16384)

abbrev pub S2 : ℕ → List ℕ → Type 0
S2 ed s = (1 ≤ head.edition of s) × (head.edition of s ≤ ed)

abbrev pub S3 : List ℕ → Type 0
S3 s = (count s regions ≤ 16) × (count s properties ≤ 64) × (count s groups ≤ 64) × (count s users ≤ 16)

abbrev pub S4 : List ℕ → Type 0
S4 s = (head.stated of s ≡ length s) × (contents s ≤ length s)

abbrev pub S5 : List ℕ → Type 0
S5 s = (head.spare s ≡ 0) × (head.rules of s ≤ head.latest s) × (head.zero31 of s ≡ 0) × (head.flags of s ≤ 3)

-- levels: read in the high four bits, write in the low
abbrev pub Levels : ℕ → Type 0
Levels l = (l / 16 ≤ 3) × (l % 16 ≤ 3)

pub record Region (e : List ℕ) : Type 0 where
  pub filled : 1 ≤ region.length of e
  pub top : region.address of e + region.length of e ≤ 65536
  pub levels : Levels (region.levels of e)
  pub zero : region.zero of e ≡ 0

-- the regions of a memory, ordered among themselves
pub record Ordered (s : List ℕ) (k : ℕ) : Type 0 where
  pub each : (i : ℕ) → i < count s k → Region (entry s k i)
  pub after : (i : ℕ) → suc i < count s k → region.address of entry s k i + region.length of entry s k i ≤ region.address of entry s k (suc i)

abbrev pub S6 : List ℕ → Type 0
S6 s = Ordered s regions × Ordered s users

pub record Property (e : List ℕ) : Type 0 where
  pub id : 1 ≤ property.id of e
  pub bit6 : property.typ of e / 64 % 2 ≡ 0
  pub element : (1 ≤ property.element of e) × (property.element of e ≤ 10)
  pub maximum : (1 ≤ property.maximum of e) × (property.maximum of e ≤ 4095)
  pub count : property.count of e ≤ property.maximum of e
  pub levels : Levels (property.levels of e)
  pub zero : property.zero of e ≡ 0

pub record S7 (s : List ℕ) : Type 0 where
  pub each : (i : ℕ) → i < count s properties → Property (entry s properties i)
  pub rising : (i : ℕ) → suc i < count s properties → property.object_id of entry s properties i < property.object_id of entry s properties (suc i)

pub record Group (e : List ℕ) : Type 0 where
  pub address : 1 ≤ group.address of e
  pub code : group.code of e ≤ 14
  pub flags : group.flags of e ≤ 7
  pub zeros : group.zeros of e ≡ 0

pub record S8 (s : List ℕ) : Type 0 where
  pub each : (i : ℕ) → i < count s groups → Group (entry s groups i)
  pub rising : (i : ℕ) → suc i < count s groups → group.address of entry s groups i < group.address of entry s groups (suc i)

pub record S9 (s : List ℕ) : Type 0 where
  pub first : (k : ℕ) → k < kinds → 0 < count s k → body_at s k 0 ≡ start_of s k
  pub next : (k i : ℕ) → k < kinds → suc i < count s k → body_at s k (suc i) ≡ body_end s k i
  pub last : start_of s kinds ≡ length s
  pub six : (i : ℕ) → i < count s groups → group.code of entry s groups i ≡ 0 → num_at s (body_at s groups i) 1 < 64

-- HOW A SHEET IS JUDGED: by the first of the nine that it breaks, and by 0 if it breaks none
pub data Judged (ed : ℕ) (s : List ℕ) : ℕ → Type 0 where
  breaks1 : (S1 s → ⊥) → Judged ed s 1
  breaks2 : S1 s → (S2 ed s → ⊥) → Judged ed s 2
  breaks3 : S1 s → S2 ed s → (S3 s → ⊥) → Judged ed s 3
  breaks4 : S1 s → S2 ed s → S3 s → (S4 s → ⊥) → Judged ed s 4
  breaks5 : S1 s → S2 ed s → S3 s → S4 s → (S5 s → ⊥) → Judged ed s 5
  breaks6 : S1 s → S2 ed s → S3 s → S4 s → S5 s → (S6 s → ⊥) → Judged ed s 6
  breaks7 : S1 s → S2 ed s → S3 s → S4 s → S5 s → S6 s → (S7 s → ⊥) → Judged ed s 7
  breaks8 : S1 s → S2 ed s → S3 s → S4 s → S5 s → S6 s → S7 s → (S8 s → ⊥) → Judged ed s 8
  breaks9 : S1 s → S2 ed s → S3 s → S4 s → S5 s → S6 s → S7 s → S8 s → (S9 s → ⊥) → Judged ed s 9
  none : S1 s → S2 ed s → S3 s → S4 s → S5 s → S6 s → S7 s → S8 s → S9 s → Judged ed s 0
