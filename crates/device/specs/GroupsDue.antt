-- WHAT IS DUE FOR A GROUP VALUE: read, written, brought by a Response.
use Rattle.std.specs.Prelude.{ℕ, ◌/◌, ◌%◌, ◌≤◌, ◌<◌, ◌≡◌, List, [], length}
use Rattle.octets.specs.Bytes.{num_at, bytes_of}
use Rattle.octets.specs.Splice.{splice}
use Rattle.sheet.specs.Kind.{groups}
use Rattle.sheet.specs.Layout.{◌of◌}
use Rattle.sheet.specs.Group as group
use Rattle.sheet.specs.Entries.{count, entry}
use Rattle.pdu.specs.declared.Pdu.{Pdu}
use Rattle.pdu.specs.declared.Pdu.TheVariants.{GroupValueRead, GroupValueResponse, GroupValueWrite}
use Rattle.device.specs.Step.{Step}
use Rattle.device.specs.Asked.{Asked, quiet, says, stores, Reads, given, part}

-- entry i among the group objects of the sheet that the request meets
abbrev pub group_entry : Asked → ℕ → List ℕ
group_entry x i = entry x.sheet groups i

-- group object i has the address
pub record Group (x : Asked) (i : ℕ) : Type 0 where
  pub there : i < count x.sheet groups
  pub address : group.address of group_entry x i ≡ x.group

-- p brings the six bits v to a group object that has the flag: 2 write, 4 take a Response
pub data Brings : Pdu → ℕ → ℕ → Type 0 where
  write : (v : ℕ) → Brings (GroupValueWrite v) v 2
  response : (v : ℕ) → Brings (GroupValueResponse v) v 4

abbrev pub Flag : List ℕ → ℕ → Type 0
Flag e f = group.flags of e / f % 2 ≡ 1

-- THE STEP THAT IS DUE
pub data GroupsDue (x : Asked) : Step → Type 0 where
  group_read0 : (i : ℕ) → Reads x GroupValueRead → Group x i → Flag (group_entry x i) 1 → group.code of group_entry x i ≡ 0 →
      GroupsDue x (says x 0 (GroupValueResponse (num_at x.sheet (group.offset of group_entry x i) 1)) [])
  group_read : (i : ℕ) → Reads x GroupValueRead → Group x i → Flag (group_entry x i) 1 → 1 ≤ group.code of group_entry x i →
      GroupsDue x (says x 0 (GroupValueResponse 0) (part x.sheet (group.offset of group_entry x i) (group.code of group_entry x i)))
  no_group_read : Reads x GroupValueRead → ((i : ℕ) → Group x i → Flag (group_entry x i) 1 → ⊥) → GroupsDue x (quiet x 2)
  group_put0 : (p : Pdu) (v f i : ℕ) → Reads x p → Brings p v f → Group x i → Flag (group_entry x i) f →
      group.code of group_entry x i ≡ 0 → given x p ≡ [] →
      GroupsDue x (stores x (splice x.sheet (group.offset of group_entry x i) (bytes_of 1 v)))
  group_put : (p : Pdu) (v f i : ℕ) → Reads x p → Brings p v f → Group x i → Flag (group_entry x i) f →
      1 ≤ group.code of group_entry x i → length (given x p) ≡ group.code of group_entry x i →
      GroupsDue x (stores x (splice x.sheet (group.offset of group_entry x i) (given x p)))
  group_length : (p : Pdu) (v f i : ℕ) → Reads x p → Brings p v f → Group x i → Flag (group_entry x i) f →
      (length (given x p) ≡ group.code of group_entry x i → ⊥) → GroupsDue x (quiet x 10)
  no_group_put : (p : Pdu) (v f : ℕ) → Reads x p → Brings p v f → ((i : ℕ) → Group x i → Flag (group_entry x i) f → ⊥) → GroupsDue x (quiet x 2)
