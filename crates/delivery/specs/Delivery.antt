-- A DATAPOINT DELIVERED: how it is sent to a group object, what is then so, and what a read of the object is told.
use Rattle.std.specs.Prelude.{ℕ, ◌≤◌, ◌≡◌, cond, []}
use Rattle.std.specs.Prelude.{Ok}
use Rattle.sheet.specs.Layout.{◌of◌}
use Rattle.sheet.specs.Group as group
use Rattle.sheet.specs.Rules.{Accepted}
use Rattle.sheet.specs.Lookup.{group_of}
use Rattle.pdu.specs.Read.{read_pdu, data_of}
use Rattle.pdu.specs.Write.{encoded}
use Rattle.pdu.specs.declared.Pdu.{Pdu}
use Rattle.pdu.specs.declared.Pdu.TheVariants.{GroupValueRead, GroupValueResponse}
use Rattle.points.specs.Point.{type_of, width_at, read_point, refusal_of, point_bytes, Typed, as_written}
use Rattle.points.specs.declared.Datapoint.{Datapoint}
use Rattle.values.specs.Value.{short, six_bits, value_data, read_value}
use Rattle.judge.specs.Session.{multicast}
use Rattle.device.specs.Octets.{Octets}
use Rattle.device.specs.Step.{Step}
use Rattle.device.specs.Asked.{Asked}
use Rattle.device.specs.GroupsDue.{Group, Brings, Flag, group_entry}

-- THE LENGTH CODE OF A GROUP OBJECT for values of a type: 0 for those that stand in the six bits, else their bytes
abbrev pub length_code : ℕ → ℕ
length_code t = cond (short t) 0 (width_at t)

-- x sends d as p, a Write or a Response, which a group object with the flag takes: the tool's bytes, in multicast, with room for an answer, on an accepted sheet
pub record Sends (x : Asked) (d : Datapoint) (p : Pdu) (flag : ℕ) : Type 0 where
  pub brings : Brings p (six_bits d) flag
  pub apdu : x.apdu ≡ encoded p (value_data d)
  pub mode : x.mode ≡ multicast
  pub buffer : 16 ≤ x.room
  pub octets : Octets x.sheet
  pub accepted : Accepted x.sheet

-- group object i has the address that x names, and the flag f
pub record Flagged (x : Asked) (i f : ℕ) : Type 0 where
  pub object : Group x i
  pub flag : Flag (group_entry x i) f

-- its length code is the one for values of d's type, and d can be written
pub record Suits (x : Asked) (i : ℕ) (d : Datapoint) : Type 0 where
  pub code : group.code of group_entry x i ≡ length_code (type_of d)
  pub typed : Typed d
  pub writable : refusal_of d ≡ 0

-- WHAT IS SO AFTER THE STEP r: carried out, no answer, the session as found; the sheet still accepted, and the object's body, as a lookup by the address hands it out, is d's bytes and says d
pub record Delivered (x : Asked) (d : Datapoint) (r : Step) : Type 0 where
  pub outcome : r.outcome ≡ 1
  pub answer : r.answer ≡ []
  pub session : r.session ≡ x.session
  pub accepted : Accepted r.sheet
  pub body : group_of r.sheet x.group ≡ point_bytes d
  pub says : read_point (type_of d) (group_of r.sheet x.group) ≡ Ok (as_written d)

-- y then reads the object: a GroupValue_Read of the same address, on the sheet that r left
pub record Asks (x y : Asked) (r : Step) : Type 0 where
  pub reads : read_pdu y.apdu ≡ Ok GroupValueRead
  pub octets : Octets y.apdu
  pub mode : y.mode ≡ multicast
  pub address : y.group ≡ x.group
  pub buffer : 16 ≤ y.room
  pub sheet : y.sheet ≡ r.sheet

-- WHAT y IS TOLD BY THE STEP r: a GroupValue_Response whose six bits and data say d; session and sheet as found
pub record Told (y : Asked) (d : Datapoint) (r : Step) : Type 0 where
  pub outcome : r.outcome ≡ 0
  pub reads : read_pdu r.answer ≡ Ok (GroupValueResponse (six_bits d))
  pub bytes : data_of (GroupValueResponse (six_bits d)) r.answer ≡ value_data d
  pub says : read_value (type_of d) (six_bits d) (value_data d) ≡ Ok (as_written d)
  pub session : r.session ≡ y.session
  pub sheet : r.sheet ≡ y.sheet
