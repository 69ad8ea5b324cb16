-- What the device stores for a datapoint, and what it answers: its bytes, or its six bits and data.
use Rattle.octets.proofs.Kit.{ℕ, ◌≤◌, ◌≡◌, sym, ap, ◌∙◌, List, [], length, arith}
use Rattle.octets.specs.{Bytes.num_at, Splice.splice}
use Rattle.sheet.specs.Layout.{◌of◌}
use Rattle.sheet.specs.Group as group
use Rattle.pdu.specs.declared.Pdu.{Pdu, TheVariants.{GroupValueRead, GroupValueResponse}}
use Rattle.points.specs.{Point.{type_of, width_at, number_of, point_bytes}, declared.Datapoint.{Datapoint, TheVariants.{Switch, Byte, Hundredths, Float as Single}}}
use Rattle.values.specs.Value.{six_bits, value_data}
use Rattle.device.specs.{Step.Step, Asked.{Asked, says, stores, Reads, given, part}, GroupsDue.{Group, Brings, Flag, group_entry}, Demand2.done}
use Rattle.device.proofs.due.RightGroups.{only_group_put0, only_group_put, only_group_read0, only_group_read}
use Rattle.delivery.specs.Delivery.{length_code}
use Rattle.delivery.proofs.Received.{length_point}

-- from six bits or from data
module _ (x : Asked) (p : Pdu) (flag i : ℕ) (r : Reads x p) (g : Group x i) (f : Flag (group_entry x i) flag) where
  abbrev after : List ℕ → Step
  after ds = stores x (splice x.sheet (group.offset of group_entry x i) ds)

  from_data :
      (v : ℕ) (d : Datapoint) → Brings p v flag → given x p ≡ point_bytes d → 1 ≤ width_at (type_of d) → group.code of group_entry x i ≡ width_at (type_of d) →
      after (point_bytes d) ≡ done x
  from_data v d b e l c =
      ap after (sym e) ∙ only_group_put x p v flag r b i g f (omega (arith, l, c)) (ap length e ∙ length_point d ∙ sym c)

  pub put : (d : Datapoint) → Brings p (six_bits d) flag → given x p ≡ value_data d → group.code of group_entry x i ≡ length_code (type_of d) → after (point_bytes d) ≡ done x
  unfolding six_bits value_data point_bytes
  put (Switch b) h e c = only_group_put0 x p (six_bits (Switch b)) flag r h i g f c e
  put (Byte n) h e c = from_data 0 (Byte n) h e (omega arith) c
  put (Hundredths z) h e c = from_data 0 (Hundredths z) h e (omega arith) c
  put (Single y) h e c = from_data 0 (Single y) h e (omega arith) c

-- in six bits or in data
module _ (y : Asked) (i : ℕ) (r : Reads y GroupValueRead) (g : Group y i) (f : Flag (group_entry y i) 1) where
  abbrev at : ℕ
  at = group.offset of group_entry y i

  in_data :
      (d : Datapoint) → part y.sheet at (width_at (type_of d)) ≡ point_bytes d → 1 ≤ width_at (type_of d) → group.code of group_entry y i ≡ width_at (type_of d) →
      says y 0 (GroupValueResponse 0) (point_bytes d) ≡ done y
  in_data d e l c =
      ap (says y 0 (GroupValueResponse 0)) (sym (ap (part y.sheet at) c ∙ e)) ∙ only_group_read y r i g f (omega (arith, l, c))

  pub tell :
      (d : Datapoint) → group.code of group_entry y i ≡ length_code (type_of d) → num_at y.sheet at (width_at (type_of d)) ≡ number_of d →
      part y.sheet at (width_at (type_of d)) ≡ point_bytes d → says y 0 (GroupValueResponse (six_bits d)) (value_data d) ≡ done y
  unfolding six_bits value_data
  tell (Switch b) c n e = ap (λ (v : ℕ). says y 0 (GroupValueResponse v) []) (sym n) ∙ only_group_read0 y r i g f c
  tell (Byte n) c m e = in_data (Byte n) e (omega arith) c
  tell (Hundredths z) c m e = in_data (Hundredths z) e (omega arith) c
  tell (Single x) c m e = in_data (Single x) e (omega arith) c
