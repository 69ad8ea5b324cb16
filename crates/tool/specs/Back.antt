-- What reading gives back of a flat PDU that was written, and when a flat PDU is one of C's.
use Rattle.std.specs.Prelude.{ℕ, ◌<◌, ◌≡◌, ◌⊎◌, List, [], ◌∷◌, take, drop}
use Rattle.std.proofs.Math.Option.{some}
use Rattle.std.proofs.Math.ListN.{get_elem?}
use Rattle.pdu.specs.Item.{Name, Item, low, num, cap, duo, skip, the}
use Rattle.pdu.specs.Table.{row_of, services}
use Rattle.pdu.specs.declared.Service.{Service}
use Rattle.tool.specs.Flat.{fields_in}
use Rattle.tool.specs.declared.FlatPdu.{FlatPdu}

-- each field is a number of its C type: what every flat PDU that C lends is
pub record InC (f : FlatPdu) : Type 0 where
  pub key : f.key < 4294967296
  pub address : f.address < 65536
  pub domain : f.domain < 65536
  pub n : f.n < 256
  pub object : f.object < 256
  pub id : f.id < 256
  pub index : f.index < 256
  pub typ : f.typ < 256
  pub access : f.access < 256
  pub level : f.level < 256

-- one of the items has a field of that name
abbrev pub Has : List Item → Name → Type 0
Has [] f = ⊥
Has (low g m ∷ is) f = (g ≡ f) ⊎ Has is f
Has (num g w ∷ is) f = (g ≡ f) ⊎ Has is f
Has (cap g w m ∷ is) f = (g ≡ f) ⊎ Has is f
Has (duo g h ∷ is) f = (g ≡ f) ⊎ (h ≡ f) ⊎ Has is f
Has (skip w ∷ is) f = Has is f

-- g IS WHAT READING THE BYTES b GIVES BACK of f and its data: the same kind, the same fields of its row, and the same data
pub record GivenBack (f : FlatPdu) (d b : List ℕ) (g : FlatPdu) : Type 0 where
  pub outcome : g.outcome ≡ 0
  pub kind : g.kind ≡ f.kind
  pub fields : (k : Service) (name : Name) → get_elem? services f.kind ≡ some k → Has (row_of k).items name → the (fields_in g) name ≡ the (fields_in f) name
  pub rest : take g.data_length (drop g.data_offset b) ≡ d
