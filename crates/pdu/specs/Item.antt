-- What a row of the service table is made of.
use Rattle.std.specs.Prelude.{ℕ, List, [], ◌∷◌, Bool, cond, eqb}

-- The names of the fields, as the table has them. V6 is v, the six bits of a group value; Typ is a property's type.
pub data Name : Type 0 where
  V6 Address Serial Domain T Object Id N S Index Typ Maximum Access Level Key : Name

-- each by a number of its own
abbrev pub name_number : Name → ℕ
name_number V6 = 0
name_number Address = 1
name_number Serial = 2
name_number Domain = 3
name_number T = 4
name_number Object = 5
name_number Id = 6
name_number N = 7
name_number S = 8
name_number Index = 9
name_number Typ = 10
name_number Maximum = 11
name_number Access = 12
name_number Level = 13
name_number Key = 14

abbrev pub same : Name → Name → Bool
same a b = eqb (name_number a) (name_number b)

-- What stands in a PDU, in order.
pub data Item : Type 0 where
  -- a field in the low bits of the code, below that number
  low : Name → ℕ → Item
  -- a field of that many bytes
  num : Name → ℕ → Item
  -- a field of that many bytes that is below that number
  cap : Name → ℕ → ℕ → Item
  -- two fields in two bytes: four bits, then twelve
  duo : Name → Name → Item
  -- that many bytes of no meaning: any on reading, 0 on writing
  skip : ℕ → Item

-- How many bytes of data follow.
pub data Tail : Type 0 where
  none : Tail
  -- as many as the field says, and twice as many
  by twice : Name → Tail
  -- from .. to
  between : ℕ → ℕ → Tail
  -- of a group value: none with any value in that field, or some with 0 in it
  group : Name → Tail

-- The first code, how many codes, the items, the data.
pub record Row : Type 0 where
  pub base : ℕ
  pub span : ℕ
  pub items : List Item
  pub tail : Tail

abbrev pub row : ℕ → ℕ → List Item → Tail → Row
row b n is t = record { base = b; span = n; items = is; tail = t }

-- A field with its number.
pub record Value : Type 0 where
  pub name : Name
  pub number : ℕ

infix 70 ◌≔◌
abbrev pub ◌≔◌ : Name → ℕ → Value
f ≔ x = record { name = f; number = x }

-- the number of a field, 0 where it is not among them
abbrev pub the : List Value → Name → ℕ
the [] f = 0
the (v ∷ vs) f = cond (same v.name f) v.number (the vs f)
