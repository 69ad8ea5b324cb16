-- WHAT IS DUE FOR A PROPERTY: read, written, described.
use Rattle.std.specs.Prelude.{ℕ, ◌+◌, ◌*◌, ◌-◌, ◌/◌, ◌%◌, ◌≤◌, ◌<◌, max, ◌≡◌, List, [], ◌∷◌, length, replicate}
use Rattle.octets.specs.Bytes.{bytes_of}
use Rattle.octets.specs.Splice.{splice}
use Rattle.sheet.specs.Kind.{properties}
use Rattle.sheet.specs.Layout.{◌of◌}
use Rattle.sheet.specs.Property as property
use Rattle.sheet.specs.Entries.{count, place, entry}
use Rattle.sheet.specs.Lookup.{rank}
use Rattle.sheet.specs.Places.{PropertyWith}
use Rattle.pdu.specs.declared.Pdu.TheVariants.{PropertyValueRead, PropertyValueWrite, PropertyDescriptionRead, PropertyValueResponse, PropertyDescriptionResponse}
use Rattle.device.specs.Step.{Step}
use Rattle.device.specs.Asked.{Asked, says, says_after, Reads, given, Acts, part}

-- entry i among the properties of the sheet that the request meets
abbrev pub property_entry : Asked → ℕ → List ℕ
property_entry x i = entry x.sheet properties i

-- n elements from element s on, counted from 1, are among the first m
pub record Elements (m n s : ℕ) : Type 0 where
  pub start : 1 ≤ s
  pub some : 1 ≤ n
  pub end : s + n - 1 ≤ m

-- where element s stands
abbrev pub element_at : List ℕ → ℕ → ℕ
element_at e s = property.offset of e + (s - 1) * property.element of e

-- the elements that a write from element s on jumps, those after the counted ones, become zero bytes
abbrev pub zeroed : List ℕ → List ℕ → ℕ → List ℕ
zeroed t e s = splice t (element_at e (property.count of e + 1)) (replicate ((s - 1 - property.count of e) * property.element of e) 0)

pub record Readable (x : Asked) (object id i : ℕ) : Type 0 where
  pub found : PropertyWith x.sheet object id i
  pub level : ℕ
  pub acts : Acts x level
  pub suffices : level ≤ property.levels of property_entry x i / 16

pub data ReadAllowed (x : Asked) (object id n s : ℕ) : Type 0 where
  of_count : (i : ℕ) → Readable x object id i → s ≡ 0 → n ≡ 1 → ReadAllowed x object id n s
  of_elements : (i : ℕ) → Readable x object id i → Elements (property.count of property_entry x i) n s →
      n * property.element of property_entry x i ≤ 10 → ReadAllowed x object id n s

pub record Writable (x : Asked) (object id i : ℕ) : Type 0 where
  pub found : PropertyWith x.sheet object id i
  pub bit7 : property.typ of property_entry x i / 128 ≡ 1
  pub level : ℕ
  pub acts : Acts x level
  pub suffices : level ≤ property.levels of property_entry x i % 16

pub data WriteAllowed (x : Asked) (object id n s : ℕ) (d : List ℕ) : Type 0 where
  of_count : (i : ℕ) → Writable x object id i → s ≡ 0 → n ≡ 1 → d ≡ 0 ∷ 0 ∷ [] → WriteAllowed x object id n s d
  of_elements : (i : ℕ) → Writable x object id i → Elements (property.maximum of property_entry x i) n s →
      length d ≡ n * property.element of property_entry x i → WriteAllowed x object id n s d

-- the property that a description is asked of: by id, or where that is 0 by its index within the object
pub data Described (x : Asked) (object id index i : ℕ) : Type 0 where
  by_id : (id ≡ 0 → ⊥) → PropertyWith x.sheet object id i → Described x object id index i
  by_index : id ≡ 0 → i < count x.sheet properties → property.object of property_entry x i ≡ object → rank x.sheet object i ≡ index →
      Described x object id index i

-- THE STEP THAT IS DUE
pub data PropertiesDue (x : Asked) : Step → Type 0 where
  property_count : (object id i : ℕ) → Reads x (PropertyValueRead object id 1 0) → Readable x object id i →
      PropertiesDue x (says x 0 (PropertyValueResponse object id 1 0) (bytes_of 2 (property.count of property_entry x i)))
  property_read : (object id n s i : ℕ) → Reads x (PropertyValueRead object id n s) → Readable x object id i →
      Elements (property.count of property_entry x i) n s → n * property.element of property_entry x i ≤ 10 →
      PropertiesDue x (says x 0 (PropertyValueResponse object id n s)
      (part x.sheet (element_at (property_entry x i) s) (n * property.element of property_entry x i)))
  no_property_read : (object id n s : ℕ) → Reads x (PropertyValueRead object id n s) → (ReadAllowed x object id n s → ⊥) →
      PropertiesDue x (says x 11 (PropertyValueResponse object id 0 s) [])
  property_clear : (object id i : ℕ) → Reads x (PropertyValueWrite object id 1 0) → Writable x object id i →
      given x (PropertyValueWrite object id 1 0) ≡ 0 ∷ 0 ∷ [] →
      PropertiesDue x (says_after x (splice x.sheet (place x.sheet properties i + (property.count).at) (0 ∷ 0 ∷ []))
      (PropertyValueResponse object id 1 0) (0 ∷ 0 ∷ []))
  property_write : (object id n s i : ℕ) (d : List ℕ) → Reads x (PropertyValueWrite object id n s) → Writable x object id i →
      d ≡ given x (PropertyValueWrite object id n s) → Elements (property.maximum of property_entry x i) n s →
      length d ≡ n * property.element of property_entry x i →
      PropertiesDue x (says_after x
      (splice (splice (zeroed x.sheet (property_entry x i) s) (element_at (property_entry x i) s) d)
      (place x.sheet properties i + (property.count).at) (bytes_of 2 (max (property.count of property_entry x i) (s + n - 1))))
      (PropertyValueResponse object id n s) d)
  no_property_write : (object id n s : ℕ) → Reads x (PropertyValueWrite object id n s) →
      (WriteAllowed x object id n s (given x (PropertyValueWrite object id n s)) → ⊥) →
      PropertiesDue x (says x 11 (PropertyValueResponse object id 0 s) [])
  description : (object id index i : ℕ) → Reads x (PropertyDescriptionRead object id index) → Described x object id index i →
      PropertiesDue x (says x 0 (PropertyDescriptionResponse object (property.id of property_entry x i) (rank x.sheet object i)
      (property.typ of property_entry x i) (property.maximum of property_entry x i) (property.levels of property_entry x i)) [])
  no_description : (object id index : ℕ) → Reads x (PropertyDescriptionRead object id index) → ((i : ℕ) → Described x object id index i → ⊥) →
      PropertiesDue x (says x 11 (PropertyDescriptionResponse object id index 0 0 0) [])
