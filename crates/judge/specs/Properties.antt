-- Property values and descriptions.
use Rattle.std.specs.Prelude.{ℕ, ◌+◌, ◌*◌, ◌-◌, ◌/◌, ◌%◌, max, List, Bool, cond, ◌&&◌, ltb, leb, eqb, length}
use Rattle.octets.specs.Bytes.{num_at}
use Rattle.sheet.specs.Kind.{properties}
use Rattle.sheet.specs.Layout.{◌of◌}
use Rattle.sheet.specs.Property as property
use Rattle.sheet.specs.Entries.{count, place, entry}
use Rattle.sheet.specs.Lookup.{index_of, nth_of, rank}
use Rattle.pdu.specs.declared.Pdu.TheVariants.{PropertyValueResponse, PropertyDescriptionResponse}
use Rattle.judge.specs.declared.Store.TheVariants as store
use Rattle.judge.specs.declared.Answer.TheVariants as answer
use Rattle.judge.specs.declared.Decision.{Decision}
use Rattle.judge.specs.Decisions.{denied, answered, written}

-- how many bytes of data a PDU has at most
abbrev pub most : ℕ
most = 10

-- n elements from element s on, counted from 1, are among the first m
abbrev pub elements : ℕ → ℕ → ℕ → Bool
elements n s m = leb 1 s && leb 1 n && leb (s + n - 1) m

-- the count is asked for
abbrev pub counted : ℕ → ℕ → Bool
counted n s = eqb s 0 && eqb n 1

-- where element s of the body from o on stands, each element having z bytes
abbrev pub element_at : ℕ → ℕ → ℕ → ℕ
element_at o z s = o + (s - 1) * z

-- how many elements a write from element s on jumps, the first c being counted
abbrev pub jumped : ℕ → ℕ → ℕ
jumped c s = s - 1 - c

-- the index of the property with that object and id, the count of properties where there is none
abbrev pub property_at : List ℕ → ℕ → ℕ → ℕ
property_at s object id = index_of s properties (object * 256 + id)

-- what is answered to a denied read or write
abbrev pub no_value : ℕ → ℕ → ℕ → Decision
no_value object id s = denied (PropertyValueResponse object id 0 s)

-- a read at this level of the property of entry e: its elements as far as they are counted
unfoldable pub read_in : List ℕ → ℕ → ℕ → ℕ → ℕ → ℕ → Decision
read_in e level object id n s =
    cond (leb level (property.levels of e / 16))
    (cond (counted n s)
    (answered (answer.Number (PropertyValueResponse object id n s) (property.count).width (property.count of e)))
    (cond (elements n s (property.count of e) && leb (n * property.element of e) most)
    (answered
    (answer.Sheet (PropertyValueResponse object id n s) (element_at (property.offset of e) (property.element of e) s)
    (n * property.element of e)))
    (no_value object id s)))
    (no_value object id s)

unfoldable pub property_read_of : List ℕ → ℕ → ℕ → ℕ → ℕ → ℕ → Decision
property_read_of sheet level object id n s =
    let i = property_at sheet object id in
    cond (ltb i (count sheet properties)) (read_in (entry sheet properties i) level object id n s) (no_value object id s)

-- the property may be written at this level
abbrev pub writable : List ℕ → ℕ → Bool
writable e level = eqb (property.typ of e / 128) 1 && leb level (property.levels of e % 16)

-- a write of data d at this level to the property of entry e, which stands at p: one run, the elements that it jumps
-- as zeros and then the data
unfoldable pub write_in : List ℕ → ℕ → ℕ → ℕ → ℕ → ℕ → ℕ → List ℕ → Decision
write_in e p level object id n s d =
    cond (writable e level)
    (cond (counted n s && eqb (length d) (property.count).width && eqb (num_at d 0 (property.count).width) 0)
    (written (store.Fill (p + (property.count).at) (property.count).width 0) store.Nothing
    (answer.Echo (PropertyValueResponse object id n s)))
    (cond (elements n s (property.maximum of e) && eqb (length d) (n * property.element of e))
    (written
    (store.Data (jumped (property.count of e) s * property.element of e)
    (element_at (property.offset of e) (property.element of e) (s - jumped (property.count of e) s)))
    (store.Number (p + (property.count).at) (property.count).width (max (property.count of e) (s + n - 1)))
    (answer.Echo (PropertyValueResponse object id n s)))
    (no_value object id s)))
    (no_value object id s)

unfoldable pub property_write_of : List ℕ → ℕ → ℕ → ℕ → ℕ → ℕ → List ℕ → Decision
property_write_of sheet level object id n s d =
    let i = property_at sheet object id in
    cond (ltb i (count sheet properties))
    (write_in (entry sheet properties i) (place sheet properties i) level object id n s d)
    (no_value object id s)

-- an id other than 0 decides; id 0 means the index within the object
unfoldable pub described_at : List ℕ → ℕ → ℕ → ℕ → ℕ
described_at s object id index = cond (eqb id 0) (nth_of s object index) (property_at s object id)

unfoldable pub description_of : List ℕ → ℕ → ℕ → ℕ → Decision
description_of s object id index =
    let i = described_at s object id index in
    cond (ltb i (count s properties))
    (let e = entry s properties i in
    answered
    (answer.Plain
    (PropertyDescriptionResponse (property.object of e) (property.id of e) (rank s (property.object of e) i) (property.typ of e)
    (property.maximum of e) (property.levels of e))))
    (denied (PropertyDescriptionResponse object id index 0 0 0))
