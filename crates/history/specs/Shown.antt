-- WHAT A READ MAY SHOW, of a property and of memory: by the first sheet, the first sessions and the events alone.
use Rattle.std.specs.Prelude.{ℕ, ◌+◌, ◌*◌, ◌-◌, ◌<◌, ◌≤◌, ◌≡◌, List, [], ◌∷◌, Bool, true, false, cond, ◌&&◌, ◌||◌, length, get_or, ltb, eqb}
use Rattle.std.specs.Prelude.{Ok}
use Rattle.sheet.specs.Layout.{◌of◌}
use Rattle.sheet.specs.Property as property
use Rattle.sheet.specs.declared.Memory.{Memory}
use Rattle.pdu.specs.Read.{read_pdu}
use Rattle.pdu.specs.Write.{encoded}
use Rattle.pdu.specs.declared.Pdu.TheVariants.{PropertyValueRead, PropertyValueResponse}
use Rattle.device.specs.Octets.{Octets}
use Rattle.device.specs.Events.{Effect}
use Rattle.events.specs.Events.{Event, request}
use Rattle.device.specs.MemoryDue.{reading, response}
use Rattle.history.specs.Location.{memory, body}
use Rattle.history.specs.Span.{all, names}
use Rattle.history.specs.Wish.{Wish, change, write_memory, write_bits, write_property, write_key, offer_key, restart, other, nothing, restore_all}
use Rattle.history.specs.Permit.{level_for, may_read, entry_for, count_in, spans}
use Rattle.history.specs.History.{First, first_of, wished, supplied, level, content, permitted}
use Rattle.history.specs.Keeps.{Device, state_after, Begins, AllOctets}

-- the bytes of one element
abbrev pub element_of : First → ℕ → ℕ → ℕ
element_of f object id = property.element of entry_for f.sheet object id

-- the count of the property is written, and so cleared
abbrev pub clearing : ℕ → ℕ → Wish → Bool
clearing object id (change (write_memory m n a)) = false
clearing object id (change (write_bits n a)) = false
clearing object id (change (write_property o i n s)) = all (eqb o object ∷ eqb i id ∷ eqb s 0 ∷ [])
clearing object id (change (write_key level number)) = false
clearing object id (change restore_all) = false
clearing object id (offer_key number) = false
clearing object id restart = false
clearing object id (other o) = false
clearing object id nothing = false

-- all properties are restored
abbrev pub restoring : Wish → Bool
restoring (change (write_memory m n a)) = false
restoring (change (write_bits n a)) = false
restoring (change (write_property o i n s)) = false
restoring (change (write_key level number)) = false
restoring (change restore_all) = true
restoring (offer_key number) = false
restoring restart = false
restoring (other o) = false
restoring nothing = false

-- BYTE j OF ITS BODY IS GIVEN: the first sheet counted it, or the version that was restored last, or a permitted write has named it since, with its data or with the zeros
-- of an element that it jumped; and the count has not been cleared since
unfoldable pub given : First → ℕ → ℕ → ℕ → List Event → Bool
given f object id j [] = ltb j (count_in (first_of f.sheet) object id * element_of f object id)
given f object id j (e ∷ h) =
    cond (permitted f h e && restoring (wished e)) (ltb j (count_in (content f (e ∷ h)) object id * element_of f object id))
    (cond (permitted f h e && clearing object id (wished e)) false
    ((permitted f h e && names (spans f.sheet (content f h) (supplied e) (wished e)) (body object id j)) ||
    given f object id j h))

-- the answer shows n elements from element s on, each byte of them given, and it is what the history says
pub record Shows (f : First) (h : List Event) (object id n s : ℕ) (r : Effect) : Type 0 where
  pub bytes : List ℕ
  pub answer : r.answer ≡ encoded (PropertyValueResponse object id n s) bytes
  pub long : length bytes ≡ n * element_of f object id
  pub is_given : (k : ℕ) → k < length bytes → given f object id ((s - 1) * element_of f object id + k) h ≡ true
  pub holds :
      (k : ℕ) → k < length bytes → get_or bytes k 0 ≡ content f h (body object id ((s - 1) * element_of f object id + k))

-- WHAT IS SHOWN WAS WRITTEN: after every history, whenever a read of elements is carried out
abbrev pub ShownWasWritten : Device → Type 0
ShownWasWritten step =
    (f : First) (h : List Event) → Begins f → AllOctets h → (mode c g : ℕ) (a out : List ℕ) → Octets a →
    (object id n s : ℕ) → read_pdu a ≡ Ok (PropertyValueRead object id n s) → 1 ≤ s →
    (step f h (state_after step f h) (request mode c g a out)).outcome ≡ 0 →
    Shows f h object id n s (step f h (state_after step f h) (request mode c g a out))

-- the answer shows n bytes of a memory from address y on: each is there and may be read at the level that the history gives, and it is what the history says
pub record MemoryShows (f : First) (h : List Event) (mode c : ℕ) (m : Memory) (n y : ℕ) (r : Effect) : Type 0 where
  pub bytes : List ℕ
  pub answer : r.answer ≡ encoded (response m n y) bytes
  pub long : length bytes ≡ n
  pub may_be_read : (k : ℕ) → k < n → may_read f.sheet m (level_for mode (level f h c)) (y + k) ≡ true
  pub holds : (k : ℕ) → k < n → get_or bytes k 0 ≡ content f h (memory m (y + k))

-- WHAT IS SHOWN OF MEMORY IS WHAT THE HISTORY SAYS: after every history, whenever a read of either memory is carried out
abbrev pub MemoryShown : Device → Type 0
MemoryShown step =
    (f : First) (h : List Event) → Begins f → AllOctets h → (mode c g : ℕ) (a out : List ℕ) → Octets a →
    (m : Memory) (n y : ℕ) → read_pdu a ≡ Ok (reading m n y) →
    (step f h (state_after step f h) (request mode c g a out)).outcome ≡ 0 →
    MemoryShows f h mode c m n y (step f h (state_after step f h) (request mode c g a out))
