-- WRONG DEVICES that tell a tool without the key what it may not read: trials, to hold against `Unlearned` (`TellersRefuted`).
use Rattle.octets.proofs.Kit.{ℕ, ◌+◌, List, [], ◌∷◌, ◌++◌, cond, ◌&&◌, get_or, take, drop, leb, eqb}
use Rattle.octets.specs.{Bytes.{num_at, bytes_of}, Splice.splice}
use Rattle.sheet.specs.{Kind.properties, Layout.◌of◌, Entries.place}
use Rattle.sheet.specs.Property as property
use Rattle.device.specs.{Sessions.fresh_of, Events.{Effect, requesting}}
use Rattle.history.specs.{Permit.{index_for, entry_for}, History.First, Keeps.Device}
use Rattle.history.proofs.trials.Wrong.{at, on_requests, on_elements}

-- A SHEET WITH THREE SECRETS, 55 bytes, verify on: the byte of address 0100, and the two elements of property 51 of object 1. Everybody may write them, and level 0 alone may read them
unfoldable pub guarded : List ℕ
guarded =
    -- edition; one region, one property, no group object; length
    0x02 ∷ 0x01 ∷ 0x01 ∷ 0x00 ∷ 0x00 ∷ 0x37 ∷
    -- serial, mask version, flags, no user regions, individual address
    0x00 ∷ 0xC5 ∷ 0x01 ∷ 0x02 ∷ 0x03 ∷ 0x06 ∷ 0x07 ∷ 0xB0 ∷ 0x02 ∷ 0x00 ∷ 0x11 ∷ 0x07 ∷
    -- keys, rules, zero
    0x11 ∷ 0x11 ∷ 0x11 ∷ 0x11 ∷ 0x22 ∷ 0x22 ∷ 0x22 ∷ 0x22 ∷ 0x33 ∷ 0x33 ∷ 0x33 ∷ 0x33 ∷ 0x00 ∷ 0x00 ∷
    -- the region, the property
    0x01 ∷ 0x00 ∷ 0x00 ∷ 0x01 ∷ 0x00 ∷ 0x34 ∷ 0x03 ∷ 0x00 ∷
    0x01 ∷ 0x33 ∷ 0x82 ∷ 0x01 ∷ 0x00 ∷ 0x02 ∷ 0x00 ∷ 0x02 ∷ 0x00 ∷ 0x35 ∷ 0x03 ∷ 0x00 ∷
    -- their bodies
    0x00 ∷ 0x00 ∷ 0x00 ∷ []

-- and with three others
abbrev pub other_secrets : List ℕ
other_secrets = splice guarded 52 (0x05 ∷ 0x05 ∷ 0x05 ∷ [])

-- an effect with another answer
abbrev pub with_answer : Effect → List ℕ → Effect
with_answer r a = record { outcome = r.outcome; answer = a; sessions = r.sessions; sheet = r.sheet }

-- a device that changes what ours makes of requests of a code, given what is answered to another request as if at level 0
abbrev pub on_code : ℕ → (List ℕ → List ℕ) → (Effect → List ℕ → Effect) → Device
on_code code instead k =
    on_requests
    (λ x mode c g a out.
    let r = requesting x mode c g a out in
    cond (eqb (num_at a 0 2) code) (k r (requesting (at x 0) 3 0 g (instead a) out).answer) r)

-- the requests of the runs: address 0100 read, kept by a bit write, element 1 written, the property described
abbrev pub read_byte : List ℕ
read_byte = 0x02 ∷ 0x01 ∷ 0x01 ∷ 0x00 ∷ []

abbrev pub keep_bits : List ℕ
keep_bits = 0x03 ∷ 0xD0 ∷ 0x01 ∷ 0x01 ∷ 0x00 ∷ 0xFF ∷ 0x00 ∷ []

abbrev pub write_element : List ℕ
write_element = 0x03 ∷ 0xD7 ∷ 0x01 ∷ 0x33 ∷ 0x10 ∷ 0x01 ∷ 0x07 ∷ []

abbrev pub describe : List ℕ
describe = 0x03 ∷ 0xD8 ∷ 0x01 ∷ 0x33 ∷ 0x00 ∷ []

-- ONE WHOSE DENIED READ OF MEMORY ANSWERS WITH THE BYTE, in place of the address's low byte
abbrev pub byte_for_address : Device
byte_for_address =
    on_code 0x201 (λ a. a)
    (λ r w. with_answer r (cond (eqb r.outcome 11) (take 3 r.answer ++ (get_or w 4 0 ∷ [])) r.answer))

-- ONE THAT DENIES A READ OTHERWISE WHERE THE BYTE IS ZERO: with 12, and no answer
abbrev pub denies_zero : Device
denies_zero =
    on_code 0x201 (λ a. a)
    (λ r w.
    cond (eqb r.outcome 11 && eqb (get_or w 4 0) 0)
    record { outcome = 12; answer = []; sessions = r.sessions; sheet = r.sheet } r)

-- ONE WHOSE BIT WRITE NEEDS THE WRITE RIGHT ALONE: it acts at level 0 if a write of as many bytes there would be carried out
abbrev pub as_write : List ℕ → List ℕ
as_write a = let n = get_or a 2 0 in 0x02 ∷ (0x80 + n) ∷ take (2 + n) (drop 3 a)

abbrev pub bits_unread : Device
bits_unread =
    on_requests
    (λ x mode c g a out.
    let r = requesting x mode c g a out in
    let w = requesting (at x 0) mode c g a out in
    cond (eqb (num_at a 0 2) 0x3D0 && leb (requesting x mode c g (as_write a) out).outcome 1)
    record { outcome = w.outcome; answer = w.answer; sessions = r.sessions; sheet = w.sheet } r)

-- ONE THAT ANSWERS A PROPERTY WRITE WITH WHAT STOOD THERE BEFORE
abbrev pub answers_old : Device
answers_old = on_code 0x3D7 (λ a. 0x03 ∷ 0xD5 ∷ take 4 (drop 2 a)) with_answer

-- ONE WHOSE DESCRIPTION OF A PROPERTY SHOWS A BYTE OF ITS BODY, in place of the levels
abbrev pub describes_body : Device
describes_body =
    on_code 0x3D8 (λ a. 0x03 ∷ 0xD5 ∷ take 2 (drop 2 a) ++ (0x10 ∷ 0x01 ∷ []))
    (λ r w. with_answer r (take 7 r.answer ++ (get_or w 6 0 ∷ [])))

-- ONE WHOSE COUNT FOLLOWS THE BODY: after a write it is 1 where the second byte is zero, else 2
abbrev pub counts_body : Device
counts_body =
    on_elements
    (λ x s object id z.
    splice s (place s properties (index_for s object id) + (property.count).at)
    (bytes_of 2 (cond (eqb (get_or s (property.offset of entry_for s object id + 1) 0) 0) 1 2)))

-- a device, and a request on connection 0 by which it tells the two sheets apart
pub record Teller : Type 0 where
  pub device : Device
  pub apdu : List ℕ

abbrev pub by : Device → List ℕ → Teller
by d a = record { device = d; apdu = a }

-- THE TELLERS
abbrev pub tellers : List Teller
tellers =
    by byte_for_address read_byte ∷ by denies_zero read_byte ∷ by bits_unread keep_bits ∷
    by answers_old write_element ∷ by describes_body describe ∷ by counts_body write_element ∷ []

-- the two first states
abbrev pub one : First
one = record { sheet = guarded; sessions = fresh_of }

abbrev pub two : First
two = record { sheet = other_secrets; sessions = fresh_of }
