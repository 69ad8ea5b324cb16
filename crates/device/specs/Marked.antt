-- The sample sheet and the sixteen marked cases.
use Rattle.std.specs.Prelude.{ℕ, List, [], ◌∷◌, true, false}
unfoldable pub use Rattle.sheet.specs.Sample.{sample}
use Rattle.judge.specs.Session.{weakest, connectionless, connected}
use Rattle.judge.specs.declared.Session.{Session}
use Rattle.device.specs.Step.{Step}
use Rattle.device.specs.Asked.{Asked}
use Rattle.device.specs.Demand2.{done}

-- a case: how the session and the request's mode and group address stand, the request, the answer and the outcome
pub record Case : Type 0 where
  pub session : Session
  pub mode : ℕ
  pub group : ℕ
  pub request : List ℕ
  pub answer : List ℕ
  pub number : ℕ

-- connected, at a level; connectionless, with a fresh session
abbrev pub at : ℕ → List ℕ → List ℕ → ℕ → Case
at l r a n =
    record { session = record { opened = true; level = l }; mode = connected; group = 0; request = r; answer = a; number = n }

abbrev pub loose : List ℕ → List ℕ → ℕ → Case
loose r a n =
    record { session = record { opened = false; level = weakest }; mode = connectionless; group = 0; request = r; answer = a; number = n }

-- the first two and the fourth: a read of the element, of the count, and a write of the element
abbrev pub read_element : Case
read_element = loose (0x03 ∷ 0xD5 ∷ 0x01 ∷ 0x33 ∷ 0x10 ∷ 0x01 ∷ []) (0x03 ∷ 0xD6 ∷ 0x01 ∷ 0x33 ∷ 0x10 ∷ 0x01 ∷ 0x03 ∷ 0xE8 ∷ []) 0

abbrev pub read_count : Case
read_count = at 3 (0x03 ∷ 0xD5 ∷ 0x01 ∷ 0x33 ∷ 0x10 ∷ 0x00 ∷ []) (0x03 ∷ 0xD6 ∷ 0x01 ∷ 0x33 ∷ 0x10 ∷ 0x00 ∷ 0x00 ∷ 0x01 ∷ []) 0

abbrev pub write_element : Case
write_element = at 1 (0x03 ∷ 0xD7 ∷ 0x01 ∷ 0x33 ∷ 0x10 ∷ 0x01 ∷ 0x03 ∷ 0x84 ∷ []) (0x03 ∷ 0xD6 ∷ 0x01 ∷ 0x33 ∷ 0x10 ∷ 0x01 ∷ 0x03 ∷ 0x84 ∷ []) 0

-- THE SIXTEEN, the last two at the limit of a read: the count
unfoldable pub cases : List Case
cases =
    read_element ∷
    read_count ∷
    loose (0x03 ∷ 0xD7 ∷ 0x01 ∷ 0x33 ∷ 0x10 ∷ 0x01 ∷ 0x03 ∷ 0x84 ∷ []) (0x03 ∷ 0xD6 ∷ 0x01 ∷ 0x33 ∷ 0x00 ∷ 0x01 ∷ []) 11 ∷
    write_element ∷
    at 3 (0x03 ∷ 0xD1 ∷ 0x00 ∷ 0x22 ∷ 0x22 ∷ 0x22 ∷ 0x22 ∷ []) (0x03 ∷ 0xD2 ∷ 0x01 ∷ []) 0 ∷
    at 1 (0x03 ∷ 0xD1 ∷ 0x00 ∷ 0x33 ∷ 0x33 ∷ 0x33 ∷ 0x33 ∷ []) (0x03 ∷ 0xD2 ∷ 0x03 ∷ []) 0 ∷
    at 3 (0x03 ∷ 0xD1 ∷ 0x00 ∷ 0xFF ∷ 0xFF ∷ 0xFF ∷ 0xFF ∷ []) (0x03 ∷ 0xD2 ∷ 0x02 ∷ []) 0 ∷
    at 3 (0x02 ∷ 0x04 ∷ 0x01 ∷ 0x00 ∷ []) (0x02 ∷ 0x44 ∷ 0x01 ∷ 0x00 ∷ 0xA0 ∷ 0xA1 ∷ 0xA2 ∷ 0xA3 ∷ []) 0 ∷
    at 3 (0x02 ∷ 0x02 ∷ 0x01 ∷ 0x03 ∷ []) (0x02 ∷ 0x40 ∷ 0x01 ∷ 0x03 ∷ []) 11 ∷
    at 1 (0x02 ∷ 0x81 ∷ 0x01 ∷ 0x00 ∷ 0x55 ∷ []) (0x02 ∷ 0x41 ∷ 0x01 ∷ 0x00 ∷ 0x55 ∷ []) 0 ∷
    at 1 (0x03 ∷ 0xD0 ∷ 0x01 ∷ 0x01 ∷ 0x00 ∷ 0x0F ∷ 0xF0 ∷ []) (0x02 ∷ 0x41 ∷ 0x01 ∷ 0x00 ∷ 0xF0 ∷ []) 0 ∷
    at 1 (0x03 ∷ 0xD3 ∷ 0x00 ∷ 0x33 ∷ 0x33 ∷ 0x33 ∷ 0x33 ∷ []) (0x03 ∷ 0xD4 ∷ 0xFF ∷ []) 11 ∷
    at 3 (0x03 ∷ 0xD8 ∷ 0x01 ∷ 0x33 ∷ 0x00 ∷ []) (0x03 ∷ 0xD9 ∷ 0x01 ∷ 0x33 ∷ 0x00 ∷ 0x84 ∷ 0x00 ∷ 0x02 ∷ 0x31 ∷ []) 0 ∷
    loose (0x02 ∷ 0x04 ∷ 0x01 ∷ 0x00 ∷ []) [] 9 ∷
    at 3 (0x03 ∷ 0xD5 ∷ 0x01 ∷ 0x33 ∷ 0x10 ∷ 0x01 ∷ []) (0x03 ∷ 0xD6 ∷ 0x01 ∷ 0x33 ∷ 0x10 ∷ 0x01 ∷ 0x03 ∷ 0xE8 ∷ []) 0 ∷
    at 3 (0x03 ∷ 0xD5 ∷ 0x01 ∷ 0x33 ∷ 0x10 ∷ 0x02 ∷ []) (0x03 ∷ 0xD6 ∷ 0x01 ∷ 0x33 ∷ 0x00 ∷ 0x02 ∷ []) 11 ∷
    []

-- a case's request, asked of the sample sheet with a buffer of 16 bytes
abbrev pub asked : Case → Asked
asked c =
    record { room = 16; sheet = sample; session = c.session; mode = c.mode; group = c.group; apdu = c.request }

pub record Result : Type 0 where
  pub answer : List ℕ
  pub number : ℕ

-- what the step gives, and what is marked
abbrev pub seen : Step → Result
seen r = record { answer = r.answer; number = r.outcome }

unfoldable pub found : Case → Result
found c = seen (done (asked c))

unfoldable pub wanted : Case → Result
wanted c = record { answer = c.answer; number = c.number }
