-- What carrying a decision out may rely on: each store lies in the sheet, and the answer can be written.
use Rattle.std.specs.Prelude.{ℕ, ◌+◌, ◌≤◌, ◌≡◌, Bool, true, false, List, [], length, take, drop}
use Rattle.octets.specs.Bytes.{bytes_of}
use Rattle.octets.specs.Splice.{splice}
use Rattle.pdu.specs.Write.{writable}
use Rattle.pdu.specs.declared.Pdu.{Pdu}
use Rattle.pdu.specs.declared.Pdu.TheVariants.{GroupValueRead}
use Rattle.judge.specs.declared.Store.{Store}
use Rattle.judge.specs.declared.Store.TheVariants as store
use Rattle.judge.specs.declared.Answer.{Answer}
use Rattle.judge.specs.declared.Answer.TheVariants as answer
use Rattle.judge.specs.declared.Decision.{Decision}
use Rattle.device.specs.Carry.{padded, store_of}

-- a store in sheet s, of a request with data d
abbrev pub StoreSafe : List ℕ → List ℕ → Store → Type 0
StoreSafe s d store.Nothing = Unit {0}
StoreSafe s d (store.Number at w x) = (at + w ≤ length s) × (w ≤ 6)
StoreSafe s d (store.Data zeros at) = at + length (padded zeros d) ≤ length s
StoreSafe s d (store.Bits at n) = (at + n ≤ length s) × (length d ≡ n + n)
StoreSafe s d (store.Fill at n b) = at + n ≤ length s

-- a store in a sheet of n bytes has numbers of 16 bits
abbrev pub Narrow : ℕ → Store → Type 0
Narrow n store.Nothing = Unit {0}
Narrow n (store.Number at w x) = n ≤ 16384
Narrow n (store.Data zeros at) = n ≤ 16384
Narrow n (store.Bits at m) = n ≤ 16384
Narrow n (store.Fill at m b) = n ≤ 16384

-- an answer, s being the sheet after the stores
abbrev pub AnswerSafe : List ℕ → List ℕ → Answer → Type 0
AnswerSafe s d answer.Silence = Unit {0}
AnswerSafe s d (answer.Plain p) = writable p [] ≡ true
AnswerSafe s d (answer.Number p w x) = (w ≤ 6) × (writable p (bytes_of w x) ≡ true)
AnswerSafe s d (answer.Sheet p at n) = (at + n ≤ length s) × (n ≤ 14) × (writable p (take n (drop at s)) ≡ true)
AnswerSafe s d (answer.Echo p) = writable p d ≡ true

-- a buffer of so many bytes has room for the answer
abbrev pub Roomy : ℕ → Answer → Type 0
Roomy n answer.Silence = Unit {0}
Roomy n (answer.Plain p) = 16 ≤ n
Roomy n (answer.Number p w x) = 16 ≤ n
Roomy n (answer.Sheet p at m) = 16 ≤ n
Roomy n (answer.Echo p) = 16 ≤ n

-- an answer taken apart: whether there is none; its PDU, any for silence; the data behind it
abbrev pub is_silent : Answer → Bool
is_silent answer.Silence = true
is_silent (answer.Plain p) = false
is_silent (answer.Number p w x) = false
is_silent (answer.Sheet p at n) = false
is_silent (answer.Echo p) = false

abbrev pub pdu_in : Answer → Pdu
pdu_in answer.Silence = GroupValueRead
pdu_in (answer.Plain p) = p
pdu_in (answer.Number p w x) = p
pdu_in (answer.Sheet p at n) = p
pdu_in (answer.Echo p) = p

abbrev pub data_behind : List ℕ → List ℕ → Answer → List ℕ
data_behind s d answer.Silence = []
data_behind s d (answer.Plain p) = []
data_behind s d (answer.Number p w x) = bytes_of w x
data_behind s d (answer.Sheet p at n) = take n (drop at s)
data_behind s d (answer.Echo p) = d

-- bytes stand behind the first i of a buffer, whose rest is as found: r bytes in all
pub record Behind (i : ℕ) (bytes : List ℕ) (r : ℕ) (out out' : List ℕ) : Type 0 where
  pub count : r ≡ i + length bytes
  pub holds : out' ≡ splice out i bytes

-- A DECISION THAT CAN BE CARRIED OUT
pub record Safe (s d : List ℕ) (k : Decision) : Type 0 where
  pub first : StoreSafe s d k.first
  pub second : StoreSafe (store_of s d k.first) d k.second
  pub answer : AnswerSafe (store_of (store_of s d k.first) d k.second) d k.answer
