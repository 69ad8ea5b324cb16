-- What a service of the plain engine gives, and that it is what the first engine decides, carried out.
use Rattle.std.specs.Prelude.{ℕ, ◌≤◌, ◌≡◌, List, [], length, take, drop, Option, Some, None}
use Rattle.octets.specs.Bytes.{bytes_of}
use Rattle.sheet.specs.Rules.{Accepted}
use Rattle.judge.specs.declared.Decision.{Decision}
use Rattle.judge.specs.declared.Turn.{Turn}
use Rattle.judge.specs.declared.Answer.{Answer}
use Rattle.judge.specs.declared.Answer.TheVariants as answer
use Rattle.octets.specs.Octets.{Octets}
use Rattle.device.specs.Carry.{store_of}
use Rattle.parts.specs.declared.Parts.{Parts}
use Rattle.parts.specs.Records.{Taken}
use Rattle.pdu.specs.declared.Pdu.{Pdu}
use Rattle.plain_services.specs.declared.Reply.{Reply}
use Rattle.plain_services.specs.Outcome.{number_of}

-- u are the parts of some accepted sheet
pub record Held (u : Parts) : Type 0 where
  pub sheet : List ℕ
  pub ok : Accepted sheet
  pub bytes : Octets sheet
  pub taken : Taken sheet u

-- a reply: outcome, parts, what becomes of the session, what is sent and with which data
pub record Gives (r : Reply) (n : ℕ) (u : Parts) (t : Turn) (x : Option Pdu) (b : List ℕ) : Type 0 where
  pub outcome : number_of r.outcome ≡ n
  pub parts : r.parts ≡ u
  pub turn : r.turn ≡ t
  pub sent : r.sent ≡ x
  pub bytes : take r.length r.bytes ≡ b
  pub short : r.length ≤ 14
  pub full : length r.bytes ≡ 14

-- what an answer sends, and its data, s being the sheet after the stores and d the data of the request
abbrev pub sent_of : Answer → Option Pdu
sent_of answer.Silence = None
sent_of (answer.Plain p) = Some p
sent_of (answer.Number p w x) = Some p
sent_of (answer.Sheet p at n) = Some p
sent_of (answer.Echo p) = Some p

abbrev pub data_for : List ℕ → List ℕ → Answer → List ℕ
data_for s d answer.Silence = []
data_for s d (answer.Plain p) = []
data_for s d (answer.Number p w x) = bytes_of w x
data_for s d (answer.Sheet p at n) = take n (drop at s)
data_for s d (answer.Echo p) = d

-- the sheet that a decision leaves
abbrev pub left : List ℕ → List ℕ → Decision → List ℕ
left s d k = store_of (store_of s d k.first) d k.second

-- THE SAME AS THE FIRST ENGINE'S DECISION k, carried out on the sheet s with data d
pub record Agrees (s d : List ℕ) (k : Decision) (r : Reply) : Type 0 where
  pub gives : Gives r k.outcome r.parts k.turn (sent_of k.answer) (data_for (left s d k) d k.answer)
  pub sheet : Taken (left s d k) r.parts

-- the same of every accepted sheet whose parts these are
pub record Serves (u : Parts) (d : List ℕ) (k : List ℕ → Decision) (r : Reply) : Type 0 where
  pub agrees : (s : List ℕ) → Accepted s → Octets s → Taken s u → Agrees s d (k s) r
