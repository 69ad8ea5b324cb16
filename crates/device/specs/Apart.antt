-- Two devices whose sheets differ in the number of the rules alone, and the requests that the rules are at odds about.
use Rattle.std.specs.Prelude.{ℕ, ◌≤◌, ◌≡◌, List}
use Rattle.std.specs.Prelude.{Some, Ok}
use Rattle.sheet.specs.Head as head
use Rattle.sheet.specs.Rules.{Accepted}
use Rattle.sheet.specs.But.{But}
use Rattle.pdu.specs.Rules.{code_of}
use Rattle.pdu.specs.Table.{service_at}
use Rattle.pdu.specs.Read.{read_pdu}
use Rattle.pdu.specs.declared.Pdu.TheVariants.{DeviceDescriptorRead}
use Rattle.pdu.specs.declared.Service.TheVariants.{Restart}
use Rattle.judge.specs.Session.{connectionless}
use Rattle.device.specs.Step.{Step}
use Rattle.device.specs.Events.{Effect, State}

-- both accepted, and every byte the same but that of the rules
abbrev pub RulesByte : ℕ → Type 0
RulesByte p = p ≡ (head.rules).at

pub record SameButRules (s s' : List ℕ) : Type 0 where
  pub accepted : Accepted s
  pub accepted' : Accepted s'
  pub others : But RulesByte s s'

-- the code of a restart, connectionless; a descriptor type other than 0
pub data Disputed (mode : ℕ) (a : List ℕ) : Type 0 where
  restarts : mode ≡ connectionless → service_at (code_of a) ≡ Some Restart → Disputed mode a
  describes : (t : ℕ) → 1 ≤ t → read_pdu a ≡ Ok (DeviceDescriptorRead t) → Disputed mode a

abbrev pub Undisputed : ℕ → List ℕ → Type 0
Undisputed mode a = Disputed mode a → ⊥

-- the same outcome, answer and session, and the sheets still the same but for that byte
pub record SameStep (r r' : Step) : Type 0 where
  pub outcome : r'.outcome ≡ r.outcome
  pub answer : r'.answer ≡ r.answer
  pub session : r'.session ≡ r.session
  pub sheet : SameButRules r.sheet r'.sheet
  pub restarts : r'.restarts ≡ r.restarts

-- the same of what an event gives
pub record SameEffect (r r' : Effect) : Type 0 where
  pub outcome : r'.outcome ≡ r.outcome
  pub answer : r'.answer ≡ r.answer
  pub sessions : r'.sessions ≡ r.sessions
  pub sheet : SameButRules r.sheet r'.sheet

-- two devices with the same sessions, whose sheets are the same but for that byte
pub record Together (x x' : State) : Type 0 where
  pub sessions : x'.sessions ≡ x.sessions
  pub sheet : SameButRules x.sheet x'.sheet
