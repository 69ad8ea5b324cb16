-- A request as it arrives and what it meets, and what is known of it before its service decides: plain propositions, in the order of the outcomes.
use Rattle.std.specs.Prelude.{ℕ, ◌+◌, ◌≤◌, ◌<◌, ◌≡◌, true, false, ◌⊎◌, List, [], ◌∷◌, length, take, drop}
use Rattle.std.specs.Prelude.{Ok}
use Rattle.sheet.specs.Head.{rules_of, later}
use Rattle.sheet.specs.Rules.{Accepted, Old, Bad}
use Rattle.pdu.specs.Table.{row_of}
use Rattle.pdu.specs.Pdus.{service_of}
use Rattle.pdu.specs.Rules.{code_of}
use Rattle.pdu.specs.Read.{read_pdu, data_of}
use Rattle.pdu.specs.Write.{encoded}
use Rattle.pdu.specs.declared.Service.{Service}
use Rattle.pdu.specs.declared.Service.TheVariants.{GroupValueRead, GroupValueResponse, GroupValueWrite, IndividualAddressWrite, IndividualAddressRead, SerialNumberRead, SerialNumberWrite}
use Rattle.pdu.specs.declared.Service.TheVariants.{DeviceDescriptorRead, PropertyValueRead, PropertyValueWrite, PropertyDescriptionRead, MemoryRead, MemoryWrite, MemoryBitWrite}
use Rattle.pdu.specs.declared.Service.TheVariants.{AuthorizeRequest, KeyWrite, Restart, UserMemoryRead, UserMemoryWrite}
use Rattle.pdu.specs.declared.Pdu.{Pdu}
use Rattle.judge.specs.Session.{multicast, broadcast, connectionless, connected}
use Rattle.judge.specs.declared.Session.{Session}
use Rattle.device.specs.Step.{Step}

-- room is the length of the answer buffer
pub record Asked : Type 0 where
  pub room : ℕ
  pub sheet : List ℕ
  pub session : Session
  pub mode : ℕ
  pub group : ℕ
  pub apdu : List ℕ

-- what a step leaves as it was: all but the outcome, or all but the outcome and an answer
abbrev pub quiet : Asked → ℕ → Step
quiet x n = record { outcome = n; answer = []; session = x.session; sheet = x.sheet; restarts = false }

abbrev pub says : Asked → ℕ → Pdu → List ℕ → Step
says x n p d = record { outcome = n; answer = encoded p d; session = x.session; sheet = x.sheet; restarts = false }

-- a store, answered or not
abbrev pub says_after : Asked → List ℕ → Pdu → List ℕ → Step
says_after x s p d = record { outcome = 0; answer = encoded p d; session = x.session; sheet = s; restarts = false }

abbrev pub stores : Asked → List ℕ → Step
stores x s = record { outcome = 1; answer = []; session = x.session; sheet = s; restarts = false }

-- k is one of these
unfoldable pub Among : List Service → Service → Type 0
Among [] k = ⊥
Among (j ∷ ks) k = (k ≡ j) ⊎ Among ks k

-- WHICH MODE TAKES WHICH SERVICE, by the number of the rules
pub data Takes (rules : ℕ) (k : Service) (m : ℕ) : Type 0 where
  to_group : m ≡ multicast → Among (GroupValueRead ∷ GroupValueResponse ∷ GroupValueWrite ∷ []) k → Takes rules k m
  to_all : m ≡ broadcast → Among (IndividualAddressWrite ∷ IndividualAddressRead ∷ SerialNumberRead ∷ SerialNumberWrite ∷ []) k → Takes rules k m
  to_one : (m ≡ connectionless) ⊎ (m ≡ connected) →
      Among (DeviceDescriptorRead ∷ PropertyValueRead ∷ PropertyValueWrite ∷ PropertyDescriptionRead ∷ []) k → Takes rules k m
  on_connection : m ≡ connected →
      Among (MemoryRead ∷ MemoryWrite ∷ MemoryBitWrite ∷ UserMemoryRead ∷ UserMemoryWrite ∷ AuthorizeRequest ∷ KeyWrite ∷ Restart ∷ []) k → Takes rules k m
  restarting : rules ≡ later → m ≡ connectionless → k ≡ Restart → Takes rules k m

-- the code of the request is one of the service's
pub record Names (x : Asked) (k : Service) : Type 0 where
  pub from : (row_of k).base ≤ code_of x.apdu
  pub to : code_of x.apdu < (row_of k).base + (row_of k).span

-- a service that some mode takes
pub record Served (rules : ℕ) (k : Service) : Type 0 where
  pub mode : ℕ
  pub takes : Takes rules k mode

-- THE REFUSALS BEFORE THE SERVICE, in order; each is due only where none before it is
pub data Refusal (x : Asked) : ℕ → Type 0 where
  no_room : x.room < 16 → Refusal x 3
  bad_sheet : 16 ≤ x.room → Bad x.sheet → Refusal x 4
  old_sheet : 16 ≤ x.room → Old x.sheet → Refusal x 14
  bad_length : 16 ≤ x.room → Accepted x.sheet → (length x.apdu < 2) ⊎ (16 < length x.apdu) → Refusal x 5
  bad_mode : 16 ≤ x.room → Accepted x.sheet → 2 ≤ length x.apdu → length x.apdu ≤ 16 → 3 < x.mode → Refusal x 6
  no_session :
      16 ≤ x.room → Accepted x.sheet → 2 ≤ length x.apdu → length x.apdu ≤ 16 → x.mode ≡ connected → x.session.opened ≡ false → Refusal x 7

-- none of these is due
pub record Ready (x : Asked) : Type 0 where
  pub buffer : 16 ≤ x.room
  pub sheet : Accepted x.sheet
  pub least : 2 ≤ length x.apdu
  pub most : length x.apdu ≤ 16
  pub mode : x.mode ≤ 3
  pub session : x.mode ≡ connected → x.session.opened ≡ true

-- the request reads as p, in a mode that takes p's service
pub record Reads (x : Asked) (p : Pdu) : Type 0 where
  pub ready : Ready x
  pub takes : Takes (rules_of x.sheet) (service_of p) x.mode
  pub reads : read_pdu x.apdu ≡ Ok p

-- its data
abbrev pub given : Asked → Pdu → List ℕ
given x p = data_of p x.apdu

-- the level that it acts at
pub data Acts (x : Asked) : ℕ → Type 0 where
  by_session : x.mode ≡ connected → x.session.level ≤ 3 → Acts x x.session.level
  by_limit : x.mode ≡ connected → 3 < x.session.level → Acts x 3
  unconnected : (x.mode ≡ connected → ⊥) → Acts x 3

-- n bytes of a sheet from o on
abbrev pub part : List ℕ → ℕ → ℕ → List ℕ
part s o n = take n (drop o s)
