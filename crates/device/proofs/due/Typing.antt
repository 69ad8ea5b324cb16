-- The fields of the device's answers fit their places.
use Rattle.octets.proofs.Kit.{ℕ, ◌≤◌, ◌<◌, ◌≡◌, List, length, arith}
use Rattle.std.proofs.Common.{Ok}
use Rattle.octets.proofs.Walks.{by_eq}
use Rattle.sheet.{specs.{Kind.properties, Layout.◌of◌, Entries.{count, entry}, declared.Memory.TheVariants.{Device, User}}, proofs.{rules.Good.{Good, good}, searches.RankBound.rank_bound}}
use Rattle.sheet.specs.Property as property
use Rattle.sheet.specs.Head as head
use Rattle.pdu.specs.{Table.row_of, Pdus.{service_of, values_of}, Read.read_pdu, Allows.Typed, declared.Pdu.{Pdu, TheVariants.{GroupValueRead, GroupValueResponse, GroupValueWrite}}}
use Rattle.pdu.specs.declared.Pdu.TheVariants.{IndividualAddressWrite, IndividualAddressRead, SerialNumberRead, SerialNumberWrite, DeviceDescriptorRead, PropertyValueRead}
use Rattle.pdu.specs.declared.Pdu.TheVariants.{PropertyValueWrite, PropertyDescriptionRead, MemoryRead, MemoryWrite, MemoryBitWrite, AuthorizeRequest, KeyWrite, Restart}
use Rattle.pdu.specs.declared.Pdu.TheVariants.{IndividualAddressResponse, SerialNumberResponse, DeviceDescriptorResponse, PropertyValueResponse, PropertyDescriptionResponse, MemoryResponse}
use Rattle.pdu.{specs.declared.Pdu.TheVariants.{AuthorizeResponse, KeyResponse, UserMemoryRead, UserMemoryResponse, UserMemoryWrite}, proofs.promises.Allowed.wide}
use Rattle.pdu.proofs.promises.Outcomes.{read_carries}
use Rattle.judge.specs.{declared.{Answer.Answer, Decision.Decision}, Addresses.{address_write_of, address_read_of, serial_read_of, serial_write_of, descriptor_of}}
use Rattle.judge.specs.{declared.Access.TheVariants.{Write, Change}, Memory.{memory_write_of, bit_write_of}, Keys.{grant_of, authorize_of, restart_of}, Judge.{decide_of, judge_of}}
use Rattle.judge.proofs.{GroupCases.{group_read_cases, group_put_cases}, DescriptorCases.descriptor_cases}
use Rattle.judge.proofs.{PropertyCases.{describes, property_read_cases, property_write_cases, description_cases}, MemoryCases.{memory_read_cases, change_cases}}
use Rattle.judge.proofs.KeyCases.{grant_cases, key_write_cases}
use Rattle.judge.specs.declared.Answer.TheVariants as answer
use Rattle.judge.specs.declared.Store.TheVariants as store
use Rattle.device.specs.{Octets.Octets, Asked.Asked}
use Rattle.device.proofs.due.{RequestCases.request_cases, Properly.entry_byte_lem}

abbrev pub AnswerTyped : Answer → Type 0
AnswerTyped answer.Silence = Unit {0}
AnswerTyped (answer.Plain p) = Typed p
AnswerTyped (answer.Number p w x) = Typed p
AnswerTyped (answer.Sheet p at n) = Typed p
AnswerTyped (answer.Echo p) = Typed p

abbrev Fits : Decision → Type 0
Fits k = AnswerTyped k.answer

-- the fields of a request that reads fit theirs
request_typed : (a : List ℕ) (p : Pdu) → Octets a → read_pdu a ≡ Ok p → Typed p
request_typed a p h e = wide (row_of (service_of p)).items (values_of p) (read_carries a p h e).allowed.fields

-- a level that is granted is 0 to 3
granted : (s : List ℕ) (key : ℕ) → grant_of s key ≤ 3
granted s key =
    grant_cases s key (λ (l : ℕ). l ≤ 3) (λ a. omega arith) (λ a b. omega arith) (λ a b c. omega arith) (λ a b c. omega arith)

module _ {s : List ℕ} (ok : Good s) (h : Octets s) where
  description_fits : (i : ℕ) → i < count s properties → Fits (describes s i)
  description_fits i l =
      let index = rank_bound s (property.object of entry s properties i) i in
      let o = entry_byte_lem s i (property.object).at (omega arith) h in
      let d = entry_byte_lem s i (property.id).at (omega arith) h in
      (o, (d, (omega (arith, ok.framed), (entry_byte_lem s i (property.typ).at (omega arith) h, (tt, (entry_byte_lem s i (property.levels).at (omega arith) h, tt))))))

module _ {s : List ℕ} (ok : Good s) (h : Octets s) (level group : ℕ) (d : List ℕ) where
  fitted : (p : Pdu) → Typed p → Fits (decide_of s level group d p)
  unfolding address_write_of address_read_of serial_read_of serial_write_of descriptor_of memory_write_of bit_write_of authorize_of restart_of
  fitted GroupValueRead t = group_read_cases s group Fits (λ i l z. (tt, tt)) (λ i l z. (tt, tt)) tt
  fitted (GroupValueResponse v) t =
      group_put_cases s group Fits 4 v (length d) (λ i l z e. tt) (λ i l z e. tt) (λ i l e. tt) tt
  fitted (GroupValueWrite v) t =
      group_put_cases s group Fits 2 v (length d) (λ i l z e. tt) (λ i l z e. tt) (λ i l e. tt) tt
  fitted (IndividualAddressWrite address) t = by_eq Fits (head.programming s) 1 _ _ (λ e. tt) (λ e. tt)
  fitted IndividualAddressRead t = by_eq Fits (head.programming s) 1 _ _ (λ e. tt) (λ e. tt)
  fitted (SerialNumberRead serial) t =
      by_eq Fits serial (head.serial of s) _ _ (λ e. (tt, (omega arith, (tt, tt)))) (λ e. tt)
  fitted (SerialNumberWrite serial address) t = by_eq Fits serial (head.serial of s) _ _ (λ e. tt) (λ e. tt)
  fitted (DeviceDescriptorRead k) t = descriptor_cases s k Fits (λ e. (tt, tt)) (λ h l. (tt, tt)) (λ h l. tt)
  fitted (PropertyValueRead object id n m) t =
      property_read_cases s level object id n m Fits (λ i k l z o. t) (λ i k l u b. t) t
  fitted (PropertyValueWrite object id n m) t =
      property_write_cases s level object id n m Fits d (λ i k w z o l v. t) (λ i k w u l. t) t
  fitted (PropertyDescriptionRead object id index) t =
      description_cases s object id index Fits (λ i z k. description_fits ok h i k.there) (λ i z r. description_fits ok h i r.there)
      (t.0, (t.1.0, (t.1.1.0, (omega arith, (tt, (omega arith, tt))))))
  fitted (MemoryRead n address) t = memory_read_cases s Device level n address Fits (λ i p. t) t
  fitted (MemoryWrite n address) t =
      change_cases Write 12 (store.Data 0) s Device level n address Fits (λ i p v. t) (λ i p v. tt) (λ v. t) (λ v. tt)
  fitted (MemoryBitWrite n address) t =
      change_cases Change 5 (λ o. store.Bits o n) s Device level n address Fits (λ i p v. (tt, t.1)) (λ i p v. tt) (λ v. (tt, t.1)) (λ v. tt)
  fitted (AuthorizeRequest key) t = (omega (arith, granted s key), tt)
  fitted (KeyWrite named key) t = key_write_cases level named key Fits (λ l r. (t.0, tt)) (omega arith, tt)
  fitted Restart t = tt
  fitted IndividualAddressResponse t = tt
  fitted (SerialNumberResponse serial domain) t = tt
  fitted (DeviceDescriptorResponse k) t = tt
  fitted (PropertyValueResponse object id n m) t = tt
  fitted (PropertyDescriptionResponse object id index kind maximum access) t = tt
  fitted (MemoryResponse n address) t = tt
  fitted (AuthorizeResponse named) t = tt
  fitted (KeyResponse named) t = tt
  fitted (UserMemoryRead n address) t = memory_read_cases s User level n address Fits (λ i p. t) (omega arith, t.1)
  fitted (UserMemoryResponse n address) t = tt
  fitted (UserMemoryWrite n address) t =
      change_cases Write 11 (store.Data 0) s User level n address Fits (λ i p v. t) (λ i p v. tt) (λ v. (omega arith, t.1)) (λ v. tt)

-- EVERY ANSWER'S FIELDS FIT THEIR PLACES
pub typed :
    (x : Asked) → Octets x.sheet → Octets x.apdu → AnswerTyped (judge_of x.room x.sheet x.session x.mode x.group x.apdu).answer
typed x hs ha =
    request_cases x Fits (λ k r n v t. tt) (λ r f. tt) (λ k r n t e. tt)
    (λ p r. fitted (good x.sheet r.ready.sheet) hs _ x.group _ p (request_typed x.apdu p ha r.reads))
    (λ n r. tt)
