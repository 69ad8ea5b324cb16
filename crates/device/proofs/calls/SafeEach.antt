-- What each service decides can be carried out.
use Rattle.octets.proofs.Kit.{ℕ, ◌+◌, ◌-◌, ◌≤◌, ◌<◌, ◌≡◌, refl, true, List, [], length, take, drop, length-take, length-drop, arith}
use Rattle.octets.{specs.Bytes.bytes_of, proofs.{Numbers.length_bytes, Walks.by_eq}}
use Rattle.sheet.{specs.{Kind.properties, Layout.◌of◌, Entries.entry, declared.Memory.{Memory, TheVariants.{Device, User}}}, proofs.{rules.Good.Good, promises.Runs.range_within}}
use Rattle.sheet.specs.Property as property
use Rattle.sheet.specs.Head as head
use Rattle.pdu.specs.{Read.data_of, Write.writable, declared.Pdu.{Pdu, TheVariants.{GroupValueRead, GroupValueResponse, GroupValueWrite, IndividualAddressWrite, IndividualAddressRead}}}
use Rattle.pdu.specs.declared.Pdu.TheVariants.{SerialNumberRead, SerialNumberWrite, DeviceDescriptorRead, PropertyValueRead, PropertyValueWrite, PropertyDescriptionRead, MemoryRead}
use Rattle.pdu.specs.declared.Pdu.TheVariants.{MemoryWrite, MemoryBitWrite, AuthorizeRequest, KeyWrite, Restart, IndividualAddressResponse, SerialNumberResponse, DeviceDescriptorResponse}
use Rattle.pdu.specs.declared.Pdu.TheVariants.{PropertyValueResponse, PropertyDescriptionResponse, MemoryResponse, AuthorizeResponse, KeyResponse, UserMemoryRead, UserMemoryResponse}
use Rattle.pdu.{specs.declared.Pdu.TheVariants.UserMemoryWrite, proofs.promises.Readings.Reading}
use Rattle.judge.specs.{declared.{Access.{Access, TheVariants.{Write, Change}}, Store.Store, Answer.Answer}, Decisions.{refused, denied, answered, written, stored}}
use Rattle.judge.specs.{Groups.{group_read_of, group_put_of}, Addresses.{address_write_of, address_read_of, serial_read_of, serial_write_of, descriptor_of}}
use Rattle.judge.specs.{Properties.{jumped, property_read_of, property_write_of, description_of}, Memory.{most_bytes, response_of, memory_read_of, memory_write_of, bit_write_of}}
use Rattle.judge.{specs.{Keys.{authorize_of, key_write_of, restart_of}, Judge.decide_of}, proofs.{GroupCases.{group_read_cases, group_put_cases}, DescriptorCases.descriptor_cases}}
use Rattle.judge.proofs.{PropertyCases.{run_in, property_read_cases, property_write_cases, description_cases}, MemoryCases.{range_in, memory_read_cases, changed, change_cases}}
use Rattle.judge.proofs.KeyCases.{key_write_cases}
use Rattle.judge.specs.declared.Store.TheVariants as store
use Rattle.judge.specs.declared.Answer.TheVariants as answer
use Rattle.device.specs.{Carry.store_of, Safe.{StoreSafe, AnswerSafe, Safe}}
use Rattle.device.proofs.leaves.Accepted.{long, group_within, six_within, group_short, six_below, maximum_below, count_below, elements_within, count_within}
use Rattle.device.proofs.{due.Given.{serial_small, read_fields, write_fields, write_data, memory_data, user_data, bits_data}, leaves.{Jumps.{whole, length_run}, Stores.length_store}}
use Rattle.device.proofs.calls.Writing.{writes_six, writes_value, writes_descriptor, writes_property, writes_memory, writes_user, writes_address, writes_serial, writes_description}
use Rattle.device.proofs.calls.Writing.{writes_level, writes_key}

-- n bytes of a list that has them
part_length : (s : List ℕ) (o n : ℕ) → o + n ≤ length s → length (take n (drop o s)) ≡ n
part_length s o n h = simp (length-take, length-drop) (omega arith)

module _ (s d : List ℕ) where
  pub safe_refused : (n : ℕ) → Safe s d (refused n)
  safe_refused n = record { first = tt; second = tt; answer = tt }

  safe_denied : (p : Pdu) → writable p [] ≡ true → Safe s d (denied p)
  safe_denied p w = record { first = tt; second = tt; answer = w }

  safe_answered : (r : Answer) → AnswerSafe s d r → Safe s d (answered r)
  safe_answered r w = record { first = tt; second = tt; answer = w }

  safe_stored : (k : Store) → StoreSafe s d k → Safe s d (stored k)
  safe_stored k h = record { first = h; second = tt; answer = tt }

  -- a part of memory, as it stands or as it stands after a store
  memory_answer : (m : Memory) (n a o : ℕ) → n ≤ most_bytes m → o + n ≤ length s → AnswerSafe s d (answer.Sheet (response_of m n a) o n)
  memory_answer Device n a o m h = (h, omega arith, writes_memory (take n (drop o s)) n a m (part_length s o n h))
  memory_answer User n a o m h = (h, omega arith, writes_user (take n (drop o s)) n a m (part_length s o n h))

  no_memory : (m : Memory) (a : ℕ) → Safe s d (denied (response_of m 0 a))
  no_memory Device a = safe_denied _ (writes_memory [] 0 a (omega arith) refl)
  no_memory User a = safe_denied _ (writes_user [] 0 a (omega arith) refl)

safe_verified :
    (s d : List ℕ) (k : Store) (m : Memory) (n a o : ℕ) → StoreSafe s d k → n ≤ most_bytes m → o + n ≤ length s →
    Safe s d (written k store.Nothing (answer.Sheet (response_of m n a) o n))
safe_verified s d k m n a o h f l =
    record { first = h; second = tt; answer = memory_answer (store_of s d k) d m n a o f (omega (arith, length_store s d k h)) }

module _ {s : List ℕ} (ok : Good s) (d : List ℕ) where
  group_read_lem : (address : ℕ) → Safe s d (group_read_of s address)
  group_read_lem address =
      group_read_cases s address (Safe s d)
      (λ i t z. safe_answered s d _ (writes_six _ (six_below ok i t.there z)))
      (λ i t z.
      let w = group_within ok i t.there in
      let c = group_short ok i t.there in
      safe_answered s d _ (w, c, writes_value _ (omega (arith, part_length s _ _ w))))
      (safe_refused s d 2)

  group_put_lem : (w address v : ℕ) → Safe s d (group_put_of w s address v (length d))
  group_put_lem w address v =
      group_put_cases s address (Safe s d) w v (length d)
      (λ i t z e. safe_stored s d _ (six_within ok i t.there, omega arith))
      (λ i t z e. safe_stored s d _ (omega (arith, group_within ok i t.there)))
      (λ i t e. safe_refused s d 10)
      (safe_refused s d 2)

  address_write_lem : (address : ℕ) → Safe s d (address_write_of s address)
  unfolding address_write_of
  address_write_lem address =
      by_eq (Safe s d) (head.programming s) 1 _ _ (λ e. safe_stored s d _ (omega (arith, long ok), omega arith))
      (λ e. safe_refused s d 2)

  address_read : Safe s d (address_read_of s)
  unfolding address_read_of
  address_read =
      by_eq (Safe s d) (head.programming s) 1 _ _ (λ e. safe_answered s d _ writes_address) (λ e. safe_refused s d 2)

  serial_read_lem : (serial : ℕ) → serial < 281474976710656 → Safe s d (serial_read_of s serial)
  unfolding serial_read_of
  serial_read_lem serial h =
      by_eq (Safe s d) serial (head.serial of s) _ _ (λ e. safe_answered s d _ (writes_serial serial h)) (λ e. safe_refused s d 2)

  serial_write_lem : (serial address : ℕ) → Safe s d (serial_write_of s serial address)
  unfolding serial_write_of
  serial_write_lem serial address =
      by_eq (Safe s d) serial (head.serial of s) _ _ (λ e. safe_stored s d _ (omega (arith, long ok), omega arith))
      (λ e. safe_refused s d 2)

  descriptor : (t : ℕ) → Safe s d (descriptor_of s t)
  descriptor t =
      descriptor_cases s t (Safe s d)
      (λ e.
      safe_answered s d _ (omega arith, writes_descriptor (bytes_of 2 (head.mask of s)) 0 (omega arith) (omega (arith, length_bytes 2 (head.mask of s)))))
      (λ h l. safe_denied s d _ (writes_descriptor [] 63 (omega arith) (omega arith)))
      (λ h l. safe_refused s d 2)

  module _ (level object id n t : ℕ) (h : (n < 16) × (t < 4096)) where
    no_value : Safe s d (denied (PropertyValueResponse object id 0 t))
    no_value = safe_denied s d _ (writes_property [] object id 0 t (omega arith) h.1 (omega arith))

    property_read_lem : Safe s d (property_read_of s level object id n t)
    property_read_lem =
        property_read_cases s level object id n t (Safe s d)
        (λ i k r z o.
        let c : ℕ = property.count of entry s properties i in
        safe_answered s d _ (omega arith, writes_property (bytes_of 2 c) object id n t h.0 h.1 (omega (arith, length_bytes 2 c))))
        (λ i k r a m.
        let w = elements_within ok i k.there n t a.start (omega (arith, a.end, count_below ok i k.there)) in
        safe_answered s d _ (w, omega arith, writes_property _ object id n t h.0 h.1 (omega (arith, part_length s _ _ w))))
        no_value

    property_write_lem : length d ≤ 10 → Safe s d (property_write_of s level object id n t d)
    property_write_lem l =
        property_write_cases s level object id n t (Safe s d) d
        (λ i k w z o e v.
        record { first = count_within ok i k.there; second = tt; answer = writes_property d object id n t h.0 h.1 l })
        (λ i k w a e.
        let c : ℕ = property.count of entry s properties i in
        let v = whole c a in
        let b = elements_within ok i k.there (jumped c t + n) (t - jumped c t) v.start v.end in
        let f : StoreSafe s d (run_in (entry s properties i) t) =
        omega (arith, length_run (jumped c t) n (property.element of entry s properties i) d e) in
        record {
          first = f;
          second = (omega (arith, count_within ok i k.there, length_store s d (run_in (entry s properties i) t) f), omega arith);
          answer = writes_property d object id n t h.0 h.1 l;
        })
        no_value

  description : (object id index : ℕ) → Safe s d (description_of s object id index)
  description object id index =
      description_cases s object id index (Safe s d)
      (λ i z k. safe_answered s d _ (writes_description _ _ _ _ _ _ (maximum_below ok i k.there)))
      (λ i z r. safe_answered s d _ (writes_description _ _ _ _ _ _ (maximum_below ok i r.there)))
      (safe_denied s d _ (writes_description object id index 0 0 0 (omega arith)))

  module _ (level n a : ℕ) where
    memory_read_lem : (m : Memory) → Safe s d (memory_read_of s m level n a)
    memory_read_lem m =
        memory_read_cases s m level n a (Safe s d)
        (λ o p. safe_answered s d _ (memory_answer s d m n a o p.few (range_within ok (range_in ok p))))
        (no_memory s d m a)

    -- a write whose stores lie where the range does
    change :
        (w : Access) (most : ℕ) (m : Memory) (new : ℕ → Store) → most ≤ most_bytes m →
        ((o : ℕ) → o + n ≤ length s → StoreSafe s d (new o)) → Safe s d (changed w most new s m level n a)
    change w most m new l f =
        change_cases w most new s m level n a (Safe s d)
        (λ o p v.
        let h = range_within ok (range_in ok p) in
        safe_verified s d (new o) m n a o (f o h) (omega (arith, p.few)) h)
        (λ o p v. safe_stored s d (new o) (f o (range_within ok (range_in ok p))))
        (λ v. no_memory s d m a)
        (λ v. safe_refused s d 12)

    memory_write_lem : (m : Memory) → length d ≡ n → Safe s d (memory_write_of s m level n a)
    unfolding memory_write_of
    memory_write_lem m e = change Write (most_bytes m) m (store.Data 0) (omega arith) (λ o w. omega arith)

    bit_write : length d ≡ n + n → Safe s d (bit_write_of s level n a)
    unfolding bit_write_of
    bit_write e = change Change 5 Device (λ o. store.Bits o n) (omega arith) (λ o w. (w, e))

  authorize : (key : ℕ) → Safe s d (authorize_of s key)
  unfolding authorize_of
  authorize key = record { first = tt; second = tt; answer = writes_level _ }

  key_write_lem : (level named key : ℕ) → Safe s d (key_write_of level named key)
  key_write_lem level named key =
      key_write_cases level named key (Safe s d)
      (λ h l. record { first = (omega (arith, long ok), omega arith); second = tt; answer = writes_key named })
      (safe_denied s d _ (writes_key 255))

  restart : Safe s d (restart_of s)
  unfolding restart_of
  restart = record { first = (omega (arith, long ok), omega arith); second = tt; answer = tt }

-- A REQUEST THAT READS IS DECIDED SO THAT IT CAN BE CARRIED OUT
pub safe_decided :
    {s : List ℕ} (ok : Good s) (level group : ℕ) (a : List ℕ) (p : Pdu) → Reading a p →
    Safe s (data_of p a) (decide_of s level group (data_of p a) p)
safe_decided ok level group a GroupValueRead r = group_read_lem ok _ group
safe_decided ok level group a (GroupValueResponse v) r = group_put_lem ok _ 4 group v
safe_decided ok level group a (GroupValueWrite v) r = group_put_lem ok _ 2 group v
safe_decided ok level group a (IndividualAddressWrite address) r = address_write_lem ok _ address
safe_decided ok level group a IndividualAddressRead r = address_read ok _
safe_decided ok level group a (SerialNumberRead serial) r = serial_read_lem ok _ serial (serial_small a serial r)
safe_decided ok level group a (SerialNumberWrite serial address) r = serial_write_lem ok _ serial address
safe_decided ok level group a (DeviceDescriptorRead t) r = descriptor ok _ t
safe_decided ok level group a (PropertyValueRead object id n s) r =
    property_read_lem ok _ level object id n s (read_fields a object id n s r)
safe_decided ok level group a (PropertyValueWrite object id n s) r =
    property_write_lem ok _ level object id n s (write_fields a object id n s r) (write_data a object id n s r)
safe_decided ok level group a (PropertyDescriptionRead object id index) r = description ok _ object id index
safe_decided ok level group a (MemoryRead n address) r = memory_read_lem ok _ level n address Device
safe_decided ok level group a (MemoryWrite n address) r = memory_write_lem ok _ level n address Device (memory_data a n address r)
safe_decided ok level group a (MemoryBitWrite n address) r = bit_write ok _ level n address (bits_data a n address r)
safe_decided ok level group a (AuthorizeRequest key) r = authorize ok _ key
safe_decided ok level group a (KeyWrite named key) r = key_write_lem ok _ level named key
safe_decided ok level group a Restart r = restart ok _
safe_decided ok level group a IndividualAddressResponse r = safe_refused _ _ 8
safe_decided ok level group a (SerialNumberResponse serial domain) r = safe_refused _ _ 8
safe_decided ok level group a (DeviceDescriptorResponse t) r = safe_refused _ _ 8
safe_decided ok level group a (PropertyValueResponse object id n s) r = safe_refused _ _ 8
safe_decided ok level group a (PropertyDescriptionResponse object id index kind maximum access) r = safe_refused _ _ 8
safe_decided ok level group a (MemoryResponse n address) r = safe_refused _ _ 8
safe_decided ok level group a (AuthorizeResponse named) r = safe_refused _ _ 8
safe_decided ok level group a (KeyResponse named) r = safe_refused _ _ 8
safe_decided ok level group a (UserMemoryRead n address) r = memory_read_lem ok _ level n address User
safe_decided ok level group a (UserMemoryResponse n address) r = safe_refused _ _ 8
safe_decided ok level group a (UserMemoryWrite n address) r = memory_write_lem ok _ level n address User (user_data a n address r)
