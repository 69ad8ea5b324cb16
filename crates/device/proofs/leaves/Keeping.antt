-- What each service stores agrees with the sheet on what the rules read.
use Rattle.octets.proofs.Kit.{ℕ, ◌≤◌, ◌<◌, ◌≡◌, refl, List, [], length, get_or, arith}
use Rattle.octets.{specs.{Bytes.bytes_of, Splice.splice}, proofs.{Numbers.{length_bytes, bytes_zero}, Truths.{and_is, below_is}, Walks.by_eq}}
use Rattle.sheet.specs.{Kind.properties, Layout.◌of◌, Entries.entry, Agree.Agree, Rules.entry_demands, declared.Memory.{Memory, TheVariants.{Device, User}}}
use Rattle.sheet.proofs.{rules.Good.{Good, accepted}, promises.{Stores.{key_store, address_store, flags_store}, Runs.range_store}}
use Rattle.sheet.specs.Head as head
use Rattle.sheet.specs.Property as property
use Rattle.pdu.specs.{Read.data_of, declared.Pdu.{Pdu, TheVariants.{GroupValueRead, GroupValueResponse, GroupValueWrite, IndividualAddressWrite, IndividualAddressRead, SerialNumberRead}}}
use Rattle.pdu.specs.declared.Pdu.TheVariants.{SerialNumberWrite, DeviceDescriptorRead, PropertyValueRead, PropertyValueWrite, PropertyDescriptionRead, MemoryRead, MemoryWrite}
use Rattle.pdu.specs.declared.Pdu.TheVariants.{MemoryBitWrite, AuthorizeRequest, KeyWrite, Restart, IndividualAddressResponse, SerialNumberResponse, DeviceDescriptorResponse}
use Rattle.pdu.specs.declared.Pdu.TheVariants.{PropertyValueResponse, PropertyDescriptionResponse, MemoryResponse, AuthorizeResponse, KeyResponse, UserMemoryRead, UserMemoryResponse}
use Rattle.pdu.{specs.declared.Pdu.TheVariants.UserMemoryWrite, proofs.promises.Readings.Reading}
use Rattle.judge.specs.declared.{Access.{Access, TheVariants.{Write, Change}}, Store.Store, Decision.Decision}
use Rattle.judge.specs.{Addresses.{address_write_of, address_read_of, serial_read_of, serial_write_of, descriptor_of}, Memory.{memory_write_of, bit_write_of}, Groups.group_put_of}
use Rattle.judge.{specs.{Properties.{jumped, property_write_of}, Keys.{authorize_of, restart_of}, Judge.decide_of}, proofs.GroupCases.{group_read_cases, group_put_cases}}
use Rattle.judge.proofs.{DescriptorCases.descriptor_cases, PropertyCases.{property_read_cases, property_write_cases, description_cases}}
use Rattle.judge.proofs.{MemoryCases.{range_in, memory_read_cases, changed, change_cases}, KeyCases.key_write_cases}
use Rattle.judge.specs.declared.Store.TheVariants as store
use Rattle.device.specs.Carry.{build, bit_at, store_of}
use Rattle.device.proofs.{due.Given.{memory_data, user_data}, leaves.{Bits.length_build, Jumps.{whole, length_run}, Agreeing.{agree_refl, group_keeps, elements_keep, count_keeps}}}

-- the sheet s afterwards, and that it agrees with s
abbrev pub left : List ℕ → List ℕ → Decision → List ℕ
left s d k = store_of (store_of s d k.first) d k.second

abbrev pub Keeps : List ℕ → List ℕ → Decision → Type 0
Keeps s d k = Agree s (left s d k)

-- six bits of a group value that reads are below 64
six : (a : List ℕ) (v : ℕ) → Reading a (GroupValueResponse v) → v < 64
six a v r = (below_is v 64).0 ((and_is _ _).0 r.fit).0

six_written : (a : List ℕ) (v : ℕ) → Reading a (GroupValueWrite v) → v < 64
six_written a v r = (below_is v 64).0 ((and_is _ _).0 r.fit).0

one_byte : (v j : ℕ) → v < 64 → j < length (bytes_of 1 v) → get_or (bytes_of 1 v) j 0 < 64
unfolding bytes_of
one_byte v j h l = let e : j ≡ 0 = omega arith in rw e (omega arith)

module _ {s : List ℕ} (ok : Good s) (d : List ℕ) where
  same : Agree s s
  same = agree_refl s

  group_put_lem : (w address v : ℕ) → v < 64 → Keeps s d (group_put_of w s address v (length d))
  group_put_lem w address v h =
      group_put_cases s address (Keeps s d) w v (length d)
      (λ i t z e. group_keeps ok i (bytes_of 1 v) t.there (omega (arith, length_bytes 1 v)) (λ c j l. one_byte v j h l))
      (λ i t z e. group_keeps ok i d t.there (omega arith) (λ c. absurd (omega arith)))
      (λ i t e. same)
      same

  address_new : (address : ℕ) → Agree s (splice s (head.address).at (bytes_of 2 address))
  address_new address = address_store (accepted ok) (bytes_of 2 address) (length_bytes 2 address)

  -- new flags, from the old
  pub flags_new : (f : ℕ) → f ≤ 3 → Agree s (splice s (head.flags).at (bytes_of 1 f))
  unfolding bytes_of
  flags_new f h = flags_store (accepted ok) _ (omega arith)

  -- a write to memory
  change :
      (w : Access) (most : ℕ) (m : Memory) (level n a : ℕ) (new : ℕ → Store) (bytes : ℕ → List ℕ) →
      ((o : ℕ) → store_of s d (new o) ≡ splice s o (bytes o)) → ((o : ℕ) → length (bytes o) ≡ n) → Keeps s d (changed w most new s m level n a)
  change w most m level n a new bytes e l =
      change_cases w most new s m level n a (Keeps s d)
      (λ o p v. rw e (range_store ok (range_in ok p) (bytes o) (l o)))
      (λ o p v. rw e (range_store ok (range_in ok p) (bytes o) (l o)))
      (λ v. same)
      (λ v. same)

  module _ (level object id n t : ℕ) where
    -- the count never passes the maximum
    property_write_lem : Keeps s d (property_write_of s level object id n t d)
    unfolding entry_demands
    property_write_lem =
        property_write_cases s level object id n t (Keeps s d) d
        (λ i k w z o l v. rw (← (bytes_zero 2)) (count_keeps ok same i 0 k.there (omega arith)))
        (λ i k w a l.
        let c : ℕ = property.count of entry s properties i in
        count_keeps ok
        (elements_keep ok i _ _ _ k.there (whole c a) (length_run (jumped c t) n (property.element of entry s properties i) d l))
        i _ k.there (omega (arith, a.end, ok.entries properties i (omega arith) k.there)))
        same

module _ {s : List ℕ} (ok : Good s) (level group : ℕ) (a : List ℕ) where
  as_is : Agree s s
  as_is = agree_refl s

  abbrev K : Pdu → Decision → Type 0
  K p = Keeps s (data_of p a)

  -- WHAT A REQUEST THAT READS STORES AGREES WITH THE SHEET
  pub keeps_decided : (p : Pdu) → Reading a p → Keeps s (data_of p a) (decide_of s level group (data_of p a) p)
  unfolding address_write_of address_read_of serial_read_of serial_write_of descriptor_of memory_write_of bit_write_of authorize_of restart_of
  keeps_decided GroupValueRead r = group_read_cases s group (K GroupValueRead) (λ i t z. as_is) (λ i t z. as_is) as_is
  keeps_decided (GroupValueResponse v) r = group_put_lem ok (data_of (GroupValueResponse v) a) 4 group v (six a v r)
  keeps_decided (GroupValueWrite v) r = group_put_lem ok (data_of (GroupValueWrite v) a) 2 group v (six_written a v r)
  keeps_decided (IndividualAddressWrite address) r =
      by_eq (K (IndividualAddressWrite address)) (head.programming s) 1 _ _ (λ e. address_new ok [] address) (λ e. as_is)
  keeps_decided IndividualAddressRead r = by_eq (K IndividualAddressRead) (head.programming s) 1 _ _ (λ e. as_is) (λ e. as_is)
  keeps_decided (SerialNumberRead serial) r =
      by_eq (K (SerialNumberRead serial)) serial (head.serial of s) _ _ (λ e. as_is) (λ e. as_is)
  keeps_decided (SerialNumberWrite serial address) r =
      by_eq (K (SerialNumberWrite serial address)) serial (head.serial of s) _ _ (λ e. address_new ok [] address) (λ e. as_is)
  keeps_decided (DeviceDescriptorRead t) r = descriptor_cases s t (K (DeviceDescriptorRead t)) (λ e. as_is) (λ h l. as_is) (λ h l. as_is)
  keeps_decided (PropertyValueRead object id n t) r =
      property_read_cases s level object id n t (K (PropertyValueRead object id n t)) (λ i k l z o. as_is) (λ i k l m b. as_is) as_is
  keeps_decided (PropertyValueWrite object id n t) r = property_write_lem ok _ level object id n t
  keeps_decided (PropertyDescriptionRead object id index) r =
      description_cases s object id index (K (PropertyDescriptionRead object id index)) (λ i z k. as_is) (λ i z k. as_is) as_is
  keeps_decided (MemoryRead n address) r = memory_read_cases s Device level n address (K (MemoryRead n address)) (λ i p. as_is) as_is
  keeps_decided (MemoryWrite n address) r =
      change ok _ Write 12 Device level n address (store.Data 0) (λ o. data_of (MemoryWrite n address) a) (λ o. refl) (λ o. memory_data a n address r)
  keeps_decided (MemoryBitWrite n address) r =
      change ok _ Change 5 Device level n address (λ o. store.Bits o n) (λ o. build n (bit_at s o n (data_of (MemoryBitWrite n address) a))) (λ o. refl) (λ o. length_build n _)
  keeps_decided (AuthorizeRequest key) r = as_is
  keeps_decided (KeyWrite named key) r =
      key_write_cases level named key (K (KeyWrite named key)) (λ h l. key_store (accepted ok) named (bytes_of 4 key) (omega arith) (length_bytes 4 key)) as_is
  keeps_decided Restart r = flags_new ok [] _ (omega (arith, ok.zeros))
  keeps_decided IndividualAddressResponse r = as_is
  keeps_decided (SerialNumberResponse serial domain) r = as_is
  keeps_decided (DeviceDescriptorResponse t) r = as_is
  keeps_decided (PropertyValueResponse object id n t) r = as_is
  keeps_decided (PropertyDescriptionResponse object id index kind maximum access) r = as_is
  keeps_decided (MemoryResponse n address) r = as_is
  keeps_decided (AuthorizeResponse named) r = as_is
  keeps_decided (KeyResponse named) r = as_is
  keeps_decided (UserMemoryRead n address) r = memory_read_cases s User level n address (K (UserMemoryRead n address)) (λ i p. as_is) as_is
  keeps_decided (UserMemoryResponse n address) r = as_is
  keeps_decided (UserMemoryWrite n address) r =
      change ok _ Write 11 User level n address (store.Data 0) (λ o. data_of (UserMemoryWrite n address) a) (λ o. refl) (λ o. user_data a n address r)
