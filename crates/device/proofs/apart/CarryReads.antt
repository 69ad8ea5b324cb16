-- What carrying a decision out reads of the sheet: bytes of group objects, and those of elements and memory that the level of the request may read.
use Rattle.octets.proofs.Kit.{ℕ, ◌+◌, ◌*◌, ◌-◌, ◌/◌, ◌<◌, ◌≤◌, ◌≡◌, refl, sym, ap, subst, ◌⊎◌, inl, inr, List, mul-le-mul_right, arith}
use Rattle.std.proofs.Common.{Result}
use Rattle.pdu.specs.declared.ReadRefusal.{ReadRefusal}
use Rattle.octets.proofs.Walks.{by_eq}
use Rattle.sheet.specs.{Kind.{properties, groups, kind_of, by_kind}, Layout.◌of◌, Entries.{count, entry, body_at, body_end, InBody}, Places.{Ranged, region_at}, declared.Memory.Memory}
use Rattle.sheet.{specs.declared.Memory.TheVariants.{Device, User}, proofs.{rules.Good.{Good, good}, alike.Buts.Misses, places.RegionBodies.stands_in}}
use Rattle.sheet.specs.Head as head
use Rattle.sheet.specs.Region as region
use Rattle.sheet.specs.Property as property
use Rattle.sheet.specs.Group as group
use Rattle.pdu.specs.{Read.{read_pdu, data_of}, declared.Pdu.{Pdu, TheVariants.{GroupValueRead, GroupValueResponse, GroupValueWrite, IndividualAddressWrite}}}
use Rattle.pdu.specs.declared.Pdu.TheVariants.{IndividualAddressRead, SerialNumberRead, SerialNumberWrite, DeviceDescriptorRead, PropertyValueRead, PropertyValueWrite}
use Rattle.pdu.specs.declared.Pdu.TheVariants.{PropertyDescriptionRead, MemoryRead, MemoryWrite, MemoryBitWrite, AuthorizeRequest, KeyWrite, Restart, IndividualAddressResponse}
use Rattle.pdu.specs.declared.Pdu.TheVariants.{SerialNumberResponse, DeviceDescriptorResponse, PropertyValueResponse, PropertyDescriptionResponse, MemoryResponse, AuthorizeResponse}
use Rattle.pdu.{specs.declared.Pdu.TheVariants.{KeyResponse, UserMemoryRead, UserMemoryResponse, UserMemoryWrite}, proofs.promises.Readings.{Reading, reading}}
use Rattle.judge.specs.{declared.{Access.TheVariants.{Write, Change}, Decision.Decision}, Addresses.{address_write_of, address_read_of, serial_read_of, serial_write_of}}
use Rattle.judge.specs.{Memory.{memory_write_of, bit_write_of}, Keys.{authorize_of, restart_of}, Session.level_in, Judge.{decide_of, judge_of, data_in}}
use Rattle.judge.proofs.{GroupCases.{group_read_cases, group_put_cases}, DescriptorCases.descriptor_cases, PropertyCases.{property_read_cases, property_write_cases, description_cases}}
use Rattle.judge.proofs.{MemoryCases.{range_in, memory_read_cases, change_cases}, KeyCases.key_write_cases}
use Rattle.judge.specs.declared.Store.TheVariants as store
use Rattle.device.specs.Asked.{Asked, Reads, given}
use Rattle.device.proofs.{leaves.Accepted.count_below, due.{Given.{memory_data, user_data}, RequestCases.request_cases}, apart.StepBut.Spares}

-- the read level of entry i of a kind; a group object has none
abbrev pub read_level : List ℕ → ℕ → ℕ → ℕ
read_level s k i = by_kind k (region.levels of entry s k i) (property.levels of entry s k i) 0 / 16

-- of H is no byte of a group object, and none of elements or memory that the level may read
abbrev pub Unread : List ℕ → ℕ → (ℕ → Type 0) → Type 0
Unread s level H = (k i p : ℕ) → InBody s k i p → (k ≡ groups) ⊎ (level ≤ read_level s k i) → H p → ⊥

module _ {s : List ℕ} (ok : Good s) (H : ℕ → Type 0) (level : ℕ) (none : Unread s level H) where
  group_missed : (i n : ℕ) → i < count s groups → n ≤ group.code of entry s groups i → Misses H (group.offset of entry s groups i) n
  unfolding body_at body_end
  group_missed i n h m j l =
      none groups i _ (record { kind = omega arith; below = h; from = omega arith; to = omega arith }) (inl refl)

  level_of_lem : (m : Memory) (i : ℕ) → read_level s (kind_of m) i ≡ region.levels of region_at s m i / 16
  level_of_lem Device i = refl
  level_of_lem User i = refl

  range_missed : {m : Memory} {a n o l : ℕ} → Ranged s m a n o l → level ≤ l / 16 → Misses H o n
  range_missed {m} r h j z =
      let t = r.each j z in
      let u : level ≤ r.at j / 16 = (r.reading level).0 h j z in
      let v : r.at j / 16 ≡ region.levels of region_at s m t.index / 16 = ap (λ (n : ℕ). n / 16) t.under in
      none (kind_of m) t.index _ (stands_in ok t) (inr (omega (arith, level_of_lem m t.index)))

  elements_missed :
      (i n t : ℕ) → i < count s properties → 1 ≤ t → t + n - 1 ≤ property.count of entry s properties i →
      level ≤ property.levels of entry s properties i / 16 →
      Misses H (property.offset of entry s properties i + (t - 1) * property.element of entry s properties i) (n * property.element of entry s properties i)
  unfolding body_at body_end
  elements_missed i n t h u e l j z =
      let w : ℕ = property.element of entry s properties i in
      let c : property.count of entry s properties i ≤ property.maximum of entry s properties i = count_below ok i h in
      let v : t - 1 + n ≤ property.maximum of entry s properties i = omega arith in
      none properties i _ (record { kind = omega arith; below = h; from = omega arith; to = omega (arith, mul-le-mul_right w v) }) (inr (omega arith))

  -- of a request that reads
  module _ (grp : ℕ) (a : List ℕ) where
    abbrev P : Pdu → Decision → Type 0
    P p = Spares H (data_of p a)

    spares_decided : (p : Pdu) → Reading a p → Spares H (data_of p a) (decide_of s level grp (data_of p a) p)
    unfolding address_write_of address_read_of serial_read_of serial_write_of memory_write_of bit_write_of authorize_of restart_of
    spares_decided GroupValueRead r =
        group_read_cases s grp (P GroupValueRead) (λ i t z. (tt, tt, tt)) (λ i t z. (tt, tt, inl (group_missed i _ t.there (omega arith)))) (tt, tt, tt)
    spares_decided (GroupValueResponse v) r =
        group_put_cases s grp (P (GroupValueResponse v)) 4 v _ (λ i t z e. (tt, tt, tt)) (λ i t z e. (tt, tt, tt)) (λ i t e. (tt, tt, tt)) (tt, tt, tt)
    spares_decided (GroupValueWrite v) r =
        group_put_cases s grp (P (GroupValueWrite v)) 2 v _ (λ i t z e. (tt, tt, tt)) (λ i t z e. (tt, tt, tt)) (λ i t e. (tt, tt, tt)) (tt, tt, tt)
    spares_decided (IndividualAddressWrite address) r =
        by_eq (P (IndividualAddressWrite address)) (head.programming s) 1 _ _ (λ e. (tt, tt, tt)) (λ e. (tt, tt, tt))
    spares_decided IndividualAddressRead r =
        by_eq (P IndividualAddressRead) (head.programming s) 1 _ _ (λ e. (tt, tt, tt)) (λ e. (tt, tt, tt))
    spares_decided (SerialNumberRead serial) r =
        by_eq (P (SerialNumberRead serial)) serial (head.serial of s) _ _ (λ e. (tt, tt, tt)) (λ e. (tt, tt, tt))
    spares_decided (SerialNumberWrite serial address) r =
        by_eq (P (SerialNumberWrite serial address)) serial (head.serial of s) _ _ (λ e. (tt, tt, tt)) (λ e. (tt, tt, tt))
    spares_decided (DeviceDescriptorRead t) r =
        descriptor_cases s t (P (DeviceDescriptorRead t)) (λ e. (tt, tt, tt)) (λ h l. (tt, tt, tt)) (λ h l. (tt, tt, tt))
    spares_decided (PropertyValueRead object id n t) r =
        property_read_cases s level object id n t (P (PropertyValueRead object id n t)) (λ i k l z o. (tt, tt, tt))
        (λ i k l m b. (tt, tt, inl (elements_missed i n t k.there m.start m.end l))) (tt, tt, tt)
    spares_decided (PropertyValueWrite object id n t) r =
        property_write_cases s level object id n t (P (PropertyValueWrite object id n t)) _ (λ i k w z o l v. (tt, tt, tt)) (λ i k w z l. (tt, tt, tt)) (tt, tt, tt)
    spares_decided (PropertyDescriptionRead object id index) r =
        description_cases s object id index (P (PropertyDescriptionRead object id index)) (λ i z k. (tt, tt, tt)) (λ i z k. (tt, tt, tt)) (tt, tt, tt)
    spares_decided (MemoryRead n address) r =
        memory_read_cases s Device level n address (P (MemoryRead n address)) (λ o p. (tt, tt, inl (range_missed (range_in ok p) p.suffices))) (tt, tt, tt)
    spares_decided (MemoryWrite n address) r =
        change_cases Write 12 (store.Data 0) s Device level n address (P (MemoryWrite n address))
        (λ o p v. (tt, tt, inr (refl, refl, memory_data a n address r))) (λ o p v. (tt, tt, tt)) (λ v. (tt, tt, tt)) (λ v. (tt, tt, tt))
    spares_decided (MemoryBitWrite n address) r =
        change_cases Change 5 (λ o. store.Bits o n) s Device level n address (P (MemoryBitWrite n address))
        (λ o p v. (range_missed (range_in ok p) p.suffices.0, tt, inl (range_missed (range_in ok p) p.suffices.0)))
        (λ o p v. (range_missed (range_in ok p) p.suffices.0, tt, tt))
        (λ v. (tt, tt, tt)) (λ v. (tt, tt, tt))
    spares_decided (AuthorizeRequest key) r = (tt, tt, tt)
    spares_decided (KeyWrite named key) r = key_write_cases level named key (P (KeyWrite named key)) (λ h l. (tt, tt, tt)) (tt, tt, tt)
    spares_decided Restart r = (tt, tt, tt)
    spares_decided IndividualAddressResponse r = (tt, tt, tt)
    spares_decided (SerialNumberResponse serial domain) r = (tt, tt, tt)
    spares_decided (DeviceDescriptorResponse t) r = (tt, tt, tt)
    spares_decided (PropertyValueResponse object id n t) r = (tt, tt, tt)
    spares_decided (PropertyDescriptionResponse object id index kind maximum access) r = (tt, tt, tt)
    spares_decided (MemoryResponse n address) r = (tt, tt, tt)
    spares_decided (AuthorizeResponse named) r = (tt, tt, tt)
    spares_decided (KeyResponse named) r = (tt, tt, tt)
    spares_decided (UserMemoryRead n address) r =
        memory_read_cases s User level n address (P (UserMemoryRead n address)) (λ o p. (tt, tt, inl (range_missed (range_in ok p) p.suffices))) (tt, tt, tt)
    spares_decided (UserMemoryResponse n address) r = (tt, tt, tt)
    spares_decided (UserMemoryWrite n address) r =
        change_cases Write 11 (store.Data 0) s User level n address (P (UserMemoryWrite n address))
        (λ o p v. (tt, tt, inr (refl, refl, user_data a n address r))) (λ o p v. (tt, tt, tt)) (λ v. (tt, tt, tt)) (λ v. (tt, tt, tt))

-- WHATEVER IS DECIDED READS NONE OF H WHEN IT IS CARRIED OUT, if nothing that the level of the request may read is of H
pub spares :
    (x : Asked) (H : ℕ → Type 0) →
    ((p : Pdu) (r : Reads x p) → Good x.sheet → Unread x.sheet (level_in x.session x.mode) H) →
    Spares H (data_in (read_pdu x.apdu) x.apdu) (judge_of x.room x.sheet x.session x.mode x.group x.apdu)
spares x H none =
    request_cases x (Spares H (data_in (read_pdu x.apdu) x.apdu)) (λ k r n v t. (tt, tt, tt)) (λ r f. (tt, tt, tt)) (λ k r n t e. (tt, tt, tt))
    (λ p r.
    let ok : Good x.sheet = good x.sheet r.ready.sheet in
    subst (λ (z : Result Pdu ReadRefusal). Spares H (data_in z x.apdu) (decide_of x.sheet (level_in x.session x.mode) x.group (given x p) p)) (sym r.reads)
    (spares_decided ok H (level_in x.session x.mode) (none p r ok) x.group x.apdu p (reading x.apdu p r.reads)))
    (λ n r. (tt, tt, tt))
