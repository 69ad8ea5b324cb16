-- What a request stores is bytes, and leaves an accepted sheet of the same length.
use Rattle.octets.proofs.Kit.{ℕ, zero, suc, ◌<◌, ◌≡◌, refl, ap, ◌∙◌, List, arith, length, replicate}
use Rattle.octets.{specs.{Bytes.bytes_of, Octets.Octets}, proofs.{Numbers.length_bytes, Octet.{octets_append, octets_bytes, octets_splice}, Walks.by_eq}}
use Rattle.sheet.{specs.{Layout.◌of◌, Rules.Accepted, declared.Memory.{Memory, TheVariants.{Device, User}}}, proofs.{rules.Good.good, promises.Agrees.both_or_neither}}
use Rattle.sheet.specs.Head as head
use Rattle.pdu.specs.{Read.data_of, declared.Pdu.{Pdu, TheVariants.{GroupValueRead, GroupValueResponse, GroupValueWrite, IndividualAddressWrite, IndividualAddressRead, SerialNumberRead}}}
use Rattle.pdu.specs.declared.Pdu.TheVariants.{SerialNumberWrite, DeviceDescriptorRead, PropertyValueRead, PropertyValueWrite, PropertyDescriptionRead, MemoryRead, MemoryWrite}
use Rattle.pdu.specs.declared.Pdu.TheVariants.{MemoryBitWrite, AuthorizeRequest, KeyWrite, Restart, IndividualAddressResponse, SerialNumberResponse, DeviceDescriptorResponse}
use Rattle.pdu.specs.declared.Pdu.TheVariants.{PropertyValueResponse, PropertyDescriptionResponse, MemoryResponse, AuthorizeResponse, KeyResponse, UserMemoryRead, UserMemoryResponse}
use Rattle.pdu.{specs.declared.Pdu.TheVariants.UserMemoryWrite, proofs.promises.Readings.Reading}
use Rattle.judge.specs.{declared.{Access.{Access, TheVariants.{Write, Change}}, Store.Store, Decision.Decision}, Addresses.{address_write_of, address_read_of, serial_read_of, serial_write_of}}
use Rattle.judge.{specs.{Memory.{memory_write_of, bit_write_of}, Keys.{authorize_of, restart_of}, Judge.decide_of}, proofs.GroupCases.{group_read_cases, group_put_cases}}
use Rattle.judge.proofs.{DescriptorCases.descriptor_cases, PropertyCases.{property_read_cases, property_write_cases, description_cases}}
use Rattle.judge.proofs.{MemoryCases.{memory_read_cases, changed, change_cases}, KeyCases.key_write_cases}
use Rattle.judge.specs.declared.Store.TheVariants as store
use Rattle.device.{specs.{Carry.{bit_at, store_of}, Safe.{StoreSafe, Safe}}, proofs.leaves.{Bits.{combined, length_build}, Octet.{octets_data, octets_bits}, Stores.length_store}}
use Rattle.device.proofs.{leaves.Keeping.keeps_decided, calls.SafeEach.safe_decided}
use Rattle.plain_services.specs.Steps.{left}

-- a byte that is filled in is one
abbrev Small : Store → Type 0
Small store.Nothing = Unit {0}
Small (store.Number at w x) = Unit {0}
Small (store.Data zeros at) = Unit {0}
Small (store.Bits at n) = Unit {0}
Small (store.Fill at n b) = b < 256

abbrev Both : Decision → Type 0
Both k = Small k.first × Small k.second

repeated : (n b : ℕ) → b < 256 → Octets (replicate n b)
repeated zero b h i = omega arith
repeated (suc n) b h zero = h
repeated (suc n) b h (suc i) = repeated n b h i

one_store : (s d : List ℕ) (k : Store) → StoreSafe s d k → Small k → Octets s → Octets d → Octets (store_of s d k)
one_store s d store.Nothing f h o p = o
one_store s d (store.Number at w x) f h o p =
    octets_splice s at (bytes_of w x) (omega (arith, f.0, length_bytes w x)) o (octets_bytes w x)
one_store s d (store.Data zeros at) f h o p = octets_splice s at _ f o (octets_append (replicate zeros 0) d (repeated zeros 0 (omega arith)) p)
one_store s d (store.Bits at n) f h o p =
    octets_splice s at _ (omega (arith, f.0, length_build n (bit_at s at n d))) o (octets_bits (combined s at n d) o p)
one_store s d (store.Fill at n b) f h o p = octets_splice s at (replicate n b) (omega (arith, f, long n)) o (repeated n b h)
  where
    long : (m : ℕ) → length (replicate m b) ≡ m
    long zero = refl
    long (suc m) = ap suc (long m)

module _ (s : List ℕ) (level group : ℕ) (d : List ℕ) where
  change : (w : Access) (most : ℕ) (m : Memory) (n a : ℕ) (new : ℕ → Store) → ((o : ℕ) → Small (new o)) → Both (changed w most new s m level n a)
  change w most m n a new f =
      change_cases w most new s m level n a Both (λ o p v. (f o, tt)) (λ o p v. (f o, tt)) (λ v. (tt, tt)) (λ v. (tt, tt))

  both_small : (p : Pdu) → Both (decide_of s level group d p)
  unfolding address_write_of address_read_of serial_read_of serial_write_of memory_write_of bit_write_of authorize_of restart_of
  both_small GroupValueRead = group_read_cases s group Both (λ i t z. (tt, tt)) (λ i t z. (tt, tt)) (tt, tt)
  both_small (GroupValueResponse v) = group_put_cases s group Both 4 v (length d) (λ i t z e. (tt, tt)) (λ i t z e. (tt, tt)) (λ i t e. (tt, tt)) (tt, tt)
  both_small (GroupValueWrite v) = group_put_cases s group Both 2 v (length d) (λ i t z e. (tt, tt)) (λ i t z e. (tt, tt)) (λ i t e. (tt, tt)) (tt, tt)
  both_small (IndividualAddressWrite address) = by_eq Both (head.programming s) 1 _ _ (λ e. (tt, tt)) (λ e. (tt, tt))
  both_small IndividualAddressRead = by_eq Both (head.programming s) 1 _ _ (λ e. (tt, tt)) (λ e. (tt, tt))
  both_small (SerialNumberRead serial) = by_eq Both serial (head.serial of s) _ _ (λ e. (tt, tt)) (λ e. (tt, tt))
  both_small (SerialNumberWrite serial address) = by_eq Both serial (head.serial of s) _ _ (λ e. (tt, tt)) (λ e. (tt, tt))
  both_small (DeviceDescriptorRead t) = descriptor_cases s t Both (λ e. (tt, tt)) (λ h l. (tt, tt)) (λ h l. (tt, tt))
  both_small (PropertyValueRead object id n t) =
      property_read_cases s level object id n t Both (λ i k l z o. (tt, tt)) (λ i k l m b. (tt, tt)) (tt, tt)
  both_small (PropertyValueWrite object id n t) =
      property_write_cases s level object id n t Both d (λ i k w z o l v. (omega arith, tt)) (λ i k w a l. (tt, tt)) (tt, tt)
  both_small (PropertyDescriptionRead object id index) =
      description_cases s object id index Both (λ i z k. (tt, tt)) (λ i z k. (tt, tt)) (tt, tt)
  both_small (MemoryRead n address) = memory_read_cases s Device level n address Both (λ i p. (tt, tt)) (tt, tt)
  both_small (MemoryWrite n address) = change Write 12 Device n address (store.Data 0) (λ o. tt)
  both_small (MemoryBitWrite n address) = change Change 5 Device n address (λ o. store.Bits o n) (λ o. tt)
  both_small (AuthorizeRequest key) = (tt, tt)
  both_small (KeyWrite named key) = key_write_cases level named key Both (λ h l. (tt, tt)) (tt, tt)
  both_small Restart = (tt, tt)
  both_small IndividualAddressResponse = (tt, tt)
  both_small (SerialNumberResponse serial domain) = (tt, tt)
  both_small (DeviceDescriptorResponse t) = (tt, tt)
  both_small (PropertyValueResponse object id n t) = (tt, tt)
  both_small (PropertyDescriptionResponse object id index kind maximum access) = (tt, tt)
  both_small (MemoryResponse n address) = (tt, tt)
  both_small (AuthorizeResponse named) = (tt, tt)
  both_small (KeyResponse named) = (tt, tt)
  both_small (UserMemoryRead n address) = memory_read_cases s User level n address Both (λ i p. (tt, tt)) (tt, tt)
  both_small (UserMemoryResponse n address) = (tt, tt)
  both_small (UserMemoryWrite n address) = change Write 11 User n address (store.Data 0) (λ o. tt)

module _ (s : List ℕ) (ok : Accepted s) (level group : ℕ) (a : List ℕ) (p : Pdu) (r : Reading a p) where
  abbrev d : List ℕ
  d = data_of p a

  abbrev k : Decision
  k = decide_of s level group d p

  pub safe : Safe s d k
  safe = safe_decided (good s ok) level group a p r

  -- THE SHEET AFTERWARDS is bytes, accepted, and as long
  pub left_bytes : Octets s → Octets a → Octets (left s d k)
  left_bytes o b =
      let m = both_small s level group d p in
      one_store (store_of s d k.first) d k.second safe.second m.1
      (one_store s d k.first safe.first m.0 o (octets_data p a b)) (octets_data p a b)

  pub left_accepted : Accepted (left s d k)
  left_accepted = (both_or_neither (keeps_decided (good s ok) level group a p r)).0 ok

  pub left_long : length (left s d k) ≡ length s
  left_long = length_store (store_of s d k.first) d k.second safe.second ∙ length_store s d k.first safe.first
