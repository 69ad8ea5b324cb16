-- Writes to memory, of bytes and of bits, carried out and denied.
use Rattle.octets.proofs.Kit.{ℕ, ◌+◌, ◌<◌, ◌≡◌, refl, sym, ap, ◌∙◌, List, [], ◌∷◌, length, get_or, bit_and, bit_xor}
use Rattle.octets.specs.Splice.{splice}
use Rattle.sheet.{specs.{Places.Ranged, declared.Memory.{Memory, TheVariants.{Device, User}}}, proofs.{alike.SameLookups.ranged_same, promises.Agrees.agree_sym}}
use Rattle.sheet.proofs.promises.Runs.{range_within, range_store}
use Rattle.pdu.{specs.declared.Pdu.TheVariants.{MemoryWrite, MemoryBitWrite, UserMemoryWrite}, proofs.promises.Readings.reading}
use Rattle.device.specs.{Octets.Octets, Events.State, Asked.{Asked, Reads, given}, Due.asked, MemoryDue.{Write, bytes, bits, into, writing, MemoryWritable, Leaves}}
use Rattle.device.proofs.{leaves.Octet.{octets_data, octets_bits}, due.{OpenRanges.{over_write, opened}, Given.{memory_data, user_data}}}
use Rattle.events.specs.Events.{Event}
use Rattle.history.specs.{Location.memory, Wish.{change, wish_of}, Permit.spans, History.{First, content}, Others.{programming, individual, group_byte}, Keeps.{Begins, Succeeds}}
use Rattle.history.proofs.{steps.Invariant.{Inv, fine, now}, stored.{Means.{Means, store_span}, MemoryRun.{memory_place, memory_run}}, heard.Permits.{wish, memory_is}}
use Rattle.history.proofs.{steps.Requests.{ends, Done}, spans.Spans.laid, steps.Writes.{carried_out, denied}}

-- what a write to memory asks for
pub wish_is : (w : Write) (n y : ℕ) → wish_of (writing w n y) ≡ change (wish w n y)
wish_is (bytes Device) n y = refl
wish_is (bytes User) n y = refl
wish_is bits n y = refl

module _ (f : First) (b : Begins f) (h : List Event) (x : State) (inv : Inv f h x) (mode c g : ℕ) (a out : List ℕ) (octets : Octets a) where
  abbrev R : Asked
  R = asked x mode c g a out

  module _ {m : Memory} {n y o l : ℕ} (r : Ranged x.sheet m y n o l) where
    -- the range stands where it stood
    first : Ranged f.sheet m y n o l
    first = ranged_same (agree_sym inv.means.agree) r

    -- A STORE TO A RANGE
    range_stored :
        (give : ℕ → ℕ) (ds : List ℕ) → length ds ≡ n → Octets ds → ((j : ℕ) → j < n → give j ≡ get_or ds j 0) →
        Means f.sheet (laid (record { from = memory m y; long = n; give = give } ∷ []) (content f h)) (individual f h) (programming f h) (group_byte f h) (splice x.sheet o ds)
    range_stored give ds size small equal =
        store_span (fine inv b) inv.means (record { from = memory m y; long = n; give = give }) o ds
        (rw size (range_within (now inv b) r))
        (memory_run first give ds size equal)
        (range_store (now inv b) r ds size)
        small

    -- what an address of the range holds
    held : (j : ℕ) → j < n → content f h (memory m (y + j)) ≡ get_or x.sheet (o + j) 0
    held j e = sym (inv.means.holds (memory m (y + j)) _ (memory_place first j e))

  -- the range that may be written
  range : (w : Write) {n y o : ℕ} (q : MemoryWritable R w n y o) → Ranged x.sheet (into w) y n o (opened (over_write w) (now inv b) q).0
  range w q = (opened (over_write w) (now inv b) q).1

  -- what it leaves is what its span gives
  stored :
      (w : Write) (n y o : ℕ) (d : List ℕ) → Reads R (writing w n y) → MemoryWritable R w n y o → Leaves R w n y o d →
      Means f.sheet (laid (spans f.sheet (content f h) (given R (writing w n y)) (change (wish w n y))) (content f h)) (individual f h) (programming f h) (group_byte f h) (splice x.sheet o d)
  unfolding spans
  stored (bytes Device) n y o d r w e =
      range_stored (range (bytes Device) w) (λ j. get_or (given R (MemoryWrite n y)) j 0) d (ap length e ∙ memory_data a n y (reading a _ r.reads))
      (rw e (octets_data (MemoryWrite n y) a octets))
      (λ j k. ap (λ (c : List ℕ). get_or c j 0) (sym e))
  stored (bytes User) n y o d r w e =
      range_stored (range (bytes User) w) (λ j. get_or (given R (UserMemoryWrite n y)) j 0) d (ap length e ∙ user_data a n y (reading a _ r.reads))
      (rw e (octets_data (UserMemoryWrite n y) a octets))
      (λ j k. ap (λ (c : List ℕ). get_or c j 0) (sym e))
  stored bits n y o d r w e =
      let given : List ℕ = given R (MemoryBitWrite n y) in
      range_stored (range bits w) (λ j. bit_xor (bit_and (content f h (memory Device (y + j))) (get_or given j 0)) (get_or given (n + j) 0)) d
      e.long
      (octets_bits e inv.means.octets (octets_data (MemoryBitWrite n y) a octets))
      (λ j k. rw (e.each j k, held (range bits w) j k))

  -- A WRITE, carried out
  pub memory_written :
      (w : Write) (n y o : ℕ) (d : List ℕ) → Reads R (writing w n y) → MemoryWritable R w n y o → Leaves R w n y o d →
      (k : ℕ) (answer : List ℕ) → Succeeds k →
      Done f h mode c g a out (ends R k answer (splice x.sheet o d))
  memory_written w n y o d r q e k answer low =
      carried_out f b h x inv mode c g a out (writing w n y) (wish w n y) (wish_is w n y) r
      ((memory_is R (now inv b) w n y _).1 (o, q))
      k answer _ low (stored w n y o d r q e)

  -- and denied
  pub memory_denied :
      (w : Write) (n y : ℕ) → Reads R (writing w n y) → ((o : ℕ) → MemoryWritable R w n y o → ⊥) → (k : ℕ) (answer : List ℕ) → (Succeeds k → ⊥) →
      Done f h mode c g a out (ends R k answer x.sheet)
  memory_denied w n y r none k answer high =
      denied f b h x inv mode c g a out (writing w n y) (wish w n y) (wish_is w n y) r
      (λ e. let q = (memory_is R (now inv b) w n y _).0 e in none q.0 q.1)
      k answer high
