-- What is answered is what is there: after a write that was answered, a read of the same is answered alike.
use Rattle.octets.proofs.Kit.{ℕ, arith}
use Rattle.pdu.specs.declared.Pdu.TheVariants.{PropertyValueRead, PropertyValueWrite}
use Rattle.device.specs.{Asked.{Asked, Reads}, PropertiesDue.Readable, MemoryDue.{Write, into, writing, reading, MemoryReadable}, Next.{Confirmed, Next, SameAnswer}}
use Rattle.device.proofs.{due.{Taking.low_mode, WasReady.{carried, ready_next}}, leaves.{ReadBackProperties.property_same_answer, ReadBackMemory.memory_same_answer}}

module _ (x y : Asked) where
  -- ELEMENTS OF A PROPERTY, OR ITS COUNT
  pub property_found :
      (object id n s i : ℕ) → Confirmed x (PropertyValueWrite object id n s) → Next x y (PropertyValueRead object id n s) →
      Readable y object id i → SameAnswer x y
  property_found object id n s i w next may =
      let r : Reads x (PropertyValueWrite object id n s) = carried x _ w.reads (omega (arith, w.outcome)) in
      property_same_answer x y object id n s r (ready_next x y _ _ r next (low_mode next.takes)) next.sheet i may w.outcome

  -- A RANGE OF MEMORY, its bytes written or its bits
  pub memory_found :
      (w : Write) (n address o : ℕ) → Confirmed x (writing w n address) → Next x y (reading (into w) n address) →
      MemoryReadable y (into w) n address o → SameAnswer x y
  memory_found w n address o c next may =
      let r : Reads x (writing w n address) = carried x _ c.reads (omega (arith, c.outcome)) in
      memory_same_answer x y w n address r (ready_next x y _ _ r next (low_mode next.takes)) next.sheet o may c.outcome
