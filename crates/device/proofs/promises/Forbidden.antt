-- A range of memory with one byte that may not be read, or not be written, is denied whole: nothing is shown, and the sheet stays.
use Rattle.octets.proofs.Kit.{ℕ, ◌+◌, ◌<◌, ◌≡◌, sym, []}
use Rattle.sheet.specs.{Places.Stands, declared.Memory.Memory}
use Rattle.device.specs.{Asked.{Asked, quiet, says, Reads, Acts}, MemoryDue.{Write, into, reading, response, writing, ToRead, ToWrite, MemoryWritable, Verify}, Demand2.done}
use Rattle.device.proofs.due.{RightMemory.only_no_memory_read, Changes.{only_denied, only_refused}}

-- one of the n addresses stands nowhere, or under levels for which the level of the request does not suffice
abbrev pub Forbidden : Asked → Memory → (ℕ → ℕ → Type 0) → ℕ → ℕ → Type 0
Forbidden x m Suffices n address =
    (i : ℕ) × (i < n) × ((p l level : ℕ) → Stands x.sheet m (address + i) p l → Acts x level → Suffices level l → ⊥)

module _ (x : Asked) (n address : ℕ) where
  -- A READ IS DENIED
  pub forbidden_read : (m : Memory) → Reads x (reading m n address) → Forbidden x m ToRead n address → done x ≡ says x 11 (response m 0 address) []
  forbidden_read m r f =
      sym (only_no_memory_read x m n address r (λ o q.
      f.2 _ _ q.level (q.each f.0 f.1).1 q.acts (q.each f.0 f.1).2))

  none : (w : Write) → Forbidden x (into w) (ToWrite w) n address → (o : ℕ) → MemoryWritable x w n address o → ⊥
  none w f o q = f.2 _ _ q.level (q.each f.0 f.1).1 q.acts (q.each f.0 f.1).2

  -- A WRITE IS DENIED, of bytes or of bits
  pub forbidden_write :
      (w : Write) → Reads x (writing w n address) → Forbidden x (into w) (ToWrite w) n address →
      (Verify x → done x ≡ says x 11 (response (into w) 0 address) []) × ((Verify x → ⊥) → done x ≡ quiet x 12)
  forbidden_write w r f = (
    λ v. sym (only_denied x w n address r (none w f) v),
    λ v. sym (only_refused x w n address r (none w f) v),
  )
