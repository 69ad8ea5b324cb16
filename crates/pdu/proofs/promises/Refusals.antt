-- A refusal has its number, and no other has it; a number that is not 0 is a refusal's.
use Rattle.octets.proofs.Kit.{ℕ, ◌<◌, ◌≡◌, refl, ap, ◌↔◌, arith}
use Rattle.std.proofs.Common.{Result, Ok, Err}
use Rattle.pdu.specs.{Read.{read_number, read_outcome}, Write.{write_number, write_outcome}, declared.{Pdu.Pdu, ReadRefusal.ReadRefusal, WriteRefusal.WriteRefusal}}
use Rattle.pdu.specs.declared.ReadRefusal.TheVariants as unread
use Rattle.pdu.specs.declared.WriteRefusal.TheVariants as unwritten

same_read : (d e : ReadRefusal) → read_number d ≡ read_number e → d ≡ e
same_read unread.Length unread.Length h = refl
same_read unread.Length unread.Service h = absurd (omega arith)
same_read unread.Length unread.Fields h = absurd (omega arith)
same_read unread.Service unread.Length h = absurd (omega arith)
same_read unread.Service unread.Service h = refl
same_read unread.Service unread.Fields h = absurd (omega arith)
same_read unread.Fields unread.Length h = absurd (omega arith)
same_read unread.Fields unread.Service h = absurd (omega arith)
same_read unread.Fields unread.Fields h = refl

same_write : (d e : WriteRefusal) → write_number d ≡ write_number e → d ≡ e
same_write unwritten.Room unwritten.Room h = refl
same_write unwritten.Room unwritten.Fields h = absurd (omega arith)
same_write unwritten.Fields unwritten.Room h = absurd (omega arith)
same_write unwritten.Fields unwritten.Fields h = refl

some_read : (e : ReadRefusal) → read_number e ≡ 0 → ⊥
some_read unread.Length h = omega arith
some_read unread.Service h = omega arith
some_read unread.Fields h = omega arith

some_write : (e : WriteRefusal) → write_number e ≡ 0 → ⊥
some_write unwritten.Room h = omega arith
some_write unwritten.Fields h = omega arith

-- OF A READING
pub unread_is : (x : Result Pdu ReadRefusal) (e : ReadRefusal) → (read_outcome x ≡ read_number e) ↔ (x ≡ Err e)
unread_is x e = (from x, λ h. ap read_outcome h)
  where
    from : (x : Result Pdu ReadRefusal) → read_outcome x ≡ read_number e → x ≡ Err e
    from (Ok p) h = absurd (some_read e (omega arith))
    from (Err d) h = ap Err (same_read d e h)

pub unread_one : (x : Result Pdu ReadRefusal) (n : ℕ) → 0 < n → read_outcome x ≡ n → (e : ReadRefusal) × (read_number e ≡ n) × (x ≡ Err e)
unread_one (Ok p) n l h = absurd (omega arith)
unread_one (Err e) n l h = (e, h, refl)

-- OF A WRITING
pub unwritten_is : (r : Result ℕ WriteRefusal) (e : WriteRefusal) → (write_outcome r ≡ write_number e) ↔ (r ≡ Err e)
unwritten_is r e = (from r, λ h. ap write_outcome h)
  where
    from : (r : Result ℕ WriteRefusal) → write_outcome r ≡ write_number e → r ≡ Err e
    from (Ok n) h = absurd (some_write e (omega arith))
    from (Err d) h = ap Err (same_write d e h)

pub unwritten_one : (r : Result ℕ WriteRefusal) (n : ℕ) → 0 < n → write_outcome r ≡ n → (e : WriteRefusal) × (write_number e ≡ n) × (r ≡ Err e)
unwritten_one (Ok m) n l h = absurd (omega arith)
unwritten_one (Err e) n l h = (e, h, refl)
