-- What a code names, by its number; a reading has 8 by it.
use Rattle.octets.proofs.Kit.{ℕ, ◌≤◌, ◌≡◌, refl, ap, ◌↔◌, ◌⊎◌, inl, inr, true, false, List, arith, length}
use Rattle.std.proofs.Common.{Option, Some, None}
use Rattle.pdu.specs.{Table.{row_of, has, service_at, found_outcome}, Rules.code_of, Read.{read_pdu, read_outcome}, declared.Service.Service}
use Rattle.pdu.proofs.promises.{Codes.{found, named, unknown}, Outcomes.reads_8}

-- NO OTHER NUMBER IS GIVEN
pub found_one : (c : ℕ) → (found_outcome (service_at c) ≡ 0) ⊎ (found_outcome (service_at c) ≡ 8)
found_one c = from (service_at c)
  where
    from : (f : Option Service) → (found_outcome f ≡ 0) ⊎ (found_outcome f ≡ 8)
    from (Some k) = inl refl
    from None = inr refl

-- 0: EXACTLY IF A ROW HAS THE CODE
pub found_0 : (c : ℕ) → (found_outcome (service_at c) ≡ 0) ↔ ((k : Service) × (has (row_of k) c ≡ true))
found_0 c = (λ e. from (service_at c) refl e, λ h. ap found_outcome (found h.0 c h.1))
  where
    from : (f : Option Service) → service_at c ≡ f → found_outcome f ≡ 0 → (k : Service) × (has (row_of k) c ≡ true)
    from (Some k) g e = (k, named k c g)
    from None g e = absurd (omega arith)

-- 8: EXACTLY IF NO ROW HAS IT
pub found_8 : (c : ℕ) → (found_outcome (service_at c) ≡ 8) ↔ ((k : Service) → has (row_of k) c ≡ false)
found_8 c = (λ e. from (service_at c) refl e, λ h. ap found_outcome ((unknown c).1 h))
  where
    from : (f : Option Service) → service_at c ≡ f → found_outcome f ≡ 8 → (k : Service) → has (row_of k) c ≡ false
    from (Some k) g e = absurd (omega arith)
    from None g e = (unknown c).0 g

-- A READING OF 2 TO 16 BYTES HAS 8 EXACTLY IF ITS CODE HAS
pub reads_found : (b : List ℕ) → 2 ≤ length b → length b ≤ 16 → (read_outcome (read_pdu b) ≡ 8) ↔ (found_outcome (service_at (code_of b)) ≡ 8)
reads_found b l m = (λ e. (found_8 (code_of b)).1 ((reads_8 b).0 e).2, λ e. (reads_8 b).1 (l, m, (found_8 (code_of b)).0 e))
