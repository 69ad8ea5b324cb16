-- Which service a code names: a code of a row names its service, and a code of no row names none.
use Rattle.octets.proofs.Kit.{ℕ, ◌+◌, ◌≤◌, ◌<◌, ◌≡◌, refl, sym, List, [], ◌∷◌}
use Rattle.octets.proofs.Truths.{must_fail}
use Rattle.std.proofs.Common.{Some, None}
use Rattle.pdu.specs.{Table.{row_of, services, has, find, service_at}, declared.Service.Service}
use Rattle.pdu.proofs.promises.Codes.{has_is, found}

pub named_by : (k : Service) (c : ℕ) → (row_of k).base ≤ c → c < (row_of k).base + (row_of k).span → Some k ≡ service_at c
named_by k c l h = sym (found k c ((has_is (row_of k) c).1 (l, h)))

abbrev pub Outside : List Service → ℕ → Type 0
Outside [] c = Unit {0}
Outside (k ∷ ks) c = ((row_of k).base ≤ c → c < (row_of k).base + (row_of k).span → ⊥) × Outside ks c

lost : (ks : List Service) (c : ℕ) → Outside ks c → None ≡ find ks c
unfolding find
lost [] c h = refl
lost (k ∷ ks) c h = simp (must_fail (has (row_of k) c) (λ e. let i = (has_is (row_of k) c).0 e in h.0 i.0 i.1)) (lost ks c h.1)

pub unnamed : (c : ℕ) → Outside services c → None ≡ service_at c
unnamed c h = lost services c h
