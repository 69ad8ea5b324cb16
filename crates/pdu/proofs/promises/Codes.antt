-- No code lies in two rows, and the list of the services is complete.
use Rattle.octets.proofs.Kit.{ℕ, zero, suc, ◌+◌, ◌≤◌, ◌<◌, ◌≡◌, refl, ap, subst, ◌∙◌, ◌↔◌, ⊎_elim, Bool, true, false, cond, ◌&&◌, ◌||◌, List, [], ◌∷◌, some, arith, leb, ltb, get_elem?}
use Rattle.octets.proofs.Kit.{leb-true, ltb-true, le-leb, lt-ltb}
use Rattle.std.proofs.Common.{Some, None}
use Rattle.octets.proofs.Truths.{and_is, or_is, decided}
use Rattle.pdu.specs.{Item.Row, Table.{row_of, services, has, find, service_at}, declared.Service.{Service, TheVariants.{GroupValueRead, GroupValueResponse, GroupValueWrite}}}
use Rattle.pdu.specs.declared.Service.TheVariants.{IndividualAddressWrite, IndividualAddressRead, SerialNumberRead, SerialNumberWrite, DeviceDescriptorRead, PropertyValueRead}
use Rattle.pdu.specs.declared.Service.TheVariants.{PropertyValueWrite, PropertyDescriptionRead, MemoryRead, MemoryWrite, MemoryBitWrite, AuthorizeRequest, KeyWrite, Restart}
use Rattle.pdu.specs.declared.Service.TheVariants.{IndividualAddressResponse, SerialNumberResponse, DeviceDescriptorResponse, PropertyValueResponse, PropertyDescriptionResponse}
use Rattle.pdu.specs.declared.Service.TheVariants.{MemoryResponse, AuthorizeResponse, KeyResponse, UserMemoryRead, UserMemoryResponse, UserMemoryWrite}

-- EVERY SERVICE IS IN THE LIST, at this place
pub all_listed : (k : Service) → (i : ℕ) × (get_elem? services i ≡ some k)
all_listed GroupValueRead = (0, refl)
all_listed GroupValueResponse = (1, refl)
all_listed GroupValueWrite = (2, refl)
all_listed IndividualAddressWrite = (3, refl)
all_listed IndividualAddressRead = (4, refl)
all_listed SerialNumberRead = (5, refl)
all_listed SerialNumberWrite = (6, refl)
all_listed DeviceDescriptorRead = (7, refl)
all_listed PropertyValueRead = (8, refl)
all_listed PropertyValueWrite = (9, refl)
all_listed PropertyDescriptionRead = (10, refl)
all_listed MemoryRead = (11, refl)
all_listed MemoryWrite = (12, refl)
all_listed MemoryBitWrite = (13, refl)
all_listed AuthorizeRequest = (14, refl)
all_listed KeyWrite = (15, refl)
all_listed Restart = (16, refl)
all_listed IndividualAddressResponse = (17, refl)
all_listed SerialNumberResponse = (18, refl)
all_listed DeviceDescriptorResponse = (19, refl)
all_listed PropertyValueResponse = (20, refl)
all_listed PropertyDescriptionResponse = (21, refl)
all_listed MemoryResponse = (22, refl)
all_listed AuthorizeResponse = (23, refl)
all_listed KeyResponse = (24, refl)
all_listed UserMemoryRead = (25, refl)
all_listed UserMemoryResponse = (26, refl)
all_listed UserMemoryWrite = (27, refl)

-- a row has the codes from its first to its last
pub has_is : (r : Row) (c : ℕ) → (has r c ≡ true) ↔ ((r.base ≤ c) × (c < r.base + r.span))
has_is r c = (
  λ e. let h = (and_is (leb r.base c) (ltb c (r.base + r.span))).0 e in (leb-true r.base c h.0, ltb-true c (r.base + r.span) h.1),
  λ h. (and_is (leb r.base c) (ltb c (r.base + r.span))).1 (le-leb r.base c h.0, lt-ltb c (r.base + r.span) h.1),
)

-- one row ends before the other starts
abbrev clear : Row → Row → Bool
clear a b = leb (a.base + a.span) b.base || leb (b.base + b.span) a.base

abbrev clear_of : Row → List Service → Bool
clear_of r [] = true
clear_of r (k ∷ ks) = clear r (row_of k) && clear_of r ks

abbrev all_clear : List Service → Bool
all_clear [] = true
all_clear (k ∷ ks) = clear_of (row_of k) ks && all_clear ks

-- the one test, over all pairs of rows
test : all_clear services ≡ true
test = refl

clear_says : (a b : Row) (c : ℕ) → clear a b ≡ true → has b c ≡ true → has a c ≡ false
clear_says a b c e h = ⊎_elim (λ (g : has a c ≡ true). absurd (wrong g)) (λ g. g) (decided (has a c))
  where
    wrong : has a c ≡ true → ⊥
    wrong g =
        let i = (has_is a c).0 g in
        let j = (has_is b c).0 h in
        ⊎_elim (λ l. let m = leb-true (a.base + a.span) b.base l in omega arith) (λ l. let m = leb-true (b.base + b.span) a.base l in omega arith)
        ((or_is (leb (a.base + a.span) b.base) (leb (b.base + b.span) a.base)).0 e)

clear_of_lem : (r : Row) (ks : List Service) (i : ℕ) (k : Service) → clear_of r ks ≡ true → get_elem? ks i ≡ some k → clear r (row_of k) ≡ true
clear_of_lem r [] i k e l = cc
clear_of_lem r (j ∷ ks) zero k e l =
    let m : j ≡ k = cc in
    subst (λ (s : Service). clear r (row_of s) ≡ true) m ((and_is (clear r (row_of j)) (clear_of r ks)).0 e).0
clear_of_lem r (j ∷ ks) (suc i) k e l = clear_of_lem r ks i k ((and_is (clear r (row_of j)) (clear_of r ks)).0 e).1 l

find_in : (ks : List Service) (i : ℕ) (k : Service) (c : ℕ) → all_clear ks ≡ true → get_elem? ks i ≡ some k → has (row_of k) c ≡ true → find ks c ≡ Some k
unfolding find
find_in [] i k c e l h = cc
find_in (j ∷ ks) zero k c e l h =
    let m : j ≡ k = cc in
    let h' : has (row_of j) c ≡ true = rw (← m) at h in
    ap (λ (t : Bool). cond t (Some j) (find ks c)) h' ∙ ap Some m
find_in (j ∷ ks) (suc i) k c e l h =
    let a = (and_is (clear_of (row_of j) ks) (all_clear ks)).0 e in
    let g : has (row_of j) c ≡ false = clear_says (row_of j) (row_of k) c (clear_of_lem (row_of j) ks i k a.0 l) h in
    ap (λ (t : Bool). cond t (Some j) (find ks c)) g ∙ find_in ks i k c a.1 l h

-- A CODE OF A ROW NAMES ITS SERVICE
pub found : (k : Service) (c : ℕ) → has (row_of k) c ≡ true → service_at c ≡ Some k
found k c h = let l = all_listed k in find_in services l.0 k c test l.1 h

-- NO CODE LIES IN TWO ROWS
pub codes_apart : (c : ℕ) (j k : Service) → has (row_of j) c ≡ true → has (row_of k) c ≡ true → j ≡ k
codes_apart c j k h g = let e = found j c h in let f = found k c g in cc

-- and the service that a code names has it
find_has : (ks : List Service) (k : Service) (c : ℕ) → find ks c ≡ Some k → has (row_of k) c ≡ true
unfolding find
find_has [] k c e = cc
find_has (j ∷ ks) k c e = go (has (row_of j) c) refl e (λ f. find_has ks k c f)
  where
    go : (t : Bool) → has (row_of j) c ≡ t → cond t (Some j) (find ks c) ≡ Some k → (find ks c ≡ Some k → has (row_of k) c ≡ true) → has (row_of k) c ≡ true
    go true h f ih = let m : j ≡ k = cc in rw m at h
    go false h f ih = ih f

pub named : (k : Service) (c : ℕ) → service_at c ≡ Some k → has (row_of k) c ≡ true
named k c e = find_has services k c e

-- a code of no row names none
find_none : (ks : List Service) (c : ℕ) → ((k : Service) → has (row_of k) c ≡ false) → find ks c ≡ None
unfolding find
find_none [] c h = refl
find_none (j ∷ ks) c h = ap (λ (t : Bool). cond t (Some j) (find ks c)) (h j) ∙ find_none ks c h

-- A CODE NAMES NO SERVICE EXACTLY IF NO ROW HAS IT
pub unknown : (c : ℕ) → (service_at c ≡ None) ↔ ((k : Service) → has (row_of k) c ≡ false)
unknown c = (λ e k. ⊎_elim (λ h. let f = found k c h in cc) (λ h. h) (decided (has (row_of k) c)), find_none services c)
