-- READING AND THE NAMES OF FIELDS AS PROPOSITIONS, for a reader who trusts no tests.
use Rattle.octets.proofs.Kit.{ℕ, ◌≤◌, ◌≡◌, refl, sym, ap, ◌∙◌, ◌↔◌, true, List, [], ◌∷◌, length, get_or}
use Rattle.std.proofs.Common.{Ok, Err}
use Rattle.octets.{specs.Octets.Octets, proofs.Truths.equal_is}
use Rattle.pdu.specs.{Item.{Name, V6, Address, Serial, Domain, T, Object, Id, N, S, Index, Typ, Maximum, Access, Level, Key, name_number, same}, Table.{row_of, has}}
use Rattle.pdu.specs.{Rules.{code_of, values_at}, Read.read_pdu, Allows.{Allows, Carries}, declared.{Service.Service, Pdu.Pdu, ReadRefusal.TheVariants.Fields}}
use Rattle.pdu.proofs.promises.{Outcomes.{carried, read_carries, told_10}, Refusals.unread_is}

-- BYTES READ AS THE PDU THAT THEY CARRY, and as no other
pub reads_is : (b : List ℕ) (p : Pdu) → Octets b → (read_pdu b ≡ Ok p) ↔ Carries b p
reads_is b p small = (read_carries b p small, carried b p)

-- AND ARE UNFIT if they have the code of a row that does not allow the fields in them in so many bytes
pub reads_unfit :
    (b : List ℕ) → Octets b →
    (read_pdu b ≡ Err Fields) ↔ ((2 ≤ length b) × (length b ≤ 16) × ((k : Service) × (has (row_of k) (code_of b) ≡ true) × (Allows (row_of k) (values_at (row_of k).items 2 b) (length b) → ⊥)))
reads_unfit b small =
    let n = unread_is (read_pdu b) Fields in
    let t = told_10 b small in
    (λ e. t.0 (n.1 e), λ h. n.0 (t.1 h))

-- the names by their numbers
names : List Name
names = V6 ∷ Address ∷ Serial ∷ Domain ∷ T ∷ Object ∷ Id ∷ N ∷ S ∷ Index ∷ Typ ∷ Maximum ∷ Access ∷ Level ∷ Key ∷ []

by_number : (a : Name) → get_or names (name_number a) V6 ≡ a
unfolding names
by_number V6 = refl
by_number Address = refl
by_number Serial = refl
by_number Domain = refl
by_number T = refl
by_number Object = refl
by_number Id = refl
by_number N = refl
by_number S = refl
by_number Index = refl
by_number Typ = refl
by_number Maximum = refl
by_number Access = refl
by_number Level = refl
by_number Key = refl

-- TWO NAMES PASS FOR THE SAME EXACTLY IF THEY ARE
pub same_name : (a b : Name) → (same a b ≡ true) ↔ (a ≡ b)
same_name a b =
    let n = equal_is (name_number a) (name_number b) in
    (λ e. sym (by_number a) ∙ ap (λ (i : ℕ). get_or names i V6) (n.0 e) ∙ by_number b, λ e. n.1 (ap name_number e))
