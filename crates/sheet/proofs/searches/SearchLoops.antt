-- A search from the front as a loop makes it, the first word of an entry, and where the body of one ends.
use Rattle.octets.proofs.Kit.{ℕ, zero, suc, ◌+◌, ◌<◌, ◌≤◌, ◌≡◌, refl, ◌∙◌, ap, List, [], ◌∷◌, Bool, false, length, get_or, dec_lt, lit<, arith}
use Rattle.sheet.specs.{Kind.{kinds, number_of, OfKind}, Layout.◌of◌, Entries.{entry, key_of, offset_of, length_of, body_end}, Rules.{Accepted, edition}, Walk.{Framed, Entry, Counted}}
use Rattle.sheet.specs.declared.Kind.{Kind, TheVariants.{Regions, Properties, Groups, Users}}
use Rattle.sheet.specs.Region as region
use Rattle.sheet.proofs.{rules.{ByKind.kinded, Good.good}, places.BodyPlaces.within}

pub ok_framed : (s : List ℕ) → Accepted s → Framed edition s
ok_framed s e = record { rows = (good s e).framed }

pub ok_entry : (s : List ℕ) (k i n : ℕ) → Accepted s → k < kinds → Counted s k n → i < n → Entry s k i
ok_entry s k i n e hk c h = record { framed = ok_framed s e; kind = hk; below = omega (arith, c.is) }

-- each kind is one of the four
pub kind_known : (kind : Kind) → number_of kind < kinds
kind_known Regions = lit< tt
kind_known Properties = lit< tt
kind_known Groups = lit< tt
kind_known Users = lit< tt

-- and stands in the list of them at its number
pub kind_at : (i : ℕ) → i < kinds → number_of (get_or (Regions ∷ Properties ∷ Groups ∷ Users ∷ []) i Regions) ≡ i
kind_at zero h = refl
kind_at (suc zero) h = refl
kind_at (suc (suc zero)) h = refl
kind_at (suc (suc (suc zero))) h = refl
kind_at (suc (suc (suc (suc i)))) h = absurd (omega arith)

pub entry_in : (s : List ℕ) (kind : Kind) (i n : ℕ) → Accepted s → Counted s (number_of kind) n → i < n → Entry s (number_of kind) i
entry_in s kind i n e c h = ok_entry s (number_of kind) i n e (kind_known kind) c h

-- THE INVARIANT of a search: none of the first i of n has passed the test
pub record Missed (t : ℕ → Bool) (n i : ℕ) : Type 0 where
  pub within : i ≤ n
  pub none : (j : ℕ) → j < i → t j ≡ false

module _ (t : ℕ → Bool) (n : ℕ) where
  module _ (i : ℕ) (m : Missed t n i) where
    pub missed : i < n → t i ≡ false → Missed t n (i + 1)
    missed h e = record { within = omega arith; none = λ j l. go j l (dec_lt j i) }
      where
        go : (j : ℕ) → j < i + 1 → Dec (j < i) → t j ≡ false
        go j l (yes k) = m.none j k
        go j l (no k) = let q : j ≡ i = omega arith in rw q e

-- the first word of an entry stands where a region's address does
pub key_word : (s : List ℕ) (k i : ℕ) → region.address of entry s k i ≡ key_of s k i
unfolding key_of
key_word s zero i = refl
key_word s (suc zero) i = refl
key_word s (suc (suc zero)) i = refl
key_word s (suc (suc (suc k))) i = refl

pub key_of_lem : (s : List ℕ) (k i : ℕ) (e : List ℕ) (r : ℕ) → e ≡ entry s k i → r ≡ region.address of e → r ≡ key_of s k i
key_of_lem s k i e r q p = p ∙ ap (λ (l : List ℕ). region.address of l) q ∙ key_word s k i

-- the body of an entry lies within the sheet
pub body_end_lem :
    (s : List ℕ) (k i n : ℕ) (e : List ℕ) (a z : ℕ) → Accepted s → k < kinds → Counted s k n → i < n → e ≡ entry s k i → a ≡ offset_of k e
    → OfKind z k (length_of 0 e) (length_of 1 e) (length_of 2 e) (length_of 3 e) → a + z ≤ length s
unfolding body_end
body_end_lem s k i n e a z ok hk c h ee ea ez = rw (ea, kinded ez, ee) (within (good s ok) k i hk (omega (arith, c.is)))
