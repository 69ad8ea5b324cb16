-- Every location stands at one position, and no two at the same; its first content is what stands there.
use Rattle.octets.proofs.Kit.{ℕ, ◌<◌, ◌≡◌, List, length, get_or}
use Rattle.sheet.{specs.Rules.Accepted, proofs.rules.Good.{good}}
use Rattle.history.specs.{Location.{Location, Place}, History.first_of, Sort.{Sort, being_of}}
use Rattle.history.proofs.{places.Standing.{location_once, place_once, sort, sort_once}, steps.Invariant.first_holds}

module _ (s : List ℕ) (accepted : Accepted s) where
  -- NO TWO LOCATIONS STAND AT ONE POSITION, AND EACH STANDS AT ONE ALONE
  pub place_injective : (x y : Location) (p q : ℕ) → (Place s x p → Place s y p → x ≡ y) × (Place s x p → Place s x q → p ≡ q)
  place_injective x y p q = (location_once (good s accepted), place_once (good s accepted))

  -- EVERY POSITION IS EXACTLY ONE OF A LOCATION'S, A GROUP OBJECT'S AND A FIELD'S
  pub exactly_one : (p : ℕ) → p < length s → (a : Sort s p) × ((b : Sort s p) → being_of b ≡ being_of a)
  exactly_one p h = let a = sort (good s accepted) p h in (a, λ b. sort_once (good s accepted) p b a)

  -- THE FIRST CONTENT OF A LOCATION IS WHAT STANDS AT ITS PLACE
  pub first_content : {x : Location} {p : ℕ} → Place s x p → get_or s p 0 ≡ first_of s x
  first_content {x} {p} h = first_holds (good s accepted) x p h
