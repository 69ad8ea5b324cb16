-- The fields of a property's entry in an accepted sheet are small.
use Rattle.octets.proofs.Kit.{ℕ, zero, suc, ◌≤◌, ◌<◌, ◌≡◌, List, Bool, true, false, cond, eqb, arith}
use Rattle.sheet.{specs.{Rules.Accepted, Kind.properties, Entries.count, Lookup.{object_at, rank}, Places.PropertyIn, declared.PropertyEntry.PropertyEntry}, proofs.rules.Good.good}

module _ (s : List ℕ) (ok : Accepted s) (i : ℕ) (e : PropertyEntry) (p : PropertyIn s i e) where
  pub small_offset : e.offset ≤ 16384
  small_offset = omega (arith, p.body, (good s ok).framed)

  pub small_place : e.place ≤ 16384
  small_place = omega (arith, p.room, (good s ok).framed)

one : (b : Bool) → cond b 1 0 ≤ 1
one true = omega arith
one false = omega arith

rank_below : (s : List ℕ) (object i : ℕ) → rank s object i ≤ i
unfolding rank
rank_below s object zero = omega arith
rank_below s object (suc i) = omega (arith, rank_below s object i, one (eqb (object_at s i) object))

pub small_rank : (s : List ℕ) (object i d r : ℕ) → Accepted s → r ≡ rank s object i → (i ≡ d) × (d < count s properties) → r < 256
small_rank s object i d r ok e h = omega (arith, rank_below s object i, (good s ok).framed)
