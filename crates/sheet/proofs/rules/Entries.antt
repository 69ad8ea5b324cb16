-- Where entries stand.
use Rattle.octets.proofs.Kit.{ℕ, ◌+◌, ◌-◌, ◌≤◌, ◌<◌, ◌≡◌, refl, List, length, take, drop, length-take, length-drop, add-sub_cancel_left, arith}
use Rattle.sheet.specs.{Kind.{OfKind}, Entries.{count, size, place, contents, entry, offset_of}, Walk.{Entry, Starts, Shown}}
use Rattle.sheet.specs.Region as region
use Rattle.sheet.proofs.rules.ByKind.{each_kind, kinded}

pub starts : {k r : ℕ} {e : List ℕ} → OfKind r k (offset_of 0 e) (offset_of 1 e) (offset_of 2 e) (offset_of 3 e) → r < 65536 → Starts k e r
starts o h = record { is = kinded o; below = h }

module _ {s : List ℕ} {k i : ℕ} (h : Entry s k i) where
  pub place_in : place s k i + size k ≤ contents s
  place_in =
      each_kind (λ (j : ℕ). i < count s j → place s j i + size j ≤ contents s)
      (λ b. omega arith) (λ b. omega arith) (λ b. omega arith) (λ b. omega arith) k h.kind h.below

  pub few : i < 64
  few =
      each_kind (λ (j : ℕ). i < count s j → i < 64)
      (λ b. omega arith) (λ b. omega arith) (λ b. omega arith) (λ b. omega arith) k h.kind h.below

  least : region.size ≤ size k
  least = each_kind (λ (j : ℕ). region.size ≤ size j) (omega arith) (omega arith) (omega arith) (omega arith) k h.kind

  pub length_entry : length (entry s k i) ≡ size k
  unfolding entry
  length_entry = simp (length-take, length-drop) (omega (arith, place_in))

  pub shown : Shown s k i (entry s k i)
  shown = record { is = refl; sized = record { least = omega (arith, least, length_entry); long = length_entry } }

  -- the part that code cuts out
  module _ {a z : ℕ} (ea : a ≡ place s k i) (ez : OfKind z k (size 0) (size 1) (size 2) (size 3)) where
    pub part_end : a + z ≤ length s
    part_end = omega (arith, place_in, kinded ez)

    pub part : Shown s k i (take (a + z - a) (drop a s))
    unfolding entry
    part = rw (add-sub_cancel_left, ea, kinded ez) shown
