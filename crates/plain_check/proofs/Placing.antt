-- How many entries there are, where they stand, and where their bodies do.
use Rattle.octets.proofs.Kit.{ℕ, ◌+◌, ◌*◌, ◌≤◌, max, ◌≡◌, sym, ap, ap₂, ◌∙◌, List, ◌⊎◌, inl, inr, get_or, get_or-take, get_or-drop, mul-le-mul, arith}
use Rattle.octets.{specs.Bytes.{num_at, IsNum}, proofs.Numbers.num_same}
use Rattle.sheet.specs.Entries.{size}
use Rattle.plain_check.specs.{declared.Kind.{Kind, TheVariants.{Regions, Properties, Groups, Users}}, Kind.number_of}
use Rattle.plain_check.specs.Tests.{entry_at, Starts, Long}

-- a byte times a word
pub product_near : (b w : ℕ) → b ≤ 255 → w ≤ 65535 → b * w ≤ 16711425
product_near b w h k = mul-le-mul h k

module _ (s : List ℕ) where
  -- a number in the entry that stands at a place
  pub number_in : (k at j w : ℕ) → j + w ≤ size k → num_at (entry_at s k at) j w ≡ num_at s (at + j) w
  number_in k at j w h =
      num_same (entry_at s k at) s j (at + j) w
      (λ l b. get_or-take (size k) _ (j + l) 0 (omega arith) ∙ get_or-drop at s (j + l) 0 ∙ ap (λ (p : ℕ). get_or s p 0) (omega arith))

  -- the body of an entry of a kind: where it starts, and how long it is
  module _ (k : Kind) (at : ℕ) where
    pub property_starts : (r : ℕ) → k ≡ Properties → IsNum s (at + 8) 2 65536 r → Starts s (number_of k) at r
    property_starts r q n = rw q (record { is = n.value ∙ sym (number_in 1 at 8 2 (omega arith)); below = n.below })

    pub property_long : (b w : ℕ) → k ≡ Properties → IsNum s (at + 3) 1 256 b → IsNum s (at + 4) 2 65536 w → Long s (number_of k) at (b * w)
    property_long b w q n m =
        rw q
        (record {
          is = ap₂ ◌*◌ (n.value ∙ sym (number_in 1 at 3 1 (omega arith))) (m.value ∙ sym (number_in 1 at 4 2 (omega arith)));
          below = omega (arith, product_near b w (omega (arith, n.below)) (omega (arith, m.below)));
        })

    pub group_long : (c : ℕ) → k ≡ Groups → IsNum s (at + 2) 1 256 c → Long s (number_of k) at (max c 1)
    group_long c q n = rw q (record { is = ap (λ (x : ℕ). max x 1) (n.value ∙ sym (number_in 2 at 2 1 (omega arith))) ∙ omega arith; below = omega (arith, n.below) })

  pub other_starts : (k : Kind) (at r : ℕ) → (k ≡ Regions) ⊎ ((k ≡ Groups) ⊎ (k ≡ Users)) → IsNum s (at + 4) 2 65536 r → Starts s (number_of k) at r
  other_starts Regions at r e n = record { is = n.value ∙ sym (number_in 0 at 4 2 (omega arith)); below = n.below }
  other_starts Properties at r (inl q) n = absurd (cc)
  other_starts Properties at r (inr (inl q)) n = absurd (cc)
  other_starts Properties at r (inr (inr q)) n = absurd (cc)
  other_starts Groups at r e n = record { is = n.value ∙ sym (number_in 2 at 4 2 (omega arith)); below = n.below }
  other_starts Users at r e n = record { is = n.value ∙ sym (number_in 3 at 4 2 (omega arith)); below = n.below }

  pub region_long : (k : Kind) (at r : ℕ) → (k ≡ Regions) ⊎ (k ≡ Users) → IsNum s (at + 2) 2 65536 r → Long s (number_of k) at r
  region_long Regions at r e n = record { is = n.value ∙ sym (number_in 0 at 2 2 (omega arith)); below = omega (arith, n.below) }
  region_long Properties at r (inl q) n = absurd (cc)
  region_long Properties at r (inr q) n = absurd (cc)
  region_long Groups at r (inl q) n = absurd (cc)
  region_long Groups at r (inr q) n = absurd (cc)
  region_long Users at r e n = record { is = n.value ∙ sym (number_in 3 at 2 2 (omega arith)); below = omega (arith, n.below) }
