-- WRITTEN AGAIN FROM ITS PARTS, an accepted sheet has the same bytes.
use Rattle.octets.proofs.Kit.{ℕ, ◌+◌, ◌<◌, ◌≡◌, sym, subst, ◌∙◌, List, arith, lit<, eq-eqb, length, get_or}
use Rattle.octets.specs.{Bytes.num_at, Octets.Octets}
use Rattle.sheet.{specs.{Kind.{regions, properties, groups, users}, Layout.◌of◌, Entries.{count, place}, Rules.{Accepted, entry_demands}}, proofs.{rules.Good.good, places.Standing.field_at}}
use Rattle.sheet.specs.Head as head
use Rattle.sheet.specs.Region as region
use Rattle.sheet.specs.Property as property
use Rattle.sheet.specs.Group as group
use Rattle.parts.specs.{declared.{Group.Group, Parts.Parts}, Records.{IsGroup, Taken, no_region, no_property, no_group}}
use Rattle.parts.specs.Again.{group_flags, WholeRegion, WholeProperty, WholeGroup, WholeHead, WholeEntries, Whole, Restores, Roomy}
use Rattle.parts.proofs.{Bits.{two_bits, three_bits}, Runs.restored_all}

module _ (s : List ℕ) (ok : Accepted s) where
  -- the zero bytes of the entries
  region_zero : (i : ℕ) → i < count s regions → num_at s (place s regions i + 7) 1 ≡ 0
  unfolding entry_demands
  region_zero i h = omega (arith, field_at s regions i region.zero (lit< tt), (good s ok).entries regions i (lit< tt) h)

  user_zero : (i : ℕ) → i < count s users → num_at s (place s users i + 7) 1 ≡ 0
  unfolding entry_demands
  user_zero i h = omega (arith, field_at s users i region.zero (lit< tt), (good s ok).entries users i (lit< tt) h)

  property_zero : (i : ℕ) → i < count s properties → num_at s (place s properties i + 11) 1 ≡ 0
  unfolding entry_demands
  property_zero i h = omega (arith, field_at s properties i property.zero (lit< tt), (good s ok).entries properties i (lit< tt) h)

  group_zeros : (i : ℕ) → i < count s groups → num_at s (place s groups i + 6) 2 ≡ 0
  unfolding entry_demands
  group_zeros i h = omega (arith, field_at s groups i group.zeros (lit< tt), (good s ok).entries groups i (lit< tt) h)

  group_flags_lem : (i : ℕ) → i < count s groups → (e : Group) → IsGroup e s (place s groups i) → group_flags e ≡ num_at s (place s groups i + 3) 1
  unfolding entry_demands
  group_flags_lem i h e g =
      three_bits (num_at s (place s groups i + 3) 1) _ _ _
      (omega (arith, field_at s groups i group.flags (lit< tt), (good s ok).entries groups i (lit< tt) h)) g.read g.write g.response

  byte15_is : head.users s ≡ num_at s 15 1
  byte15_is = simp (eq-eqb (num_at s 0 1) 2 (good s ok).own)

  module _ (u : Parts) (t : Taken s u) where
    pub roomy : Roomy u (length s)
    roomy =
        let z = t.counts in
        record {
          regions = z.few_regions;
          properties = z.few_properties;
          groups = z.few_groups;
          users = z.few_users;
          contents = omega (arith, z.fits, t.long);
          short = omega (arith, z.short, t.long);
          long = t.long;
          room = t.room;
        }

    front : WholeHead u.head u.counts u.length s
    front =
        let z = t.counts in
        let h = t.front in
        let f = (good s ok).framed in
        record {
          edition = sym (good s ok).own;
          regions = z.regions;
          properties = z.properties;
          groups = z.groups;
          stated = omega (arith, f, t.long);
          serial = h.serial;
          mask = h.mask;
          flags = two_bits (head.flags of s) _ _ (omega (arith, (good s ok).zeros)) h.programming h.verify;
          users = z.users ∙ byte15_is;
          address = h.address;
          keys = record { key0 = h.key0; key1 = h.key1; key2 = h.key2 };
          rules = h.rules;
          zero = omega (arith, (good s ok).zeros);
        }

    entries : WholeEntries u s
    entries =
        let z = t.counts in
        record {
          regions = record { each = λ i h. let k : i < count s regions = omega (arith, z.regions) in record { is = t.regions i k; zero = region_zero i k } };
          properties =
              record {
                each =
                    λ i h.
                    let k : i < count s properties = omega (arith, z.properties) in
                    subst (λ (n : ℕ). WholeProperty (get_or u.properties i no_property) n s) (omega (arith, z.regions))
                    record { is = t.properties i k; zero = property_zero i k };
              };
          groups =
              record {
                each =
                    λ i h.
                    let k : i < count s groups = omega (arith, z.groups) in
                    subst (λ (n : ℕ). WholeGroup (get_or u.groups i no_group) n s) (omega (arith, z.regions, z.properties))
                    record { is = t.groups i k; flags = group_flags_lem i k _ (t.groups i k); zeros = group_zeros i k };
              };
          users =
              record {
                each =
                    λ i h.
                    let k : i < count s users = omega (arith, z.users) in
                    subst (λ (n : ℕ). WholeRegion (get_or u.users i no_region) n s) (omega (arith, z.regions, z.properties, z.groups))
                    record { is = t.users i k; zero = user_zero i k };
              };
        }

    pub whole : Whole u s
    whole =
        let z = t.counts in
        record {
          front = front;
          entries = entries;
          bodies = record { each = λ p a b. t.bodies p (omega (arith, z.regions, z.properties, z.groups, z.users)) (omega (arith, t.long)) };
        }

    -- THE SHEET WRITTEN AGAIN
    pub written_again : Octets s → (b b' : List ℕ) → length b ≡ length s → Restores (Whole u) b b' 0 u.length → b' ≡ s
    written_again o b b' l r = restored_all (Whole u) b b' s u.length r o whole l t.long
