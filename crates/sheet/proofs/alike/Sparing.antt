-- A change of an accepted sheet that spares what the rules read.
use Rattle.octets.proofs.Kit.{ℕ, ◌+◌, ◌<◌, ◌≤◌, ◌≡◌, sym, ◌∙◌, ap, List, length, get_or, arith}
use Rattle.octets.{specs.Bytes.num_at, proofs.Numbers.num_same}
use Rattle.sheet.specs.{Kind.{kinds, properties, groups}, Layout.◌of◌, Entries.{count, size, place, entry, body_at}, Rules.{entry_demands, body_demands}, Agree.{Agree, Fixed}}
use Rattle.sheet.specs.Stores.{count_at}
use Rattle.sheet.specs.Head as head
use Rattle.sheet.specs.Property as property
use Rattle.sheet.specs.Group as group
use Rattle.sheet.proofs.{rules.Good.Good, alike.Sames.{users_alike, place_front}, places.Standing.{entry_at, field_at}, rules.PlainRows.six_to}

-- what such a change leaves as it is, and what it may change within bounds
pub record Mild (s s' : List ℕ) : Type 0 where
  pub long : length s' ≡ length s
  pub front : (p : ℕ) → p < (head.serial).at → get_or s' p 0 ≡ get_or s p 0
  pub byte15 : head.byte15 of s' ≡ head.byte15 of s
  pub rules : head.rules of s' ≡ head.rules of s
  pub zero31 : head.zero31 of s' ≡ head.zero31 of s
  pub flags : head.flags of s' ≤ 3
  pub entries :
      (k i j : ℕ) → k < kinds → i < count s k → j < size k → Fixed k j → get_or s' (place s k i + j) 0 ≡ get_or s (place s k i + j) 0
  pub counts :
      (i : ℕ) → i < count s properties →
      num_at s' (count_at s i) (property.count).width ≤ property.maximum of entry s properties i
  pub six : (i : ℕ) → i < count s groups → group.code of entry s groups i ≡ 0 → num_at s' (body_at s groups i) 1 < 64

module _ {s : List ℕ} (g : Good s) where
  -- a count, and a code-0 byte, as it stood before
  old_count : (i : ℕ) → i < count s properties → property.count of entry s properties i ≤ property.maximum of entry s properties i
  unfolding entry_demands
  old_count i h = omega (arith, g.entries properties i (omega arith) h)

  pub count_stood :
      (i : ℕ) → i < count s properties →
      num_at s (count_at s i) (property.count).width ≤ property.maximum of entry s properties i
  count_stood i h = rw (← (field_at s properties i property.count (omega arith))) (old_count i h)

  pub six_stood : (i : ℕ) → i < count s groups → group.code of entry s groups i ≡ 0 → num_at s (body_at s groups i) 1 < 64
  unfolding body_demands
  six_stood i h = six_to s i (g.bodies groups i (omega arith) h).1.0

  -- A MILD CHANGE AGREES
  pub mild : {s' : List ℕ} → Mild s s' → Agree s s'
  mild {s'} m =
      record {
        long = m.long;
        front = λ p l. m.front p;
        users = many;
        by = record { edition = first; byte15 = m.byte15; rules = m.rules };
        zero31 = m.zero31;
        flags = (λ h. m.flags, λ h. g.zeros.0);
        fixed = λ k i j hk hi hj f.
            entry_at s' k i j hj
            ∙ ap (λ (p : ℕ). get_or s' (p + j) 0) (place_front s s' (λ p l. m.front p) many k i)
            ∙ m.entries k i j hk hi hj f
            ∙ sym (entry_at s k i j hj);
        counts = λ i h. (λ l. new i h, λ l. old_count i h);
        six = λ i h c. (λ l. m.six i h c, λ l. six_stood i h c);
      }
    where
      first : head.edition of s' ≡ head.edition of s
      first = num_same s' s (head.edition).at (head.edition).at (head.edition).width (λ i l. m.front ((head.edition).at + i) (omega arith))

      many : head.users s' ≡ head.users s
      many = users_alike s s' first m.byte15

      new : (i : ℕ) → i < count s properties → property.count of entry s' properties i ≤ property.maximum of entry s properties i
      new i h =
          rw (field_at s' properties i property.count (omega arith), place_front s s' (λ p l. m.front p) many properties i) (m.counts i h)
