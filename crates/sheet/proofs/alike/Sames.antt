-- Two sheets that agree on what the rules read have the same entries at the same places, but for the counts.
use Rattle.octets.proofs.Kit.{ℕ, zero, suc, ◌+◌, ◌<◌, ◌≤◌, ◌≡◌, refl, ap₂, List, get_or, arith}
use Rattle.octets.proofs.Numbers.{num_same}
use Rattle.sheet.specs.{Kind.{kinds, regions, properties, groups, users, kind_of}, Layout.{Field, ◌of◌}, Head.rules_of}
use Rattle.sheet.specs.Entries.{count, size, base, place, contents, entry, key_of, floor_after, floor, offset_of, length_of, body_at, body_end, end_from, start_of, reached}
use Rattle.sheet.specs.{Agree.{Agree, AgreeBy, Fixed}, Places.region_at, declared.Memory.{Memory, TheVariants.{Device, User}}}
use Rattle.sheet.specs.Head as head
use Rattle.sheet.specs.Region as region
use Rattle.sheet.specs.Property as property
use Rattle.sheet.specs.Group as group
use Rattle.sheet.proofs.rules.ByKind.{each_kind}

-- by the numbers of entries alone
module _ (s s' : List ℕ) (front : (p : ℕ) → (head.regions).at ≤ p → p < (head.serial).at → get_or s' p 0 ≡ get_or s p 0)
    (many : head.users s' ≡ head.users s) where
  field_front : (f : Field) → (head.regions).at ≤ f.at → f.at + f.width ≤ (head.serial).at → f of s' ≡ f of s
  field_front f l h = num_same s' s f.at f.at f.width (λ i k. front (f.at + i) (omega arith) (omega arith))

  count_front : (k : ℕ) → count s' k ≡ count s k
  count_front zero = field_front head.regions (omega arith) (omega arith)
  count_front (suc zero) = field_front head.properties (omega arith) (omega arith)
  count_front (suc (suc zero)) = field_front head.groups (omega arith) (omega arith)
  count_front (suc (suc (suc k))) = many

  base_front : (k : ℕ) → base s' k ≡ base s k
  base_front zero = refl
  base_front (suc k) = rw (base_front k, count_front k)

  -- an entry stands at the same place
  pub place_front : (k i : ℕ) → place s' k i ≡ place s k i
  place_front k i = rw (base_front k)

-- so many user regions by the same edition and byte 15
pub users_alike : (s s' : List ℕ) → head.edition of s' ≡ head.edition of s → head.byte15 of s' ≡ head.byte15 of s → head.users s' ≡ head.users s
users_alike s s' e f = rw (e, f)

-- the number of the rules
pub rules_same : {s s' : List ℕ} → Agree s s' → rules_of s' ≡ rules_of s
unfolding rules_of
rules_same a = a.by.rules

-- all else, whatever that number and the edition are
module _ {R : List ℕ → List ℕ → Type 0} {s s' : List ℕ} (a : AgreeBy R s s') where
  -- a field of the head between edition and serial
  pub front_same : (f : Field) → (head.regions).at ≤ f.at → f.at + f.width ≤ (head.serial).at → f of s' ≡ f of s
  front_same = field_front s s' a.front a.users

  -- the number of entries of a kind
  pub count_same : (k : ℕ) → count s' k ≡ count s k
  count_same = count_front s s' a.front a.users

  -- where an entry stands
  pub place_same : (k i : ℕ) → place s' k i ≡ place s k i
  place_same = place_front s s' a.front a.users

  -- where the contents end
  pub contents_same : contents s' ≡ contents s
  contents_same = base_front s s' a.front a.users kinds

  -- a field of an entry that is no part of a property's count
  pub field_same :
      (k i : ℕ) (f : Field) → k < kinds → i < count s k → f.at + f.width ≤ size k → ((j : ℕ) → j < f.width → Fixed k (f.at + j))
      → f of entry s' k i ≡ f of entry s k i
  field_same k i f hk hi h fx =
      num_same (entry s' k i) (entry s k i) f.at f.at f.width
      (λ j l. a.fixed k i (f.at + j) hk hi (omega arith) (fx j l))

  -- any field of a region of a memory, and of a group object
  pub region_same : (m : Memory) (i : ℕ) (f : Field) → i < count s (kind_of m) → f.at + f.width ≤ region.size → f of region_at s' m i ≡ f of region_at s m i
  region_same Device i f h l = field_same regions i f (omega arith) h l (λ j m. omega arith)
  region_same User i f h l = field_same users i f (omega arith) h l (λ j m. omega arith)

  pub group_same : (i : ℕ) (f : Field) → i < count s groups → f.at + f.width ≤ group.size → f of entry s' groups i ≡ f of entry s groups i
  group_same i f h l = field_same groups i f (omega arith) h l (λ j m. omega arith)

  -- a field of a property but the count
  pub property_same :
      (i : ℕ) (f : Field) → i < count s properties → f.at + f.width ≤ property.size → ((j : ℕ) → j < f.width → Fixed properties (f.at + j))
      → f of entry s' properties i ≡ f of entry s properties i
  property_same i f h l fx = field_same properties i f (omega arith) h l fx

  -- the first word of an entry
  pub key_same : (i k : ℕ) → k < kinds → i < count s k → key_of s' k i ≡ key_of s k i
  unfolding key_of
  key_same i =
      each_kind (λ (k : ℕ). i < count s k → key_of s' k i ≡ key_of s k i)
      (λ h. region_same Device i region.address h (omega arith))
      (λ h. property_same i property.object_id h (omega arith) (omega arith))
      (λ h. group_same i group.address h (omega arith))
      (λ h. region_same User i region.address h (omega arith))

  -- what it leaves to the next
  pub after_same : (i k : ℕ) → k < kinds → i < count s k → floor_after k (entry s' k i) ≡ floor_after k (entry s k i)
  after_same i =
      each_kind (λ (k : ℕ). i < count s k → floor_after k (entry s' k i) ≡ floor_after k (entry s k i))
      (λ h. rw (region_same Device i region.address h (omega arith), region_same Device i region.length h (omega arith)))
      (λ h. rw (property_same i property.object_id h (omega arith) (omega arith)))
      (λ h. rw (group_same i group.address h (omega arith)))
      (λ h. rw (region_same User i region.address h (omega arith), region_same User i region.length h (omega arith)))

  -- what the entry before leaves to it
  pub floor_same : (k i : ℕ) → k < kinds → i < count s k → floor s' k i ≡ floor s k i
  unfolding floor
  floor_same k zero hk hi = refl
  floor_same k (suc i) hk hi = after_same i k hk (omega arith)

  -- where its body starts, and how long it is
  pub offset_same : (i k : ℕ) → k < kinds → i < count s k → offset_of k (entry s' k i) ≡ offset_of k (entry s k i)
  offset_same i =
      each_kind (λ (k : ℕ). i < count s k → offset_of k (entry s' k i) ≡ offset_of k (entry s k i))
      (λ h. region_same Device i region.offset h (omega arith))
      (λ h. property_same i property.offset h (omega arith) (omega arith))
      (λ h. group_same i group.offset h (omega arith))
      (λ h. region_same User i region.offset h (omega arith))

  pub length_same : (i k : ℕ) → k < kinds → i < count s k → length_of k (entry s' k i) ≡ length_of k (entry s k i)
  length_same i =
      each_kind (λ (k : ℕ). i < count s k → length_of k (entry s' k i) ≡ length_of k (entry s k i))
      (λ h. region_same Device i region.length h (omega arith))
      (λ h. rw (property_same i property.element h (omega arith) (omega arith), property_same i property.maximum h (omega arith) (omega arith)))
      (λ h. rw (group_same i group.code h (omega arith)))
      (λ h. region_same User i region.length h (omega arith))

  -- where a body starts, and where it ends
  pub at_same : (k i : ℕ) → k < kinds → i < count s k → body_at s' k i ≡ body_at s k i
  unfolding body_at
  at_same k i hk hi = offset_same i k hk hi

  pub end_same : (k i : ℕ) → k < kinds → i < count s k → body_end s' k i ≡ body_end s k i
  unfolding body_end
  end_same k i hk hi = ap₂ ◌+◌ (offset_same i k hk hi) (length_same i k hk hi)

  from_same : (k z i : ℕ) → k < kinds → i ≤ count s k → end_from s' k z i ≡ end_from s k z i
  from_same k z zero hk hi = refl
  from_same k z (suc i) hk hi = end_same k i hk hi

  -- where the bodies of a kind begin, and where the one before body i ended
  pub start_same : (k : ℕ) → k ≤ kinds → start_of s' k ≡ start_of s k
  unfolding start_of
  start_same zero h = contents_same
  start_same (suc k) h =
      rw (count_same k, start_same k (omega arith)) (from_same k (start_of s k) (count s k) h (omega arith))

  pub reached_same : (k i : ℕ) → k < kinds → i < count s k → reached s' k i ≡ reached s k i
  unfolding reached
  reached_same k i hk hi = rw (start_same k (omega arith)) (from_same k (start_of s k) i hk (omega arith))
