-- Entries by their first word: it rises strictly, so a lookup finds the one entry that has it.
use Rattle.octets.proofs.Kit.{ℕ, suc, ◌+◌, ◌*◌, ◌<◌, ◌≤◌, ◌≡◌, sym, ◌∙◌, List, dec_lt, le_trans, arith, eq-eqb, eqb-true}
use Rattle.octets.proofs.Numbers.{num_one, num_two}
use Rattle.sheet.specs.{Kind.kinds, Layout.◌of◌, Entries.{count, key_of, floor}, Rules.{entry_demands, Accepted}, Lookup.index_of}
use Rattle.sheet.specs.Property as property
use Rattle.sheet.proofs.{rules.{ByKind.each_kind, Good.{Good, good}}, places.Rising.rising, searches.FrontSearch.{seek_bound, seek_passes, seek_hit, seek_none}}

module _ {s : List ℕ} (g : Good s) where
  -- an entry's first word is not below the floor, and below that of the next
  pub over_floor : (i k : ℕ) → k < kinds → i < count s k → floor s k i ≤ key_of s k i
  unfolding entry_demands key_of
  over_floor i =
      each_kind (λ (k : ℕ). i < count s k → floor s k i ≤ key_of s k i)
      (λ h. omega (arith, g.entries 0 i (omega arith) h))
      (λ h. omega (arith, g.entries 1 i (omega arith) h))
      (λ h. omega (arith, g.entries 2 i (omega arith) h))
      (λ h. omega (arith, g.entries 3 i (omega arith) h))

  pub under_next : (i k : ℕ) → k < kinds → i < count s k → key_of s k i < floor s k (suc i)
  unfolding entry_demands key_of floor
  under_next i =
      each_kind (λ (k : ℕ). i < count s k → key_of s k i < floor s k (suc i))
      (λ h. omega (arith, g.entries 0 i (omega arith) h))
      (λ h. omega arith)
      (λ h. omega arith)
      (λ h. omega (arith, g.entries 3 i (omega arith) h))

  module _ (k : ℕ) (hk : k < kinds) where
    key_up : (i : ℕ) → suc i < count s k → key_of s k i < key_of s k (suc i)
    key_up i h = le_trans (under_next i k hk (omega arith)) (over_floor (suc i) k hk h)

    -- an entry's first word is not below what any earlier entry leaves
    pub past_floor : (i j : ℕ) → i < j → j < count s k → floor s k (suc i) ≤ key_of s k j
    past_floor i j h l =
        le_trans (over_floor (suc i) k hk (omega arith))
        (rising (key_of s k) j (λ m b. omega (arith, key_up m (omega arith))) (suc i) j h (omega arith))

    -- THE FIRST WORDS RISE STRICTLY
    pub key_rising : (i j : ℕ) → i < j → j < count s k → key_of s k i < key_of s k j
    key_rising i j h l = le_trans (under_next i k hk (omega arith)) (past_floor i j h l)

module _ (s : List ℕ) (ok : Accepted s) (k : ℕ) (hk : k < kinds) where
  rises : (i j : ℕ) → i < j → j < count s k → key_of s k i < key_of s k j
  rises = key_rising (good s ok) k hk

  -- two entries of a kind have two first words
  pub key_once : (i j : ℕ) → i < count s k → j < count s k → key_of s k i ≡ key_of s k j → i ≡ j
  key_once i j hi hj e = go (dec_lt i j) (dec_lt j i)
    where
      go : Dec (i < j) → Dec (j < i) → i ≡ j
      go (yes h) d = absurd (omega (arith, rises i j h hj))
      go (no h) (yes l) = absurd (omega (arith, rises j i l hi))
      go (no h) (no l) = omega arith

  -- A LOOKUP FINDS THE ENTRY THAT HAS THE FIRST WORD
  pub index_hit : (i x : ℕ) → i < count s k → key_of s k i ≡ x → index_of s k x ≡ i
  unfolding index_of
  index_hit i x hi e =
      seek_hit _ (count s k) i hi (eq-eqb (key_of s k i) x e)
      (λ m hm q. key_once m i hm hi (eqb-true (key_of s k m) x q ∙ sym e))

module _ (s : List ℕ) (k x : ℕ) where
  -- a lookup gives an entry or the count
  pub index_bound : index_of s k x ≤ count s k
  unfolding index_of
  index_bound = seek_bound _ (count s k)

  -- the entry that it gives has the first word
  pub index_key : index_of s k x < count s k → key_of s k (index_of s k x) ≡ x
  unfolding index_of
  index_key h = eqb-true _ x (seek_passes _ (count s k) h)

  -- IT GIVES THE COUNT WHERE NO ENTRY HAS THE FIRST WORD
  pub index_none : ((i : ℕ) → i < count s k → key_of s k i ≡ x → ⊥) → index_of s k x ≡ count s k
  unfolding index_of
  index_none f = seek_none _ (count s k) (λ i h q. f i h (eqb-true (key_of s k i) x q))

-- the first word of a property is its object and id
pub key_is : (e : List ℕ) → property.object_id of e ≡ property.object of e * 256 + property.id of e
key_is e = omega (arith, num_two e (property.object_id).at, num_one e (property.object).at, num_one e (property.id).at)

-- and says both, ids being bytes
pub key_parts :
    (e : List ℕ) (object id : ℕ) → property.id of e < 256 → id < 256 → property.object_id of e ≡ object * 256 + id
    → (property.object of e ≡ object) × (property.id of e ≡ id)
key_parts e object id h l q = let r = key_is e in omega arith
