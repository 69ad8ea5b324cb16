-- The tests of restoring are the propositions, stay the same while a sheet changes within the rules, and bytes stay bytes.
use Rattle.octets.proofs.Kit.{ℕ, zero, suc, ◌+◌, ◌-◌, ◌<◌, ◌≡◌, refl, sym, ap₂, ◌∙◌, List, ◌⊎◌, inl, inr, Bool, true, false, cond, ◌&&◌, arith, eqb, ltb, leb, length, drop, get_or, ltb-true}
use Rattle.octets.proofs.Kit.{lt-ltb, leb-true, le-leb, eqb-true, eq-eqb}
use Rattle.octets.{specs.{Bytes.num_at, Every.every, Octets.Octets}, proofs.{Truths.{never, and_is, or_is, decided, bool_same}, Everys.{every_at, every_all}}}
use Rattle.octets.proofs.Octet.{octets_none, octets_take, octets_drop, octets_splice}
use Rattle.sheet.specs.{Kind.{properties, groups}, Layout.◌of◌, Entries.{place, entry, start_of}, Agree.{AgreeBy, Fixed}, Rules.Accepted}
use Rattle.sheet.proofs.{alike.Sames.{count_same, property_same, start_same}, places.Standing.{entry_at, field_at}}
use Rattle.sheet.specs.Property as property
use Rattle.versions.specs.Store.{body_of, version_in, kept, versions_from, version_at, in_row}
use Rattle.versions.specs.Settings.{front, many, entries_long, bodies_long, in_version, restored, SameEntries, LowCounts}
use Rattle.versions.specs.Restoring.{is_count, same_byte, same_entry, low_count, entry_in, same_entries, low_counts}
use Rattle.versions.specs.Row as row
use Rattle.versions.proofs.promises.Restores as re

-- a byte that is no part of a count, and one that is
count_not : (j : ℕ) → Fixed properties j → is_count j ≡ true → ⊥
count_not j f e =
    let b = (and_is (leb (property.count).at j) (ltb j ((property.count).at + (property.count).width))).0 e in
    f refl (leb-true _ _ b.0) (ltb-true _ _ b.1)

count_is : (j : ℕ) → is_count j ≡ false → Fixed properties j
count_is j e k l m =
    never (sym e ∙ (and_is (leb (property.count).at j) (ltb j ((property.count).at + (property.count).width))).1 (le-leb _ _ l, lt-ltb _ _ m))

module _ (s d : List ℕ) where
  abbrev Byte : ℕ → ℕ → Bool
  Byte i j = same_byte s (place s properties i) d (entry_in i) j

  abbrev Entry : ℕ → Bool
  Entry i = same_entry s (place s properties i) d (entry_in i)

  abbrev Long : Bool
  Long = eqb (length d) (front + entries_long s + bodies_long s)

  abbrev Number : Bool
  Number = eqb (num_at d 0 front) (many s)

  abbrev Entries : Bool
  Entries = every (many s) Entry

  -- THE SAME ENTRIES
  pub same_entries_lem : same_entries s d ≡ true → SameEntries s d
  unfolding same_entries same_entry
  same_entries_lem e =
      let a = (and_is Long (Number && Entries)).0 e in
      let b = (and_is Number Entries).0 a.1 in
      record {
        long = eqb-true _ _ a.0;
        number = eqb-true _ _ b.0;
        entries = λ i j hi hj f. at i j f ((or_is (is_count j) _).0 (every_at (Byte i) property.size (every_at Entry (many s) b.1 i hi) j hj));
      }
    where
      at :
          (i j : ℕ) → Fixed properties j →
          (is_count j ≡ true) ⊎ (eqb (get_or d (in_version i j) 0) (get_or s (place s properties i + j) 0) ≡ true) →
          get_or d (in_version i j) 0 ≡ get_or s (place s properties i + j) 0
      at i j f (inl c) = absurd (count_not j f c)
      at i j f (inr c) = eqb-true _ _ c

  pub entries_same : SameEntries s d → same_entries s d ≡ true
  unfolding same_entries same_entry
  entries_same r =
      (and_is Long (Number && Entries)).1
      (eq-eqb _ _ r.long, (and_is Number Entries).1 (eq-eqb _ _ r.number, every_all Entry (many s) (λ i h. every_all (Byte i) property.size (λ j l. at i j h l (decided (is_count j))))))
    where
      at : (i j : ℕ) → i < many s → j < property.size → (is_count j ≡ true) ⊎ (is_count j ≡ false) → Byte i j ≡ true
      at i j h l (inl c) = (or_is (is_count j) _).1 (inl c)
      at i j h l (inr c) = (or_is (is_count j) _).1 (inr (eq-eqb _ _ (r.entries i j h l (count_is j c))))

  abbrev Low : ℕ → Bool
  Low i = low_count s (place s properties i) d (entry_in i)

  -- NO COUNT TOO HIGH
  pub low_counts_lem : low_counts s d ≡ true → LowCounts s d
  unfolding low_counts low_count
  low_counts_lem e =
      record {
        low = λ i h.
            rw (field_at s properties i property.maximum (omega arith))
            (leb-true (num_at d (entry_in i + 6) 2) (num_at s (place s properties i + 4) 2) (every_at Low (many s) e i h));
      }

  pub counts_low : LowCounts s d → low_counts s d ≡ true
  unfolding low_counts low_count
  counts_low r =
      every_all Low (many s)
      (λ i h. le-leb (num_at d (entry_in i + 6) 2) (num_at s (place s properties i + 4) 2) (rw (← field_at s properties i property.maximum (omega arith)) (r.low i h)))

-- what is so of a sheet is so of another that agrees with it on what the rules read, whatever the number of the rules
module _ {R : List ℕ → List ℕ → Type 0} {s t : List ℕ} (a : AgreeBy R s t) (d : List ℕ) where
  same_many : many t ≡ many s
  same_many = count_same a properties

  same_bodies : bodies_long t ≡ bodies_long s
  same_bodies = ap₂ (λ (x y : ℕ). x - y) (start_same a groups (omega arith)) (start_same a properties (omega arith))

  byte_same : (i j : ℕ) → i < many s → j < property.size → Fixed properties j → get_or t (place t properties i + j) 0 ≡ get_or s (place s properties i + j) 0
  byte_same i j h l f = sym (entry_at t properties i j l) ∙ a.fixed properties i j (omega arith) h l f ∙ entry_at s properties i j l

  max_same : (i : ℕ) → i < many s → property.maximum of entry t properties i ≡ property.maximum of entry s properties i
  max_same i h = property_same a i property.maximum h (omega arith) (omega arith)

  pub entries_to : SameEntries s d → SameEntries t d
  entries_to r =
      record {
        long = r.long ∙ omega (arith, same_many, same_bodies);
        number = r.number ∙ sym same_many;
        entries = λ i j h l f. let k : i < many s = omega (arith, same_many) in r.entries i j k l f ∙ sym (byte_same i j k l f);
      }

  pub entries_from : SameEntries t d → SameEntries s d
  entries_from r =
      record {
        long = r.long ∙ omega (arith, same_many, same_bodies);
        number = r.number ∙ same_many;
        entries = λ i j h l f. r.entries i j (omega (arith, same_many)) l f ∙ byte_same i j h l f;
      }

  pub low_to : LowCounts s d → LowCounts t d
  low_to r = record { low = λ i h. let k : i < many s = omega (arith, same_many) in rw (max_same i k) (r.low i k) }

  pub low_from : LowCounts t d → LowCounts s d
  low_from r = record { low = λ i h. rw (max_same i h) at (r.low i (omega (arith, same_many))) }

  -- THE TESTS STAY
  pub same_entries_same : same_entries t d ≡ same_entries s d
  same_entries_same =
      bool_same _ _ (λ e. entries_same s d (entries_from (same_entries_lem t d e))) (λ e. entries_same t d (entries_to (same_entries_lem s d e)))

  pub low_counts_same : low_counts t d ≡ low_counts s d
  low_counts_same =
      bool_same _ _ (λ e. counts_low s d (low_from (low_counts_lem t d e))) (λ e. counts_low t d (low_to (low_counts_lem s d e)))

-- BYTES
module _ (st : List ℕ) (small : Octets st) (n : ℕ) where
  body_octets : (p m : ℕ) → Octets (body_of n (versions_from st p m))
  unfolding body_of versions_from version_at
  body_octets p zero = octets_none
  body_octets p (suc m) = go (eqb (version_at st p).number n) (body_octets (p + 8) m)
    where
      go : (t : Bool) → Octets (body_of n (versions_from st (p + 8) m)) →
          Octets (cond t (version_at st p).body (body_of n (versions_from st (p + 8) m)))
      go true r = octets_take (in_row st p row.long) (drop (in_row st p row.offset) st) (octets_drop (in_row st p row.offset) st small)
      go false r = r

  pub version_octets : Octets (version_in st n)
  unfolding version_in kept
  version_octets = body_octets _ _

pub restored_octets : {s d : List ℕ} → Accepted s → SameEntries s d → Octets s → Octets d → Octets (restored s d)
unfolding restored
restored_octets {s} {d} ok same a b =
    octets_splice (re.t ok same) (start_of s properties) _ (re.fits₂ ok same)
    (octets_splice s _ _ (re.fits₁ ok same) a (octets_take (entries_long s) _ (octets_drop front d b)))
    (octets_drop (front + entries_long s) d b)
