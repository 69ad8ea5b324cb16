-- The conversion of an old sheet is accepted, and has every byte the same but byte 0; its lookups hand back what the old one has there. A call converts an old sheet and no other.
use Rattle.octets.proofs.Kit.{ℕ, ◌+◌, ◌*◌, ◌≤◌, ◌<◌, ◌≡◌, refl, subst⁻¹, ◌∙◌, cond, List, ltb, length, take, drop, dec_lt, arith, eq-eqb, ne_eqb, lt-ltb, le-ltb}
use Rattle.octets.{specs.{Bytes.bytes_of, Splice.splice}, proofs.{Numbers.length_bytes, Splices.{length_splice, splice_above, splice_num}}}
use Rattle.sheet.specs.{Kind.{kinds, regions, properties, groups, users}, Layout.◌of◌, Head.rules_of, Entries.{count, entry, offset_of, length_of, body_at}}
use Rattle.sheet.specs.{Rules.{verdict_of, is_accepted, Old, edition, retired}, Lookup.{when, index_of, body_of, body_from, lookup, lookup_from}, Agree.AgreeInside, But.But}
use Rattle.sheet.specs.Convert.{conversion_of, convert_outcome, convert_sheet, Converts, EditionByte, Converted}
use Rattle.sheet.specs.Head as head
use Rattle.sheet.proofs.{rules.{Good.{GoodIn, Good, accepted}, Editions.{spare_first, latest_first}}, places.BodyPlaces.after_contents, alike.Buts.part_but}
use Rattle.sheet.proofs.alike.{Sames.{count_same, offset_same, length_same}, SameLookups.index_same, EditionApart.{no_users, field_behind, inside, other_good}}
use Rattle.sheet.proofs.promises.Verdicts.{old_good}

-- as the code's returns ask
pub not_converted : (s : List ℕ) → (Old s → ⊥) → Converts s 4 s
unfolding convert_outcome convert_sheet
not_converted s h = let t = ne_eqb (verdict_of s) 14 h in record { outcome = rw t; sheet = rw t }

pub was_converted : (s s' : List ℕ) → Old s → s' ≡ splice s 0 (bytes_of 1 2) → Converts s 1 s'
unfolding convert_outcome convert_sheet conversion_of
was_converted s s' o q = let t = eq-eqb (verdict_of s) 14 o in record { outcome = rw t; sheet = rw t q }

pub convert_room : (s : List ℕ) → Old s → 0 + 1 ≤ length s
convert_room s o = let g = old_good s o in omega (arith, g.framed)

-- a sheet of two bytes or more with 2 in byte 0
module _ (s : List ℕ) (long : head.size ≤ length s) where
  room : (head.edition).at + length (bytes_of 1 edition) ≤ length s
  room = omega (arith, length_bytes 1 edition)

  pub edition_apart : But EditionByte s (conversion_of s)
  unfolding conversion_of
  edition_apart =
      record {
        long = length_splice s (head.edition).at (bytes_of 1 edition) room;
        others = λ p n. splice_above s (head.edition).at (bytes_of 1 edition) room p (omega (arith, length_bytes 1 edition, n));
      }

  pub now_second : head.edition of conversion_of s ≡ edition
  unfolding conversion_of
  now_second = splice_num s (head.edition).at 1 edition (omega arith) (omega arith)

module _ (s : List ℕ) (o : Old s) where
  g : GoodIn retired s
  g = old_good s o

  not_second_lem : head.edition of s ≡ 2 → ⊥
  not_second_lem e = omega (arith, e, g.own)

  -- AN OLD SHEET HAS 0 IN BYTES 15 AND 30
  pub old_byte15 : head.byte15 of s ≡ 0
  old_byte15 = spare_first s (head.edition of s) refl (head.byte15 of s) not_second_lem refl ∙ g.zeros.1.0

  pub old_rules : head.rules of s ≡ 0
  old_rules = omega (arith, g.zeros, latest_first s (head.edition of s) refl not_second_lem)

  long : head.size ≤ length s
  long = g.framed.0

  apart : But EditionByte s (conversion_of s)
  apart = edition_apart s long

  agree : AgreeInside s (conversion_of s)
  agree = inside g apart old_byte15 old_rules

  pub converted_good : Good (conversion_of s)
  converted_good = other_good g apart old_byte15 old_rules edition (omega arith) (now_second s long)

  -- an entry's body, from the same place
  same_body : (k i : ℕ) → k < kinds → (lookup (conversion_of s) k i ≡ body_of s k i) × (lookup_from (conversion_of s) k i ≡ body_from s k i)
  unfolding lookup lookup_from is_accepted body_of body_from body_at
  same_body k i hk =
      rw (eq-eqb (verdict_of (conversion_of s)) 0 (accepted converted_good), count_same agree k)
      (go (dec_lt i (count s k)))
    where
      cut : i < count s k →
          take (length_of k (entry (conversion_of s) k i)) (drop (offset_of k (entry (conversion_of s) k i)) (conversion_of s))
          ≡ take (length_of k (entry s k i)) (drop (offset_of k (entry s k i)) s)
      cut h =
          rw (length_same agree i k hk h, offset_same agree i k hk h)
          (part_but apart (offset_of k (entry s k i)) (length_of k (entry s k i)) (λ j l e. omega (arith, after_contents g k i hk h)))

      go : Dec (i < count s k) →
          (when (ltb i (count s k)) (take (length_of k (entry (conversion_of s) k i)) (drop (offset_of k (entry (conversion_of s) k i)) (conversion_of s)))
          ≡ when (ltb i (count s k)) (take (length_of k (entry s k i)) (drop (offset_of k (entry s k i)) s)))
          × (cond (ltb i (count s k)) (offset_of k (entry (conversion_of s) k i)) 0 ≡ cond (ltb i (count s k)) (offset_of k (entry s k i)) 0)
      go (yes h) = (rw (lt-ltb i (count s k) h) (cut h), rw (offset_same agree i k hk h))
      go (no n) = (rw (le-ltb i (count s k) (omega arith)), rw (le-ltb i (count s k) (omega arith)))

  same_keyed : (k x : ℕ) → k < kinds →
      (lookup (conversion_of s) k (index_of (conversion_of s) k x) ≡ body_of s k (index_of s k x))
      × (lookup_from (conversion_of s) k (index_of (conversion_of s) k x) ≡ body_from s k (index_of s k x))
  same_keyed k x hk = rw (index_same agree k x hk) (same_body k (index_of s k x) hk)

-- THE CONVERSION OF AN OLD SHEET
pub converted : (s : List ℕ) → Old s → Converted s (conversion_of s)
unfolding rules_of
converted s o =
    record {
      accepted = accepted (converted_good s o);
      others = apart s o;
      none = no_users (conversion_of s) (field_behind (g s o) (apart s o) (old_byte15 s o) (old_rules s o) head.byte15 (omega arith) ∙ old_byte15 s o);
      rules = field_behind (g s o) (apart s o) (old_byte15 s o) (old_rules s o) head.rules (omega arith) ∙ old_rules s o;
      region = λ i. same_body s o regions i (omega arith);
      user_region = λ i. same_body s o users i (omega arith);
      property = λ object id. same_keyed s o properties (object * 256 + id) (omega arith);
      group = λ address. same_keyed s o groups address (omega arith);
    }

-- WHAT A CALL DID: an old sheet is its conversion now, and 1 came back; any other is as found, and 4 did
module _ {s s' : List ℕ} {r : ℕ} (c : Converts s r s') where
  pub convert_old : Old s → (r ≡ 1) × Converted s s'
  unfolding convert_outcome convert_sheet
  convert_old o =
      let t = eq-eqb (verdict_of s) 14 o in (c.outcome ∙ rw t, subst⁻¹ (Converted s) (c.sheet ∙ rw t) (converted s o))

  pub convert_other : (Old s → ⊥) → (r ≡ 4) × (s' ≡ s)
  unfolding convert_outcome convert_sheet
  convert_other n = let t = ne_eqb (verdict_of s) 14 n in (c.outcome ∙ rw t, c.sheet ∙ rw t)
