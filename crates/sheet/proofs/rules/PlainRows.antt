-- S6 to S9 say what the rows of the entries and of the bodies say.
use Rattle.octets.proofs.Kit.{ℕ, zero, suc, ◌<◌, ◌≤◌, ◌≡◌, List, dec_lt, arith, le-leb, lt-leb}
use Rattle.octets.specs.Bytes.{num_at}
use Rattle.sheet.specs.{Demand.Met, Kind.{kinds, regions, properties, groups, users}, Layout.◌of◌, Entries.{count, entry, floor, body_at, reached, six_bits}}
use Rattle.sheet.specs.{Rules.{entry_demands, body_demands, end_demands}, Plain.{Ordered, S6, S7, S8, S9}}
use Rattle.sheet.specs.Group as group
use Rattle.sheet.proofs.rules.ByKind.{each_kind}

-- the demands of all entries of a kind, and of all their bodies
abbrev pub Entries : List ℕ → ℕ → Type 0
Entries s k = (i : ℕ) → i < count s k → Met (entry_demands s k i)

abbrev pub Bodies : List ℕ → ℕ → Type 0
Bodies s k = (i : ℕ) → i < count s k → Met (body_demands s k i)

module _ (s : List ℕ) where
  -- S6
  pub to6 : Entries s users × Entries s regions → S6 s
  unfolding entry_demands floor
  to6 m = (
    record { each = λ i h. omega (arith, m.1 i h); after = λ i h. omega (arith, m.1 (suc i) h) },
    record { each = λ i h. omega (arith, m.0 i h); after = λ i h. omega (arith, m.0 (suc i) h) },
  )

  from_regions : Ordered s regions → Entries s regions
  unfolding entry_demands floor
  from_regions m zero h = omega (arith, m.each 0 h)
  from_regions m (suc i) h = omega (arith, m.each (suc i) h, m.after i h)

  from_users : Ordered s users → Entries s users
  unfolding entry_demands floor
  from_users m zero h = omega (arith, m.each 0 h)
  from_users m (suc i) h = omega (arith, m.each (suc i) h, m.after i h)

  pub from6 : S6 s → Entries s users × Entries s regions
  from6 m = (from_users m.1, from_regions m.0)

  -- S7
  pub to7 : Entries s properties → S7 s
  unfolding entry_demands floor
  to7 m = record { each = λ i h. omega (arith, m i h); rising = λ i h. omega (arith, m (suc i) h) }

  pub from7 : S7 s → Entries s properties
  unfolding entry_demands floor
  from7 m zero h = omega (arith, m.each 0 h)
  from7 m (suc i) h = omega (arith, m.each (suc i) h, m.rising i h)

  -- S8
  pub to8 : Entries s groups → S8 s
  unfolding entry_demands floor
  to8 m = record { each = λ i h. omega (arith, m i h); rising = λ i h. omega (arith, m (suc i) h) }

  pub from8 : S8 s → Entries s groups
  unfolding entry_demands floor
  from8 m zero h = omega (arith, m.each 0 h)
  from8 m (suc i) h = omega (arith, m.each (suc i) h, m.rising i h)

  -- the byte of a code-0 group object
  abbrev pub Six : ℕ → Type 0
  Six i = group.code of entry s groups i ≡ 0 → num_at s (body_at s groups i) 1 < 64

  pub six_to : (i : ℕ) → six_bits s groups (entry s groups i) ≤ 63 → Six i
  unfolding six_bits body_at
  six_to i h e = let l = lt-leb 1 (group.code of entry s groups i) (omega arith) in omega (arith, rw l at h)

  pub six_from : (i : ℕ) → Six i → six_bits s groups (entry s groups i) ≤ 63
  unfolding six_bits body_at
  six_from i h = go (dec_lt (group.code of entry s groups i) 1)
    where
      go : Dec (group.code of entry s groups i < 1) → six_bits s groups (entry s groups i) ≤ 63
      go (yes l) = rw (lt-leb 1 (group.code of entry s groups i) l) (omega (arith, h (omega arith)))
      go (no l) = rw (le-leb 1 (group.code of entry s groups i) (omega arith)) (omega arith)

  -- S9
  pub to9 : (((Bodies s 0 × Bodies s 1) × Bodies s 2) × Bodies s 3) × Met (end_demands s) → S9 s
  unfolding body_demands reached body_at
  to9 m =
      record {
        first = λ k hk h. (bodies k hk 0 h).0;
        next = λ k i hk h. (bodies k hk (suc i) h).0;
        last = m.1.0;
        six = λ i h. six_to i (m.0.0.1 i h).1.0;
      }
    where
      bodies : (k : ℕ) → k < kinds → Bodies s k
      bodies = each_kind (Bodies s) m.0.0.0.0 m.0.0.0.1 m.0.0.1 m.0.1

  pub from9 : S9 s → (((Bodies s 0 × Bodies s 1) × Bodies s 2) × Bodies s 3) × Met (end_demands s)
  unfolding body_demands reached body_at
  from9 m = ((((bodies 0 (omega arith), bodies 1 (omega arith)), bodies 2 (omega arith)), bodies 3 (omega arith)), (m.last, tt))
    where
      six : (i k : ℕ) → k < kinds → i < count s k → six_bits s k (entry s k i) ≤ 63
      six i =
          each_kind (λ (k : ℕ). i < count s k → six_bits s k (entry s k i) ≤ 63)
          (λ h. unfold six_bits in omega arith)
          (λ h. unfold six_bits in omega arith)
          (λ h. six_from i (m.six i h))
          (λ h. unfold six_bits in omega arith)

      bodies : (k : ℕ) → k < kinds → Bodies s k
      bodies k hk zero h = (m.first k hk h, (six 0 k hk h, tt))
      bodies k hk (suc i) h = (m.next k i hk h, (six (suc i) k hk h, tt))
