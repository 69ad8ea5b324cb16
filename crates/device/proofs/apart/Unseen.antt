-- What judging reads of a sheet, apart from edition and number of the rules: head and entries, and the bodies of group objects. The rules of the sheet read no more.
use Rattle.octets.proofs.Kit.{ℕ, ◌+◌, ◌<◌, ◌≤◌, ◌≡◌, ap, List, length, get_or, arith}
use Rattle.octets.{specs.Bytes.num_at, proofs.Numbers.num_same}
use Rattle.sheet.specs.{Kind.{kinds, groups, properties}, Layout.{Field, ◌of◌}, Entries.{count, size, place, contents, entry, body_at, body_end, InBody}, Agree.AgreeBy}
use Rattle.sheet.proofs.{alike.Sames.place_front, places.Standing.{after_head, place_in}, alike.Buts.part_same}
use Rattle.sheet.specs.Head as head
use Rattle.sheet.specs.Group as group

-- two sheets that are the same there
pub record SameThere (s s' : List ℕ) : Type 0 where
  pub long : length s' ≡ length s
  pub before : (p : ℕ) → (head.regions).at ≤ p → p < contents s → (p ≡ (head.rules).at → ⊥) → get_or s' p 0 ≡ get_or s p 0
  pub users : head.users s' ≡ head.users s
  pub values : (i p : ℕ) → InBody s groups i p → get_or s' p 0 ≡ get_or s p 0

module _ {s s' : List ℕ} (b : SameThere s s') where
  -- a field of the head between these
  pub head_same : (f : Field) → ((head.regions).at ≤ f.at) × (f.at + f.width ≤ (head.rules).at) → f of s' ≡ f of s
  head_same f h =
      num_same s' s f.at f.at f.width (λ i l. b.before (f.at + i) (omega (arith, h)) (omega (arith, h)) (λ e. omega (arith, h)))

  -- an entry
  pub entry_same : (k i : ℕ) → k < kinds → i < count s k → entry s' k i ≡ entry s k i
  unfolding entry
  entry_same k i hk hi =
      let e = place_front s s' (λ p l h. b.before p l (omega arith) (λ e. omega arith)) b.users k i in
      rw e
      (part_same s s' (place s k i) (size k) b.long
      (λ j l. b.before (place s k i + j) (omega (arith, after_head s k i hk hi)) (omega (arith, place_in s k i hk hi)) (λ e. omega (arith, after_head s k i hk hi))))

  -- the first byte of a group object's body
  pub value_same :
      (i : ℕ) → i < count s groups → num_at s' (group.offset of entry s groups i) 1 ≡ num_at s (group.offset of entry s groups i) 1
  unfolding body_at body_end
  value_same i h =
      let o : ℕ = group.offset of entry s groups i in
      num_same s' s o o 1
      (λ j l. b.values i (o + j) (record { kind = omega arith; below = h; from = omega arith; to = omega arith }))

  -- THE RULES OF THE SHEET READ NO MORE
  pub unseen : {R : List ℕ → List ℕ → Type 0} → R s s' → AgreeBy R s s'
  unseen r =
      record {
        long = b.long;
        front = λ p l h. b.before p l (omega arith) (λ e. omega arith);
        users = b.users;
        by = r;
        zero31 = num_same s' s 31 31 1 (λ i l. b.before (31 + i) (omega arith) (omega arith) (λ e. omega arith));
        flags = rw (head_same head.flags (omega arith)) (λ h. h, λ h. h);
        fixed = λ k i j hk hi hj f. ap (λ (e : List ℕ). get_or e j 0) (entry_same k i hk hi);
        counts = λ i h. rw (entry_same properties i (omega arith) h) (λ l. l, λ l. l);
        six = λ i h c. unfold body_at in rw (value_same i h) (λ l. l, λ l. l);
      }
