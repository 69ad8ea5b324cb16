-- Two sheets that are the same but for the edition, bytes 15 and 30 being 0: they agree inside, and one breaks no rule if the other does not.
use Rattle.octets.proofs.Kit.{ℕ, ◌+◌, ◌≤◌, ◌<◌, ◌≡◌, refl, sym, ap, ◌∙◌, Bool, true, false, cond, List, eqb, get_or, arith}
use Rattle.octets.{specs.Bytes.num_at, proofs.Numbers.num_same}
use Rattle.sheet.specs.{Kind.{kinds, properties, groups}, Layout.{Field, ◌of◌}, Entries.{count, size, place, entry, body_at}, Agree.AgreeInside, But.But, Convert.EditionByte}
use Rattle.sheet.specs.Head as head
use Rattle.sheet.specs.Property as property
use Rattle.sheet.proofs.{rules.Good.GoodIn, places.{BodyPlaces.after_contents, Standing.{entry_at, after_head}}, alike.{Sames.place_front, Buts.field_but}, promises.Agrees.kept_in}

-- no user region and no spare bit, of whatever edition
nothing : (t : Bool) → ◌≡◌ {A = ℕ} (cond t 0 0) 0
nothing true = refl
nothing false = refl

pub no_users : (s : List ℕ) → head.byte15 of s ≡ 0 → head.users s ≡ 0
no_users s z = rw z (nothing (eqb (head.edition of s) 2))

no_spare : (s : List ℕ) → head.byte15 of s ≡ 0 → head.spare s ≡ 0
no_spare s z = rw z (nothing (eqb (head.edition of s) 2))

module _ {ed : ℕ} {s s' : List ℕ} (g : GoodIn ed s) (b : But EditionByte s s') (none : head.byte15 of s ≡ 0) (early : head.rules of s ≡ 0) where
  -- a field behind byte 0
  pub field_behind : (f : Field) → 1 ≤ f.at → f of s' ≡ f of s
  field_behind f h = field_but b f (λ j l e. omega arith)

  none' : head.byte15 of s' ≡ 0
  none' = field_behind head.byte15 (omega arith) ∙ none

  many : head.users s' ≡ head.users s
  many = no_users s' none' ∙ sym (no_users s none)

  number_same : (p w : ℕ) → 1 ≤ p → num_at s' p w ≡ num_at s p w
  number_same p w h = num_same s' s p p w (λ i l. b.others (p + i) (λ e. omega arith))

  entries_same : (k i j : ℕ) → k < kinds → i < count s k → j < size k → get_or (entry s' k i) j 0 ≡ get_or (entry s k i) j 0
  entries_same k i j hk hi hj =
      entry_at s' k i j hj
      ∙ ap (λ (p : ℕ). get_or s' (p + j) 0) (place_front s s' (λ p l h. b.others p (λ e. omega arith)) many k i)
      ∙ b.others (place s k i + j) (λ e. omega (arith, after_head s k i hk hi))
      ∙ sym (entry_at s k i j hj)

  counts_same : (i : ℕ) → i < count s properties → property.count of entry s' properties i ≡ property.count of entry s properties i
  counts_same i h =
      num_same (entry s' properties i) (entry s properties i) (property.count).at (property.count).at (property.count).width
      (λ j l. entries_same properties i ((property.count).at + j) (omega arith) h (omega arith))

  -- THEY AGREE INSIDE
  pub inside : AgreeInside s s'
  inside =
      record {
        long = b.long;
        front = λ p l h. b.others p (λ e. omega arith);
        users = many;
        by = tt;
        zero31 = number_same 31 1 (omega arith);
        flags = rw (number_same (head.flags).at 1 (omega arith)) (λ h. h, λ h. h);
        fixed = λ k i j hk hi hj f. entries_same k i j hk hi hj;
        counts = λ i h. rw (counts_same i h) (λ l. l, λ l. l);
        six = λ i h c.
            rw (number_same (body_at s groups i) 1 (omega (arith, after_contents g groups i (omega arith) h))) (λ l. l, λ l. l);
      }

  -- THE OTHER MEETS ALL DEMANDS TOO, of its own edition
  pub other_good : (ed' : ℕ) → 1 ≤ ed' → head.edition of s' ≡ ed' → GoodIn ed' s'
  other_good ed' lo own =
      kept_in g inside ed' lo own (no_spare s' none') (omega (arith, field_behind head.rules (omega arith), early))
