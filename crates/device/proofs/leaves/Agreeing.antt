-- The stores of the device agree with an accepted sheet on what the rules read.
use Rattle.octets.proofs.Kit.{ℕ, ◌+◌, ◌*◌, ◌-◌, ◌≤◌, ◌<◌, max, ◌≡◌, refl, subst, List, length, get_or, mul-le-mul_right, arith}
use Rattle.octets.specs.{Bytes.bytes_of, Splice.splice}
use Rattle.sheet.{specs.{Kind.{properties, groups}, Layout.◌of◌, Entries.{count, place, entry, body_at, body_end}, Agree.Agree}, proofs.rules.Good.{Good, accepted}}
use Rattle.sheet.proofs.{alike.Sames.{count_same, place_same, property_same}, promises.{Agrees.{agree_trans, kept}, Stores.body_store, Counts.count_store}}
use Rattle.sheet.specs.Property as property
use Rattle.sheet.specs.Group as group
use Rattle.judge.proofs.PropertyCases.{Among}

-- a sheet agrees with itself
pub agree_refl : (s : List ℕ) → Agree s s
agree_refl s =
    record {
      long = refl;
      front = λ p l h. refl;
      users = refl;
      by = record { edition = refl; byte15 = refl; rules = refl };
      zero31 = refl;
      flags = (λ h. h, λ h. h);
      fixed = λ k i j hk hi hj f. refl;
      counts = λ i h. (λ l. l, λ l. l);
      six = λ i h c. (λ l. l, λ l. l);
    }

module _ {s : List ℕ} (ok : Good s) where
  -- a store in a group object's body, in a property's, and of a property's count
  pub group_keeps :
      (i : ℕ) (ds : List ℕ) → i < count s groups → length ds ≤ max 1 (group.code of entry s groups i) →
      (group.code of entry s groups i ≡ 0 → (j : ℕ) → j < length ds → get_or ds j 0 < 64) →
      Agree s (splice s (group.offset of entry s groups i) ds)
  unfolding body_at body_end
  group_keeps i ds h l f =
      body_store (accepted ok) groups i (group.offset of entry s groups i) ds
      (record { kind = omega arith; below = h; from = omega arith; to = omega arith })
      (λ g. f)

  pub elements_keep :
      (i n t : ℕ) (ds : List ℕ) → i < count s properties → Among n t (property.maximum of entry s properties i) →
      length ds ≡ n * property.element of entry s properties i →
      Agree s (splice s (property.offset of entry s properties i + (t - 1) * property.element of entry s properties i) ds)
  unfolding body_at body_end
  elements_keep i n t ds h a e =
      let z : ℕ = property.element of entry s properties i in
      let u : t - 1 + n ≤ property.maximum of entry s properties i = omega (arith, a) in
      body_store (accepted ok) properties i (property.offset of entry s properties i + (t - 1) * z) ds
      (record { kind = omega arith; below = h; from = omega arith; to = omega (arith, mul-le-mul_right z u) })
      (λ g. absurd (omega arith))

-- the count of a property after a store that agrees
pub count_keeps :
    {s s' : List ℕ} → Good s → Agree s s' → (i c : ℕ) → i < count s properties → c ≤ property.maximum of entry s properties i →
    Agree s (splice s' (place s properties i + (property.count).at) (bytes_of 2 c))
count_keeps {s} {s'} ok a i c h l =
    agree_trans a
    (subst (λ (p : ℕ). Agree s' (splice s' (p + (property.count).at) (bytes_of 2 c))) (place_same a properties i)
    (count_store (kept ok a) i c (rw (count_same a properties) h) (rw (property_same a i property.maximum h (omega arith) (omega arith)) l)))
