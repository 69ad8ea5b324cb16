-- The elements of a property, and its count, are runs of locations.
use Rattle.octets.proofs.Kit.{ℕ, ◌+◌, ◌*◌, ◌<◌, ◌≤◌, ◌≡◌, refl, ap, List, length, get_or, mul-le-mul_right, arith}
use Rattle.octets.{specs.Bytes.bytes_of, proofs.Numbers.length_bytes}
use Rattle.sheet.{specs.{Kind.properties, Layout.◌of◌, Entries.{place, entry, body_at}, Places.PropertyWith}, proofs.rules.Good.Good}
use Rattle.sheet.specs.Property as property
use Rattle.history.specs.{Location.{body, counter, Place, of_body, of_counter}, Permit.{entry_for, count_to}}
use Rattle.history.proofs.{heard.Searches.property_hit, stored.Stored.Run}

-- t elements before, n elements, of z bytes each, at most m in all
pub elements_fit : (t n z m : ℕ) → t + n ≤ m → t * z + n * z ≤ z * m
elements_fit t n z m h = omega (arith, mul-le-mul_right z h)

module _ {s : List ℕ} (g : Good s) {object id i : ℕ} (is : PropertyWith s object id i) where
  pub entry_for_lem : entry_for s object id ≡ entry s properties i
  unfolding entry_for
  entry_for_lem = ap (entry s properties) (property_hit g is)

  abbrev Z : ℕ
  Z = property.element of entry s properties i

  pub counter_place : (j : ℕ) → j < 2 → Place s (counter object id j) (place s properties i + (property.count).at + j)
  counter_place j h = of_counter i is h refl

  -- A RUN OF A COUNT
  pub counter_run : (c : ℕ) → Run s (count_to object id c) (place s properties i + (property.count).at) (bytes_of 2 c)
  counter_run c =
      record {
        size = length_bytes 2 c;
        places = λ j h. of_counter {j = 0 + j} {p = place s properties i + (property.count).at + j} i is (omega arith) (omega arith);
        bytes = λ j h. refl;
      }

  -- A RUN OF n ELEMENTS, after the first t
  pub body_run :
      (n t : ℕ) (ds : List ℕ) (give : ℕ → ℕ) → ((j : ℕ) → j < n * Z → give j ≡ get_or ds j 0) → length ds ≡ n * Z →
      t + n ≤ property.maximum of entry s properties i →
      Run s (record { from = body object id (t * Z); long = n * Z; give = give }) (body_at s properties i + t * Z) ds
  body_run n t ds give gives size high =
      record {
        size = size;
        places = λ j h.
            of_body {j = t * Z + j} {p = body_at s properties i + t * Z + j} i is
            (omega (arith, elements_fit t n Z (property.maximum of entry s properties i) high)) (omega arith);
        bytes = gives;
      }
