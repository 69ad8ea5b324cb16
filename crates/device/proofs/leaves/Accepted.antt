-- What the device relies on in an accepted sheet: where bodies and entries end, and the numbers that an answer shows.
use Rattle.octets.proofs.Kit.{ℕ, ◌+◌, ◌*◌, ◌-◌, ◌≤◌, ◌<◌, ◌≡◌, List, length, mul-le-mul_right, arith}
use Rattle.octets.specs.Bytes.{num_at}
use Rattle.sheet.{specs.{Kind.{properties, groups}, Layout.◌of◌, Entries.{count, place, entry, body_at, body_end}, Rules.{entry_demands, body_demands}}, proofs.rules.Good.Good}
use Rattle.sheet.proofs.{places.{BodyPlaces.within, Standing.place_in}, rules.PlainRows.six_to}
use Rattle.sheet.specs.Head as head
use Rattle.sheet.specs.Property as property
use Rattle.sheet.specs.Group as group

module _ {s : List ℕ} (ok : Good s) where
  pub long : head.size ≤ length s
  long = ok.framed.0

  module _ (i : ℕ) (h : i < count s groups) where
    pub group_within : group.offset of entry s groups i + group.code of entry s groups i ≤ length s
    unfolding body_end
    group_within = omega (arith, within ok groups i (omega arith) h)

    pub six_within : group.offset of entry s groups i + 1 ≤ length s
    unfolding body_end
    six_within = omega (arith, within ok groups i (omega arith) h)

    pub group_short : group.code of entry s groups i ≤ 14
    unfolding entry_demands
    group_short = omega (arith, ok.entries groups i (omega arith) h)

    pub six_below : group.code of entry s groups i ≡ 0 → num_at s (group.offset of entry s groups i) 1 < 64
    unfolding body_demands body_at
    six_below = six_to s i (ok.bodies groups i (omega arith) h).1.0

  module _ (i : ℕ) (h : i < count s properties) where
    pub maximum_below : property.maximum of entry s properties i < 4096
    unfolding entry_demands
    maximum_below = omega (arith, ok.entries properties i (omega arith) h)

    pub count_below : property.count of entry s properties i ≤ property.maximum of entry s properties i
    unfolding entry_demands
    count_below = omega (arith, ok.entries properties i (omega arith) h)

    -- n elements from element t on
    pub elements_within :
        (n t : ℕ) → 1 ≤ t → t + n - 1 ≤ property.maximum of entry s properties i →
        property.offset of entry s properties i + (t - 1) * property.element of entry s properties i
        + n * property.element of entry s properties i
        ≤ length s
    unfolding body_end
    elements_within n t l m =
        let z : ℕ = property.element of entry s properties i in
        let u : t - 1 + n ≤ property.maximum of entry s properties i = omega arith in
        omega (arith, within ok properties i (omega arith) h, mul-le-mul_right z u)

    -- the elements that are counted
    pub counted_within :
        property.offset of entry s properties i + property.count of entry s properties i * property.element of entry s properties i
        ≤ length s
    unfolding body_end
    counted_within =
        omega (arith, within ok properties i (omega arith) h, mul-le-mul_right (property.element of entry s properties i) count_below)

    -- the count in the entry
    pub count_within : place s properties i + (property.count).at + (property.count).width ≤ length s
    count_within = omega (arith, place_in s properties i (omega arith) h, ok.framed)
