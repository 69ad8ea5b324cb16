-- The fields of the entries of an accepted sheet, and their limits.
use Rattle.octets.proofs.Kit.{ℕ, ◌*◌, ◌≤◌, ◌<◌, ◌≡◌, refl, ap₂, List, lit<, arith}
use Rattle.sheet.specs.{Kind.{properties, groups, OfKind}, Layout.◌of◌, Entries.{count, place, entry, body_end}, Rules.{entry_demands, Accepted}, Places.{PropertyIn, GroupIn}}
use Rattle.sheet.specs.{Walk.Entry, declared.{PropertyEntry.PropertyEntry, GroupEntry.GroupEntry}}
use Rattle.sheet.specs.Head as head
use Rattle.sheet.specs.Property as property
use Rattle.sheet.specs.Group as group
use Rattle.sheet.proofs.{rules.{Entries.{few, place_in}, Good.good}, places.BodyPlaces.within}

module _ (s : List ℕ) (ok : Accepted s) where
  pub flags_low : (r : ℕ) → r ≡ head.flags of s → r ≤ 3
  flags_low r e = omega (arith, (good s ok).zeros)

  module _ (i : ℕ) where
    pub property_there : i < count s properties → Entry s properties i
    property_there h = record { framed = record { rows = (good s ok).framed }; kind = lit< tt; below = h }

    pub property_few : i < count s properties → i ≤ 64
    property_few h = omega (arith, few (property_there h))

    pub group_there : i < count s groups → Entry s groups i
    group_there h = record { framed = record { rows = (good s ok).framed }; kind = lit< tt; below = h }

    pub property_in : (e : List ℕ) (r : PropertyEntry) → i < count s properties → e ≡ entry s properties i
        → r.object ≡ property.object of e → r.id ≡ property.id of e → r.typ ≡ property.typ of e → r.element ≡ property.element of e
        → r.maximum ≡ property.maximum of e → r.count ≡ property.count of e → r.offset ≡ property.offset of e
        → r.levels ≡ property.levels of e → OfKind r.place properties (place s 0 i) (place s 1 i) (place s 2 i) (place s 3 i) → PropertyIn s i r
    unfolding entry_demands body_end
    property_in e r h ee a b c d f g j k p =
        let rows = (good s ok).entries properties i (lit< tt) h in
        let end = within (good s ok) properties i (lit< tt) h in
        let at = p.property refl in
        let q : r.element * r.maximum ≡ property.element of entry s properties i * property.maximum of entry s properties i =
        ap₂ ◌*◌ (rw ee at d) (rw ee at f) in
        record {
          is =
              record {
                object = rw ee at a;
                id = rw ee at b;
                typ = rw ee at c;
                element = rw ee at d;
                maximum = rw ee at f;
                count = rw ee at g;
                offset = rw ee at j;
                levels = rw ee at k;
                place = at;
              };
          filled = omega (arith, rw ee at d);
          short = omega (arith, rw ee at d);
          some = omega (arith, rw ee at f);
          most = omega (arith, rw ee at f);
          counted = omega (arith, rw ee at f, rw ee at g);
          body = omega (arith, rw ee at j, q);
          room = omega (arith, at, place_in (property_there h), (good s ok).framed);
        }

    pub group_in : (e : List ℕ) (r : GroupEntry) → i < count s groups → e ≡ entry s groups i → r.code ≡ group.code of e
        → r.flags ≡ group.flags of e → r.offset ≡ group.offset of e → GroupIn s i r
    unfolding entry_demands body_end
    group_in e r h ee a b c =
        let rows = (good s ok).entries groups i (lit< tt) h in
        let end = within (good s ok) groups i (lit< tt) h in
        record {
          is = record { code = rw ee at a; flags = rw ee at b; offset = rw ee at c };
          short = omega (arith, rw ee at a);
          body = omega (arith, rw ee at a, rw ee at c);
        }
