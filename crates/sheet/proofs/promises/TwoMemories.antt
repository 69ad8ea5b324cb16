-- A worked example of edition 2: a sheet with both memories, which share addresses.
use Rattle.octets.proofs.Kit.{ℕ, ◌≡◌, refl, List, [], ◌∷◌, map}
use Rattle.octets.specs.Bytes.{num_at}
use Rattle.sheet.specs.{Demand.breach, First.first, Kind.{regions, properties, groups, users}, Layout.{Field, ◌of◌}}
use Rattle.sheet.specs.Entries.{count, contents, entry, floor, body_end, start_of, reached, six_bits}
use Rattle.sheet.specs.Rules.{entry_demands, body_demands, entry_rule, body_rule, entries_rule, bodies_rule, rest_rule, walk_rule, rule_in, verdict_of, rule_of, Accepted, is_accepted}
use Rattle.sheet.specs.{Lookup.{At, seek, covers, body_of, lookup, region_of, user_region_of, place_of, common, range_of}, declared.Memory.TheVariants.{Device, User}}
use Rattle.std.specs.Prelude.{None}
use Rattle.sheet.specs.Region as region

-- all but byte 0
unfoldable pub after : List ℕ
after =
    -- one region, no property, one group object; length
    0x01 ∷ 0x00 ∷ 0x01 ∷ 0x00 ∷ 0x47 ∷
    -- serial, mask version, flags, two user regions, individual address
    0x00 ∷ 0xC5 ∷ 0x01 ∷ 0x02 ∷ 0x03 ∷ 0x05 ∷ 0x07 ∷ 0xB0 ∷ 0x02 ∷ 0x02 ∷ 0x11 ∷ 0x06 ∷
    -- keys, zeros
    0x0A ∷ 0x0B ∷ 0x0C ∷ 0x0D ∷ 0x1A ∷ 0x1B ∷ 0x1C ∷ 0x1D ∷ 0x2A ∷ 0x2B ∷ 0x2C ∷ 0x2D ∷ 0x00 ∷ 0x00 ∷
    -- the region
    0x01 ∷ 0x00 ∷ 0x00 ∷ 0x02 ∷ 0x00 ∷ 0x40 ∷ 0x32 ∷ 0x00 ∷
    -- the group object
    0x08 ∷ 0x01 ∷ 0x00 ∷ 0x07 ∷ 0x00 ∷ 0x42 ∷ 0x00 ∷ 0x00 ∷
    -- the user regions
    0x01 ∷ 0x00 ∷ 0x00 ∷ 0x03 ∷ 0x00 ∷ 0x43 ∷ 0x31 ∷ 0x00 ∷
    0x02 ∷ 0x00 ∷ 0x00 ∷ 0x01 ∷ 0x00 ∷ 0x46 ∷ 0x33 ∷ 0x00 ∷
    -- their bodies
    0xA0 ∷ 0xA1 ∷ 0x15 ∷ 0xD0 ∷ 0xD1 ∷ 0xD2 ∷ 0xD3 ∷ []

-- THE SHEET, 71 bytes
unfoldable pub second : List ℕ
second = 2 ∷ after

-- IT IS ACCEPTED
pub second_accepted : Accepted second
unfolding second after verdict_of rule_in walk_rule rest_rule entries_rule bodies_rule entry_rule body_rule entry_demands body_demands breach first entry floor body_end start_of reached six_bits num_at
second_accepted = refl

-- of edition 1 the same bytes break S5, of edition 3 they break S2
pub second_editions : (rule_of (1 ∷ after) ≡ 5) × (rule_of (3 ∷ after) ≡ 2)
unfolding after verdict_of rule_in breach num_at
second_editions = (refl, refl)

-- THE NUMBERS OF ENTRIES, AND WHERE THE CONTENTS END
pub second_counts : (map (count second) (regions ∷ properties ∷ groups ∷ users ∷ []) ≡ 1 ∷ 0 ∷ 1 ∷ 2 ∷ []) × (contents second ≡ 64)
unfolding second after num_at
second_counts = (refl, refl)

-- THE FIELDS OF A USER REGION
pub second_user :
    map (λ (f : Field). f of entry second users 0) (region.address ∷ region.length ∷ region.offset ∷ region.levels ∷ region.zero ∷ [])
    ≡ 0x0100 ∷ 3 ∷ 67 ∷ 0x31 ∷ 0 ∷ []
unfolding second after entry num_at
second_user = refl

-- THE VALUE LOOKUPS by the number of a region and of a user region
pub second_regions :
    (map (region_of second) (0 ∷ 1 ∷ []) ≡ (0xA0 ∷ 0xA1 ∷ []) ∷ [] ∷ [])
    × (map (user_region_of second) (0 ∷ 1 ∷ 2 ∷ []) ≡ (0xD0 ∷ 0xD1 ∷ 0xD2 ∷ []) ∷ (0xD3 ∷ []) ∷ [] ∷ [])
unfolding second after lookup is_accepted body_of entry num_at
second_regions = rw second_accepted (refl, refl)

-- ONE ADDRESS IN EITHER MEMORY, and one that user memory alone has
pub second_ranges :
    (range_of second Device 0x0100 2 ≡ At 64 0x32) × (range_of second User 0x0100 2 ≡ At 67 0x31)
    × (range_of second Device 0x0200 1 ≡ None) × (range_of second User 0x0200 1 ≡ At 70 0x33)
unfolding second after range_of place_of common seek covers entry num_at
second_ranges = (refl, refl, refl, refl)
