-- A worked example of ranges: regions that touch, a gap, the end of one memory where the other begins, and the top of the addresses.
use Rattle.octets.proofs.Kit.{ℕ, ◌≡◌, refl, List, [], ◌∷◌}
use Rattle.std.specs.Prelude.{None}
use Rattle.octets.specs.Bytes.{num_at}
use Rattle.sheet.specs.{Demand.breach, First.first, Entries.{entry, floor, body_end, start_of, reached, six_bits}}
use Rattle.sheet.specs.Rules.{entry_demands, body_demands, entry_rule, body_rule, entries_rule, bodies_rule, rest_rule, walk_rule, rule_in, verdict_of, Accepted}
use Rattle.sheet.specs.{Lookup.{At, seek, covers, place_of, common, range_of}, declared.{Memory.TheVariants.{Device, User}}}

-- THE SHEET, 90 bytes
unfoldable pub touching : List ℕ
touching =
    -- edition; five regions, no property, no group object; length
    0x02 ∷ 0x05 ∷ 0x00 ∷ 0x00 ∷ 0x00 ∷ 0x5A ∷
    -- serial, mask version, flags, one user region, individual address
    0x00 ∷ 0xC5 ∷ 0x01 ∷ 0x02 ∷ 0x03 ∷ 0x06 ∷ 0x07 ∷ 0xB0 ∷ 0x02 ∷ 0x01 ∷ 0x11 ∷ 0x07 ∷
    -- keys, zeros
    0x0A ∷ 0x0B ∷ 0x0C ∷ 0x0D ∷ 0x1A ∷ 0x1B ∷ 0x1C ∷ 0x1D ∷ 0x2A ∷ 0x2B ∷ 0x2C ∷ 0x2D ∷ 0x00 ∷ 0x00 ∷
    -- three regions that touch, from 0100 to 0104
    0x01 ∷ 0x00 ∷ 0x00 ∷ 0x02 ∷ 0x00 ∷ 0x50 ∷ 0x32 ∷ 0x00 ∷
    0x01 ∷ 0x02 ∷ 0x00 ∷ 0x01 ∷ 0x00 ∷ 0x52 ∷ 0x33 ∷ 0x00 ∷
    0x01 ∷ 0x03 ∷ 0x00 ∷ 0x02 ∷ 0x00 ∷ 0x53 ∷ 0x21 ∷ 0x00 ∷
    -- one after a gap, and the last two addresses
    0x01 ∷ 0x06 ∷ 0x00 ∷ 0x01 ∷ 0x00 ∷ 0x55 ∷ 0x33 ∷ 0x00 ∷
    0xFF ∷ 0xFE ∷ 0x00 ∷ 0x02 ∷ 0x00 ∷ 0x56 ∷ 0x33 ∷ 0x00 ∷
    -- the user region, which begins where the fourth region ends
    0x01 ∷ 0x07 ∷ 0x00 ∷ 0x02 ∷ 0x00 ∷ 0x58 ∷ 0x33 ∷ 0x00 ∷
    -- their bodies
    0xA0 ∷ 0xA1 ∷ 0xA2 ∷ 0xA3 ∷ 0xA4 ∷ 0xA6 ∷ 0xAE ∷ 0xAF ∷ 0xD7 ∷ 0xD8 ∷ []

-- IT IS ACCEPTED
pub touching_accepted : Accepted touching
unfolding touching verdict_of rule_in walk_rule rest_rule entries_rule bodies_rule entry_rule body_rule entry_demands body_demands breach first entry floor body_end start_of reached six_bits num_at
touching_accepted = refl

-- OVER TWO REGIONS AND OVER THREE, with the rights of all; past the gap, whether or not it goes on behind it
pub touching_ranges :
    (range_of touching Device 0x0100 3 ≡ At 80 0x32) × (range_of touching Device 0x0101 3 ≡ At 81 0x21) × (range_of touching Device 0x0100 5 ≡ At 80 0x21)
    × (range_of touching Device 0x0104 2 ≡ None) × (range_of touching Device 0x0104 3 ≡ None) × (range_of touching Device 0x0106 1 ≡ At 85 0x33)
unfolding touching range_of place_of common seek covers entry num_at
touching_ranges = (refl, refl, refl, refl, refl, refl)

-- THE TWO MEMORIES NEVER JOIN, though one begins where the other ends
pub touching_memories :
    (range_of touching Device 0x0106 2 ≡ None) × (range_of touching User 0x0106 2 ≡ None) × (range_of touching User 0x0107 2 ≡ At 88 0x33)
unfolding touching range_of place_of seek covers common entry num_at
touching_memories = (refl, refl, refl)

-- THE TOP OF THE ADDRESSES, and no address at all
pub touching_ends :
    (range_of touching Device 0xFFFE 2 ≡ At 86 0x33) × (range_of touching Device 0xFFFF 2 ≡ None) × (range_of touching Device 0x0100 0 ≡ None)
unfolding touching range_of place_of seek covers common entry num_at
touching_ends = (refl, refl, refl)
