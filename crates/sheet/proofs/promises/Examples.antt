-- Worked examples: a sheet with two regions, three properties and one group object, field by field and lookup by lookup.
use Rattle.octets.proofs.Kit.{ℕ, ◌≡◌, refl, List, [], ◌∷◌, map}
use Rattle.octets.specs.{Bytes.{num_at, bytes_of}, Splice.splice}
use Rattle.sheet.specs.{Demand.breach, First.first, Kind.{regions, properties, groups, users}, Layout.{Field, ◌of◌}, Head.rules_of}
use Rattle.sheet.specs.Entries.{count, contents, entry, key_of, floor, body_end, start_of, reached, six_bits}
use Rattle.sheet.specs.Rules.{entry_demands, body_demands, entry_rule, body_rule, entries_rule, bodies_rule, rest_rule, walk_rule, rule_in, verdict_of, Accepted, is_accepted}
use Rattle.sheet.specs.{Convert.{conversion_of, convert_outcome, convert_sheet}, Sample.{sample, old_sample}}
use Rattle.sheet.specs.Lookup.{seek, index_of, body_of, lookup, region_of, property_of, group_of, object_at, rank, nth_of}
use Rattle.sheet.specs.Head as head
use Rattle.sheet.specs.Region as region
use Rattle.sheet.specs.Property as property
use Rattle.sheet.specs.Group as group

-- THE SHEET, 109 bytes: no two of its numbers that could be taken for one another are the same
unfoldable pub example : List ℕ
example =
    -- edition; two regions, three properties, one group object; length
    0x02 ∷ 0x02 ∷ 0x03 ∷ 0x01 ∷ 0x00 ∷ 0x6D ∷
    -- serial, mask version, flags, zero, individual address
    0x00 ∷ 0xC5 ∷ 0x01 ∷ 0x02 ∷ 0x03 ∷ 0x04 ∷ 0x07 ∷ 0xB0 ∷ 0x02 ∷ 0x00 ∷ 0x11 ∷ 0x05 ∷
    -- keys, zeros
    0x0A ∷ 0x0B ∷ 0x0C ∷ 0x0D ∷ 0x1A ∷ 0x1B ∷ 0x1C ∷ 0x1D ∷ 0x2A ∷ 0x2B ∷ 0x2C ∷ 0x2D ∷ 0x00 ∷ 0x00 ∷
    -- the regions
    0x01 ∷ 0x00 ∷ 0x00 ∷ 0x02 ∷ 0x00 ∷ 0x5C ∷ 0x32 ∷ 0x00 ∷
    0x02 ∷ 0x00 ∷ 0x00 ∷ 0x03 ∷ 0x00 ∷ 0x5E ∷ 0x21 ∷ 0x00 ∷
    -- the properties: object 1 id 2, object 2 id 1, object 2 id 3
    0x01 ∷ 0x02 ∷ 0x84 ∷ 0x01 ∷ 0x00 ∷ 0x04 ∷ 0x00 ∷ 0x03 ∷ 0x00 ∷ 0x61 ∷ 0x31 ∷ 0x00 ∷
    0x02 ∷ 0x01 ∷ 0x03 ∷ 0x01 ∷ 0x00 ∷ 0x03 ∷ 0x00 ∷ 0x02 ∷ 0x00 ∷ 0x65 ∷ 0x20 ∷ 0x00 ∷
    0x02 ∷ 0x03 ∷ 0x85 ∷ 0x03 ∷ 0x00 ∷ 0x01 ∷ 0x00 ∷ 0x00 ∷ 0x00 ∷ 0x68 ∷ 0x33 ∷ 0x00 ∷
    -- the group object
    0x08 ∷ 0x01 ∷ 0x02 ∷ 0x05 ∷ 0x00 ∷ 0x6B ∷ 0x00 ∷ 0x00 ∷
    -- their bodies
    0xA0 ∷ 0xA1 ∷ 0xA2 ∷ 0xA3 ∷ 0xA4 ∷
    0xB0 ∷ 0xB1 ∷ 0xB2 ∷ 0xB3 ∷ 0xB4 ∷ 0xB5 ∷ 0xB6 ∷ 0xB7 ∷ 0xB8 ∷ 0xB9 ∷
    0xC0 ∷ 0xC1 ∷ []

-- IT IS ACCEPTED
pub example_accepted : Accepted example
unfolding example verdict_of rule_in walk_rule rest_rule entries_rule bodies_rule entry_rule body_rule entry_demands body_demands breach first entry floor body_end start_of reached six_bits num_at
example_accepted = refl

-- THE NUMBERS IN ITS HEAD
pub example_head :
    map (λ (f : Field). f of example)
    (head.edition ∷ head.regions ∷ head.properties ∷ head.groups ∷ head.stated ∷ head.serial ∷ head.mask ∷ head.flags ∷
    head.byte15 ∷ head.address ∷ head.key 0 ∷ head.key 1 ∷ head.key 2 ∷ head.rules ∷ head.zero31 ∷ [])
    ≡ 2 ∷ 2 ∷ 3 ∷ 1 ∷ 109 ∷ 0x00C501020304 ∷ 0x07B0 ∷ 2 ∷ 0 ∷ 0x1105 ∷ 0x0A0B0C0D ∷ 0x1A1B1C1D ∷ 0x2A2B2C2D ∷ 0 ∷ 0 ∷ []
unfolding example num_at
example_head = refl

-- programming mode off, verify on
pub example_flags : (head.programming example ≡ 0) × (head.verify example ≡ 1)
unfolding example num_at
example_flags = (refl, refl)

-- THE NUMBER OF THE RULES: in edition 2 it may be 0 or 1 and no other, in edition 1, which is old, it is 0
unfoldable pub named : ℕ → ℕ → List ℕ
named ed n = splice (splice example 0 (ed ∷ [])) 30 (n ∷ [])

pub example_rules :
    (map (λ (n : ℕ). verdict_of (named 2 n)) (0 ∷ 1 ∷ 2 ∷ 255 ∷ []) ≡ 0 ∷ 0 ∷ 5 ∷ 5 ∷ [])
    × (map (λ (n : ℕ). verdict_of (named 1 n)) (0 ∷ 1 ∷ []) ≡ 14 ∷ 5 ∷ [])
    × (map (λ (n : ℕ). rules_of (named 2 n)) (0 ∷ 1 ∷ []) ≡ 0 ∷ 1 ∷ [])
unfolding example named splice rules_of
    verdict_of rule_in walk_rule rest_rule entries_rule bodies_rule entry_rule body_rule entry_demands body_demands breach first entry floor body_end start_of reached six_bits num_at
example_rules = (refl, refl, refl)

-- THE TYPE OF A PROPERTY: each bit alone, from bit 0 on. Bit 6 breaks S7, and no other does
unfoldable pub typed : ℕ → List ℕ
typed t = splice example 50 (t ∷ [])

pub example_types :
    map (λ (t : ℕ). verdict_of (typed t)) (0x01 ∷ 0x02 ∷ 0x04 ∷ 0x08 ∷ 0x10 ∷ 0x20 ∷ 0x40 ∷ 0x80 ∷ []) ≡ 0 ∷ 0 ∷ 0 ∷ 0 ∷ 0 ∷ 0 ∷ 7 ∷ 0 ∷ []
unfolding example typed splice verdict_of rule_in walk_rule rest_rule entries_rule bodies_rule entry_rule body_rule entry_demands body_demands breach first entry floor body_end start_of reached six_bits num_at
example_types = refl

-- THE NUMBERS OF ENTRIES, AND WHERE THE CONTENTS END
pub example_counts : (map (count example) (regions ∷ properties ∷ groups ∷ users ∷ []) ≡ 2 ∷ 3 ∷ 1 ∷ 0 ∷ []) × (contents example ≡ 92)
unfolding example num_at
example_counts = (refl, refl)

-- THE FIELDS OF A REGION, A PROPERTY, A GROUP OBJECT
pub example_region :
    map (λ (f : Field). f of entry example regions 1) (region.address ∷ region.length ∷ region.offset ∷ region.levels ∷ region.zero ∷ [])
    ≡ 0x0200 ∷ 3 ∷ 94 ∷ 0x21 ∷ 0 ∷ []
unfolding example entry num_at
example_region = refl

pub example_property :
    map (λ (f : Field). f of entry example properties 0)
    (property.object ∷ property.id ∷ property.typ ∷ property.element ∷ property.maximum ∷ property.count ∷ property.offset ∷ property.levels ∷ property.zero ∷ [])
    ≡ 1 ∷ 2 ∷ 0x84 ∷ 1 ∷ 4 ∷ 3 ∷ 97 ∷ 0x31 ∷ 0 ∷ []
unfolding example entry num_at
example_property = refl

pub example_group :
    map (λ (f : Field). f of entry example groups 0) (group.address ∷ group.code ∷ group.flags ∷ group.offset ∷ group.zeros ∷ [])
    ≡ 0x0801 ∷ 2 ∷ 5 ∷ 107 ∷ 0 ∷ []
unfolding example entry num_at
example_group = refl

-- THE VALUE LOOKUPS: by region number, by object and id, by group address
pub example_regions :
    map (region_of example) (0 ∷ 1 ∷ 2 ∷ []) ≡ (0xA0 ∷ 0xA1 ∷ []) ∷ (0xA2 ∷ 0xA3 ∷ 0xA4 ∷ []) ∷ [] ∷ []
unfolding example lookup is_accepted body_of entry num_at
example_regions = rw example_accepted

pub example_properties :
    property_of example 1 2 ∷ property_of example 2 1 ∷ property_of example 2 3 ∷ property_of example 3 2 ∷ []
    ≡ (0xB0 ∷ 0xB1 ∷ 0xB2 ∷ 0xB3 ∷ []) ∷ (0xB4 ∷ 0xB5 ∷ 0xB6 ∷ []) ∷ (0xB7 ∷ 0xB8 ∷ 0xB9 ∷ []) ∷ [] ∷ []
unfolding example lookup is_accepted body_of index_of seek key_of entry num_at
example_properties = rw example_accepted

pub example_groups : map (group_of example) (0x0801 ∷ 0x0108 ∷ []) ≡ (0xC0 ∷ 0xC1 ∷ []) ∷ [] ∷ []
unfolding example lookup is_accepted body_of index_of seek key_of entry num_at
example_groups = rw example_accepted

-- THE INDEX WITHIN AN OBJECT: of each property, and the property of an index
pub example_ranks : rank example 1 0 ∷ rank example 2 1 ∷ rank example 2 2 ∷ [] ≡ 0 ∷ 0 ∷ 1 ∷ []
unfolding example rank object_at entry num_at
example_ranks = refl

pub example_nth : nth_of example 1 0 ∷ nth_of example 2 0 ∷ nth_of example 2 1 ∷ nth_of example 2 2 ∷ [] ≡ 0 ∷ 1 ∷ 2 ∷ 3 ∷ []
unfolding example nth_of seek rank object_at entry num_at
example_nth = refl

-- THE SAMPLE SHEET IS THE CONVERSION of its edition 1, which is old: outcome 1
pub sample_converted : (verdict_of old_sample ≡ 14) × (convert_outcome old_sample ≡ 1) × (convert_sheet old_sample ≡ sample)
unfolding sample old_sample convert_outcome convert_sheet conversion_of splice bytes_of
    verdict_of rule_in walk_rule rest_rule entries_rule bodies_rule entry_rule body_rule entry_demands body_demands breach first entry floor body_end start_of reached six_bits num_at
sample_converted = (refl, refl, refl)
