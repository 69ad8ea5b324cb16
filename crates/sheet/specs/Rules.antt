-- THE RULES S1 to S9 as rows, and the first rule broken.
use Rattle.std.specs.Prelude.{◌≡◌, ℕ, ◌+◌, ◌/◌, ◌%◌, Bool, cond, List, [], ◌∷◌, length, ◌==◌}
use Rattle.sheet.specs.Demand.{Demand, ◌≼◌, ◌≐◌, ◌⦂◌, breach}
use Rattle.sheet.specs.First.{first, or_else}
use Rattle.sheet.specs.Kind.{by_kind, kinds, users}
use Rattle.sheet.specs.Layout.{◌of◌}
use Rattle.sheet.specs.Head as head
use Rattle.sheet.specs.Region as region
use Rattle.sheet.specs.Property as property
use Rattle.sheet.specs.Group as group
use Rattle.sheet.specs.Entries.{count, contents, entry, floor, offset_of, start_of, reached, six_bits}

-- S1 to S4, of an edition
abbrev pub frame_demands : ℕ → List ℕ → List Demand
frame_demands ed s =
    (1 ⦂ head.size ≼ length s) ∷
    (1 ⦂ length s ≼ 16384) ∷
    (2 ⦂ 1 ≼ head.edition of s) ∷
    (2 ⦂ head.edition of s ≼ ed) ∷
    (3 ⦂ head.regions of s ≼ 16) ∷
    (3 ⦂ head.properties of s ≼ 64) ∷
    (3 ⦂ head.groups of s ≼ 64) ∷
    (3 ⦂ head.users s ≼ 16) ∷
    (4 ⦂ head.stated of s ≐ length s) ∷
    (4 ⦂ contents s ≼ length s) ∷
    []

-- S5
abbrev pub zero_demands : List ℕ → List Demand
zero_demands s =
    (5 ⦂ head.flags of s ≼ 3) ∷
    (5 ⦂ head.spare s ≐ 0) ∷
    (5 ⦂ head.rules of s ≼ head.latest s) ∷
    (5 ⦂ head.zero31 of s ≐ 0) ∷
    []

-- S6 to S8, of an entry e whose first word is to be at least f
abbrev pub region_demands : ℕ → List ℕ → List Demand
region_demands f e =
    (6 ⦂ 1 ≼ region.length of e) ∷
    (6 ⦂ region.address of e + region.length of e ≼ 65536) ∷
    (6 ⦂ f ≼ region.address of e) ∷
    (6 ⦂ region.levels of e / 16 ≼ 3) ∷
    (6 ⦂ region.levels of e % 16 ≼ 3) ∷
    (6 ⦂ region.zero of e ≐ 0) ∷
    []

abbrev pub property_demands : ℕ → List ℕ → List Demand
property_demands f e =
    (7 ⦂ 1 ≼ property.id of e) ∷
    (7 ⦂ f ≼ property.object_id of e) ∷
    (7 ⦂ property.typ of e / 64 % 2 ≐ 0) ∷
    (7 ⦂ 1 ≼ property.element of e) ∷
    (7 ⦂ property.element of e ≼ 10) ∷
    (7 ⦂ 1 ≼ property.maximum of e) ∷
    (7 ⦂ property.maximum of e ≼ 4095) ∷
    (7 ⦂ property.count of e ≼ property.maximum of e) ∷
    (7 ⦂ property.levels of e / 16 ≼ 3) ∷
    (7 ⦂ property.levels of e % 16 ≼ 3) ∷
    (7 ⦂ property.zero of e ≐ 0) ∷
    []

abbrev pub group_demands : ℕ → List ℕ → List Demand
group_demands f e =
    (8 ⦂ 1 ≼ group.address of e) ∷
    (8 ⦂ f ≼ group.address of e) ∷
    (8 ⦂ group.code of e ≼ 14) ∷
    (8 ⦂ group.flags of e ≼ 7) ∷
    (8 ⦂ group.zeros of e ≐ 0) ∷
    []

unfoldable pub entry_demands : List ℕ → ℕ → ℕ → List Demand
entry_demands s k i =
    by_kind k (region_demands (floor s k i) (entry s k i)) (property_demands (floor s k i) (entry s k i))
    (group_demands (floor s k i) (entry s k i))

-- S9, of a body that starts at `from` where the one before ended at z, six being its byte if it is a code-0 group object's
abbrev pub body_rows : ℕ → ℕ → ℕ → List Demand
body_rows from z six = (9 ⦂ from ≐ z) ∷ (9 ⦂ six ≼ 63) ∷ []

unfoldable pub body_demands : List ℕ → ℕ → ℕ → List Demand
body_demands s k i = body_rows (offset_of k (entry s k i)) (reached s k i) (six_bits s k (entry s k i))

-- S9, of the last
abbrev pub end_demands : List ℕ → List Demand
end_demands s = (9 ⦂ start_of s kinds ≐ length s) ∷ []

-- the rule that entry i of kind k breaks, S6 to S8, and that its body breaks, S9
unfoldable pub entry_rule : List ℕ → ℕ → ℕ → ℕ
entry_rule s k i = breach (entry_demands s k i)

unfoldable pub body_rule : List ℕ → ℕ → ℕ → ℕ
body_rule s k i = breach (body_demands s k i)

-- the first that an entry of kind k breaks, and that one of their bodies breaks
unfoldable pub entries_rule : List ℕ → ℕ → ℕ
entries_rule s k = first (entry_rule s k) (count s k)

unfoldable pub bodies_rule : List ℕ → ℕ → ℕ
bodies_rule s k = first (body_rule s k) (count s k)

-- the entries of the kinds before the user regions, then the bodies of all kinds, then the end
unfoldable pub rest_rule : List ℕ → ℕ
rest_rule s = or_else (first (entries_rule s) users) (or_else (first (bodies_rule s) kinds) (breach (end_demands s)))

-- S6 to S9: the user regions, whose rule is S6, and then the rest
unfoldable pub walk_rule : List ℕ → ℕ
walk_rule s = or_else (entries_rule s users) (rest_rule s)

-- the first rule of an edition that the sheet breaks, and 0 if it breaks none
unfoldable pub rule_in : ℕ → List ℕ → ℕ
rule_in ed s = or_else (breach (frame_demands ed s)) (or_else (breach (zero_demands s)) (walk_rule s))

-- the edition that sheets have, and the one before it, which is retired
abbrev pub edition : ℕ
edition = 2

abbrev pub retired : ℕ
retired = 1

-- THE FIRST RULE BROKEN, of the sheet's own edition, and 0 if none is
abbrev pub rule_of : List ℕ → ℕ
rule_of s = rule_in edition s

-- the number that tells an old sheet
abbrev pub old : ℕ
old = 14

-- WHAT IS SAID OF A SHEET: the first rule that it breaks, 1 to 9; if it breaks none, 14 of the retired edition and 0 of the other
unfoldable pub verdict_of : List ℕ → ℕ
verdict_of s = or_else (rule_of s) (cond ((head.edition of s) == retired) old 0)

-- AN ACCEPTED SHEET, AN OLD ONE, A BAD ONE; and the test for the first
abbrev pub Accepted : List ℕ → Type 0
Accepted s = verdict_of s ≡ 0

abbrev pub Old : List ℕ → Type 0
Old s = verdict_of s ≡ old

abbrev pub Bad : List ℕ → Type 0
Bad s = rule_of s ≡ 0 → ⊥

unfoldable pub is_accepted : List ℕ → Bool
is_accepted s = verdict_of s == 0

-- WHAT A CALL IS REFUSED BY, by what is said of its sheet: 14 on an old sheet, 4 on a bad one; 0 on an accepted one, where it is not
abbrev pub refusal : ℕ → ℕ
refusal v = cond (v == 0) 0 (cond (v == old) old 4)

abbrev pub refusal_of : List ℕ → ℕ
refusal_of s = refusal (verdict_of s)

-- in the release before, which knew no old sheets
abbrev pub refusal_before : List ℕ → ℕ
refusal_before s = refusal (rule_of s)
