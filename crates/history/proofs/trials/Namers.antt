-- A WRONG WAY TO NAME PARTS, which tells what may not be read, and that `hidden_parts` rules it out: one that names only what became another.
use Rattle.octets.proofs.Kit.{ℕ, ◌≡◌, refl, sym, ap, ◌∙◌, cond, List, [], ◌∷◌, arith}
use Rattle.octets.specs.{Bytes.{num_at, bytes_of}, Splice.splice}
use Rattle.sheet.specs.{Demand.breach, First.first, Head.rules_of, Entries.{entry, key_of, floor, body_at, body_end, start_of, reached, six_bits}}
use Rattle.sheet.specs.Rules.{entry_demands, body_demands, entry_rule, body_rule, entries_rule, bodies_rule, walk_rule, rest_rule, rule_in, verdict_of}
use Rattle.sheet.specs.Lookup.{seek, covers, place_of, common, range_of}
use Rattle.pdu.specs.{Table.find, Rules.{low_at, head_bytes}, Read.{read_pdu, data_of}, Write.encoded}
use Rattle.judge.specs.{Session.{level_of, level_in}, Memory.{change_of, memory_write_of}, Judge.{reached_of, is_shut, judge_of}}
use Rattle.device.specs.{Step.{step_by, step_of}, Sessions.fresh_of, Events.{connect_of, request_of}, Changed.{changed_of, none}, declared.{Sessions.Sessions, Changed.Changed}}
use Rattle.history.specs.{Span.same, Secret.Hide}
use Rattle.history.proofs.{promises.SameParts.hidden_parts, trials.{Tellers.{guarded, other_secrets}, TellersRefuted.hidden}}

-- a way to name the parts of a request, and that it hides what may not be read
abbrev pub Naming : Type 0
Naming = ℕ → List ℕ → Sessions → ℕ → ℕ → ℕ → List ℕ → Changed

abbrev pub Unnamed : Naming → Type 0
Unnamed name =
    (q : ℕ) (s s' : List ℕ) → Hide q s s' → (room : ℕ) (u : Sessions) (mode c g : ℕ) (a : List ℕ) →
    name room s' u mode c g a ≡ name room s u mode c g a

-- ours does
pub ours_unnamed : Unnamed changed_of
ours_unnamed q s s' b = hidden_parts b

-- ONE THAT NAMES WHAT BECAME ANOTHER, and nothing where a write gave what stood there
abbrev pub became_another : Naming
became_another room s u mode c g a =
    cond (same (request_of room s u mode c g a).sheet s) none (changed_of room s u mode c g a)

-- address 0100 written with 00, which stands there in one sheet and not in the other: everybody may write it, and level 0 alone may read it
abbrev write_zero : List ℕ
write_zero = 0x02 ∷ 0x81 ∷ 0x01 ∷ 0x00 ∷ 0x00 ∷ []

-- the bytes of the part that is named
abbrev long : List ℕ → ℕ
long s = (became_another 16 s (connect_of fresh_of 0) 3 0 0 write_zero).first.length

nothing_named : long guarded ≡ 0
unfolding request_of step_of step_by judge_of changed_of verdict_of is_shut reached_of rules_of level_in level_of change_of memory_write_of read_pdu find data_of encoded head_bytes low_at
    seek covers place_of common range_of splice rule_in walk_rule rest_rule entries_rule bodies_rule entry_rule body_rule body_demands entry_demands entry key_of floor body_at body_end start_of reached six_bits first
    breach num_at bytes_of guarded
nothing_named = refl

one_named : long other_secrets ≡ 1
unfolding request_of step_of step_by judge_of changed_of verdict_of is_shut reached_of rules_of level_in level_of change_of memory_write_of read_pdu find data_of encoded head_bytes low_at
    seek covers place_of common range_of splice rule_in walk_rule rest_rule entries_rule bodies_rule entry_rule body_rule body_demands entry_demands entry key_of floor body_at body_end start_of reached six_bits first
    breach num_at bytes_of guarded
one_named = refl

-- IT TELLS
pub another_refuted : Unnamed became_another → ⊥
another_refuted n =
    let e : long other_secrets ≡ long guarded = ap (λ (x : Changed). x.first.length) (n 3 guarded other_secrets hidden 16 (connect_of fresh_of 0) 3 0 0 write_zero) in
    let z : ◌≡◌ {A = ℕ} 1 0 = sym one_named ∙ e ∙ nothing_named in
    omega arith
