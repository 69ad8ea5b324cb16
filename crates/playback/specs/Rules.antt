-- THE RULES OF A TRACE, 50 to 58, as rows, and the first rule broken.
use Rattle.std.specs.Prelude.{ℕ, zero, suc, ◌+◌, ◌≡◌, cond, List, [], ◌∷◌, eqb, length}
use Rattle.sheet.specs.Demand.{Demand, ◌≼◌, ◌≐◌, ◌⦂◌, breach}
use Rattle.sheet.specs.First.{first, or_else}
use Rattle.sheet.specs.Layout.{◌of◌}
use Rattle.playback.specs.Entry as entry
use Rattle.playback.specs.Trace.{head, count, place, entry_of}

abbrev pub head_demands : List ℕ → List Demand
head_demands t =
    (50 ⦂ head ≼ length t) ∷
    (51 ⦂ count t ≼ 512) ∷
    (52 ⦂ place (count t) ≼ length t) ∷
    []

-- where the APDU of event i is to begin: the table's end, or where the APDU before ends
unfoldable pub reached : List ℕ → ℕ → ℕ
reached t zero = place (count t)
reached t (suc i) = reached t i + entry.length of entry_of t i

-- the length of an event that is no request, which is to be 0
abbrev pub stray : List ℕ → ℕ
stray e = cond (eqb (entry.kind of e) 0) 0 (entry.length of e)

-- of an event e whose APDU is to begin at z, in a trace of n bytes
abbrev pub event_demands : ℕ → ℕ → List ℕ → List Demand
event_demands z n e =
    (53 ⦂ entry.kind of e ≼ 4) ∷
    (54 ⦂ stray e ≐ 0) ∷
    (55 ⦂ entry.zero of e ≐ 0) ∷
    (56 ⦂ entry.offset of e ≐ z) ∷
    (57 ⦂ z + entry.length of e ≼ n) ∷
    []

abbrev pub end_demands : List ℕ → List Demand
end_demands t = (58 ⦂ reached t (count t) ≐ length t) ∷ []

unfoldable pub head_rule : List ℕ → ℕ
head_rule t = breach (head_demands t)

unfoldable pub event_rule : List ℕ → ℕ → ℕ
event_rule t i = breach (event_demands (reached t i) (length t) (entry_of t i))

-- the events one after the other, then the end
unfoldable pub walk_rule : List ℕ → ℕ
walk_rule t = or_else (first (event_rule t) (count t)) (breach (end_demands t))

-- THE FIRST RULE BROKEN, and 0 for a trace that breaks none
unfoldable pub refusal_of : List ℕ → ℕ
refusal_of t = or_else (head_rule t) (walk_rule t)

-- A TRACE THAT CAN BE PLAYED
abbrev pub Playable : List ℕ → Type 0
Playable t = refusal_of t ≡ 0
