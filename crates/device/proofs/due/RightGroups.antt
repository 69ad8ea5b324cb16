-- Group values: what is due is what is done.
use Rattle.octets.proofs.Kit.{ℕ, ◌≤◌, ◌≡◌, refl, ap, ◌∙◌, List, [], ◌∷◌, length, arith}
use Rattle.octets.specs.{Bytes.{num_at, bytes_of}, Splice.splice}
use Rattle.sheet.{specs.{Kind.groups, Layout.◌of◌, Entries.entry}, proofs.rules.Good.{Good, good}}
use Rattle.sheet.specs.Group as group
use Rattle.pdu.specs.declared.Pdu.{Pdu, TheVariants.{GroupValueRead, GroupValueResponse}}
use Rattle.judge.{specs.{declared.Decision.Decision, Session.level_in, Groups.{group_read_of, group_put_of}, Judge.decide_of}, proofs.GroupCases.{Lets, group_read_cases, group_put_cases}}
use Rattle.judge.proofs.GroupCases.{group_read_six, group_read_bytes, group_put_six, group_put_bytes, group_put_unfit, group_read_for_us, group_put_for_us}
use Rattle.judge.specs.Decisions as decisions
use Rattle.device.specs.{Step.step_by, Asked.{Asked, quiet, says, stores, Reads, given, part}}
use Rattle.device.specs.GroupsDue.{GroupsDue, Group, Brings, Flag, group_read0, group_read, no_group_read, group_put0, group_put, group_length, no_group_put}
use Rattle.device.proofs.due.Stepped.{step, step_read}

-- a list of no length
empty : (d : List ℕ) → length d ≡ 0 → d ≡ []
empty [] h = refl
empty (b ∷ d) h = absurd (omega arith)

module _ (x : Asked) where
  lets : (w i : ℕ) → Group x i → Flag (entry x.sheet groups i) w → Lets x.sheet w x.group i
  lets w i g f = record { there = g.there; named = g.address; flag = f }

  grouped : (w i : ℕ) → Lets x.sheet w x.group i → Group x i
  grouped w i t = record { there = t.there; address = t.named }

  -- a read
  module _ (r : Reads x GroupValueRead) where
    reading_ok : Good x.sheet
    reading_ok = good x.sheet r.ready.sheet

    pub only_group_read0 :
        (i : ℕ) → Group x i → Flag (entry x.sheet groups i) 1 → group.code of entry x.sheet groups i ≡ 0 →
        says x 0 (GroupValueResponse (num_at x.sheet (group.offset of entry x.sheet groups i) 1)) [] ≡ step x
    unfolding step_by
    only_group_read0 i g f z = step_read x GroupValueRead r _ (group_read_six reading_ok x.group i (lets 1 i g f) z)

    pub only_group_read :
        (i : ℕ) → Group x i → Flag (entry x.sheet groups i) 1 → 1 ≤ group.code of entry x.sheet groups i →
        says x 0 (GroupValueResponse 0) (part x.sheet (group.offset of entry x.sheet groups i) (group.code of entry x.sheet groups i)) ≡ step x
    unfolding step_by
    only_group_read i g f z = step_read x GroupValueRead r _ (group_read_bytes reading_ok x.group i (lets 1 i g f) z)

    pub only_no_group_read : ((i : ℕ) → Group x i → Flag (entry x.sheet groups i) 1 → ⊥) → quiet x 2 ≡ step x
    unfolding step_by
    only_no_group_read f =
        step_read x GroupValueRead r _
        (group_read_cases x.sheet x.group (λ (k : Decision). k ≡ decisions.refused 2)
        (λ i t z. absurd (f i (grouped 1 i t) t.flag))
        (λ i t z. absurd (f i (grouped 1 i t) t.flag))
        refl)

    pub right_group_read : GroupsDue x (step_by x.sheet x.session (given x GroupValueRead) (group_read_of x.sheet x.group))
    unfolding step_by
    right_group_read =
        group_read_cases x.sheet x.group
        (λ (k : Decision). group_read_of x.sheet x.group ≡ k → GroupsDue x (step_by x.sheet x.session (given x GroupValueRead) k))
        (λ i t z e. group_read0 i r (grouped 1 i t) t.flag z)
        (λ i t z e. group_read i r (grouped 1 i t) t.flag z)
        (λ e. no_group_read r (λ i g f. group_read_for_us reading_ok x.group i (lets 1 i g f) e))
        refl

  -- a value brought
  brought :
      (p : Pdu) {v f : ℕ} → Brings p v f →
      decide_of x.sheet (level_in x.session x.mode) x.group (given x p) p ≡ group_put_of f x.sheet x.group v (length (given x p))
  brought p (Brings.write v) = refl
  brought p (Brings.response v) = refl

  module _ (p : Pdu) (v w : ℕ) (r : Reads x p) (b : Brings p v w) where
    bringing_ok : Good x.sheet
    bringing_ok = good x.sheet r.ready.sheet

    pub only_group_put0 :
        (i : ℕ) → Group x i → Flag (entry x.sheet groups i) w → group.code of entry x.sheet groups i ≡ 0 → given x p ≡ [] →
        stores x (splice x.sheet (group.offset of entry x.sheet groups i) (bytes_of 1 v)) ≡ step x
    unfolding step_by
    only_group_put0 i g f z d =
        step_read x p r _
        (brought p b ∙ group_put_six bringing_ok x.group i w v (length (given x p)) (lets w i g f) z (ap length d))

    pub only_group_put :
        (i : ℕ) → Group x i → Flag (entry x.sheet groups i) w → 1 ≤ group.code of entry x.sheet groups i →
        length (given x p) ≡ group.code of entry x.sheet groups i →
        stores x (splice x.sheet (group.offset of entry x.sheet groups i) (given x p)) ≡ step x
    unfolding step_by
    only_group_put i g f z d =
        step_read x p r _
        (brought p b ∙ group_put_bytes bringing_ok x.group i w v (length (given x p)) (lets w i g f) z d)

    pub only_group_length :
        (i : ℕ) → Group x i → Flag (entry x.sheet groups i) w →
        (length (given x p) ≡ group.code of entry x.sheet groups i → ⊥) → quiet x 10 ≡ step x
    unfolding step_by
    only_group_length i g f d =
        step_read x p r _
        (brought p b ∙ group_put_unfit bringing_ok x.group i w v (length (given x p)) (lets w i g f) d)

    pub only_no_group_put : ((i : ℕ) → Group x i → Flag (entry x.sheet groups i) w → ⊥) → quiet x 2 ≡ step x
    unfolding step_by
    only_no_group_put f =
        step_read x p r _
        (brought p b
        ∙ group_put_cases x.sheet x.group (λ (k : Decision). k ≡ decisions.refused 2) w v (length (given x p))
        (λ i t z e. absurd (f i (grouped w i t) t.flag))
        (λ i t z e. absurd (f i (grouped w i t) t.flag))
        (λ i t e. absurd (f i (grouped w i t) t.flag))
        refl)

    pub right_group_put : GroupsDue x (step_by x.sheet x.session (given x p) (group_put_of w x.sheet x.group v (length (given x p))))
    unfolding step_by
    right_group_put =
        group_put_cases x.sheet x.group
        (λ (k : Decision). group_put_of w x.sheet x.group v (length (given x p)) ≡ k → GroupsDue x (step_by x.sheet x.session (given x p) k))
        w v (length (given x p))
        (λ i t z d e. group_put0 p v w i r b (grouped w i t) t.flag z (empty (given x p) d))
        (λ i t z d e. group_put p v w i r b (grouped w i t) t.flag z d)
        (λ i t d e. group_length p v w i r b (grouped w i t) t.flag d)
        (λ e. no_group_put p v w r b (λ i g f. group_put_for_us bringing_ok x.group i w v (length (given x p)) (lets w i g f) e))
        refl
