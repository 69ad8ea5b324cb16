-- THE DEVICE DOES WITH THE BYTES FROM OCTET 6 ON WHAT IT DOES WITH THE APDU, whatever transport's bits are.
use Rattle.octets.proofs.Kit.{ℕ, ◌≡◌, refl, ap, ap₂, ◌∙◌, cond, not, List, [], ◌∷◌, arith, ltb, eqb}
use Rattle.std.proofs.Common.{Option, Some, None, Result, Ok, Err}
use Rattle.pdu.specs.declared.Service.{Service}
use Rattle.pdu.specs.declared.Pdu.{Pdu}
use Rattle.pdu.specs.declared.ReadRefusal.{ReadRefusal}
use Rattle.sheet.specs.{Rules.refusal_of, Head.rules_of}
use Rattle.pdu.specs.{Table.service_at, Rules.code_of, Read.read_pdu}
use Rattle.cemi.specs.Write.{under}
use Rattle.judge.specs.{Decisions.refused, Session.level_in, Modes.{reach_of, reaches, takes}, Judge.{data_in, is_shut, decide_of, read_of, reached_of, found_of, judge_of}, declared.Session.Session}
use Rattle.judge.specs.declared.{Reach.Reach, Decision.Decision}
use Rattle.device.specs.Step.{step_by, step_of}
use Rattle.frames.proofs.promises.SameApdu.{SameApdu, code_alike, read_alike, data_alike}

-- an APDU, and the same with other bits of transport
pub under_alike : (t : ℕ) (a : List ℕ) → SameApdu (under t a) a
unfolding under
under_alike t [] = record { long = refl; first = refl; rest = λ j. refl }
under_alike t (x ∷ a) = record { long = refl; first = omega arith; rest = λ j. refl }

module _ (a b : List ℕ) (h : SameApdu a b) where
  data_in_lem : (r : Result Pdu ReadRefusal) → data_in r a ≡ data_in r b
  data_in_lem (Ok p) = data_alike a b h p
  data_in_lem (Err n) = refl

  module _ (s : List ℕ) (q : Session) (mode group : ℕ) where
    read_of_lem : (level : ℕ) (r : Result Pdu ReadRefusal) → read_of s level group a r ≡ read_of s level group b r
    read_of_lem level (Ok p) = ap (λ (d : List ℕ). decide_of s level group d p) (data_alike a b h p)
    read_of_lem level (Err n) = refl

    reached_of_lem : (r : Reach) → reached_of s q mode group a r ≡ reached_of s q mode group b r
    unfolding reached_of
    reached_of_lem r =
        ap (λ (d : Decision). cond (not (reaches r)) (refused 8) (cond (not (takes r mode)) (refused 9) d))
        (ap (read_of s (level_in q mode) group a) (read_alike a b h) ∙ read_of_lem (level_in q mode) (read_pdu b))

    found_of_lem : (f : Option Service) → found_of s q mode group a f ≡ found_of s q mode group b f
    found_of_lem None = refl
    found_of_lem (Some k) = reached_of_lem (reach_of (rules_of s) k)

    judge_of_lem : (room : ℕ) → judge_of room s q mode group a ≡ judge_of room s q mode group b
    unfolding judge_of
    judge_of_lem room =
        ap₂
        (λ (n : ℕ) (d : Decision).
        cond (ltb room 16) (refused 3)
        (cond (not (eqb (refusal_of s) 0)) (refused (refusal_of s))
        (cond (ltb n 2) (refused 5) (cond (ltb 16 n) (refused 5) (cond (ltb 3 mode) (refused 6) (cond (is_shut q mode) (refused 7) d))))))
        h.long
        (ap (λ (c : ℕ). found_of s q mode group a (service_at c)) (code_alike a b h) ∙ found_of_lem (service_at (code_of b)))

    step_of_lem : (room : ℕ) → step_of room s q mode group a ≡ step_of room s q mode group b
    unfolding step_of
    step_of_lem room = ap₂ (step_by s q) (ap (λ (r : Result Pdu ReadRefusal). data_in r a) (read_alike a b h) ∙ data_in_lem (read_pdu b)) (judge_of_lem room)

-- AS IT IS
pub as_it_is : (t room : ℕ) (s : List ℕ) (q : Session) (mode group : ℕ) (a : List ℕ) → step_of room s q mode group (under t a) ≡ step_of room s q mode group a
as_it_is t room s q mode group a = step_of_lem (under t a) a (under_alike t a) s q mode group room
