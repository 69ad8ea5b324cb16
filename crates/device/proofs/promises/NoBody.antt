-- Judging reads no body of memory or of a property.
use Rattle.octets.proofs.Kit.{ℕ, ◌+◌, ◌≤◌, ◌≡◌, sym, inl, List, arith}
use Rattle.octets.proofs.Numbers.{num_same}
use Rattle.sheet.{specs.{Layout.{Field, ◌of◌}, Agree.Agree}, proofs.{alike.Sames.{users_alike, rules_same}, promises.Verdicts.refused_alike}}
use Rattle.sheet.specs.Head as head
use Rattle.judge.specs.{declared.Session.Session, Judge.judge_of}
use Rattle.device.specs.Bodies.{SameButBodies}
use Rattle.device.proofs.apart.{Unseen.{SameThere, unseen}, Judging.judge_same}

module _ {s s' : List ℕ} (b : SameButBodies s s') where
  field : (f : Field) → f.at + f.width ≤ head.size → f of s' ≡ f of s
  field f h = num_same s' s f.at f.at f.width (λ i l. b.before _ (omega arith))

  seen : SameThere s s'
  seen =
      record {
        long = b.long;
        before = λ p l h n. b.before p h;
        users = users_alike s s' (field head.edition (omega arith)) (field head.byte15 (omega arith));
        values = b.values;
      }

  -- the rules of the sheet read no more
  pub agrees : Agree s s'
  agrees =
      unseen seen
      record { edition = field head.edition (omega arith); byte15 = field head.byte15 (omega arith); rules = field head.rules (omega arith) }

-- JUDGING READS NO BODY
pub no_body_lem :
    (room : ℕ) (s s' : List ℕ) (q : Session) (mode group : ℕ) (a : List ℕ) → SameButBodies s s' → judge_of room s q mode group a ≡ judge_of room s' q mode group a
no_body_lem room s s' q mode group a b =
    sym (judge_same (seen b) q mode group a (inl (rules_same (agrees b))) room (refused_alike (agrees b)))
