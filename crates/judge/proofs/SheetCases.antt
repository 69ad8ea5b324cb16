-- WHAT IS DECIDED on a sheet that is not accepted: 14 on an old one, 4 on a bad one, whatever the request is.
use Rattle.octets.proofs.Kit.{ℕ, ◌≤◌, ◌≡◌, List, le-ltb}
use Rattle.sheet.{specs.Rules.{Old, Bad}, proofs.promises.Verdicts.{refused_old, refused_bad}}
use Rattle.judge.specs.{declared.Session.Session, Decisions.refused, Judge.judge_of}

module _ (room : ℕ) (s : List ℕ) (q : Session) (mode group : ℕ) (a : List ℕ) (roomy : 16 ≤ room) where
  pub old_refused : Old s → judge_of room s q mode group a ≡ refused 14
  unfolding judge_of
  old_refused o = rw (le-ltb room 16 roomy, refused_old s o)

  pub bad_refused : Bad s → judge_of room s q mode group a ≡ refused 4
  unfolding judge_of
  bad_refused b = rw (le-ltb room 16 roomy, refused_bad s b)
