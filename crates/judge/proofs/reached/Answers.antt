-- `judge::reached` meets its contract.
use Rattle.judge.proofs.{Judgement.{unreached, untaken, unread, decided}}
use Rattle.judge.proofs.reached.Goals as goal

pub returns-then-not-reaches : goal.returns-then-not-reaches
returns-then-not-reaches c = search unreached

pub returns-then-not-takes : goal.returns-then-not-takes
returns-then-not-takes c = search untaken

pub returns-in_default : goal.returns-in_default
returns-in_default c = search unread

pub returns : goal.returns
returns c = search decided
