-- `versions::restoring::same_entry` meets its contract.
use Rattle.octets.proofs.Kit.{refl, rules}
use Rattle.octets.proofs.Tests.{tests}
use Rattle.std.proofs.lemmas.Iterator.{YieldsList-from_range}
use Rattle.std.proofs.lemmas.Iterator.Search.{all_from_yields_List}
use Rattle.versions.specs.Restoring.{same_byte, same_entry}
use Rattle.versions.proofs.Every.{all_every}
use Rattle.versions.proofs.restoring.same_entry.Goals as goal

pub returns : goal.returns
unfolding same_entry
returns c =
    let a = c.args in
    all_every (λ j. same_byte a.sheet.now a.p a.d.now a.q j) 12 _
    (all_from_yields_List (λ j. same_byte a.sheet.now a.p a.d.now a.q j) _ _ _ c.all.ensures.ran (YieldsList-from_range 0 12 12 refl refl) (λ x b q k. search (rules, tests)))
