-- `versions::restoring::judge_version` meets its contract.
use Rattle.octets.proofs.Kit.{◌+◌, ◌*◌, ◌≡◌, refl, ap, not, arith, rules}
use Rattle.octets.proofs.Tests.{tests}
use Rattle.octets.specs.Every.{every}
use Rattle.std.proofs.lemmas.Iterator.{YieldsList-from_range}
use Rattle.std.proofs.lemmas.Iterator.Search.{all_from_yields_List}
use Rattle.versions.specs.Restoring.{same_entry, low_count}
use Rattle.versions.proofs.{Every.all_every, Restorer.{other_long, other_many, other_entries_lem, high_count_lem, can_give}}
use Rattle.versions.proofs.restoring.judge_version.Goals as goal
use Rattle.versions.proofs.restoring.judge_version.Goals.{then-d-long_of-via-then-d-long_of, then-d-long_of-via-else-d-long_of+then-word-n}

pub returns-then-d-long_of : goal.returns-then-d-long_of
returns-then-d-long_of c =
    elim c.then-d-long_of.branch [
      | then-d-long_of-via-then-d-long_of w ↦ other_long _ _ _ c.requires _ c.long_of.ensures w.if-d-long_of.true
      | then-d-long_of-via-else-d-long_of+then-word-n w ↦
          other_many _ _ _ c.requires _ c.long_of.ensures w.if-d-long_of.false _ w.word.ensures w.if-word-n.true
    ]

pub returns-then-not-all : goal.returns-then-not-all
returns-then-not-all c =
    let s = c.args.sheet in
    let d = c.args.d in
    let x = c.args.x in
    let e : c.all.result ≡ every x.count (λ j. same_entry s.now (x.entries + 12 * j) d.now (2 + 12 * j)) =
    all_every (λ j. same_entry s.now (x.entries + 12 * j) d.now (2 + 12 * j)) x.count _
    (all_from_yields_List (λ j. same_entry s.now (x.entries + 12 * j) d.now (2 + 12 * j)) _ _ _ c.all.ensures.ran (YieldsList-from_range 0 x.count x.count refl (omega arith)) (λ i b q k. search (rules, tests)))
    in
    other_entries_lem _ _ _ c.requires _ c.long_of.ensures c.if-d-long_of.false _ c.word.ensures c.if-word-n.false _ e (ap not c.if-not-all.true)

pub returns-then-not-all-2 : goal.returns-then-not-all-2
returns-then-not-all-2 c =
    let s = c.args.sheet in
    let d = c.args.d in
    let x = c.args.x in
    let e : c.all.result ≡ every x.count (λ j. same_entry s.now (x.entries + 12 * j) d.now (2 + 12 * j)) =
    all_every (λ j. same_entry s.now (x.entries + 12 * j) d.now (2 + 12 * j)) x.count _
    (all_from_yields_List (λ j. same_entry s.now (x.entries + 12 * j) d.now (2 + 12 * j)) _ _ _ c.all.ensures.ran (YieldsList-from_range 0 x.count x.count refl (omega arith)) (λ i b q k. search (rules, tests)))
    in
    let f : c.all-2.result ≡ every x.count (λ j. low_count s.now (x.entries + 12 * j) d.now (2 + 12 * j)) =
    all_every (λ j. low_count s.now (x.entries + 12 * j) d.now (2 + 12 * j)) x.count _
    (all_from_yields_List (λ j. low_count s.now (x.entries + 12 * j) d.now (2 + 12 * j)) _ _ _ c.all-2.ensures.ran (YieldsList-from_range 0 x.count x.count refl (omega arith)) (λ i b q k. search (rules, tests)))
    in
    high_count_lem _ _ _ c.requires _ c.long_of.ensures c.if-d-long_of.false _ c.word.ensures c.if-word-n.false _ e (ap not c.if-not-all.false) _ f (ap not c.if-not-all-2.true)

pub returns : goal.returns
returns c =
    let s = c.args.sheet in
    let d = c.args.d in
    let x = c.args.x in
    let e : c.all.result ≡ every x.count (λ j. same_entry s.now (x.entries + 12 * j) d.now (2 + 12 * j)) =
    all_every (λ j. same_entry s.now (x.entries + 12 * j) d.now (2 + 12 * j)) x.count _
    (all_from_yields_List (λ j. same_entry s.now (x.entries + 12 * j) d.now (2 + 12 * j)) _ _ _ c.all.ensures.ran (YieldsList-from_range 0 x.count x.count refl (omega arith)) (λ i b q k. search (rules, tests)))
    in
    let f : c.all-2.result ≡ every x.count (λ j. low_count s.now (x.entries + 12 * j) d.now (2 + 12 * j)) =
    all_every (λ j. low_count s.now (x.entries + 12 * j) d.now (2 + 12 * j)) x.count _
    (all_from_yields_List (λ j. low_count s.now (x.entries + 12 * j) d.now (2 + 12 * j)) _ _ _ c.all-2.ensures.ran (YieldsList-from_range 0 x.count x.count refl (omega arith)) (λ i b q k. search (rules, tests)))
    in
    can_give _ _ _ c.requires _ c.long_of.ensures c.if-d-long_of.false _ c.word.ensures c.if-word-n.false _ e (ap not c.if-not-all.false) _ f (ap not c.if-not-all-2.false)
