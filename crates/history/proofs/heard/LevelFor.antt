-- The level that a request acts at is the one that the history gives it.
use Rattle.octets.proofs.Kit.{ℕ, ◌≡◌, refl, sym, subst, ◌∙◌}
use Rattle.judge.specs.Session.{level_of, level_in}
use Rattle.device.{specs.Asked.{Asked, Acts}, proofs.due.Acts.{acts, acts_is}}
use Rattle.history.specs.Permit.{level_for}

module _ (x : Asked) where
  -- the history's definition and judge's
  pub level_is : level_in x.session x.mode ≡ level_for x.mode x.session.level
  unfolding level_in level_of level_for
  level_is = refl

  -- no other
  pub acts_once : {l : ℕ} → Acts x l → l ≡ level_for x.mode x.session.level
  acts_once h = sym (acts_is x h) ∙ level_is

  -- and this one
  pub acts_so : Acts x (level_for x.mode x.session.level)
  acts_so = subst (Acts x) level_is (acts x)
