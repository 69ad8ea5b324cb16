-- `points::hundredths::code` meets its contract.
use Rattle.octets.proofs.Kit.{sym, ◌∙◌, subst, ◌≤◌, arith, ℤ, nat_abs}
use mir.{Syntax.w32, Facts.to_z-of_z}
use Rattle.points.proofs.{Casts.{exponent_is, mantissa_is, code_is}, promises.Choice.mantissa_fits, Laws.small, Signed.range_abs}
use Rattle.points.proofs.hundredths.code.Goals as goal

pub quotient-m-requires : goal.quotient-m-requires
quotient-m-requires c =
    let p = small c.exponent-e.result c.exponent-e.ensures.four_bits in
    (subst (λ (y : ℤ). nat_abs y ≤ 67108864) (sym (to_z-of_z c.ranges.x)) (range_abs c.args.x c.requires), omega (arith, c.power.ensures, p.0), omega (arith, c.power.ensures, p.1))

pub stepped-requires : goal.stepped-requires
stepped-requires c =
    let e = exponent_is c.args.x _ _ _ c.ranges.x c.unsigned_abs.ensures.value c.limit.ensures c.exponent-e.ensures.first in
    let m = mantissa_is c.args.x _ _ _ c.ranges.x e c.power.ensures c.quotient-m.ensures in (
      c.exponent-e.ensures.four_bits,
      subst (λ (y : ℤ). nat_abs y ≤ 2048) (sym (to_z-of_z {w = w32} (record { sfits = c.quotient-m.type_inv }) ∙ m)) (mantissa_fits c.args.x c.requires),
    )

pub returns : goal.returns
returns c =
    let e = exponent_is c.args.x _ _ _ c.ranges.x c.unsigned_abs.ensures.value c.limit.ensures c.exponent-e.ensures.first in
    let m = mantissa_is c.args.x _ _ _ c.ranges.x e c.power.ensures c.quotient-m.ensures in
    code_is c.args.x _ _ _ (record { sfits = c.quotient-m.type_inv }) e m c.stepped.ensures
