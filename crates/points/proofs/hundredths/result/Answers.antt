-- `points::hundredths::result` meets its contract.
use Rattle.octets.proofs.Kit.{ap, ◌∙◌, ℕ, ◌*◌, ◌-◌, ◌%◌, ◌/◌, arith, pos, neg_ℤ}
use Rattle.points.proofs.{Casts.{as_signed, minus_is}, Laws.{product_by, res_plus, res_minus}}
use Rattle.points.proofs.hundredths.result.Goals as goal

pub returns-then-c-lt32768 : goal.returns-then-c-lt32768
returns-then-c-lt32768 c =
    let n = c.args.c in
    as_signed (product_by (n % 2048) (n / 2048 % 16) _ _ c.power-p.ensures (omega arith) (omega arith) (omega arith))
    ∙ ap (λ (p : ℕ). pos (n % 2048 * p)) c.power-p.ensures
    ∙ res_plus n c.if-c-lt32768.true

pub returns-else-c-lt32768 : goal.returns-else-c-lt32768
returns-else-c-lt32768 c =
    let n = c.args.c in
    let q = 2048 - n % 2048 in
    minus_is (product_by q (n / 2048 % 16) _ _ c.power-p.ensures (omega arith) (omega arith) (omega arith))
    ∙ ap (λ (p : ℕ). neg_ℤ (pos (q * p))) c.power-p.ensures
    ∙ res_minus n c.if-c-lt32768.false
