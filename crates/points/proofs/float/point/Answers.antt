-- `points::float::point` meets its contract.
use Rattle.points.proofs.{Floats.no_nan}
use Rattle.points.proofs.float.point.Goals as goal

pub float_from_bits-result : goal.float_from_bits-result
float_from_bits-result c = no_nan c.args.n c.if-n-lt255.true
