-- `device::session::button_known` meets its contract.
use Rattle.octets.proofs.Kit.{arith}
use Rattle.device.proofs.{calls.Pressing.{not_pressed, put_room, was_pressed}}
use Rattle.device.proofs.session.button_known.Goals as goal

pub returns-in_err-refusal_unless : goal.returns-in_err-refusal_unless
returns-in_err-refusal_unless c = not_pressed _ _ _ _ _ c.refusal_unless.ensures c.in_err-refusal_unless.was c.from_residual.ensures.1

pub put-requires : goal.put-requires
put-requires c = (put_room _ _ c.refusal_unless.ensures _ c.in_ok-refusal_unless.was _ c.flags_at.ensures, omega arith)

pub returns : goal.returns
returns c = was_pressed _ _ c.refusal_unless.ensures _ c.in_ok-refusal_unless.was _ _ _ _ _ c.known.ensures c.flags_at.ensures c.flags_with-new.ensures c.put.ensures
