-- `playback::event::happen` meets its contract. Assumes nothing.
use Rattle.octets.proofs.Kit.{◌≡◌, ap}
use Rattle.playback.specs.Kinds.{kind_number}
use Rattle.playback.proofs.{Happening.{happens_request, happens_connect, happens_disconnect, happens_on, happens_off}}
use Rattle.playback.proofs.event.happen.Goals as goal

pub returns-in-Request : goal.returns-in-Request
returns-in-Request c = let e : kind_number c.args.kind ≡ 0 = ap kind_number c.in-Request.is in search happens_request

pub returns-in-Connect : goal.returns-in-Connect
returns-in-Connect c = let e : kind_number c.args.kind ≡ 1 = ap kind_number c.in-Connect.is in search happens_connect

pub returns-in-Disconnect : goal.returns-in-Disconnect
returns-in-Disconnect c = let e : kind_number c.args.kind ≡ 2 = ap kind_number c.in-Disconnect.is in search happens_disconnect

pub returns-in-On : goal.returns-in-On
returns-in-On c = let e : kind_number c.args.kind ≡ 3 = ap kind_number c.in-On.is in search happens_on

pub returns-in-Off : goal.returns-in-Off
returns-in-Off c = let e : kind_number c.args.kind ≡ 4 = ap kind_number c.in-Off.is in search happens_off
