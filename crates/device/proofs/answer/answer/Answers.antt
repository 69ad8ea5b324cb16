-- `device::answer::answer` meets its contract: the PDU, and the data behind it.
use Rattle.device.proofs.{due.Sent.{silence, pdu_needs, data_needs, all_sent}}
use Rattle.device.proofs.answer.answer.Goals as goal

pub returns-then-is_silent : goal.returns-then-is_silent
returns-then-is_silent c = search silence

pub encode-i-requires : goal.encode-i-requires
encode-i-requires c = pdu_needs c.args.s.now c.args.d.now c.args.a _ _ c.args.out.now c.requires c.is_silent.ensures c.if-is_silent.false c.pdu_in-p.ensures

pub data_behind-requires : goal.data_behind-requires
data_behind-requires c =
    data_needs c.args.s.now c.args.d.now c.args.a _ _ c.args.out.now c.requires c.is_silent.ensures c.if-is_silent.false c.pdu_in-p.ensures
    _ _ c.encode-i.ensures.0 c.encode-i.ensures.1

pub returns : goal.returns
returns c =
    all_sent c.args.s.now c.args.d.now c.args.a _ _ c.args.out.now c.requires c.is_silent.ensures c.if-is_silent.false c.pdu_in-p.ensures
    _ _ c.encode-i.ensures.0 c.encode-i.ensures.1 _ _ c.data_behind.ensures
