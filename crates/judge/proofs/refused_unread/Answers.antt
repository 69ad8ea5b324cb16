-- `judge::refused_unread` meets its contract.
use Rattle.judge.proofs.{Judgement.{unread_room, unread_sheet, unread_length, unread_mode, unread_shut, unread_none}}
use Rattle.judge.proofs.refused_unread.Goals as goal

pub returns-then-room-lt16 : goal.returns-then-room-lt16
returns-then-room-lt16 c = search unread_room

pub returns-in_err-refusal_unless : goal.returns-in_err-refusal_unless
returns-in_err-refusal_unless c = unread_sheet _ _ _ _ _ c.if-room-lt16.false _ c.refusal_unless.ensures _ _ c.in_err-refusal_unless.was c.from_residual.ensures.1

pub returns-then-apdu-lt2 : goal.returns-then-apdu-lt2
returns-then-apdu-lt2 c = unread_length _ _ _ _ _ c.if-room-lt16.false _ c.refusal_unless.ensures _ c.in_ok-refusal_unless.was c.then-apdu-lt2.either

pub returns-then-mode : goal.returns-then-mode
returns-then-mode c =
    unread_mode _ _ _ _ _ c.if-room-lt16.false _ c.refusal_unless.ensures _ c.in_ok-refusal_unless.was c.if-apdu-lt2.false c.if-apdu-gt16.false c.if-mode.true

pub returns-then-is_shut : goal.returns-then-is_shut
returns-then-is_shut c =
    unread_shut _ _ _ _ _ c.if-room-lt16.false _ c.refusal_unless.ensures _ c.in_ok-refusal_unless.was c.if-apdu-lt2.false c.if-apdu-gt16.false c.if-mode.false
    _ c.is_shut.ensures c.if-is_shut.true

pub returns : goal.returns
returns c =
    unread_none _ _ _ _ _ c.if-room-lt16.false _ c.refusal_unless.ensures _ c.in_ok-refusal_unless.was c.if-apdu-lt2.false c.if-apdu-gt16.false c.if-mode.false
    _ c.is_shut.ensures c.if-is_shut.false
