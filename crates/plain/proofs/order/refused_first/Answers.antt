-- `plain::order::refused_first` meets its contract.
use Rattle.octets.proofs.Kit.{refl, ◌∙◌, lt-ltb, le-ltb}
use Rattle.plain.proofs.{Ordered.{due_3, due_4, due_5, due_5_long, due_6, due_7, due_none, is_shut_lem, is_open, no_session_lem, told_as}}
use Rattle.plain.proofs.order.refused_first.Goals as goal
use Rattle.plain.proofs.order.refused_first.Goals.{then-apdu-lt2-via-then-apdu-lt2, then-apdu-lt2-via-else-apdu-lt2+then-apdu-gt16}
use Rattle.plain.proofs.order.refused_first.Goals.{else-mode-eq3-via-then-mode-eq3+else-not-session, else-mode-eq3-via-else-mode-eq3}

pub returns-then-room-lt16 : goal.returns-then-room-lt16
returns-then-room-lt16 c = search due_3

pub returns-in_err-refused_sheet : goal.returns-in_err-refused_sheet
returns-in_err-refused_sheet c =
    let t = told_as _ _ c.from_residual.ensures.1 in
    due_4 _ _ _ _ _ c.if-room-lt16.false _ (t.0 ∙ c.in_err-refused_sheet.ensures) t.1

pub returns-then-apdu-lt2 : goal.returns-then-apdu-lt2
returns-then-apdu-lt2 c =
    elim c.then-apdu-lt2.branch [
      | then-apdu-lt2-via-then-apdu-lt2 w ↦ due_5 _ _ _ _ _ c.if-room-lt16.false 0 c.in_ok-refused_sheet.ensures refl w.if-apdu-lt2.true
      | then-apdu-lt2-via-else-apdu-lt2+then-apdu-gt16 w ↦ due_5_long _ _ _ _ _ c.if-room-lt16.false 0 c.in_ok-refused_sheet.ensures refl w.if-apdu-lt2.false (lt-ltb 16 _ w.if-apdu-gt16.true)
    ]

pub returns-then-mode-gt3 : goal.returns-then-mode-gt3
returns-then-mode-gt3 c = due_6 _ _ _ _ _ c.if-room-lt16.false 0 c.in_ok-refused_sheet.ensures refl c.if-apdu-lt2.false (le-ltb 16 _ c.if-apdu-gt16.false) c.if-mode-gt3.true

pub returns-then-not-session : goal.returns-then-not-session
returns-then-not-session c =
    due_7 _ _ _ _ _ c.if-room-lt16.false 0 c.in_ok-refused_sheet.ensures refl c.if-apdu-lt2.false (le-ltb 16 _ c.if-apdu-gt16.false) c.if-mode-gt3.false (search is_shut_lem)

pub returns : goal.returns
returns c =
    elim c.else-mode-eq3.branch [
      | else-mode-eq3-via-then-mode-eq3+else-not-session w ↦
          due_none _ _ _ _ _ c.if-room-lt16.false 0 c.in_ok-refused_sheet.ensures refl c.if-apdu-lt2.false (le-ltb 16 _ c.if-apdu-gt16.false) c.if-mode-gt3.false (search is_open)
      | else-mode-eq3-via-else-mode-eq3 w ↦
          due_none _ _ _ _ _ c.if-room-lt16.false 0 c.in_ok-refused_sheet.ensures refl c.if-apdu-lt2.false (le-ltb 16 _ c.if-apdu-gt16.false) c.if-mode-gt3.false (search no_session_lem)
    ]
