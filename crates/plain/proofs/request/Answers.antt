-- `plain::request` meets its contract.
use Rattle.octets.proofs.Kit.{rules, refl, sym, ◌∙◌}
use Rattle.plain.proofs.Ordered.{never_0, first_due, roomy, accepted, next_due, reads_next, found_as, rules_as}
use Rattle.plain.proofs.{Requesting.{held, requested, refused_called, unread_called, carry_needs, served_called}}
use Rattle.plain.proofs.request.Goals as goal

pub returns-in-Err : goal.returns-in-Err
returns-in-Err c =
    let a = c.args in
    refused_called a.sessions a.mode a.connection a.group a.apdu.now a.sheet.now a.answer.now _ c.session_met-session.ensures
    (search rules) (λ i. (c.type_inv.apdu i).fits) _ _
    (first_due _ _ c.session_met-session.result a.mode a.apdu.now _ (c.number.ensures ∙ c.in-Err.ensures) _ (λ z. never_0 _ (sym c.number.ensures ∙ z))) c.refused.ensures

-- where none of them refuses
pub take_apart-u-requires : goal.take_apart-u-requires
take_apart-u-requires c =
    let a = c.args in
    accepted _ _ c.session_met-session.result a.mode a.apdu.now _ c.in_default.ensures refl

pub returns-in-Err-refused_next : goal.returns-in-Err-refused_next
returns-in-Err-refused_next c =
    let a = c.args in
    refused_called a.sessions a.mode a.connection a.group a.apdu.now a.sheet.now a.answer.now _ c.session_met-session.ensures
    (search rules) (λ i. (c.type_inv.apdu i).fits) _ _
    (next_due _ _ c.session_met-session.result a.mode a.apdu.now _ c.in_default.ensures refl _ _
    (found_as _ _ _ c.service_of-found.ensures c.code.ensures) _ (rules_as _ _ c.take_apart-u.ensures) _ (c.number-in-Err-refused_next.ensures ∙ c.in-Err-refused_next.ensures) (λ z. never_0 _ (sym c.number-in-Err-refused_next.ensures ∙ z)))
    c.refused-in-Err-refused_next.ensures

pub read_found-parsed-requires : goal.read_found-parsed-requires
read_found-parsed-requires c = found_as _ _ _ c.service_of-found.ensures c.code.ensures

pub returns-in_default-parsed : goal.returns-in_default-parsed
returns-in_default-parsed c =
    let a = c.args in
    unread_called a.sessions a.mode a.connection a.group a.apdu.now a.sheet.now a.answer.now _ c.session_met-session.ensures
    (search rules) (λ i. (c.type_inv.apdu i).fits) _ _ _ _
    c.read_found-parsed.ensures c.in_default-parsed.is c.outcome.ensures
    (reads_next _ _ c.session_met-session.result a.mode a.apdu.now _ c.in_default.ensures refl _ _
    (found_as _ _ _ c.service_of-found.ensures c.code.ensures) _ (rules_as _ _ c.take_apart-u.ensures) _ c.in_default-refused_next.ensures refl)
    c.refused-in_default-parsed.ensures

pub serve-reply-requires : goal.serve-reply-requires
serve-reply-requires c =
    let a = c.args in (
      held a.sheet.now _ (accepted _ _ c.session_met-session.result a.mode a.apdu.now _ c.in_default.ensures refl)
          (search rules) c.take_apart-u.ensures,
      requested _ _ _ _ c.read_found-parsed.ensures c.in-Ok.is c.data_of-d.ensures,
    )

pub carry_out-count-requires : goal.carry_out-count-requires
carry_out-count-requires c =
    let a = c.args in
    carry_needs a.sessions a.mode a.connection a.group a.apdu.now a.sheet.now a.answer.now _ c.session_met-session.ensures
    (search rules) (λ i. (c.type_inv.apdu i).fits)
    (accepted _ _ c.session_met-session.result a.mode a.apdu.now _ c.in_default.ensures refl)
    (roomy _ _ c.session_met-session.result a.mode a.apdu.now _ c.in_default.ensures refl)
    _ c.read_found-parsed.ensures _ c.in-Ok.is _ c.data_of-d.ensures _ c.acting_level-level.ensures
    (reads_next _ _ c.session_met-session.result a.mode a.apdu.now _ c.in_default.ensures refl _ _
    (found_as _ _ _ c.service_of-found.ensures c.code.ensures) _ (rules_as _ _ c.take_apart-u.ensures) _ c.in_default-refused_next.ensures refl)
    _ c.take_apart-u.ensures _ c.serve-reply.ensures

pub returns : goal.returns
returns c =
    let a = c.args in
    rw c.number-2.ensures
    (served_called a.sessions a.mode a.connection a.group a.apdu.now a.sheet.now a.answer.now _ c.session_met-session.ensures
    (search rules) (λ i. (c.type_inv.apdu i).fits)
    (accepted _ _ c.session_met-session.result a.mode a.apdu.now _ c.in_default.ensures refl)
    (roomy _ _ c.session_met-session.result a.mode a.apdu.now _ c.in_default.ensures refl)
    _ c.read_found-parsed.ensures _ c.in-Ok.is _ c.data_of-d.ensures _ c.acting_level-level.ensures
    (reads_next _ _ c.session_met-session.result a.mode a.apdu.now _ c.in_default.ensures refl _ _
    (found_as _ _ _ c.service_of-found.ensures c.code.ensures) _ (rules_as _ _ c.take_apart-u.ensures) _ c.in_default-refused_next.ensures refl)
    _ c.take_apart-u.ensures _ c.serve-reply.ensures _ _ _ _ c.carry_out-count.ensures c.sessions_after.ensures)
