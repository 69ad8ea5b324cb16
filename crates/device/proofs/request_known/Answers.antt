-- `device::request_known` meets its contract: what nothing refuses unread is read and judged on the session that it meets, what was judged is carried out, what was carried out is answered.
use Rattle.pdu.proofs.Reading.{named}
use Rattle.device.proofs.calls.Requests.{changes_need, carry_needs, answer_needs, did, changes, refused_did, refused_changes, goes_on}
use Rattle.device.proofs.request_known.Goals as goal

pub returns-in-Err : goal.returns-in-Err
returns-in-Err c =
    let a = c.args in
    record {
      call =
          record {
            did =
                refused_did a.sessions a.mode a.connection a.group a.apdu.now a.sheet.now a.answer.now _ _ _ c.number.ensures c.session_for-session.ensures
                c.in-Err.ensures;
            sheet_bytes = λ i. (c.slice_known-1.given i).fits;
            apdu_bytes = λ i. (c.type_inv.apdu i).fits;
          };
      changed =
          refused_changes a.sessions a.mode a.connection a.group a.apdu.now a.sheet.now a.answer.now _ _ _ c.number.ensures c.session_for-session.ensures
          c.in-Err.ensures;
    }

pub read_found-parsed-requires : goal.read_found-parsed-requires
read_found-parsed-requires c = search named

pub changes-changed-requires : goal.changes-changed-requires
changes-changed-requires c =
    let judged =
    goes_on _ _ _ _ _ _ _ _ _ _ _ c.in_default.ensures c.known.ensures (named _ _ _ c.code.ensures c.service_of-found.ensures)
    c.read_found-parsed.ensures c.data_in-d.ensures c.found-k.ensures
    in
    changes_need _ _ _ _ _ _ _ _ _ c.read_found-parsed.ensures c.data_in-d.ensures judged

pub carry_out-requires : goal.carry_out-requires
carry_out-requires c =
    let judged =
    goes_on _ _ _ _ _ _ _ _ _ _ _ c.in_default.ensures c.known.ensures (named _ _ _ c.code.ensures c.service_of-found.ensures)
    c.read_found-parsed.ensures c.data_in-d.ensures c.found-k.ensures
    in
    carry_needs _ _ _ _ _ _ _ _ _ c.read_found-parsed.ensures c.data_in-d.ensures judged

pub answer-count-requires : goal.answer-count-requires
answer-count-requires c =
    let judged =
    goes_on _ _ _ _ _ _ _ _ _ _ _ c.in_default.ensures c.known.ensures (named _ _ _ c.code.ensures c.service_of-found.ensures)
    c.read_found-parsed.ensures c.data_in-d.ensures c.found-k.ensures
    in
    answer_needs _ _ _ _ _ _ _ _ _ c.read_found-parsed.ensures c.data_in-d.ensures judged _ c.carry_out.ensures

pub returns : goal.returns
returns c =
    let judged =
    goes_on _ _ _ _ _ _ _ _ _ _ _ c.in_default.ensures c.known.ensures (named _ _ _ c.code.ensures c.service_of-found.ensures)
    c.read_found-parsed.ensures c.data_in-d.ensures c.found-k.ensures
    in
    record {
      call =
          record {
            did =
                did _ _ _ _ _ _ _ _ _ c.read_found-parsed.ensures c.data_in-d.ensures judged _ c.carry_out.ensures _ _ _ _ _ _ c.answer-count.ensures
                c.session_for-session.ensures c.turned.ensures;
            sheet_bytes = λ i. (c.slice_known-1.given i).fits;
            apdu_bytes = λ i. (c.type_inv.apdu i).fits;
          };
      changed = changes _ _ _ _ _ _ _ _ _ c.read_found-parsed.ensures c.data_in-d.ensures judged _ _ _ c.changes-changed.ensures c.session_for-session.ensures;
    }
