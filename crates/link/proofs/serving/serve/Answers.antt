-- `link::serving::serve` meets its contract. Assumes nothing.
use Rattle.octets.proofs.Kit.{arith}
use Rattle.link.proofs.{Serves.{no_room_lem, was_read, not_read}}
use Rattle.link.proofs.serving.serve.Goals as goal

pub returns-then-out-lt25 : goal.returns-then-out-lt25
returns-then-out-lt25 c =
    record {
      did = search (no_room_lem, arith);
      frame_bytes = λ i. (c.type_inv.frame i).fits;
      sheet_bytes = λ i. (c.type_inv.sheet i).fits;
    }

pub returns-in-Ok : goal.returns-in-Ok
returns-in-Ok c =
    record {
      did = search (was_read, arith);
      frame_bytes = λ i. (c.type_inv.frame i).fits;
      sheet_bytes = λ i. (c.slice_known-1.given i).fits;
    }

pub returns-in-Err : goal.returns-in-Err
returns-in-Err c =
    record {
      did = search (not_read, arith);
      frame_bytes = λ i. (c.type_inv.frame i).fits;
      sheet_bytes = λ i. (c.type_inv.sheet i).fits;
    }
