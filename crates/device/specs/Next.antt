-- One request after another, and that it is answered as the one before was.
use Rattle.std.specs.Prelude.{◌≤◌, ◌≡◌, true}
use Rattle.std.specs.Prelude.{Ok}
use Rattle.sheet.specs.Head.{rules_of}
use Rattle.pdu.specs.Pdus.{service_of}
use Rattle.pdu.specs.Read.{read_pdu}
use Rattle.pdu.specs.declared.Pdu.{Pdu}
use Rattle.judge.specs.Session.{connected}
use Rattle.device.specs.Asked.{Asked, Takes}
use Rattle.device.specs.Demand2.{done}

-- x reads as p, is carried out and answered
pub record Confirmed (x : Asked) (p : Pdu) : Type 0 where
  pub reads : read_pdu x.apdu ≡ Ok p
  pub outcome : (done x).outcome ≡ 0

-- y comes after x: it meets the sheet that x left, with room for an answer, in a mode that takes it, and reads as p; its session may be any
pub record Next (x y : Asked) (p : Pdu) : Type 0 where
  pub sheet : y.sheet ≡ (done x).sheet
  pub buffer : 16 ≤ y.room
  pub takes : Takes (rules_of y.sheet) (service_of p) y.mode
  pub session : y.mode ≡ connected → y.session.opened ≡ true
  pub reads : read_pdu y.apdu ≡ Ok p

-- y is answered as x was, byte by byte
pub record SameAnswer (x y : Asked) : Type 0 where
  pub outcome : (done y).outcome ≡ 0
  pub answer : (done y).answer ≡ (done x).answer
