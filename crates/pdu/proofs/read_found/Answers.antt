-- `pdu::read_found` meets its contract.
use Rattle.pdu.proofs.{Reading.{wrong_length, by_code, no_code}}
use Rattle.pdu.proofs.read_found.Goals as goal

pub returns-then-apdu-lt2 : goal.returns-then-apdu-lt2
returns-then-apdu-lt2 c = wrong_length _ c.then-apdu-lt2.either

pub returns-in-Some : goal.returns-in-Some
returns-in-Some c = search by_code

pub returns-in-None : goal.returns-in-None
returns-in-None c = search no_code
