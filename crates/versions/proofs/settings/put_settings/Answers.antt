-- `versions::settings::put_settings` meets its contract.
use Rattle.octets.proofs.Kit.{arith}
use Rattle.versions.proofs.{Saves.{room_number, room_entries, room_bodies, settings_put}}
use Rattle.versions.proofs.settings.put_settings.Goals as goal

pub put-requires : goal.put-requires
put-requires c =
    let a = c.args in
    (omega (arith, (room_number a.sheet.now a.x c.requires.0 a.s.now a.at c.requires.1).0), omega arith)

pub splice-requires : goal.splice-requires
splice-requires c =
    let a = c.args in
    omega (arith, room_entries a.sheet.now a.x c.requires.0 a.s.now a.at c.requires.1)

pub splice-requires-2 : goal.splice-requires-2
splice-requires-2 c =
    let a = c.args in
    omega (arith, room_bodies a.sheet.now a.x c.requires.0 a.s.now a.at c.requires.1)

pub returns : goal.returns
returns c = settings_put _ _ c.requires.0 _ _ c.requires.1 _ _ _ _ c.put.ensures c.splice.ensures c.entry_at.ensures c.splice-2.ensures
