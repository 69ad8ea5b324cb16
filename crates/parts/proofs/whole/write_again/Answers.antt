-- `parts::whole::write_again` meets its contract.
use Rattle.octets.proofs.Kit.{rules, refl}
use Rattle.parts.specs.{Records.{no_region, no_property, no_group}, Again.{WholeRegion, WholeProperty, WholeGroup}}
use Rattle.parts.proofs.{Runs.{front_written, bodies_written, entries_written, whole_written}}
use Rattle.parts.proofs.whole.write_again.Goals as goal

pub returns : goal.returns
returns c =
    let u = c.args.parts in
    let begins = c.starts_of-starts.ensures in
    let rest = bodies_written _ _ _ _ _ _ (search rules) (search rules) (search rules) refl c.splice.ensures in
    let regions = front_written no_region WholeRegion u.regions _ _ 8 _ _ (search rules) c.write_entries.ensures in
    let properties = front_written no_property WholeProperty u.properties _ _ 12 _ _ (search rules) c.write_entries-2.ensures in
    let groups = front_written no_group WholeGroup u.groups _ _ 8 _ _ (search rules) c.write_entries-3.ensures in
    let users = front_written no_region WholeRegion u.users _ _ 8 _ _ (search rules) c.write_entries-4.ensures in
    let entries = entries_written _ _ _ _ _ u _ begins regions properties groups users in
    whole_written _ _ _ _ _ c.write_head.ensures entries (rw begins.3 at rest)
