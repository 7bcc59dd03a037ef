use Rattle.mesh_writer.proofs.Passing.{passed-sent}
use Rattle.mesh_writer.proofs.page.send_full.Goals as goal

pub returns-in_ok-write_all-clause-passed : goal.returns-in_ok-write_all-clause-passed
returns-in_ok-write_all-clause-passed g c =
    let e = c.in_ok-write_all.ensures in
    let held = c.as_slice.ensures.value in
    passed-sent c.args.page.now.items c.clear.new.self.items _ _ _ _ c.clear.ensures (rw held at e.added) (rw held at e.less)
