use Rattle.play_laws.proofs.Tasks.{meets_given}
use Rattle.mesh_files.proofs.Texts.{checked_closed}
use Rattle.mesh_files.proofs.reading.mesh_of_text.Goals as goal

pub returns-clause-meets : goal.returns-clause-meets
returns-clause-meets c now =
    let name = c.args.name.now in
    let e = c.in_ok-mesh.ensures in
    meets_given _ _ now
    (checked_closed name _ c.in_ok-soup.soup c.in_ok-mesh.mesh.points c.in_ok-mesh.mesh.triples c.in_ok-mesh.mesh.labels c.unused-unused.result
    c.in_ok-soup.ensures.soup e.closed e.points e.triples e.labels c.unused-unused.ensures)
