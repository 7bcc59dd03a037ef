use Rattle.std.proofs.Common.{[], ◌∙◌}
use Rattle.std.proofs.lemmas.List.{get_or_default}
use Rattle.mesh_terms.specs.Meshes.{triple_of}
use Rattle.lean.proofs.marks.face_normal.Goals as goal

pub returns-clause-value : goal.returns-clause-value
returns-clause-value c =
    let points = c.args.points.now in
    let t = triple_of c.args.triple.now in
    let a = c.index-points-a.is ∙ get_or_default points t.0 c.index-points-a.result [] c.requires.a in
    let b = c.index-points-b.is ∙ get_or_default points t.1 c.index-points-b.result [] c.requires.b in
    let z = c.index-points-c.is ∙ get_or_default points t.2 c.index-points-c.result [] c.requires.c in
    rw (← a, ← b, ← z) c.cross.ensures.value
