use Rattle.std.proofs.Common.{◌∙◌, ap, length, sym}
use Rattle.std.proofs.lemmas.List.{length-map}
use Rattle.mesh_terms.specs.Meshes.{triple_of}
use Rattle.sheet_terms.specs.Remesh.{remeshed}
use Rattle.plane_remesh.proofs.Outcomes.{no_excess, over_fault, sizes_are}
use Rattle.plane_remesh.proofs.remeshing.remesh.Goals as goal

pub returns-clause-within : goal.returns-clause-within
returns-clause-within c =
    let r = c.in_ok-remeshed.remeshed in
    let d = remeshed c.args.mesh.now in
    let points = length c.points.result.now in
    let triangles = length c.triples.result.now in
    let many = sym (length-map c.triples.result.now triple_of) ∙ ap length c.triples.ensures.value in
    sym (sizes_are r d c.args.limits.now points triangles c.in_ok-remeshed.ensures (ap length c.points.ensures.value) many)
    ∙ no_excess c.args.limits.now points triangles (sym c.in_default.is ∙ c.over.ensures)

pub returns-in-Some-clause-over : goal.returns-in-Some-clause-over
returns-in-Some-clause-over c = λ what seen same.
    let r = c.in_ok-remeshed.remeshed in
    let d = remeshed c.args.mesh.now in
    let points = length c.points.result.now in
    let triangles = length c.triples.result.now in
    let many = sym (length-map c.triples.result.now triple_of) ∙ ap length c.triples.ensures.value in
    sym (sizes_are r d c.args.limits.now points triangles c.in_ok-remeshed.ensures (ap length c.points.ensures.value) many)
    ∙ over_fault c.args.limits.now points triangles c.in-Some.fault what seen (sym c.in-Some.is ∙ c.over.ensures) same
