use Rattle.std.proofs.Common.{arith, ◌≡◌, ◌≤◌, ◌-ℤ◌, ℤ, length, to_z, of_z, w64}
use Rattle.std.proofs.lemmas.Int.{ints}
use Rattle.mesh_terms.specs.Limits.{most_triangles}
use Rattle.winding.specs.Segments.{crossings_to}
use Rattle.winding.proofs.jump.number_near.Goals as goal

pub overflow_sub-result : goal.overflow_sub-result
overflow_sub-result g c =
    let few : length c.args.faces.now.triples ≤ most_triangles = c.twins.ensures.side.accepted.mesh.few_triples in
    omega (arith, ints, few, c.requires.known.size, c.crossings_between.ensures.size)

pub returns-clause-value : goal.returns-clause-value
returns-clause-value g c =
    let faces = c.args.faces.now in
    let from = c.args.from.now in
    let corner = c.args.corner.now in
    let few : length faces.triples ≤ most_triangles = c.twins.ensures.side.accepted.mesh.few_triples in
    let known = c.requires.known in
    let size = c.crossings_between.ensures.size in
    let crossings : ℤ = c.crossings_between.result in
    let whole : to_z w64 (of_z w64 (to_z w64 (of_z w64 from.number) -ℤ to_z w64 (of_z w64 crossings))) ≡ from.number -ℤ crossings = omega (arith, ints, few, known.size, size) in
    let crossed : crossings ≡ crossings_to (g.C.EdgeFace.crossing_of c.args.pairs.now) faces from.corner corner = c.crossings_between.ensures.value in
    let changes = c.requires.identity.between from.corner corner known.fine c.requires.fine in
    omega (arith, ints, whole, known.number, crossed, changes)
