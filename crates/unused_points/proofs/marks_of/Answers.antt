use Rattle.std.proofs.Common.{◌≡◌, arith, ℕ, ◌+◌, ◌<◌, List, [], ◌∷◌, ◌++◌, length, get_or, take}
use Rattle.std.proofs.lemmas.List.{take_more, map-append}
use Rattle.mesh_terms.specs.Meshes.{triple_of, triples_of}
use Rattle.unused_points.proofs.Marks.{MarksUsed-more}
use Rattle.unused_points.proofs.TripleSteps.{at_place}
use Rattle.unused_points.proofs.marks_of.Goals as goal

-- one more triangle
one_more : (triples : List (List ℕ)) (i : ℕ) → i < length triples → triples_of (take (i + 1) triples) ≡ triples_of (take i triples) ++ triple_of (get_or triples i []) ∷ []
one_more triples i h = rw (take_more triples i [] h) (map-append triple_of (take i triples) (get_or triples i [] ∷ []))

pub index_mut-requires : goal.index_mut-requires
index_mut-requires c =
    let here = at_place c.args.count c.args.triples.now c.loop-a.a-index c.requires c.loop-a-test.true in
    omega (arith, here.a, c.loop-a.invariant.each, c.loop-a.marks.ok.0)

pub index_mut-requires-in-loop-a : goal.index_mut-requires-in-loop-a
index_mut-requires-in-loop-a c =
    let here = at_place c.args.count c.args.triples.now c.loop-a.a-index c.requires c.loop-a-test.true in
    omega (arith, here.b, c.loop-a.invariant.each, c.loop-a.marks.ok.0)

pub index_mut-requires-in-loop-a-2 : goal.index_mut-requires-in-loop-a-2
index_mut-requires-in-loop-a-2 c =
    let here = at_place c.args.count c.args.triples.now c.loop-a.a-index c.requires c.loop-a-test.true in
    omega (arith, here.c, c.loop-a.invariant.each, c.loop-a.marks.ok.0)

pub loop-a-preserved : goal.loop-a-preserved
loop-a-preserved c =
    let triples = c.args.triples.now in
    let here = at_place c.args.count triples c.loop-a.a-index c.requires c.loop-a-test.true in
    rw (one_more triples c.loop-a.a-index c.loop-a-test.true)
    (MarksUsed-more c.args.count (triples_of (take c.loop-a.a-index triples)) (triple_of (get_or triples c.loop-a.a-index [])) c.loop-a.marks.items c.loop-a.invariant here)
