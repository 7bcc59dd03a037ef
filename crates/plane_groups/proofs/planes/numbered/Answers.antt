use Rattle.std.proofs.Common.{◌∙◌, ◌∷◌, ◌++◌, [], ap, arith, get_or, length, map, sym, take}
use Rattle.std.proofs.lemmas.List.{get_or_default, length-map, length-take, map-append, take_all}
use Rattle.mesh_terms.specs.Meshes.{triple_of, triples_of}
use Rattle.edge_cutting.proofs.LongEdges.{below_at}
use Rattle.plane_groups.specs.Numbers.{faces_front, keys_of, keys_with, number_among}
use Rattle.plane_groups.proofs.Grouping.{keys_few, keys_push, numbers_push, triples_more}
use Rattle.plane_groups.proofs.planes.numbered.Goals as goal

pub add-requires-clause-below : goal.add-requires-clause-below
add-requires-clause-below c =
    let ts = c.args.triples.now in
    let i = c.loop-triple.triple-index in
    below_at (length c.args.points.now) ts i (get_or ts i []) c.requires.below c.loop-triple-test.true (get_or_default ts i [] (get_or ts i []) c.loop-triple-test.true)

pub add-requires-clause-few : goal.add-requires-clause-few
add-requires-clause-few c =
    let ts = c.args.triples.now in
    let i = c.loop-triple.triple-index in
    omega (
      arith,
      ap length c.loop-triple.invariant.keys,
      keys_few c.args.points.now (triples_of (take i ts)),
      length-map (take i ts) triple_of,
      length-take i ts,
      c.requires.few,
    )

pub loop-triple-preserved : goal.loop-triple-preserved
loop-triple-preserved c =
    let points = c.args.points.now in
    let ts = c.args.triples.now in
    let i = c.loop-triple.triple-index in
    let low = c.loop-triple-test.true in
    let inv = c.loop-triple.invariant in
    let us = triples_of (take i ts) in
    let t = triple_of (get_or ts i []) in
    let step = triples_more ts i (get_or ts i []) low (get_or_default ts i [] (get_or ts i []) low) in
    record {
      keys = c.in_ok-add.ensures.keys ∙ ap (λ ks. keys_with points ks t) inv.keys ∙ sym (keys_push points us t) ∙ ap (keys_of points) step;
      of =
          c.in_ok-add.ensures.of ∙ ap (λ l. l ++ number_among points c.loop-triple.numbered.seen.keys t ∷ []) inv.of
          ∙ ap (λ ks. map (number_among points (keys_of points us)) us ++ number_among points ks t ∷ []) inv.keys ∙ sym (numbers_push points us t)
          ∙ ap (λ vs. map (number_among points (keys_of points vs)) vs) step;
      fronts =
          c.in_ok-add.ensures.fronts ∙ ap (λ l. l ++ faces_front points t ∷ []) inv.fronts ∙ sym (map-append (faces_front points) us (t ∷ []))
          ∙ ap (map (faces_front points)) step;
    }

pub returns-clause-keys : goal.returns-clause-keys
returns-clause-keys c =
    let all = ap triples_of (take_all c.loop-triple.triple-index c.args.triples.now c.loop-triple-test.false) in
    c.loop-triple.invariant.keys ∙ ap (keys_of c.args.points.now) all

pub returns-clause-of : goal.returns-clause-of
returns-clause-of c =
    let all = ap triples_of (take_all c.loop-triple.triple-index c.args.triples.now c.loop-triple-test.false) in
    c.loop-triple.invariant.of ∙ ap (λ vs. map (number_among c.args.points.now (keys_of c.args.points.now vs)) vs) all

pub returns-clause-fronts : goal.returns-clause-fronts
returns-clause-fronts c =
    let all = ap triples_of (take_all c.loop-triple.triple-index c.args.triples.now c.loop-triple-test.false) in
    c.loop-triple.invariant.fronts ∙ ap (map (faces_front c.args.points.now)) all
