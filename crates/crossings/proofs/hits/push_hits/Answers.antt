use Rattle.std.proofs.Common.{ℕ, ◌+◌, ◌++◌, ◌<◌, List, [], length, get_or, take, ap, sym, subst, ◌∙◌}
use Rattle.std.specs.List.{All, cons_option}
use Rattle.std.proofs.lemmas.List.{take_all}
use Rattle.mb_base.specs.declared.point.Corner.{Corner}
use Rattle.mb_base.specs.declared.results.Hit.{Hit}
use Rattle.mb_base.specs.Boxes.{box_of}
use Rattle.side_terms.specs.Corners.{AllFine}
use Rattle.side_terms.specs.Sides.{edge_at, face_at}
use Rattle.crossings.specs.Hits.{hit_of}
use Rattle.crossings.specs.Near.{hits_with}
use Rattle.crossings.proofs.Nearby.{hits_near, touching_below}
use Rattle.crossings.proofs.Rows.{along_more, more_added}
use Rattle.crossings.proofs.hits.push_hits.Goals as goal

pub push_hit-requires-clause-face : goal.push_hit-requires-clause-face
push_hit-requires-clause-face g c =
    let faces = c.args.faces.now in
    let below = subst (All (λ f. f < length faces.triples)) (sym c.loop-face.invariant.near) (touching_below faces (box_of (edge_at c.args.edges.now c.args.half))) in
    below c.loop-face.face-index 0 c.loop-face-test.true

pub loop-face-preserved : goal.loop-face-preserved
loop-face-preserved g c =
    let test = g.C.EdgeFace.crossing_of c.args.pairs.now in
    let edges = c.args.edges.now in
    let faces = c.args.faces.now in
    let h = c.args.half in
    let near = c.deref-face-items.result.now in
    let i = c.loop-face.face-index in
    let f = get_or near i 0 in
    let old = c.loop-face.hits.items in
    let rows : List ℕ → List Hit = hits_with test edges faces h in
    let part : List Corner → List Hit = λ edge. cons_option (hit_of h f (test edge (face_at faces f))) [] in
    let added = c.in_ok-push_hit.ensures ∙ ap (λ edge. old ++ part edge) c.edge-edge.ensures.value in
    record {
      hits = more_added c.push_hit.new.hits.items old c.args.hits.now.items (rows (take i near))
          (rows (take (i + 1) near)) (part (edge_at edges h)) added c.loop-face.invariant.hits
          (along_more test edges faces h near i c.loop-face-test.true);
      near = c.loop-face.invariant.near;
    }

pub returns : goal.returns
returns g c =
    let test = g.C.EdgeFace.crossing_of c.args.pairs.now in
    let edges = c.args.edges.now in
    let faces = c.args.faces.now in
    let h = c.args.half in
    let before = c.args.hits.now.items in
    let all = take_all c.loop-face.face-index c.deref-face-items.result.now c.loop-face-test.false ∙ c.loop-face.invariant.near in
    let fine = subst AllFine c.edge-edge.ensures.value c.edge-edge.ensures.fine in
    c.loop-face.invariant.hits ∙ ap (λ fs. before ++ hits_with test edges faces h fs) all
    ∙ ap (λ r. before ++ r) (hits_near test edges faces (g.met.C.EdgeFace.apart c.args.pairs.now) c.tree.ensures.side h fine)
