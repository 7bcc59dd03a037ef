use Rattle.std.proofs.Common.{◌≡◌, ℕ, ◌+◌, ◌++◌, ◌<◌, List, [], false, length, get_or, take, arith, ap, sym, subst, ◌∙◌}
use Rattle.std.specs.List.{cons_option}
use Rattle.std.proofs.lemmas.List.{get_or-map, get_or_read, length-map, take_all}
use Rattle.mb_base.specs.declared.point.Box3.{Box3}
use Rattle.mb_base.specs.declared.point.Corner.{Corner}
use Rattle.mb_base.specs.declared.results.Hit.{Hit}
use Rattle.mb_base.specs.Boxes.{box_of}
use Rattle.side_terms.specs.Corners.{AllFine}
use Rattle.side_terms.specs.Sides.{edge_at, face_at, face_boxes}
use Rattle.box_tree.specs.Touching.{box_at, no_box, touches}
use Rattle.crossings.specs.Hits.{hit_of}
use Rattle.crossings.specs.Near.{hits_with}
use Rattle.crossings.proofs.Nearby.{face_box, none_beyond}
use Rattle.crossings.proofs.Rows.{along_more, along_none, more_added}
use Rattle.crossings.proofs.hits.push_hits_among.Goals as goal
use Rattle.crossings.proofs.hits.push_hits_among.Goals.{then-touch+in_ok-push_hit, else-touch}

pub loop-place-preserved : goal.loop-place-preserved
loop-place-preserved g c =
    let test = g.C.EdgeFace.crossing_of c.args.pairs.now in
    let edges = c.args.edges.now in
    let faces = c.args.faces.now in
    let near = c.args.near.now.faces.items in
    let h = c.args.half in
    let i = c.loop-place.place in
    let f = get_or near i 0 in
    let old = c.loop-place.hits.items in
    let before = c.args.hits.now.items in
    let rows : List ℕ → List Hit = hits_with test edges faces h in
    let inside : i < length near = omega (arith, c.loop-place-test.true, c.len-place-end.ensures, c.args.near.now.faces.ok.0) in
    let part : List Corner → List Hit = λ edge. cons_option (hit_of h f (test edge (face_at faces f))) [] in
    let more = along_more test edges faces h near i inside in
    elim c.if-touch.branch [
      | then-touch+in_ok-push_hit w ↦
          let face : w.index-then-touch.result.now ≡ f = get_or_read near i w.index-then-touch.result.now inside w.index-then-touch.ensures 0 in
          let hit : ℕ → List Hit = λ g. cons_option (hit_of h g (test c.edge-edge.result (face_at faces g))) [] in
          ap (λ v. v.items) w.hits-is
          ∙ more_added w.push_hit.new.hits.items old before (rows (take i near)) (rows (take (i + 1) near)) (part (edge_at edges h))
          (w.in_ok-push_hit.ensures ∙ ap (λ g. old ++ hit g) face ∙ ap (λ edge. old ++ part edge) c.edge-edge.ensures.value) c.loop-place.invariant more
      | else-touch w ↦
          let apart = g.met.C.EdgeFace.apart c.args.pairs.now in
          let below : f < length faces.triples = c.requires.near.below i 0 inside in
          let fine = subst AllFine c.edge-edge.ensures.value c.edge-edge.ensures.fine in
          let boxes = c.args.near.now.boxes.items in
          let as_many : length boxes ≡ length near = ap length c.requires.near.boxed ∙ length-map near (λ (f : ℕ). box_of (face_at faces f)) in
          let there : c.index.result.now ≡ box_at (face_boxes faces) f =
          get_or_read boxes i c.index.result.now (omega (arith, inside, as_many)) c.index.ensures no_box ∙ ap (λ (bs : List Box3). get_or bs i no_box) c.requires.near.boxed
          ∙ get_or-map (λ (f : ℕ). box_of (face_at faces f)) near i 0 no_box inside ∙ sym (face_box faces f below) in
          let area = box_of (edge_at edges h) in
          let own : c.box_of-area.result ≡ area = c.box_of-area.ensures.value ∙ ap box_of c.edge-edge.ensures.value in
          let far : touches (box_at (face_boxes faces) f) area ≡ false =
          subst (λ b. touches b area ≡ false) there (subst (λ a. touches c.index.result.now a ≡ false) own (sym c.touch.ensures.value ∙ w.if-touch.false)) in
          let none = none_beyond test edges faces apart c.requires.side h f fine below far in
          ap (λ v. v.items) w.hits-is ∙ c.loop-place.invariant ∙ ap (λ r. before ++ r) (sym (along_none test edges faces h near i inside (sym none)))
    ]

pub returns : goal.returns
returns g c =
    let near = c.args.near.now.faces.items in
    let before = c.args.hits.now.items in
    let rows = hits_with (g.C.EdgeFace.crossing_of c.args.pairs.now) c.args.edges.now c.args.faces.now c.args.half in
    c.loop-place.invariant
    ∙ ap (λ fs. before ++ rows fs) (take_all c.loop-place.place near (omega (arith, c.loop-place-test.false, c.len-place-end.ensures, c.args.near.now.faces.ok.0)))
