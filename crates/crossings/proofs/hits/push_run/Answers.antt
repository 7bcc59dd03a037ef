use Rattle.std.proofs.Common.{◌≡◌, ◌*◌, ◌<◌, ◌≤◌, ℕ, [], length, map, arith, ap, sym, subst, ◌∙◌}
use Rattle.std.specs.List.{All}
use Rattle.std.proofs.lemmas.Bool.{eqb-true}
use Rattle.std.proofs.lemmas.List.{nil_from_length}
use Rattle.mb_base.specs.Boxes.{box_of}
use Rattle.side_terms.specs.Sides.{face_at}
use Rattle.box_tree.specs.Touching.{touching_numbers}
use Rattle.crossings.specs.Hits.{hits_along}
use Rattle.crossings.specs.Near.{hits_with}
use Rattle.crossings.proofs.Nearby.{touching_below}
use Rattle.crossings.proofs.Passed.{passed_run, run_within}
use Rattle.crossings.proofs.hits.push_run.Goals as goal

pub find_boxes-requires : goal.find_boxes-requires
find_boxes-requires g c =
    let faces = c.args.faces.now in
    let near = c.deref.ensures.value ∙ c.in_ok-find_few.ensures.list c.if-not-branch.false ∙ ap (λ boxes. touching_numbers boxes c.box_round-area.result) c.tree.ensures.value in
    subst (All (λ f. f < length faces.triples)) (sym near) (touching_below faces c.box_round-area.result)

pub push_among-requires-clause-near : goal.push_among-requires-clause-near
push_among-requires-clause-near g c =
    let faces = c.args.faces.now in
    let near = c.in_ok-find_few.ensures.list c.if-not-branch.false ∙ ap (λ boxes. touching_numbers boxes c.box_round-area.result) c.tree.ensures.value in
    record {
      below = subst (All (λ f. f < length faces.triples)) (sym near) (touching_below faces c.box_round-area.result);
      boxed = c.in_ok-find_boxes.ensures ∙ ap (map (λ f. box_of (face_at faces f))) c.deref.ensures.value;
    }

pub push_among-requires-clause-all : goal.push_among-requires-clause-all
push_among-requires-clause-all g c h low high =
    let test = g.C.EdgeFace.crossing_of c.args.pairs.now in
    let edges = c.args.edges.now in
    let faces = c.args.faces.now in
    let apart = g.met.C.EdgeFace.apart c.args.pairs.now in
    let own = c.box_round-area.ensures in
    let near = c.in_ok-find_few.ensures.list c.if-not-branch.false ∙ ap (λ boxes. touching_numbers boxes c.box_round-area.result) c.tree.ensures.value in
    ap (hits_with test edges faces h) near
    ∙ run_within test edges faces apart own.side c.tree.ensures.side c.box_round-area.result c.args.from c.args.to c.requires.within own.round h low high

pub returns-then-is_empty : goal.returns-then-is_empty
returns-then-is_empty g c =
    let test = g.C.EdgeFace.crossing_of c.args.pairs.now in
    let edges = c.args.edges.now in
    let faces = c.args.faces.now in
    let apart = g.met.C.EdgeFace.apart c.args.pairs.now in
    let own = c.box_round-area.ensures in
    let few = c.in_ok-find_few.ensures.list c.if-not-branch.false ∙ ap (λ boxes. touching_numbers boxes c.box_round-area.result) c.tree.ensures.value in
    let near = c.find_few.new.near in
    let none : length near.items ≡ 0 = sym near.ok.0 ∙ eqb-true near.len 0 (sym c.is_empty.ensures ∙ c.if-is_empty.true) in
    let nothing = sym few ∙ nil_from_length near.items none in
    let each : (h : ℕ) → 3 * c.args.from ≤ h → h < 3 * c.args.to → hits_along test edges faces h ≡ [] =
    λ h low high.
    sym (run_within test edges faces apart own.side c.tree.ensures.side c.box_round-area.result c.args.from c.args.to c.requires.within own.round h low high)
    ∙ ap (hits_with test edges faces h) nothing in
    c.requires.before ∙ passed_run test edges faces (3 * c.args.from) (3 * c.args.to) (omega (arith, c.requires.order)) each
