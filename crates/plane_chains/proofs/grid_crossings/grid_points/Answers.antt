use Rattle.std.proofs.Common.{[], ap, get_or, map, ◌∙◌, List, ℕ, ℤ}
use Rattle.std.specs.List.{flat_map}
use Rattle.std.proofs.lemmas.List.{take_all}
use Rattle.face_plane.specs.Planes.{face_plane}
use Rattle.sheet_terms.specs.Chains.{crossing_point}
use Rattle.plane_chains.specs.EdgeBoxes.{pair_of}
use Rattle.plane_chains.specs.Pairs.{edge_at}
use Rattle.plane_chains.proofs.GridPoints.{found_more}
use Rattle.plane_chains.proofs.PartWays.{crossing_at, crossing_first, crossing_second, grid_more}
use Rattle.plane_chains.proofs.grid_crossings.grid_points.Goals as goal

pub pair_point-requires-clause-one : goal.pair_point-requires-clause-one
pair_point-requires-clause-one c =
    let flat = c.args.flat.now in
    let at = face_plane flat.plane.drop flat.turned flat.points.now in
    let k = c.loop-pair.pair-index in
    crossing_first at c.args.edges.now (pair_of (get_or c.args.pairs.now k [])) (crossing_at at c.args.edges.now c.args.pairs.now k c.requires.crossing c.loop-pair-test.true)

pub pair_point-requires-clause-other : goal.pair_point-requires-clause-other
pair_point-requires-clause-other c =
    let flat = c.args.flat.now in
    let at = face_plane flat.plane.drop flat.turned flat.points.now in
    let k = c.loop-pair.pair-index in
    crossing_second at c.args.edges.now (pair_of (get_or c.args.pairs.now k [])) (crossing_at at c.args.edges.now c.args.pairs.now k c.requires.crossing c.loop-pair-test.true)

pub pair_point-requires-clause-crosses : goal.pair_point-requires-clause-crosses
pair_point-requires-clause-crosses c =
    let flat = c.args.flat.now in
    let at = face_plane flat.plane.drop flat.turned flat.points.now in
    (crossing_at at c.args.edges.now c.args.pairs.now c.loop-pair.pair-index c.requires.crossing c.loop-pair-test.true).crosses

pub loop-pair-preserved : goal.loop-pair-preserved
loop-pair-preserved c =
    let flat = c.args.flat.now in
    let at = face_plane flat.plane.drop flat.turned flat.points.now in
    let edges = c.args.edges.now in
    let f : List ℕ → List (List ℤ) = λ p. crossing_point flat.points.now at (edge_at (map pair_of edges) (pair_of p).0) (edge_at (map pair_of edges) (pair_of p).1) in
    record {
      points = found_more f c.args.pairs.now c.loop-pair.pair-index c.loop-pair.found.items c.add.new.found.items c.pair_point.result c.loop-pair-test.true
          c.loop-pair.invariant.points c.pair_point.ensures.point c.in_ok-add.ensures;
      grid = grid_more c.loop-pair.found.items c.add.new.found.items c.pair_point.result c.in_ok-add.ensures c.loop-pair.invariant.grid c.pair_point.ensures.grid;
    }

pub returns-clause-points : goal.returns-clause-points
returns-clause-points c =
    let flat = c.args.flat.now in
    let at = face_plane flat.plane.drop flat.turned flat.points.now in
    let edges = c.args.edges.now in
    c.loop-pair.invariant.points
    ∙ ap (flat_map (λ p. crossing_point flat.points.now at (edge_at (map pair_of edges) (pair_of p).0) (edge_at (map pair_of edges) (pair_of p).1)))
    (take_all c.loop-pair.pair-index c.args.pairs.now c.loop-pair-test.false)
