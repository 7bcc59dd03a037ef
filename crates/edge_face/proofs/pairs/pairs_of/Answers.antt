use Rattle.std.proofs.Common.{arith}
use Rattle.side_terms.specs.Corners.{corner_at, blank_corner, IsFineCorner}
use Rattle.shadow_kernels.specs.FinePairs.{fine_one}
use Rattle.edge_face.specs.Parts.{first_edge, second_edge, third_edge}
use Rattle.edge_face.specs.Sides.{pairs_on, met_on}
use Rattle.edge_face.proofs.Five.{AreKnown, counts_known}
use Rattle.edge_face.proofs.Kept.{fine_edge, fine_face}
use Rattle.edge_face.proofs.pairs.pairs_of.Given.{Over}
use Rattle.edge_face.proofs.pairs.pairs_of.Goals.{After-counts-counts}
use Rattle.edge_face.proofs.pairs.pairs_of.Goals as goal

-- the counts from which the pairs are made
known : (g : Over) (c : After-counts-counts g) →
    AreKnown c.counts-counts.result (pairs_on c.args.of (g.K.Rules.rule_of c.args.kernel.now) (g.K.Rounding.between_of c.args.kernel.now) c.args.edge.now c.args.face.now)
known g c =
    let s = c.args.edge.now in
    let f = c.args.face.now in
    counts_known (met_on c.args.of (g.met.K.Rules.lawful c.args.kernel.now)) (corner_at s 0) (corner_at s 1) (corner_at f 0) (corner_at f 1) (corner_at f 2)
    (fine_edge s c.told-edge c.requires.edge_fine) (fine_face f c.told-face c.requires.face_fine)
    c.vertex_edges-start.result c.vertex_edges-end.result c.edge_vertices-at.result c.counts-counts.result c.counts-counts.ensures
    c.vertex_edges-start.ensures.value c.vertex_edges-end.ensures.value c.edge_vertices-at.ensures.value

pub face_pair-requires-clause-known : goal.face_pair-requires-clause-known
face_pair-requires-clause-known g c = (known g (goal.at.face_pair-requires-clause-known g c).After-counts-counts).start

pub face_pair-requires-2-clause-known : goal.face_pair-requires-2-clause-known
face_pair-requires-2-clause-known g c = (known g (goal.at.face_pair-requires-2-clause-known g c).After-counts-counts).end

pub edge_pair-requires-clause-known : goal.edge_pair-requires-clause-known
edge_pair-requires-clause-known g c = (known g (goal.at.edge_pair-requires-clause-known g c).After-counts-counts).first

pub edge_pair-requires-2-clause-known : goal.edge_pair-requires-2-clause-known
edge_pair-requires-2-clause-known g c = (known g (goal.at.edge_pair-requires-2-clause-known g c).After-counts-counts).second

pub edge_pair-requires-3-clause-known : goal.edge_pair-requires-3-clause-known
edge_pair-requires-3-clause-known g c = (known g (goal.at.edge_pair-requires-3-clause-known g c).After-counts-counts).third

pub face_pair-requires-2-clause-vertex_fine : goal.face_pair-requires-2-clause-vertex_fine
face_pair-requires-2-clause-vertex_fine g c = fine_one (corner_at c.args.edge.now 1) (c.requires.edge_fine 1 blank_corner (omega (arith, c.told-edge)))

pub edge_pair-requires-clause-other_fine : goal.edge_pair-requires-clause-other_fine
edge_pair-requires-clause-other_fine g c =
    let f = c.args.face.now in first_edge (corner_at f 0) (corner_at f 1) (corner_at f 2) IsFineCorner (fine_face f c.told-face c.requires.face_fine)

pub edge_pair-requires-2-clause-other_fine : goal.edge_pair-requires-2-clause-other_fine
edge_pair-requires-2-clause-other_fine g c =
    let f = c.args.face.now in second_edge (corner_at f 0) (corner_at f 1) (corner_at f 2) IsFineCorner (fine_face f c.told-face c.requires.face_fine)

pub edge_pair-requires-3-clause-other_fine : goal.edge_pair-requires-3-clause-other_fine
edge_pair-requires-3-clause-other_fine g c =
    let f = c.args.face.now in third_edge (corner_at f 0) (corner_at f 1) (corner_at f 2) IsFineCorner (fine_face f c.told-face c.requires.face_fine)

pub returns : goal.returns
returns g c = (c.face_pair.ensures, c.face_pair-2.ensures, c.edge_pair.ensures, c.edge_pair-2.ensures, c.edge_pair-3.ensures)
