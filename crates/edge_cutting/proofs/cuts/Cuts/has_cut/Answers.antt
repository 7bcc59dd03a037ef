use Rattle.std.proofs.Common.{◌≡◌, ◌∙◌, [], ap, length, refl, sym}
use Rattle.mesh_terms.specs.Meshes.{triple_of}
use Rattle.edge_cutting.specs.Cut.{CutEdges}
use Rattle.edge_cutting.proofs.Pieced.{no_members, none_cut, none_gathered, some_cut}
use Rattle.edge_cutting.proofs.cuts.Cuts.has_cut.Goals as goal

pub returns-then-is_empty : goal.returns-then-is_empty
returns-then-is_empty c =
    let pieces = c.self.inside.pieces in
    let none : length pieces.edges.keys ≡ 0 = c.if-is_empty.ensures.0 refl in
    let places : c.args.self.now.places ≡ [] =
    ap (λ (v : CutEdges). v.places) (sym c.self.view_is) ∙ none_gathered pieces (no_members pieces.edges.keys none) c.self.invariant.1 in
    none_cut c.args.self.now places (triple_of c.args.triple)

pub returns : goal.returns
returns c = c.any_of.ensures ∙ some_cut c.args.self.now (triple_of c.args.triple) c.cuts.result c.cuts-2.result c.cuts-3.result c.cuts.ensures c.cuts-2.ensures c.cuts-3.ensures
