use Rattle.std.proofs.Common.{ℕ, ◌<◌, List, length, get_or, ap, sym, subst, ◌∙◌}
use Rattle.side_terms.specs.Sides.{edge_of}
use Rattle.cross_section.proofs.numbers.side.FlatSide.edge.Goals as goal

pub way-requires-clause-from : goal.way-requires-clause-from
way-requires-clause-from c =
    let side = c.args.self.now in
    subst (λ (es : List (ℕ × ℕ)). (get_or es c.args.number (0, 0)).0 < length side.corners)
    (sym c.edges.ensures.value) (c.edges.ensures.side.below c.args.number (0, 0) c.requires).0

pub way-requires-clause-to : goal.way-requires-clause-to
way-requires-clause-to c =
    let side = c.args.self.now in
    subst (λ (es : List (ℕ × ℕ)). (get_or es c.args.number (0, 0)).1 < length side.corners)
    (sym c.edges.ensures.value) (c.edges.ensures.side.below c.args.number (0, 0) c.requires).1

pub returns-clause-value : goal.returns-clause-value
returns-clause-value c =
    c.way.ensures.value ∙ ap (λ (es : List (ℕ × ℕ)). let e = get_or es c.args.number (0, 0) in edge_of c.args.self.now.corners e.0 e.1) c.edges.ensures.value
