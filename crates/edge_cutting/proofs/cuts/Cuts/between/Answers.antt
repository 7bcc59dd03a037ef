use Rattle.std.proofs.Common.{◌≡◌, ◌∙◌, [], ◌∷◌, Some, None, ap, arith, nat_eq, position, sym}
use Rattle.std.specs.Cmp.Lexicographic.{pointwise}
use Rattle.edge_cutting.specs.Cut.{places_between}
use Rattle.edge_cutting.proofs.Pieced.{part_told, part_untold, position_told}
use Rattle.edge_cutting.proofs.cuts.Cuts.between.Goals as goal

pub places-requires-clause-ends : goal.places-requires-clause-ends
places-requires-clause-ends c = c.self.invariant.0

pub places-requires-clause-edge : goal.places-requires-clause-edge
places-requires-clause-edge c =
    let keys = c.self.inside.pieces.edges.keys in
    let told : position (pointwise nat_eq (c.args.a ∷ c.args.b ∷ [])) keys ≡ Some c.in-Some.edge = sym c.get_index_of.ensures.index ∙ c.in-Some.is in
    omega (arith, (position_told (pointwise nat_eq (c.args.a ∷ c.args.b ∷ [])) keys c.in-Some.edge told).1, c.self.invariant.1)

pub returns-in-Some : goal.returns-in-Some
returns-in-Some c =
    let keys = c.self.inside.pieces.edges.keys in
    let told : position (pointwise nat_eq (c.args.a ∷ c.args.b ∷ [])) keys ≡ Some c.in-Some.edge = sym c.get_index_of.ensures.index ∙ c.in-Some.is in
    c.places.ensures ∙ part_told c.self.inside.pieces (c.args.a ∷ c.args.b ∷ []) c.in-Some.edge c.self.invariant.1 told
    ∙ ap (λ v. places_between v c.args.a c.args.b) c.self.view_is

pub returns-in-None : goal.returns-in-None
returns-in-None c =
    let keys = c.self.inside.pieces.edges.keys in
    let untold : position (pointwise nat_eq (c.args.a ∷ c.args.b ∷ [])) keys ≡ None = sym c.get_index_of.ensures.index ∙ c.in-None.is in
    part_untold c.self.inside.pieces (c.args.a ∷ c.args.b ∷ []) c.self.invariant.1 untold ∙ ap (λ v. places_between v c.args.a c.args.b) c.self.view_is
