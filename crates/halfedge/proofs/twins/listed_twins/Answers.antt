use Rattle.std.proofs.Common.{◌≡◌, Option, None, Some, refl, sym, ◌∙◌}
use Rattle.std.specs.Prelude.{IsNone}
use Rattle.chain_terms.specs.Chains.{all_edges}
use Rattle.mesh_terms.specs.Meshes.{triples_of}
use Rattle.halfedge.proofs.OpenPair.{closed_from_open_pair}
use Rattle.halfedge.proofs.twins.listed_twins.Goals as goal

-- what is not something is nothing
none_if : {X : Type 0} (o : Option X) → ((x : X) → o ≡ Some x → ⊥) → IsNone o
none_if None never = refl
none_if (Some x) never = absurd (never x refl)

-- triangles without an open edge are closed, and then they were paired
pub unreachable-requires : goal.unreachable-requires
unreachable-requires c =
    let closed = closed_from_open_pair (all_edges (triples_of c.args.triples.now)) (sym c.in_ok-from.ensures ∙ c.in-None.is) in
    c.in_ok-found.ensures.none (none_if _ c.in_default.not-Some) closed
