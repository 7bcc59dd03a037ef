use Rattle.std.proofs.Common.{◌≡◌, ℕ, length, sym, ap, subst, ◌∙◌}
use Rattle.std.specs.Option.{is_some}
use Rattle.std.proofs.lemmas.List.{length-map}
use Rattle.mesh_terms.specs.Meshes.{triple_of, triples_of}
use Rattle.source_faces.proofs.Groups.{none_first}
use Rattle.mesh_boolean.specs.BoundedFaces.{HaveBoundariesFrom}
use Rattle.mesh_boolean.proofs.bounded.all.both_are_bounded.Goals as goal

pub end_of_bounded-requires-clause-begin : goal.end_of_bounded-requires-clause-begin
end_of_bounded-requires-clause-begin c = sym (none_first c.args.stands.now)

-- the faces of the second side follow those of the first
pub returns : goal.returns
returns c =
    let q = c.args.q.now in
    let us = triples_of c.args.triples.now in
    let counted : length c.triples.result.now ≡ length c.args.p.now.triples =
    sym (length-map c.triples.result.now triple_of) ∙ ap length c.triples.ensures.value in
    let From : ℕ → Type 0 =
    λ x. HaveBoundariesFrom q c.args.q_runs.now c.args.points.now x c.args.stands.now us c.args.places.now (length q.triples) in
    let first = c.in_ok-begin.ensures.bounded in
    let second = c.in_ok-end.ensures.bounded in (
      (λ e. (first.0 (ap is_some c.in-Some.is), subst From counted (second.0 (sym c.is_some.ensures ∙ e)))),
      (λ both. c.is_some.ensures ∙ second.1 (subst From (sym counted) both.1)),
    )
