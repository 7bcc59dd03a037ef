use Rattle.std.proofs.Common.{◌≡◌, ◌∙◌, ℤ, List, ap, inl, inr, length, rules, subst, sym, false}
use Rattle.std.proofs.lemmas.Bool.{cases_Bool, false≢true}
use Rattle.chain_terms.specs.Chains.{IsClosed, all_edges}
use Rattle.mesh_terms.specs.Labels.{no_labels}
use Rattle.mesh_terms.specs.Meshes.{Soup, Triple, renumbered, soup_of, triples_of}
use Rattle.sheet_terms.specs.Remesh.{is_closed}
use Rattle.unused_points.specs.Used.{IsSound}
use Rattle.plane_remesh.proofs.Closed.{closed_after, closed_before, closed_tested, tested_closed}
use Rattle.plane_remesh.proofs.made.closed_mesh.Goals as goal

-- the soup that was made is that of these points
soup_is : (points read : List (List ℤ)) (ts : List Triple) (soup : Soup) → soup ≡ soup_of read ts (no_labels ts) → read ≡ points → soup ≡ soup_of points ts (no_labels ts)
soup_is points read ts soup made same = made ∙ ap (λ l. soup_of l ts (no_labels ts)) same

pub without_unused-requires : goal.without_unused-requires
without_unused-requires c =
    let same : c.in_ok-points.points.items ≡ c.args.points.now = search rules in
    subst (λ l. IsSound (length l) (triples_of c.args.triples.items)) (sym same) c.requires

pub returns-in-Ok : goal.returns-in-Ok
returns-in-Ok c =
    let ts = triples_of c.args.triples.items in
    let same : c.in_ok-points.points.items ≡ c.args.points.now = search rules in
    let is = soup_is c.args.points.now c.in_ok-points.points.items ts c.in_ok-soup.soup c.in_ok-soup.ensures same in
    let closed : IsClosed (all_edges (renumbered ts)) = subst (λ (s : Soup). IsClosed (all_edges s.triples)) is c.in-Ok.ensures.closed in (
      closed_tested (all_edges ts) (closed_before ts closed),
      record {
        used = c.in-Ok.ensures.points ∙ ap (λ (s : Soup). s.points) is;
        triples = c.in-Ok.ensures.triples ∙ ap (λ (s : Soup). s.triples) is;
        labels = c.in-Ok.ensures.labels ∙ ap (λ (s : Soup). s.labels) is;
      },
    )

pub returns-in-Err-OpenEdge : goal.returns-in-Err-OpenEdge
returns-in-Err-OpenEdge c =
    let ts = triples_of c.args.triples.items in
    elim (cases_Bool (is_closed (all_edges ts))) as (λ _. is_closed (all_edges ts) ≡ false) [
      | inl is_so ↦
          let closed : IsClosed (all_edges c.in_ok-soup.soup.triples) =
          subst (λ (s : Soup). IsClosed (all_edges s.triples)) (sym c.in_ok-soup.ensures) (closed_after ts (tested_closed (all_edges ts) is_so)) in
          let is = c.in-Err-OpenEdge.field-0-is in
          elim (c.in-Err-OpenEdge.ensures.accepts closed) [
            | inl wrong ↦ absurd (false≢true wrong)
            | inr other ↦ absurd (cc)
          ]
      | inr not_so ↦ not_so
    ]
