use Rattle.std.proofs.Common.{rules, ◌≡◌, inl, inr, ℤ, List, length, sym, ◌∙◌, ap, subst}
use Rattle.std.proofs.lemmas.Bool.{false≢true}
use Rattle.chain_terms.specs.Chains.{all_edges, IsClosed}
use Rattle.chain_laws.specs.Triples.{closed-renamed_triples}
use Rattle.mesh_terms.specs.Labels.{no_labels}
use Rattle.mesh_terms.specs.Meshes.{Soup, Triple, new_number, soup_of, triples_of}
use Rattle.unused_points.specs.Used.{IsSound}
use Rattle.mesh_check.proofs.marks.mesh_of_used.Goals as goal

-- the soup that was made is that of these points
soup_is : (points read : List (List ℤ)) (ts : List Triple) (soup : Soup) → soup ≡ soup_of read ts (no_labels ts) → read ≡ points → soup ≡ soup_of points ts (no_labels ts)
soup_is points read ts soup made same = made ∙ ap (λ l. soup_of l ts (no_labels ts)) same

pub without_unused-requires : goal.without_unused-requires
without_unused-requires c =
    let same : c.in_ok-points.points.items ≡ c.args.points.now = search rules in
    subst (λ l. IsSound (length l) (triples_of c.args.triples.items)) (sym same) c.requires.sound

pub returns-in-Ok-clause-points : goal.returns-in-Ok-clause-points
returns-in-Ok-clause-points c =
    let same : c.in_ok-points.points.items ≡ c.args.points.now = search rules in
    c.in-Ok.ensures.points ∙ ap (λ (s : Soup). s.points)
    (soup_is c.args.points.now c.in_ok-points.points.items (triples_of c.args.triples.items) c.in_ok-soup.soup c.in_ok-soup.ensures same)

pub returns-in-Ok-clause-triples : goal.returns-in-Ok-clause-triples
returns-in-Ok-clause-triples c = c.in-Ok.ensures.triples ∙ ap (λ (s : Soup). s.triples) c.in_ok-soup.ensures

pub returns-in-Ok-clause-labels : goal.returns-in-Ok-clause-labels
returns-in-Ok-clause-labels c = c.in-Ok.ensures.labels ∙ ap (λ (s : Soup). s.labels) c.in_ok-soup.ensures

pub unreachable-requires : goal.unreachable-requires
unreachable-requires c =
    let ts = triples_of c.args.triples.items in
    let closed : IsClosed (all_edges c.in_ok-soup.soup.triples) =
    subst (λ (s : Soup). IsClosed (all_edges s.triples)) (sym c.in_ok-soup.ensures) (closed-renamed_triples (new_number ts) ts c.requires.closed) in
    let is = c.in-Err-OpenEdge.field-0-is in
    elim (c.in-Err-OpenEdge.ensures.accepts closed) [
      | inl wrong ↦ absurd (false≢true wrong)
      | inr other ↦ absurd (cc)
    ]
