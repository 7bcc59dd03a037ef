-- What the clauses on source faces follow from: each filling is one of its face, and the triangles come back.
use Rattle.std.proofs.Common.{◌≡◌, ◌<◌, ◌+◌, inl, inr, ℕ, List, map, length, get_or, sym, ◌∙◌, ap, subst, arith}
use Rattle.std.specs.List.{All}
use Rattle.std.proofs.lemmas.Bool.{cases_lt}
use Rattle.std.proofs.lemmas.List.{get_or-map, get_or_past, length-map}
use Rattle.std.proofs.lemmas.List.Elements.{All-nil}
use Rattle.chain_terms.specs.Chains.{all_edges, boundary}
use Rattle.chain_terms.specs.Sums.{upto}
use Rattle.chain_laws.specs.Chains.{boundary_same}
use Rattle.chain_laws.proofs.Places.{get_or-up_from, length-up_from}
use Rattle.mesh_terms.specs.Meshes.{HasThree, Triple}
use Rattle.side_terms.specs.Sides.{Side}
use Rattle.side_terms.specs.Lists.{Copy}
use Rattle.source_face_terms.specs.Segments.{source_count}
use Rattle.source_face_terms.specs.Filled.{all_filled, all_triples, face_segments, filled_face, sources_of}
use Rattle.pinch_split.specs.Back.{named_by}
use Rattle.mesh_boolean.specs.Assembly.{AreFillings}
use Rattle.mesh_boolean.specs.Picked.{triples_of_face}
use Rattle.mesh_boolean.specs.Results.{AreBounded, face_triples}
use Rattle.mesh_boolean.proofs.Parts.{length-sources, named_at, no_part, part_at, sources_below}

-- as many fillings as source faces
pub length-filled : (p q : Side) (cs : List Copy) → length (all_filled p q cs) ≡ source_count p q
length-filled p q cs = length-map (upto (source_count p q)) (filled_face p q cs) ∙ length-up_from 0 (source_count p q)

-- the x-th is that of face x
filled_at : (p q : Side) (cs : List Copy) (x : ℕ) → x < source_count p q → get_or (all_filled p q cs) x no_part ≡ filled_face p q cs x
filled_at p q cs x below =
    let first : 0 + x ≡ x = omega arith in
    get_or-map (filled_face p q cs) (upto (source_count p q)) x 0 no_part (omega (arith, below, length-up_from 0 (source_count p q)))
    ∙ ap (filled_face p q cs) (get_or-up_from 0 (source_count p q) x 0 below ∙ first)

-- the triangles of a face over old vertices are those of its filling
faces_triples : (p q : Side) (cs : List Copy) (from source : List ℕ) (ts : List Triple) → source ≡ sources_of 0 (all_filled p q cs) →
    map (named_by from) ts ≡ all_triples (all_filled p q cs) →
    (x : ℕ) → face_triples from source ts x ≡ (get_or (all_filled p q cs) x no_part).triples
faces_triples p q cs from source ts numbers back x =
    named_at from x source ts ∙ (λ i. triples_of_face x (numbers i) (back i)) ∙ part_at x (all_filled p q cs)

-- so the triangles of each face are bounded by its segments
pub are_bounded : (p q : Side) (cs : List Copy) (from source : List ℕ) (ts : List Triple) → AreFillings p q cs → source ≡ sources_of 0 (all_filled p q cs) →
    map (named_by from) ts ≡ all_triples (all_filled p q cs) →
    AreBounded p q cs from source ts
are_bounded p q cs from source ts known numbers back = record {
  each = ap length numbers ∙ length-sources 0 (all_filled p q cs) ∙ ap length (sym back) ∙ length-map ts (named_by from);
  faces = subst (All (λ x. x < source_count p q)) (sym numbers) below;
  three = λ x. subst (All HasThree) (sym (at x)) (three x);
  bounded = λ x low a b. ap (λ l. boundary (all_edges l) a b) (at x ∙ ap (λ c. c.triples) (filled_at p q cs x low))
      ∙ boundary_same (all_edges (filled_face p q cs x).triples) (face_segments p q cs x) (known x low).chain a b;
}
  where
    at : (x : ℕ) → face_triples from source ts x ≡ (get_or (all_filled p q cs) x no_part).triples
    at x = faces_triples p q cs from source ts numbers back x

    below : All (λ x. x < source_count p q) (sources_of 0 (all_filled p q cs))
    below = λ i d low. omega (arith, sources_below 0 (all_filled p q cs) i d low, length-filled p q cs)

    three : (x : ℕ) → All HasThree (get_or (all_filled p q cs) x no_part).triples
    three x = elim (cases_lt x (source_count p q)) as (λ _. All HasThree (get_or (all_filled p q cs) x no_part).triples) [
      | inl low ↦ subst (λ c. All HasThree c.triples) (sym (filled_at p q cs x low)) (known x low).three
      | inr high ↦ subst (λ c. All HasThree c.triples) (sym (get_or_past (all_filled p q cs) x no_part (omega (arith, high, length-filled p q cs)))) (All-nil HasThree)
    ]
