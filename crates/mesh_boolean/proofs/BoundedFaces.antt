-- The faces of a side, one after the other, and the faces of both sides.
use Rattle.std.proofs.Common.{◌≡◌, ◌↔◌, ℕ, ℤ, Bool, true, ◌+◌, ◌-◌, ◌<◌, ◌≤◌, List, [], map, length, get_or, inl, inr, sym, ap, ◌∙◌, subst, arith}
use Rattle.std.proofs.lemmas.Bool.{cases_lt}
use Rattle.chain_terms.specs.Chains.{all_edges}
use Rattle.chain_terms.specs.Sums.{upto}
use Rattle.mesh_boolean.specs.Boundaries.{HaveOneBoundary}
use Rattle.places_by_key.specs.Buckets.{places_of}
use Rattle.places_by_key.proofs.Upto.{get_or-map-upto}
use Rattle.mesh_terms.specs.Meshes.{Triple}
use Rattle.side_terms.specs.Sides.{Side}
use Rattle.side_terms.specs.Lists.{Copy}
use Rattle.source_face_terms.specs.Segments.{source_count}
use Rattle.source_face_terms.specs.Filled.{face_segments}
use Rattle.source_faces.specs.declared.lists.runs.CopyRange.{CopyRange}
use Rattle.source_faces.specs.declared.lists.stands.Stand.{Stand}
use Rattle.source_faces.specs.Agreement.{records_of}
use Rattle.source_faces.specs.ListParts.{segments_by}
use Rattle.mesh_boolean.specs.Bounded.{HaveBoundaries}
use Rattle.mesh_boolean.specs.BoundedFaces.{HaveBoundariesFrom, chosen}
use Rattle.mesh_boolean.specs.Picked.{triples_of_face}
use Rattle.mesh_boolean.proofs.Chosen.{chosen_of_face}

-- the triangles at the places of source face x, which are known for each face below n, are those of the face
at_face : (source : List ℕ) (us : List Triple) (places : List (List ℕ)) (n x : ℕ) → length source ≡ length us →
    places ≡ map (places_of source) (upto n) → x < n → chosen us (get_or places x []) ≡ triples_of_face x source us
at_face source us places n x long gathered low =
    ap (λ (l : List (List ℕ)). chosen us (get_or l x [])) gathered
    ∙ ap (chosen us) (get_or-map-upto (places_of source) n x [] low) ∙ chosen_of_face x source us long

-- the same chains have the same boundaries
pub same_chains : (es fs ms ns : List (ℕ × ℕ)) → es ≡ fs → ms ≡ ns → HaveOneBoundary es ms → HaveOneBoundary fs ns
same_chains es fs ms ns e f h = subst (λ (l : List (ℕ × ℕ)). HaveOneBoundary l ns) e (subst (λ (l : List (ℕ × ℕ)). HaveOneBoundary es l) f h)

-- an answer that says whether two chains have one boundary says it of the same chains
pub same_answer : (answer : Bool) (es fs ms ns : List (ℕ × ℕ)) → es ≡ fs → ms ≡ ns → ((answer ≡ true) ↔ HaveOneBoundary es ms) →
    (answer ≡ true) ↔ HaveOneBoundary fs ns
same_answer answer es fs ms ns e f iff = ((λ h. same_chains es fs ms ns e f (iff.0 h)), (λ one. iff.1 (same_chains fs es ns ms (sym e) (sym f) one)))

-- the faces of a side, of which the first one is source face x, have their segments from runs and records
abbrev HaveTheirs : Side → Side → List Copy → List (List ℤ) → List Stand → Side → List CopyRange → ℕ → Type 0
HaveTheirs p q cs points stands side runs x =
    (f : ℕ) → f < length side.triples → segments_by side runs points f (records_of stands (x + f)) ≡ face_segments p q cs (x + f)

-- so do those of both sides, and the places of each source face's triangles are known
pub record AreTold (p q : Side) (cs : List Copy) (p_runs q_runs : List CopyRange) (points : List (List ℤ)) (stands : List Stand)
    (source : List ℕ) (us : List Triple) (places : List (List ℕ)) : Type 0 where
  pub long : length source ≡ length us
  pub gathered : places ≡ map (places_of source) (upto (source_count p q))
  pub p_same : HaveTheirs p q cs points stands p p_runs 0
  pub q_same : HaveTheirs p q cs points stands q q_runs (length p.triples)

-- what is asked of source face x
abbrev IsBounded : Side → Side → List Copy → List ℕ → List Triple → ℕ → Type 0
IsBounded p q cs source us x = HaveOneBoundary (all_edges (triples_of_face x source us)) (face_segments p q cs x)

-- the triangles at the places of a side's faces are bounded where those of its source faces are
one_side : (p q : Side) (cs : List Copy) (points : List (List ℤ)) (stands : List Stand) (source : List ℕ) (us : List Triple)
    (places : List (List ℕ)) (side : Side) (runs : List CopyRange) (x : ℕ) → length source ≡ length us →
    places ≡ map (places_of source) (upto (source_count p q)) → x + length side.triples ≤ source_count p q →
    HaveTheirs p q cs points stands side runs x →
    HaveBoundariesFrom side runs points x stands us places (length side.triples)
    ↔ ((f : ℕ) → f < length side.triples → IsBounded p q cs source us (x + f))
one_side p q cs points stands source us places side runs x long gathered within same =
    let theirs : (f : ℕ) → f < length side.triples →
    all_edges (chosen us (get_or places (x + f) [])) ≡ all_edges (triples_of_face (x + f) source us) =
    λ f low. ap all_edges (at_face source us places (source_count p q) (x + f) long gathered (omega (arith, low, within))) in (
      (λ all f low. same_chains _ _ _ _ (theirs f low) (same f low) (all f low)),
      (λ all f low. same_chains _ _ _ _ (sym (theirs f low)) (sym (same f low)) (all f low)),
    )

-- what holds of the faces of both sides holds of all source faces
of_all : (p q : Side) (P : ℕ → Type 0) → ((f : ℕ) → f < length p.triples → P (0 + f)) →
    ((g : ℕ) → g < length q.triples → P (length p.triples + g)) → (x : ℕ) → x < source_count p q → P x
of_all p q P first second x low = elim (cases_lt x (length p.triples)) as (λ _. P x) [
  | inl in_p ↦ subst P (omega arith) (first x in_p)
  | inr in_q ↦
      let m = length p.triples in subst P (omega (arith, in_q)) (second (x - m) (omega (arith, in_q, low)))
]

-- so the triangles at the places of both sides' faces are bounded where those of all source faces are
pub both_bounded : (p q : Side) (cs : List Copy) (p_runs q_runs : List CopyRange) (points : List (List ℤ)) (stands : List Stand)
    (source : List ℕ) (us : List Triple) (places : List (List ℕ)) → AreTold p q cs p_runs q_runs points stands source us places →
    (HaveBoundariesFrom p p_runs points 0 stands us places (length p.triples)
    × HaveBoundariesFrom q q_runs points (length p.triples) stands us places (length q.triples))
    ↔ HaveBoundaries p q cs source us
both_bounded p q cs p_runs q_runs points stands source us places told =
    let m = length p.triples in
    let first = one_side p q cs points stands source us places p p_runs 0 told.long told.gathered (omega arith) told.p_same in
    let second = one_side p q cs points stands source us places q q_runs m told.long told.gathered (omega arith) told.q_same in (
      (λ both. of_all p q (IsBounded p q cs source us) (first.0 both.0) (second.0 both.1)),
      (λ all. (first.1 (λ f low. all (0 + f) (omega (arith, low))), second.1 (λ g low. all (m + g) (omega (arith, low))))),
    )
