-- The reduced mesh: closed, without opposite triples, and the mesh itself where nothing is removed.
use Rattle.std.proofs.Common.{◌≡◌, ◌<◌, inl, inr, ℕ, ℤ, true, List, length, get_or, sym, ◌∙◌, ap, arith}
use Rattle.std.specs.Prelude.{◌==◌, ◌&&◌, ◌||◌}
use Rattle.std.specs.List.{All, Contains}
use Rattle.std.proofs.lemmas.Bool.{cases_eq, eq-eqb, ne_eqb}
use Rattle.std.proofs.lemmas.List.{get_or-map, get_or_default, length-map}
use Rattle.std.proofs.lemmas.List.Elements.{All-contains}
use Rattle.chain_terms.specs.Chains.{all_edges, IsClosed}
use Rattle.chain_laws.specs.Triples.{closed-renamed_triples}
use Rattle.mesh_terms.specs.Meshes.{Triple, HasThree, IsMesh, IsBelow, is_used, new_number, renumbered, soup_of}
use Rattle.unused_points.specs.Used.{IsSound}
use Rattle.unused_points.proofs.AllUsed.{soup_of-all}
use Rattle.unused_points.proofs.KeptMesh.{numbered}
use Rattle.unused_points.proofs.Numbers.{number_known, AreUsed, all_used}
use Rattle.mesh_check.specs.Orientations.{IsTriangle}
use Rattle.mesh_check.specs.Reduced.{opposite, kept_marks, kept_triples, picked, reduced, NoOpposite}
use Rattle.mesh_check.proofs.KeptMarks.{kept_by_marks, picked_others}
use Rattle.mesh_check.proofs.Kept.{kept_all, length-kept, kept_no_opposite, kept_closed}

-- the triples of a mesh are triangles below 2^32
pub mesh_triangles : (n : ℕ) (ts : List Triple) → IsMesh n ts → All IsTriangle ts
mesh_triangles n ts mesh = λ i d low. one (get_or ts i d) (mesh.three i d low) (mesh.below i d low)
  where
    one : (t : Triple) → HasThree t → IsBelow n t → IsTriangle t
    one t three below =
        record {
          three = three;
          narrow =
              record { a = omega (arith, below.a, mesh.few_points); b = omega (arith, below.b, mesh.few_points); c = omega (arith, below.c, mesh.few_points) };
        }

-- the kept ones name three different points, and are not too many
pub kept_sound : (n : ℕ) (ts : List Triple) → IsMesh n ts → IsSound n (kept_triples ts)
kept_sound n ts mesh = record {
  three = kept_all HasThree ts 0 ts mesh.three;
  below = kept_all (IsBelow n) ts 0 ts mesh.below;
  few_points = mesh.few_points;
  few_triples = omega (arith, length-kept ts 0 ts, mesh.few_triples);
}

-- used points are the same where their numbers are
same_number : (ts : List Triple) (u v : ℕ) → is_used ts u ≡ true → is_used ts v ≡ true → (new_number ts u == new_number ts v) ≡ (u == v)
same_number ts u v used_u used_v = elim (cases_eq u v) as (λ _. (new_number ts u == new_number ts v) ≡ (u == v)) [
  | inl e ↦ eq-eqb (new_number ts u) (new_number ts v) (ap (new_number ts) e) ∙ sym (eq-eqb u v e)
  | inr n ↦ ne_eqb (new_number ts u) (new_number ts v) (λ e. n (number_known ts u v used_u used_v e)) ∙ sym (ne_eqb u v n)
]

-- triples of used points are opposite where they are with the new numbers
opposite_numbered : (ts : List Triple) (s t : Triple) → AreUsed ts s → AreUsed ts t → opposite (numbered ts s) (numbered ts t) ≡ opposite s t
opposite_numbered ts s t p q =
    let aa = same_number ts s.0 t.0 p.a q.a in
    let ab = same_number ts s.0 t.1 p.a q.b in
    let ac = same_number ts s.0 t.2 p.a q.c in
    let ba = same_number ts s.1 t.0 p.b q.a in
    let bb = same_number ts s.1 t.1 p.b q.b in
    let bc = same_number ts s.1 t.2 p.b q.c in
    let ca = same_number ts s.2 t.0 p.c q.a in
    let cb = same_number ts s.2 t.1 p.c q.b in
    let cc_ = same_number ts s.2 t.2 p.c q.c in
    λ i. (aa i && bc i && cb i) || (ac i && bb i && ca i) || (ab i && ba i && cc_ i)

-- a triple with the new numbers was a triple
record WasTriple (ts : List Triple) (t : Triple) : Type 0 where
  before : Triple
  inside : Contains ts before
  is : t ≡ numbered ts before

was_triple : (ts : List Triple) (t : Triple) → Contains (renumbered ts) t → WasTriple ts t
was_triple ts t (k, low, is) =
    let within : k < length ts = omega (arith, low, length-map ts (numbered ts)) in
    record {
      before = get_or ts k (0, 0, 0);
      inside = (k, within, get_or_default ts k (get_or ts k (0, 0, 0)) (0, 0, 0) within);
      is = sym is
          ∙ get_or-map (numbered ts) ts k (0, 0, 0) t within;
    }

-- so no two are opposite with the new numbers where none were
pub renumbered_no_opposite : (ts : List Triple) → NoOpposite ts → NoOpposite (renumbered ts)
renumbered_no_opposite ts none s t has_s has_t =
    let p = was_triple ts s has_s in
    let q = was_triple ts t has_t in
    let used : (u : Triple) → Contains ts u → AreUsed ts u = λ u inside. All-contains (AreUsed ts) ts u (all_used ts) inside in
    (λ i. opposite (p.is i) (q.is i)) ∙ opposite_numbered ts p.before q.before (used p.before p.inside) (used q.before q.inside) ∙ none p.before q.before p.inside q.inside

-- the reduced mesh has no opposite triples
pub reduced_no_opposite : (points : List (List ℤ)) (ts : List Triple) (labels : List (List ℕ)) → IsMesh (length points) ts → NoOpposite (reduced points ts labels).triples
reduced_no_opposite points ts labels mesh = renumbered_no_opposite (kept_triples ts) (kept_no_opposite ts (mesh_triangles (length points) ts mesh))

-- and is closed where the mesh is
pub reduced_closed : (points : List (List ℤ)) (ts : List Triple) (labels : List (List ℕ)) → IsMesh (length points) ts → IsClosed (all_edges ts) →
    IsClosed (all_edges (reduced points ts labels).triples)
reduced_closed points ts labels mesh closed =
    closed-renamed_triples (new_number (kept_triples ts)) (kept_triples ts) (kept_closed ts (mesh_triangles (length points) ts mesh) closed)

-- a mesh of which each triple is kept is its own reduced mesh
pub reduced_itself : (points : List (List ℤ)) (ts : List Triple) (labels : List (List ℕ)) → IsMesh (length points) ts → length labels ≡ length ts → kept_triples ts ≡ ts →
    reduced points ts labels ≡ record { points = points; triples = ts; labels = labels; unused = 0 }
reduced_itself points ts labels mesh count same =
    let stay : picked (kept_marks ts) labels ≡ labels = picked_others (kept_marks ts) ts labels count (sym (ap length (kept_by_marks ts)) ∙ ap length same) in
    (λ i. soup_of points (same i) (stay i)) ∙ soup_of-all points ts labels mesh.below mesh.used
