-- The reduced mesh of an accepted one: without triangles that cancel, and without the points that no triangle uses then, it is accepted.
use Rattle.std.proofs.Common.{◌≡◌, ◌++◌, ◌∷◌, ℕ, suc, ℤ, List, [], length, subst, sym}
use Rattle.std.specs.List.{All}
use Rattle.std.proofs.lemmas.Bool.{cond_both}
use Rattle.std.proofs.lemmas.List.{length-map}
use Rattle.std.proofs.lemmas.List.Elements.{All-cons, All-head, All-nil, All-tail}
use Rattle.chain_terms.specs.Chains.{IsClosed, all_edges}
use Rattle.mesh_terms.specs.Given.{IsGiven}
use Rattle.mesh_terms.specs.Labels.{AreLabels}
use Rattle.mesh_terms.specs.Meshes.{Mesh, Triple, is_used, new_number, renumbered, used_from}
use Rattle.mesh_terms.specs.Points.{IsPoint}
use Rattle.mesh_check.specs.Orientations.{IsTriangle}
use Rattle.mesh_check.specs.Reduced.{kept_marks, kept_triples, picked, reduced}
use Rattle.mesh_check.proofs.Kept.{kept_closed}
use Rattle.mesh_check.proofs.ReducedMesh.{kept_sound, mesh_triangles}
use Rattle.tidy_laws.proofs.Numbered.{closed_numbered}
use Rattle.unused_points.specs.Used.{IsSound}
use Rattle.unused_points.proofs.KeptMesh.{kept_mesh}
use Rattle.split_laws.proofs.Labels.{kept_labels}

-- without triangles that cancel
abbrev reduced_mesh : Mesh → Mesh
reduced_mesh m = let s = reduced m.points m.triples m.labels in record { points = s.points; triples = s.triples; labels = s.labels }

-- what holds of all points holds of those that are used
used_all : (P : List ℤ → Type 0) (ts : List Triple) (v : ℕ) (points : List (List ℤ)) → All P points → All P (used_from ts v points)
used_all P ts v [] all = All-nil P
used_all P ts v (p ∷ ps) all =
    let rest = used_all P ts (suc v) ps (All-tail P p ps all) in
    cond_both (is_used ts v) (p ∷ []) [] (λ l. All P (l ++ used_from ts (suc v) ps)) (λ _. All-cons P p (used_from ts (suc v) ps) (All-head P p ps all) rest) (λ _. rest)

-- as many triples under new numbers
length-renumbered : (ts : List Triple) → length (renumbered ts) ≡ length ts
length-renumbered ts = length-map {B = Triple} ts (λ t. (new_number ts t.0, new_number ts t.1, new_number ts t.2))

-- triangles over some points, without the points that none of them uses
made_given : (points : List (List ℤ)) (ts : List Triple) (labels : List (List ℕ)) → All IsPoint points →
    IsSound (length points) ts → IsClosed (all_edges ts) → AreLabels (length ts) labels →
    IsGiven (record { points = used_from ts 0 points; triples = renumbered ts; labels = labels })
made_given points ts labels on sound closed are = record {
  accepted = record { mesh = kept_mesh ts points sound; closed = closed_numbered points ts sound.three closed sound.below };
  on_grid = used_all IsPoint ts 0 points on;
  labels = subst (λ n. AreLabels n labels) (sym (length-renumbered ts)) are;
}

pub reduced_given : (m : Mesh) → IsGiven m → IsGiven (reduced_mesh m)
reduced_given m given =
    let all : All IsTriangle m.triples = mesh_triangles (length m.points) m.triples given.accepted.mesh in
    made_given m.points (kept_triples m.triples) (picked (kept_marks m.triples) m.labels) given.on_grid (kept_sound (length m.points) m.triples given.accepted.mesh)
    (kept_closed m.triples all given.accepted.closed) (kept_labels m.triples m.labels given.labels)
