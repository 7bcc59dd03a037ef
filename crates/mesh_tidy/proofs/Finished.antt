-- The mesh at the end: as it was where nothing is in doubt, and the one of what is left after all collapses.
use Rattle.std.proofs.Common.{◌≡◌, ℕ, ℤ, List, [], length, refl, sym, ap, subst, ◌∙◌}
use Rattle.std.specs.List.{All}
use Rattle.mesh_terms.specs.Meshes.{IsAccepted, Mesh, Soup, Triple, soup_of}
use Rattle.tidy_terms.specs.Tidy.{Tidied, tidied, tidy_mesh}
use Rattle.tidy_laws.specs.Laws.{IsTidyMesh}
use Rattle.tidy_laws.proofs.Steps.{tidied_rests}
use Rattle.tidy_laws.proofs.TidyMeshes.{sound, tidy_meshes}
use Rattle.unused_points.specs.Used.{IsSound}
use Rattle.unused_points.proofs.AllUsed.{soup_of-all}
use Rattle.mesh_tidy.specs.Doubts.{HasLesserAtOne}
use Rattle.mesh_tidy.specs.TidySurface.{TidySurface, HasTidied, labels_of, left_of}
use Rattle.mesh_tidy.proofs.Done.{listed_rests}

-- the mesh of tidied triangles over these points
abbrev pub mesh_of : List (List ℤ) → Tidied → Mesh
mesh_of points t = let s = soup_of points t.triples t.labels in record { points = s.points; triples = s.triples; labels = s.labels }

module _ (m : Mesh) (each : All (λ p. length p ≡ 3) m.points) (accepted : IsAccepted (length m.points) m.triples) where
  -- where nothing is in doubt nothing is done
  pub nothing_done : HasLesserAtOne m.points m.triples [] → tidied m.points m.triples m.labels ≡ record { triples = m.triples; labels = m.labels; collapses = 0 }
  nothing_done listed = tidied_rests m.points each m.triples m.labels (listed_rests m.points each m.triples listed)

  pub same_mesh : HasLesserAtOne m.points m.triples [] → m ≡ tidy_mesh m
  same_mesh listed =
      sym (ap (mesh_of m.points) (nothing_done listed)
      ∙ ap (λ (s : Soup). record { points = s.points; triples = s.triples; labels = s.labels }) (soup_of-all m.points m.triples m.labels accepted.mesh.below accepted.mesh.used))

  -- a mesh that is the tidied one is what the law says of it
  pub tidy_law : (t : Mesh) → t ≡ tidy_mesh m → IsTidyMesh m t
  tidy_law t is = subst (IsTidyMesh m) (sym is) (tidy_meshes m each accepted)

  -- a surface of the whole mesh, and what is left of it
  module _ (first last : TidySurface) (n : ℕ) (whole : left_of first ≡ m.triples) (all : labels_of first m.labels ≡ m.labels)
      (labels : length m.labels ≡ length first.triples) (has : HasTidied m.points first last n) where
    pub told : tidied m.points m.triples m.labels ≡ record { triples = left_of last; labels = labels_of last m.labels; collapses = n }
    told = sym (λ i. tidied m.points (whole i) (all i)) ∙ has m.labels labels

    pub sound_left : IsSound (length m.points) (left_of last)
    sound_left = subst (IsSound (length m.points)) (ap (λ (t : Tidied). t.triples) told) (sound m each accepted)

    pub made_mesh : (t : Mesh) → t.points ≡ (soup_of m.points (left_of last) (labels_of last m.labels)).points →
        t.triples ≡ (soup_of m.points (left_of last) (labels_of last m.labels)).triples →
        t.labels ≡ (soup_of m.points (left_of last) (labels_of last m.labels)).labels → t ≡ tidy_mesh m
    made_mesh t p q r = (λ i. record { points = p i; triples = q i; labels = r i }) ∙ sym (ap (mesh_of m.points) told)

    pub made_count : (k : ℕ) → k ≡ n → k ≡ (tidied m.points m.triples m.labels).collapses
    made_count k e = e ∙ sym (ap (λ (t : Tidied). t.collapses) told)
