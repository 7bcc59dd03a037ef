-- The tidied mesh: accepted, clean where the given one is, nothing left to collapse, the same at three different points.
use Rattle.std.proofs.Common.{◌≡◌, ℕ, ◌*◌, ◌<◌, inl, inr, false, List, length, ◌∙◌, arith}
use Rattle.std.specs.List.{All}
use Rattle.std.proofs.lemmas.Bool.{both_ways, cases_Bool}
use Rattle.std.proofs.lemmas.List.{length-map}
use Rattle.chain_laws.specs.Triples.{renamed_triple}
use Rattle.halfedge.proofs.Edges.{length-all_edges}
use Rattle.mesh_terms.specs.Meshes.{IsAccepted, IsMesh, Mesh, Triple, new_number, renumbered, used_from}
use Rattle.tidy_terms.specs.Collapsible.{is_collapsible}
use Rattle.tidy_terms.specs.Tidy.{tidied, tidy_mesh}
use Rattle.tidy_laws.specs.Laws.{IsTidyMesh}
use Rattle.tidy_laws.proofs.Numbered.{clean_numbered, closed_numbered, count_numbered, volume_numbered, was_collapsible_numbered}
use Rattle.tidy_laws.proofs.Tidying.{IsTidied, tidying}
use Rattle.unused_points.specs.Used.{IsSound}
use Rattle.unused_points.proofs.KeptMesh.{kept_mesh}

module _ (m : Mesh) (each : All (λ p. length p ≡ 3) m.points) (accepted : IsAccepted (length m.points) m.triples) where
  abbrev pub us : List Triple
  us = (tidied m.points m.triples m.labels).triples

  pub told : IsTidied m.points each m.triples us
  told = tidying m.points each m.triples m.labels (record { three = accepted.mesh.three; closed = accepted.closed; below = accepted.mesh.below })

  -- so few triangles over these points
  pub sound : IsSound (length m.points) us
  sound = record {
    three = told.good.three;
    below = told.good.below;
    few_points = accepted.mesh.few_points;
    few_triples = omega (arith, told.few, accepted.mesh.few_triples);
  }

  mesh : IsMesh (length (used_from us 0 m.points)) (renumbered us)
  mesh = kept_mesh us m.points sound

  -- nothing can be collapsed under the new numbers either
  none : (h : ℕ) → h < 3 * length (renumbered us) → is_collapsible (used_from us 0 m.points) (renumbered us) h ≡ false
  none h low = elim (cases_Bool (is_collapsible (used_from us 0 m.points) (renumbered us) h)) as (λ _. is_collapsible (used_from us 0 m.points) (renumbered us) h ≡ false) [
    | inl y ↦
        let old_low : h < 3 * length us = omega (arith, low, length-map us (renamed_triple (new_number us))) in
        absurd (both_ways (is_collapsible m.points us h) (told.none h old_low)
        (was_collapsible_numbered m.points us told.good.three told.good.closed told.good.below mesh h (omega (arith, old_low, length-all_edges us)) y))
    | inr n ↦ n
  ]

  pub tidy_meshes : IsTidyMesh m (tidy_mesh m)
  tidy_meshes = record {
    accepted = record { mesh = mesh; closed = closed_numbered m.points us told.good.three told.good.closed told.good.below };
    clean = λ k. clean_numbered m.points us told.good.three told.good.closed told.good.below (told.clean k);
    none = none;
    volume = volume_numbered m.points us told.good.three told.good.closed told.good.below ∙ told.volume;
    at_points = λ p q r pq qr rp.
        count_numbered m.points us told.good.three told.good.closed told.good.below (p, q, r) ∙ told.at_points p q r pq qr rp;
  }
