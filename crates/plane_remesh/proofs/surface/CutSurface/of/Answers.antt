use Rattle.std.proofs.Common.{ap, arith, length, subst, sym, ◌++◌, ◌≡◌, ◌∙◌, ℕ, get_or}
use Rattle.std.specs.Prelude.{◌↔◌, ◌<◌}
use Rattle.std.specs.List.{All}
use Rattle.mesh_terms.specs.Labels.{label_at}
use Rattle.mesh_terms.specs.Meshes.{IsBelow, triples_of}
use Rattle.sheet_terms.specs.Places.{place_points}
use Rattle.plane_groups.specs.Grouped.{ArePlanes}
use Rattle.plane_remesh.proofs.Surfaced.{sources_few, surface_made}
use Rattle.plane_remesh.proofs.surface.CutSurface.of.Goals as goal

pub cuts_of-requires : goal.cuts_of-requires
cuts_of-requires c = (place_points (c.args.mesh.now.points ++ c.args.more.now), c.args.mesh.now, c.in_ok-over.ensures)

pub label_numbers-requires : goal.label_numbers-requires
label_numbers-requires c =
    omega (arith, ap length c.deref.ensures.value, sources_few (place_points (c.args.mesh.now.points ++ c.args.more.now)) c.args.mesh.now c.in_ok-over.over c.in_ok-over.ensures)

pub planes_of-requires-clause-below : goal.planes_of-requires-clause-below
planes_of-requires-clause-below c =
    subst (λ ps. All (IsBelow (length ps)) (triples_of c.deref-3.result.now)) (sym (c.deref-2.ensures.value ∙ c.in_ok-over.ensures.stored))
    (subst (λ ts. All (IsBelow (length (place_points (c.args.mesh.now.points ++ c.args.more.now)))) (triples_of ts)) (sym c.deref-3.ensures.value) c.in_ok-over.ensures.below)

pub planes_of-requires-clause-few : goal.planes_of-requires-clause-few
planes_of-requires-clause-few c = omega (arith, ap length c.deref-3.ensures.value, c.in_ok-over.ensures.few)

pub returns : goal.returns
returns c =
    let m = c.args.mesh.now in
    let points = place_points (m.points ++ c.args.more.now) in
    let over = c.in_ok-over.over in
    let labels = c.in_ok-labels.labels in
    let planes = c.in_ok-planes.planes in
    surface_made points m (record { over = over; cuts = c.in_ok-cuts.cuts; labels = labels; planes = planes }) c.in_ok-over.ensures c.in_ok-cuts.ensures
    (c.in_ok-labels.ensures.full ∙ ap length c.deref.ensures.value)
    (subst (λ sources. (i j : ℕ) → i < length sources → j < length sources →
    (get_or labels.items i 0 ≡ get_or labels.items j 0) ↔ (label_at m.labels (get_or sources i 0) ≡ label_at m.labels (get_or sources j 0)))
    c.deref.ensures.value c.in_ok-labels.ensures.same)
    c.in_ok-planes.ensures.full
    (λ fs e. subst (λ ps. ArePlanes ps fs planes) c.deref-2.ensures.value (c.in_ok-planes.ensures.planes fs (e ∙ ap triples_of (sym c.deref-3.ensures.value))))
