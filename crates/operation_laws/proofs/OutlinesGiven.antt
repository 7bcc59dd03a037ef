-- Under the kernels that a script may choose, operations on outlines at points of the grid give such outlines, and extrusions of these are accepted meshes.
use Rattle.std.proofs.Common.{◌≡◌, ◌≤◌, ℤ, Bool, true, false, List, [], length, map, nat_lt, Some, None, refl, ◌∙◌, arith}
use Rattle.std.specs.Prelude.{int_le, if◌then◌else◌}
use Rattle.std.specs.List.{All}
use Rattle.std.proofs.lemmas.Bool.{ltb-false}
use Rattle.std.proofs.lemmas.List.Elements.{All-append, All-map}
use Rattle.chain_laws.proofs.Cycles.{cycles_edges}
use Rattle.mb_base.specs.declared.kernel_kind.KernelKind.{KernelKind}
use Rattle.mb_base.specs.declared.op.Op.{Op}
use Rattle.made_terms.specs.Refusals.{Exceeds, Flat}
use Rattle.mesh_terms.specs.Faults as faults
use Rattle.mesh_terms.proofs.Labels.{no_labels-are}
use Rattle.mesh_terms.specs.Given.{IsGivenWithin}
use Rattle.mesh_terms.specs.Limits.{IsLawful, Limits}
use Rattle.mesh_terms.specs.Meshes.{Mesh}
use Rattle.mesh_terms.specs.Points.{IsOnGrid, IsPoint}
use Rattle.side_terms.specs.Corners.{AllFine}
use Rattle.rounding.specs.Lawful.{settle_monotone, settle_units}
use Rattle.rounding.specs.Nearest.{nearest, settle_nearest}
use Rattle.shadow_kernels.specs.Lawful.{IsRule}
use Rattle.shadow_kernels.specs.RuleLaws.{laws11, lift11}
use Rattle.shadow_kernels.specs.Shadows.{edge_edge, edge_vertex, vertex_edge}
use Rattle.face_plane.specs.Planes.{plane_of, point_at}
use Rattle.hole_joining.specs.Bridges.{join_holes}
use Rattle.hole_joining.specs.Laws.{settled_in}
use Rattle.hole_joining.proofs.Keeps.{is_joining}
use Rattle.triangulate.proofs.CutRings.{cuttings}
use Rattle.outline_terms.specs.Extrusion.{at_height}
use Rattle.outline_terms.specs.Outlines.{IsOutline, Outline, most_vertices, outline_edges, p_marks, q_marks}
use Rattle.outline_terms.proofs.Edges.{edges_long}
use Rattle.outline_pair_terms.specs.Lists.{flat_copies, flat_segments}
use Rattle.outline_pair_terms.specs.Numbers.{FlatNumbers, LiftEdges, p_flat, q_flat}
use Rattle.cross_section.proofs.Points.{IsSettling}
use Rattle.cross_section.proofs.Walking.{lift_edges}
use Rattle.cross_section.specs.Extruded.{AreOver, extruded, filling_of}
use Rattle.cross_section.proofs.Solids.{outline_fillable, solid_accepted, solid_volume, triples_long}
use Rattle.outline_pair_terms.proofs.Whole.{conserved, once_whole}
use Rattle.cross_section.proofs.Copied.{count_copies, each_copy}
use Rattle.cross_section.proofs.Gives.{gives_outline}
use Rattle.play_laws.specs.ScriptsReadingBack.{IsGivenOutline}
use Rattle.play_terms.specs.Plays.{extrusion_fault, vertex_count}
use Rattle.operation_laws.specs.Kernels.{flat_numbers_under, flat_tests_of, meanings_under, rule_under}
use Rattle.operation_laws.specs.Results.{IsOutlineOf, IsSolidOf}
use Rattle.operation_laws.proofs.OutlinePoints.{flat_hits_on_grid}
use Rattle.operation_laws.proofs.ReducedSides.{corners_fine}

nearest_settling : IsSettling settle_nearest
nearest_settling = record { monotone = λ f g p q h. settle_monotone f g h; units = λ k p. settle_units k }

module _ (kernels : KernelKind) (rule : IsRule (rule_under kernels) nearest) (op : Op) (p q : Outline) (p_given : IsGivenOutline p) (q_given : IsGivenOutline q) where
  p_fine : AllFine (p_flat op p).corners
  p_fine = corners_fine p.points (p_marks op p) p_given.on_grid

  q_fine : AllFine (q_flat q).corners
  q_fine = corners_fine q.points (q_marks q) q_given.on_grid

  lift : LiftEdges (flat_tests_of (rule_under kernels) nearest) (p_flat op p).corners (q_flat q).corners
  lift =
      lift_edges (vertex_edge (rule_under kernels) nearest) (edge_vertex (rule_under kernels) nearest) (edge_edge (rule_under kernels) nearest)
      (λ a b c d s t. lift11 (rule_under kernels) nearest a b c d) (p_flat op p).corners (q_flat q).corners p_fine q_fine

  abbrev n : FlatNumbers
  n = flat_numbers_under kernels op p q

  -- what an operation gives is such an outline, where its vertices are few
  pub outline_made : vertex_count ((meanings_under kernels).outlines op p q) ≤ most_vertices → IsGivenOutline ((meanings_under kernels).outlines op p q).outline
  outline_made few =
      let given = gives_outline (flat_tests_of (rule_under kernels) nearest) settle_nearest
      op p q p_given.outline q_given.outline lift (omega (arith, few, count_copies op p q n)) in
      let hits = flat_hits_on_grid (edge_edge (rule_under kernels) nearest) (laws11 rule) settle_nearest nearest_settling (p_flat op p) (q_flat q) p_fine q_fine in
      record {
        outline = given.outline;
        on_grid = All-map IsPoint (λ c. c.point) (flat_copies op p q n)
            (each_copy op p q n (λ c. IsPoint c.point) (λ v low. p_given.on_grid v [] low) (λ v low. q_given.on_grid v [] low) hits);
      }

  -- and it is a result of the two
  pub outline_result : vertex_count ((meanings_under kernels).outlines op p q) ≤ most_vertices → IsOutlineOf kernels op p q ((meanings_under kernels).outlines op p q).outline
  outline_result few = record {
    conserved = conserved (flat_tests_of (rule_under kernels) nearest) settle_nearest op p q p_given.outline q_given.outline lift;
    prescribed = refl;
    segments =
        let es = flat_segments p q (flat_copies op p q n) in
        cycles_edges (length es) es (omega arith)
        (once_whole (flat_tests_of (rule_under kernels) nearest) settle_nearest op p q p_given.outline q_given.outline lift).balanced;
    outline = (outline_made few).outline;
  }

-- the filling of an outline has the boundary of its loops
filled_over : (o : Outline) → IsOutline o → AreOver o (filling_of o).triples
filled_over o is =
    let can = outline_fillable o is in
    let at = settled_in 2 o.points o.loops in
    let joins = is_joining (plane_of 2 (point_at o.points)) o.loops (length o.points) can in
    let cut = cuttings at (length o.points) (join_holes at o.loops) joins.ringy joins.below in
    record { three = cut.three; below = cut.below; chain = λ f odd. cut.chain f odd ∙ joins.chain f odd }

-- points at a height of the grid
at_height_on_grid : (z : ℤ) (ps : List (List ℤ)) → IsOnGrid z → All IsPoint ps → All IsPoint (map (at_height z) ps)
at_height_on_grid z ps on points = All-map IsPoint (at_height z) ps (λ k d low. record { three = refl; x = (points k d low).x; y = (points k d low).y; z = on })

-- where an extrusion is not refused, it is within the limits
not_refused : (limits : Limits) (low high : ℤ) (m : Mesh) → extrusion_fault limits low high m ≡ None → (length m.points ≤ limits.points) × (length m.triples ≤ limits.triangles)
not_refused limits low high m none = by_height (int_le high low) (nat_lt limits.points (length m.points)) (nat_lt limits.triangles (length m.triples)) refl refl none
  where
    by_height : (a b c : Bool) → nat_lt limits.points (length m.points) ≡ b → nat_lt limits.triangles (length m.triples) ≡ c
        → (if a then Some Flat else (if b then Some (Exceeds faults.Points (length m.points)) else if c then Some (Exceeds faults.Triangles (length m.triples)) else None)) ≡ None
        → (length m.points ≤ limits.points) × (length m.triples ≤ limits.triangles)
    by_height true b c points triples none = absurd (cc)
    by_height false true c points triples none = absurd (cc)
    by_height false false true points triples none = absurd (cc)
    by_height false false false points triples none = (ltb-false limits.points (length m.points) points, ltb-false limits.triangles (length m.triples) triples)

-- the solid of such an outline between two heights of the grid is accepted, and within the limits where it is not refused
pub solid_given : (limits : Limits) → IsLawful limits → (o : Outline) (low high : ℤ) → IsGivenOutline o → IsOnGrid low → IsOnGrid high
    → extrusion_fault limits low high (extruded o low high) ≡ None → IsGivenWithin limits (extruded o low high)
solid_given limits lawful o low high given low_on high_on none =
    let ts = (filling_of o).triples in
    let within = not_refused limits low high (extruded o low high) none in
    record {
      given = record {
        accepted = solid_accepted o given.outline low high ts (filled_over o given.outline)
            (omega (arith, within.1, lawful.few_triangles, triples_long (length o.points) ts (outline_edges o), edges_long o given.outline));
        on_grid = All-append IsPoint (map (at_height low) o.points) (map (at_height high) o.points)
            (at_height_on_grid low o.points low_on given.on_grid) (at_height_on_grid high o.points high_on given.on_grid);
        labels = no_labels-are (extruded o low high).triples;
      };
      few_points = within.0;
      few_triples = within.1;
    }

-- and it is a solid of the outline
pub solid_result : (limits : Limits) → IsLawful limits → (o : Outline) (low high : ℤ) → IsGivenOutline o → IsOnGrid low → IsOnGrid high
    → extrusion_fault limits low high (extruded o low high) ≡ None → IsSolidOf o low high (extruded o low high)
solid_result limits lawful o low high given low_on high_on none = record {
  accepted = (solid_given limits lawful o low high given low_on high_on none).given.accepted;
  volume = solid_volume o given.outline low high (filling_of o).triples (filled_over o given.outline);
}
