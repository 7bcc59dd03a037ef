-- An operation under exact kernels prescribes vertices as often as it says for their geometric winding numbers.
use Rattle.std.proofs.Common.{◌≡◌, ◌<◌, ℕ, pos, Bool, false, List, [], ◌∷◌, get_or, length, replicate, refl, sym, ap, subst, ◌∙◌}
use Rattle.std.proofs.lemmas.List.{get_or-map, length-replicate}
use Rattle.mb_base.specs.declared.TheConstants.{UNIT}
use Rattle.mb_base.specs.declared.op.Op.{Op}
use Rattle.mb_base.specs.declared.results.Origin.TheVariants.{PVertex, QVertex}
use Rattle.mb_base.specs.declared.point.Corner.{Corner}
use Rattle.mesh_terms.specs.Meshes.{Mesh}
use Rattle.plane_laws.specs.Decisions.{Vector}
use Rattle.side_terms.specs.Corners.{blank_corner, corner_at}
use Rattle.side_terms.specs.Sides.{IsSide, Side}
use Rattle.solid_terms.specs.Solids.{IsClearOfAll, solid_winding}
use Rattle.lean.specs.Leans.{leans_of}
use Rattle.lean.proofs.Corners.{corners_long}
use Rattle.rounding.specs.Nearest.{nearest, settle_nearest}
use Rattle.shadow_kernels.specs.Spots.{Between}
use Rattle.edge_face.specs.Crossings.{Settle}
use Rattle.exact_kernels.specs.Exact.{exact, position}
use Rattle.solid_laws.specs.Laws.{winding_in, winding_back_in}
use Rattle.solid_laws.specs.Scaled.{all_clear_scaled, scaled_place, solid_scaled}
use Rattle.solid_laws.specs.Windings.{places_of, winding_is_solid, winding_back_is_solid}
use Rattle.side_terms.specs.PointLaws.{corners_points}
use Rattle.side_terms.specs.Points.{points_of}
use Rattle.side_terms.specs.Prescribed.{copies_of, p_number, q_number}
use Rattle.mesh_terms.specs.Given.{IsGiven}
use Rattle.mesh_boolean.specs.Operation.{first_side, numbers_of, operation, reduced_mesh, second_side}
use Rattle.play_laws.proofs.Readable.{within_of_readable}
use Rattle.play_laws.proofs.ScriptsReadingBack.{steps_keep}
use Rattle.play_terms.specs.Plays.{mesh_at}
use Rattle.split_laws.proofs.Reduced.{reduced_given}
use Rattle.sheet_laws.specs.Promises.{RemeshedIsGiven}
use Rattle.operation_laws.proofs.Made.{AreFilled}
use Rattle.operation_laws.proofs.ReducedSides.{side_is}
use Rattle.operation_laws.proofs.Results.{length-leans, results_readable}
use Rattle.operation_laws.specs.Kernels.{meanings_under, tests_of, tests_under}
use Rattle.geometric_laws.specs.Geometric.{IsGeometric, places_in}
use Rattle.geometric_laws.specs.Laws.{OperationsAreGeometric, ScriptsAreGeometric}
use Rattle.geometric_laws.proofs.Copies.{copies_of_p, copies_of_q}
use Rattle.geometric_laws.proofs.Places.{corner_placed, grid_apex, grid_clear, unit_above}

-- a side of a mesh, whose corners lie where its points do
pub record IsPlaced (m : Mesh) (side : Side) : Type 0 where
  pub kept : IsSide side
  pub triples : side.triples ≡ m.triples
  pub places : (i : ℕ) → places_of side i ≡ scaled_place UNIT (places_in m i)

-- the number of a corner where a point is: from each apex of which the point is clear
module _ (w : Between) (m : Mesh) (side : Side) (placed : IsPlaced m side) (c : Corner) (p : Vector) (here : position c ≡ scaled_place UNIT p) where
  -- the corner is clear of the apex in fine steps
  far_clear : (o : Vector) → IsClearOfAll p o (places_in m) m.triples → IsClearOfAll (position c) (scaled_place UNIT o) (places_of side) side.triples
  far_clear o clear =
      subst (λ ts. IsClearOfAll (position c) (scaled_place UNIT o) (places_of side) ts) (sym placed.triples)
      (subst (λ x. IsClearOfAll x (scaled_place UNIT o) (places_of side) m.triples) (sym here)
      (all_clear_scaled UNIT unit_above p o (places_in m) (places_of side) placed.places m.triples clear))

  -- and the side winds as often round it
  far_winding : (o : Vector) → solid_winding (position c) (scaled_place UNIT o) (places_of side) side.triples ≡ solid_winding p o (places_in m) m.triples
  far_winding o =
      ap (λ ts. solid_winding (position c) (scaled_place UNIT o) (places_of side) ts) placed.triples
      ∙ ap (λ x. solid_winding x (scaled_place UNIT o) (places_of side) m.triples) here
      ∙ solid_scaled UNIT unit_above p o (places_in m) (places_of side) placed.places m.triples

  -- so its number is the geometric one, in a side of Q
  pub number_in : (o : Vector) → IsClearOfAll p o (places_in m) m.triples → winding_in w c side ≡ solid_winding p o (places_in m) m.triples
  number_in o clear = winding_is_solid w c (scaled_place UNIT o) side placed.kept (far_clear o clear) ∙ far_winding o

  -- and in one of P
  pub number_back_in : (o : Vector) → IsClearOfAll p o (places_in m) m.triples → winding_back_in w c side ≡ solid_winding p o (places_in m) m.triples
  number_back_in o clear = winding_back_is_solid w c (scaled_place UNIT o) side placed.kept (far_clear o clear) ∙ far_winding o

-- the marks of the second side
abbrev no_ups : Mesh → List (List Bool)
no_ups m = replicate (length m.points) (false ∷ false ∷ false ∷ [])

-- the first side is placed
first_placed : (op : Op) (p : Mesh) → IsGiven p → IsPlaced (reduced_mesh p) (first_side op p)
first_placed op p given =
    let m = reduced_mesh p in record {
      kept = side_is m (leans_of op m) (reduced_given p given) (length-leans op m);
      triples = refl;
      places = corner_placed m.points (leans_of op m) (length-leans op m);
    }

-- and so is the second
second_placed : (q : Mesh) → IsGiven q → IsPlaced (reduced_mesh q) (second_side q)
second_placed q given =
    let m = reduced_mesh q in
    let each = length-replicate (length m.points) (false ∷ false ∷ false ∷ []) in record {
      kept = side_is m (no_ups m) (reduced_given q given) each;
      triples = refl;
      places = corner_placed m.points (no_ups m) each;
    }

-- what is kept of a vertex, from its winding number to the geometric one
module _ (w : Between) (settle : Settle) (op : Op) (p q : Mesh) (p_given : IsGiven p) (q_given : IsGiven q) where
  -- the first reduced mesh
  P : Mesh
  P = reduced_mesh p

  -- and the second
  Q : Mesh
  Q = reduced_mesh q

  -- both kinds of vertices
  pub is_geometric : IsGeometric op p q (operation (tests_of exact w settle) op p q).copies
  unfolding P Q
  is_geometric =
      let side_p = first_side op p in
      let side_q = second_side q in
      let n = numbers_of (tests_of exact w settle) side_p side_q in
      let ups = leans_of op P in
      let each_p = length-leans op P in
      let each_q = length-replicate (length Q.points) (false ∷ false ∷ false ∷ []) in
      let p_on = (reduced_given p p_given).on_grid in
      let q_on = (reduced_given q q_given).on_grid in
      let placed_p = first_placed op p p_given in
      let placed_q = second_placed q q_given in
      let long_p = corners_long P.points ups each_p in
      let long_q = corners_long Q.points (no_ups Q) each_q in
      let points_p = corners_points P.points ups p_on each_p in
      let points_q = corners_points Q.points (no_ups Q) q_on each_q in
      record {
        first = λ v below off. record {
          apex = grid_apex (places_in P v);
          clear = grid_clear P.points p_on v Q q_on off;
          each = λ o clear.
              let low : v < length side_p.corners = subst (λ k. v < k) (sym long_p) below in
              copies_of_p op side_p side_q n v low
              ∙ ap (λ x. copies_of (record { origin = PVertex v; number = p_number op x; point = get_or (points_of side_p.corners) v [] }))
              (get_or-map (λ c. winding_in w c side_q) side_p.corners v blank_corner (pos 0) low
              ∙ number_in w Q side_q placed_q (corner_at side_p.corners v) (places_in P v) (placed_p.places v) o clear)
              ∙ ap (λ ps. copies_of (record { origin = PVertex v; number = p_number op (solid_winding (places_in P v) o (places_in Q) Q.triples); point = get_or ps v [] }))
              points_p;
        };
        second = λ v below off. record {
          apex = grid_apex (places_in Q v);
          clear = grid_clear Q.points q_on v P p_on off;
          each = λ o clear.
              let low : v < length side_q.corners = subst (λ k. v < k) (sym long_q) below in
              copies_of_q op side_p side_q n v low
              ∙ ap (λ x. copies_of (record { origin = QVertex v; number = q_number op x; point = get_or (points_of side_q.corners) v [] }))
              (get_or-map (λ c. winding_back_in w c side_p) side_q.corners v blank_corner (pos 0) low
              ∙ number_back_in w P side_p placed_p (corner_at side_q.corners v) (places_in Q v) (placed_q.places v) o clear)
              ∙ ap (λ ps. copies_of (record { origin = QVertex v; number = q_number op (solid_winding (places_in Q v) o (places_in P) P.triples); point = get_or ps v [] }))
              points_q;
        };
      }

-- the law of meshes
pub operations_are_geometric : OperationsAreGeometric
operations_are_geometric w settle op p q p_given q_given = is_geometric w settle op p q p_given q_given

-- and that of scripts: the meshes of the names are accepted, at points of the grid
pub scripts_are_geometric : AreFilled → RemeshedIsGiven → ScriptsAreGeometric
scripts_are_geometric laws remeshes k limits few lawful script files lines state places is exactly op left right =
    let p = mesh_at state.named left in
    let q = mesh_at state.named right in
    let all = (steps_keep meanings_under k limits few lawful (results_readable laws remeshes k limits few lawful) script lines places).value files state is in
    subst (λ kernels. IsGeometric op p q (operation (tests_under kernels) op p q).copies) (sym exactly)
    (is_geometric nearest settle_nearest op p q (within_of_readable k limits p lawful (all.meshes left)).given (within_of_readable k limits q lawful (all.meshes right)).given)
