-- Operations under the kernels that a script may choose on accepted meshes give accepted meshes within lawful limits, which are read of their texts, and are results
-- of these meshes.
use Rattle.std.proofs.Common.{◌≡◌, ◌≤◌, ℕ, Bool, min, true, false, [], ◌∷◌, Ok, Err, length, replicate, map, refl, ◌∙◌, arith}
use Rattle.std.specs.Prelude.{if◌then◌else◌, nat_lt}
use Rattle.std.proofs.lemmas.Bool.{ltb-false}
use Rattle.std.proofs.lemmas.List.{length-map, length-replicate}
use Rattle.chain_terms.specs.Sums.{upto}
use Rattle.chain_laws.proofs.Places.{length-up_from}
use Rattle.exact_kernels.specs.ExactRule.{exact_rule}
use Rattle.mb_base.specs.declared.kernel_kind.KernelKind.{KernelKind}
use Rattle.mb_base.specs.declared.kernel_kind.KernelKind.TheVariants.{Exact, Grid}
use Rattle.mb_base.specs.declared.op.Op.{Op}
use Rattle.mesh_terms.specs.Faults.{Points, Triangles}
use Rattle.mesh_terms.specs.Given.{IsGiven, IsGivenWithin}
use Rattle.mesh_terms.specs.Limits.{IsLawful, Limits, most_halfedges}
use Rattle.mesh_terms.specs.Meshes.{Mesh}
use Rattle.run_terms.specs.Files.{Bytes}
use Rattle.lean.specs.Leans.{is_up, leans_of, normals_of, vertex_normal}
use Rattle.rounding.specs.Lawful.{nearest_within, settle_monotone, settle_units}
use Rattle.rounding.specs.Nearest.{nearest, settle_nearest}
use Rattle.shadow_kernels.specs.Hulls.{StaysBetween}
use Rattle.shadow_kernels.specs.Lawful.{IsRule, grid_rule}
use Rattle.edge_face.specs.CrossingLaws.{IsSettling}
use Rattle.source_face_laws.specs.FillingLaws.{FacesAreFilled}
use Rattle.play_laws.specs.ScriptsReadingBack.{MeshReadable, MeshesReadable}
use Rattle.play_laws.proofs.Readable.{readable_within, within_of_readable}
use Rattle.play_laws.proofs.ScriptsReadingBack.{steps_keep}
use Rattle.play_terms.specs.Combined.{Remeshed}
use Rattle.play_terms.specs.Plays.{mesh_at, outline_at, vertex_count, within_remeshed}
use Rattle.run_terms.specs.Tasks.{PastLimit}
use Rattle.cross_section.specs.Extruded.{extruded}
use Rattle.outline_terms.specs.Outlines.{most_vertices}
use Rattle.operation_laws.proofs.OutlinesGiven.{outline_made, outline_result, solid_given, solid_result}
use Rattle.mesh_boolean.specs.Operation.{Outcome, face_labels, first_side, numbers_of, operation, reduced_mesh, second_side}
use Rattle.operation_laws.specs.Kernels.{meanings_under, rule_under, tests_under, told_of, told_remeshed}
use Rattle.operation_laws.specs.Laws.{OperationsAreAccepted, OperationsAreReadable}
use Rattle.operation_laws.specs.Results.{GivesMeshes, OperationsAreResults, ScriptsGiveResults, ScriptsRemesh, faces_of, sides_of}
use Rattle.sheet_laws.specs.Planes.{SoundPlanesAreKept, SoundRegionsTurnLeft}
use Rattle.sheet_laws.specs.Promises.{RemeshedIsGiven, SoundPlanesDoNotFold}
use Rattle.sheet_terms.specs.Crossings.{all_points}
use Rattle.sheet_terms.specs.Remesh.{remeshed}
use Rattle.operation_laws.proofs.OfSides.{result_of_sides}
use Rattle.operation_laws.proofs.GridNumbers.{are_numbers}
use Rattle.operation_laws.proofs.Made.{AreFilled, IsMade, is_made}
use Rattle.operation_laws.proofs.FaceLabels.{face_labels-are}
use Rattle.operation_laws.proofs.ReducedSides.{IsKnown, reduced_side}

-- rounding to the nearest stays between, and settles as it should
nearest_stays : StaysBetween nearest
nearest_stays = record { within = λ u v a b p q s t. nearest_within u v a b s.low t.low }

nearest_settles : IsSettling settle_nearest
nearest_settles = record { monotone = λ f g p q h. settle_monotone f g h; units = λ k p. settle_units k }

-- both rules are lawful so
lawful_under : (kernels : KernelKind) → IsRule (rule_under kernels) nearest
lawful_under Grid = grid_rule nearest nearest_stays
lawful_under Exact = exact_rule nearest nearest_stays

-- a mark for each point
pub length-leans : (op : Op) (m : Mesh) → length (leans_of op m) ≡ length m.points
length-leans op m =
    length-map (normals_of m.points m.triples) (map (is_up op))
    ∙ length-map (upto (length m.points)) (vertex_normal m.points m.triples) ∙ length-up_from 0 (length m.points)

first_known : (op : Op) (p : Mesh) → IsGiven p → IsKnown (first_side op p)
first_known op p given = reduced_side p (leans_of op (reduced_mesh p)) given (length-leans op (reduced_mesh p))

second_known : (q : Mesh) → IsGiven q → IsKnown (second_side q)
second_known q given =
    reduced_side q (replicate (length (reduced_mesh q).points) (false ∷ false ∷ false ∷ [])) given
    (length-replicate (length (reduced_mesh q).points) (false ∷ false ∷ false ∷ []))

-- what an operation makes of accepted meshes
pub operation_made : AreFilled → (kernels : KernelKind) (op : Op) (p q : Mesh) → IsGiven p → IsGiven q →
    (operation (tests_under kernels) op p q).halfedges ≤ most_halfedges →
    IsMade (operation (tests_under kernels) op p q)
operation_made laws kernels op p q p_given q_given few =
    let one = first_known op p p_given in
    let other = second_known q q_given in
    let first = first_side op p in
    let second = second_side q in
    is_made laws (face_labels p q) (face_labels-are p q p_given q_given) op first second (numbers_of (tests_under kernels) first second) one other
    (are_numbers (lawful_under kernels) settle_nearest nearest_settles first second one.kept other.kept) few

-- the half-edges of a lawful limit are at most sixty million
few_halfedges : (limits : Limits) (n : ℕ) → IsLawful limits → n ≤ limits.halfedges → n ≤ most_halfedges
few_halfedges limits n lawful within = omega (arith, within, lawful.triangles_enough, lawful.few_triangles)

made_of : AreFilled → (limits : Limits) → IsLawful limits → (kernels : KernelKind) (op : Op) (p q : Mesh) → IsGiven p → IsGiven q →
    (operation (tests_under kernels) op p q).halfedges ≤ limits.halfedges → IsMade (operation (tests_under kernels) op p q)
made_of laws limits lawful kernels op p q p_given q_given within =
    operation_made laws kernels op p q p_given q_given (few_halfedges limits (operation (tests_under kernels) op p q).halfedges lawful within)

-- what is made is within lawful limits where its half-edges are
made_within : (limits : Limits) (o : Outcome) → IsLawful limits → IsMade o → o.halfedges ≤ limits.halfedges → IsGivenWithin limits (told_of o).mesh
made_within limits o lawful made within = record {
  given = record { accepted = made.accepted; on_grid = made.on_grid; labels = made.labels };
  few_points = omega (arith, made.few_points, made.few_triples, within, lawful.triangles_enough, lawful.points_enough);
  few_triples = omega (arith, made.few_triples, within, lawful.triangles_enough);
}

-- under lawful limits an operation on accepted meshes gives an accepted mesh within the limits, where its half-edges are
pub operations_are_accepted : AreFilled → OperationsAreAccepted
operations_are_accepted laws limits lawful kernels op p q p_given q_given within =
    made_within limits (operation (tests_under kernels) op p q) lawful (made_of laws limits lawful kernels op p q p_given q_given within) within

-- which is read of its text
pub operations_are_readable : AreFilled → (k : ℕ) (limits : Limits) → k ≤ 6 → IsLawful limits → (kernels : KernelKind) (op : Op) (p q : Mesh) →
    IsGiven p → IsGiven q →
    (operation (tests_under kernels) op p q).halfedges ≤ limits.halfedges →
    MeshReadable k limits (told_of (operation (tests_under kernels) op p q)).mesh
operations_are_readable laws k limits few lawful kernels op p q p_given q_given within =
    let o = operation (tests_under kernels) op p q in
    let made = made_of laws limits lawful kernels op p q p_given q_given within in
    readable_within k limits (told_of o).mesh few lawful (made_within limits o lawful made within)

-- so what a script makes of meshes that are read of their texts is read of its text
meshes_readable : AreFilled → (k : ℕ) (limits : Limits) → k ≤ 6 → IsLawful limits → (kernels : KernelKind) → MeshesReadable (meanings_under kernels) k limits
meshes_readable laws k limits few lawful kernels op p q p_readable q_readable within =
    operations_are_readable laws k limits few lawful kernels op p q (within_of_readable k limits p lawful p_readable).given
    (within_of_readable k limits q lawful q_readable).given
    (ltb-false limits.halfedges (operation (tests_under kernels) op p q).halfedges within)

-- a remeshed mesh that is not refused has few points and triangles
few_remeshed : (limits : Limits) (r : Remeshed) → within_remeshed limits r ≡ Ok r → (length r.mesh.points ≤ limits.points) × (length r.mesh.triples ≤ limits.triangles)
few_remeshed limits r e = by (nat_lt limits.points (length r.mesh.points)) (nat_lt limits.triangles (length r.mesh.triples)) refl refl e
  where
    by : (b c : Bool) → nat_lt limits.points (length r.mesh.points) ≡ b → nat_lt limits.triangles (length r.mesh.triples) ≡ c →
        (if b then Err (PastLimit Points (length r.mesh.points)) else if c then Err (PastLimit Triangles (length r.mesh.triples)) else Ok r) ≡ Ok r →
        (length r.mesh.points ≤ limits.points) × (length r.mesh.triples ≤ limits.triangles)
    by true c points triangles e = absurd (cc)
    by false true points triangles e = absurd (cc)
    by false false points triangles e = (ltb-false limits.points (length r.mesh.points) points, ltb-false limits.triangles (length r.mesh.triples) triangles)

-- so it is within the limits
remeshed_within : (limits : Limits) (m : Mesh) → IsLawful limits → RemeshedIsGiven → IsGiven m → within_remeshed limits (told_remeshed m) ≡ Ok (told_remeshed m) →
    IsGivenWithin limits (remeshed m).mesh
remeshed_within limits m lawful remeshes given taken =
    let few = few_remeshed limits (told_remeshed m) taken in
    record { given = (remeshes m given (omega (arith, few.1, lawful.few_triangles))).given; few_points = few.0; few_triples = few.1 }

-- so is what it makes by remeshing; and so are its outlines, and its solids of these
pub results_readable : AreFilled → RemeshedIsGiven → OperationsAreReadable
results_readable laws remeshes k limits few lawful kernels = record {
  meshes = meshes_readable laws k limits few lawful kernels;
  remeshings = λ m readable taken.
      readable_within k limits (remeshed m).mesh few lawful (remeshed_within limits m lawful remeshes (within_of_readable k limits m lawful readable).given taken);
  outlines = λ op p q p_given q_given within.
      let o = (meanings_under kernels).outlines op p q in
      outline_made kernels (lawful_under kernels) op p q p_given q_given (omega (arith, ltb-false (min limits.points most_vertices) (vertex_count o) within));
  solids = λ o low high given low_on high_on none. readable_within k limits (extruded o low high) few lawful (solid_given limits lawful o low high given low_on high_on none);
}

-- and what an operation gives is a result of its meshes
pub operations_are_results : AreFilled → FacesAreFilled → OperationsAreResults
operations_are_results laws filled kernels op p q p_given q_given few =
    let one = first_known op p p_given in
    let other = second_known q q_given in
    let first = first_side op p in
    let second = second_side q in
    let known = are_numbers (lawful_under kernels) settle_nearest nearest_settles first second one.kept other.kept in
    let made = result_of_sides laws filled (face_labels p q) op first second (numbers_of (tests_under kernels) first second) one other known few in
    record { conserved = known.conserved; prescribed = refl; from = made.from; faces = made.faces; clean = made.clean; labels = refl }

-- so is what a script has of an operation on the meshes of two names
scripts_give_meshes : AreFilled → FacesAreFilled → RemeshedIsGiven → (k : ℕ) (limits : Limits) → k ≤ 6 → IsLawful limits → (script : Bytes) → GivesMeshes k limits script
scripts_give_meshes laws filled remeshes k limits few lawful script files lines state places is op left right within =
    let kernels = state.kernels in
    let p = mesh_at state.named left in
    let q = mesh_at state.named right in
    let all = (steps_keep meanings_under k limits few lawful (results_readable laws remeshes k limits few lawful) script lines places).value files state is in
    operations_are_results laws filled kernels op p q (within_of_readable k limits p lawful (all.meshes left)).given (within_of_readable k limits q lawful (all.meshes right)).given
    (few_halfedges limits (operation (tests_under kernels) op p q).halfedges lawful within)

-- and of one on the outlines of two names, and of a solid of the outline of one
pub scripts_give_results : AreFilled → FacesAreFilled → RemeshedIsGiven → ScriptsGiveResults
scripts_give_results laws filled remeshes k limits few lawful script = record {
  meshes = scripts_give_meshes laws filled remeshes k limits few lawful script;
  outlines = λ files lines state places is op left right few_vertices.
      let all = (steps_keep meanings_under k limits few lawful (results_readable laws remeshes k limits few lawful) script lines places).value files state is in
      outline_result state.kernels (lawful_under state.kernels) op (outline_at state.named left) (outline_at state.named right) (all.outlines left) (all.outlines right)
      (omega (arith, few_vertices));
  solids = λ files lines state places is old low high low_on high_on none.
      let all = (steps_keep meanings_under k limits few lawful (results_readable laws remeshes k limits few lawful) script lines places).value files state is in
      solid_result limits lawful (outline_at state.named old) low high (all.outlines old) low_on high_on none;
}

-- and remeshing keeps all of the mesh of a name
pub scripts_remesh : AreFilled → SoundPlanesAreKept → SoundRegionsTurnLeft → SoundPlanesDoNotFold → RemeshedIsGiven → ScriptsRemesh
scripts_remesh laws kept left flush remeshes k limits few lawful script files lines state places is name =
    let m = mesh_at state.named name in
    let points = all_points m in
    let all = (steps_keep meanings_under k limits few lawful (results_readable laws remeshes k limits few lawful) script lines places).value files state is in
    record {
      planes = λ taken. record { kept = kept points m taken; left = left points (faces_of m) (sides_of m) taken; flush = flush points m taken };
      remeshed = remeshes m (within_of_readable k limits m lawful (all.meshes name)).given;
    }
