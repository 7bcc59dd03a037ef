-- What remeshing gives, by what fills the planes; and the points over which it does.
use Rattle.std.proofs.Common.{◌≡◌, ◌++◌, ◌∙◌, ℕ, ℤ, Bool, List, [], ◌∷◌, true, false, ap, arith, length, map, refl, subst, sym}
use Rattle.std.specs.Prelude.{◌==◌, Err, IfOk, None, Ok, Option, Result, Some, if◌then◌else◌, nat_lt, not, sum_by}
use Rattle.std.specs.List.{flat_map}
use Rattle.std.proofs.lemmas.Bool.{eqb-true}
use Rattle.std.proofs.lemmas.List.{append-nil}
use Rattle.chain_terms.specs.Sums.{upto}
use Rattle.made_terms.specs.Refusals.{Exceeds, MadeFault, excess}
use Rattle.mb_base.specs.Faults.{counted_of}
use Rattle.mb_base.specs.declared.fault.Counted.{Counted}
use Rattle.mb_base.specs.declared.fault.Counted.TheVariants.{Points}
use Rattle.mesh_terms.specs.Faults as terms
use Rattle.mesh_terms.specs.Limits.{Limits}
use Rattle.mesh_terms.specs.Meshes.{Mesh, soup_of}
use Rattle.sheet_terms.specs.Crossings.{all_points, crossings_in, is_lower}
use Rattle.sheet_terms.specs.Faces.{Face, face_of, faces, is_flat, planes}
use Rattle.sheet_terms.specs.Places.{has_three, ordered, place_points}
use Rattle.sheet_terms.specs.Remesh.{Remeshed as TheRemeshed, fanned, new_labels, new_triples, with_faces, with_points}
use Rattle.edge_cutting.proofs.Counting.{filter_filter}
use Rattle.plan_laws.proofs.Twice.{all_points_are}
use Rattle.plane_groups.specs.Grouped.{bent}
use Rattle.plane_remesh.specs.declared.outcome.RemeshFault.{RemeshFault}
use Rattle.plane_remesh.specs.declared.outcome.RemeshFault.TheVariants.{Over}
use Rattle.plane_remesh.specs.declared.outcome.Remeshed.{Remeshed}
use Rattle.plane_remesh.specs.Excess.{refusal}
use Rattle.plan_laws.specs.Placed.{placed_faces}
use Rattle.plane_remesh.specs.Plans.{fillings_of, sides_of}
use Rattle.plane_remesh.specs.Rules.{IsMade, IsRemeshed, makes}

-- those with three places that are not flat
pub bent_placed : (points : List (List ℤ)) (m : Mesh) → bent points (placed_faces points m) ≡ faces points m
bent_placed points m =
    filter_filter (λ (f : Face). not (is_flat points f.corners)) (λ f. has_three f.corners) (map (face_of points m) (upto (length m.triples)))

-- the mesh that was made, where what fills the planes is taken
pub outcome_taken : (points : List (List ℤ)) (m new : Mesh) (r : Remeshed) → makes points m ≡ true → IsMade points m new → r.mesh ≡ new →
    r.planes ≡ length (planes points (bent points (placed_faces points m))) → r.kept ≡ sum_by (λ s. s.kept) (sides_of points (placed_faces points m)) →
    IsRemeshed r (with_points m points)
outcome_taken points m new r taken made mesh count kept =
    let all = placed_faces points m in
    let fs = bent points all in
    let gs = fillings_of points all in
    let yes : TheRemeshed = record {
      mesh = fanned (soup_of points (new_triples gs) (new_labels gs));
      planes = length (planes points fs);
      kept = sum_by (λ s. s.kept) (sides_of points all);
    } in
    let no : TheRemeshed = record { mesh = m; planes = length (planes points fs); kept = length m.triples } in
    let is : with_faces m points fs ≡ yes = ap (λ (b : Bool). if b then yes else no) taken in
    subst (IsRemeshed r) (sym is ∙ ap (with_faces m points) (bent_placed points m)) (record { mesh = mesh ∙ made; planes = count; kept = kept })

-- the mesh as it was, where it isn't
pub outcome_left : (points : List (List ℤ)) (m : Mesh) (r : Remeshed) → makes points m ≡ false → r.mesh ≡ m →
    r.planes ≡ length (planes points (bent points (placed_faces points m))) → r.kept ≡ length m.triples → IsRemeshed r (with_points m points)
outcome_left points m r left mesh count kept =
    let all = placed_faces points m in
    let fs = bent points all in
    let gs = fillings_of points all in
    let yes : TheRemeshed = record {
      mesh = fanned (soup_of points (new_triples gs) (new_labels gs));
      planes = length (planes points fs);
      kept = sum_by (λ s. s.kept) (sides_of points all);
    } in
    let no : TheRemeshed = record { mesh = m; planes = length (planes points fs); kept = length m.triples } in
    let is : with_faces m points fs ≡ no = ap (λ (b : Bool). if b then yes else no) left in
    subst (IsRemeshed r) (sym is ∙ ap (with_faces m points) (bent_placed points m)) (record { mesh = mesh; planes = count; kept = kept })

pub left_ok : {E : Type 0} (points : List (List ℤ)) (m : Mesh) (r : Result Remeshed E) (count : ℕ) → makes points m ≡ false →
    count ≡ length (planes points (bent points (placed_faces points m))) → IfOk r (λ x. x.mesh ≡ m) → IfOk r (λ x. x.planes ≡ count) →
    IfOk r (λ x. x.kept ≡ length m.triples) → IfOk r (λ x. IsRemeshed x (with_points m points))
left_ok points m (Ok x) count left is mesh planes kept = outcome_left points m x left mesh (planes ∙ is) kept
left_ok points m (Err e) count left is mesh planes kept = kept

-- the points in which edges of planes cross, plane by plane
abbrev pub found_in : List (List ℤ) → Mesh → List (List ℤ)
found_in points m = let fs = bent points (placed_faces points m) in flat_map (crossings_in points fs) (planes points fs)

abbrev crossed_in : List (List ℤ) → List Face → List (List ℤ)
crossed_in points fs = flat_map (crossings_in points fs) (planes points fs)

-- a mesh's points with those are all
pub points_all : (m : Mesh) (found more : List (List ℤ)) → found ≡ found_in (place_points (m.points ++ [])) m → more ≡ ordered is_lower found →
    place_points (m.points ++ more) ≡ all_points m
points_all m found more is sorted =
    let points = place_points m.points in
    let first : place_points (m.points ++ []) ≡ points = ap place_points (append-nil m.points) in
    let same : found ≡ crossed_in points (faces points m) = is ∙ ap (λ ps. found_in ps m) first ∙ ap (crossed_in points) (bent_placed points m) in
    ap (λ ps. place_points (m.points ++ ps)) (sorted ∙ ap (ordered is_lower) same) ∙ sym (all_points_are m)

no_points : (found : List (List ℤ)) → (length found == 0) ≡ true → [] ≡ ordered is_lower found
no_points [] none = refl
no_points (p ∷ ps) none = absurd (omega (arith, eqb-true (length (p ∷ ps)) 0 none))

-- they are the mesh's alone where no edges cross
pub points_none : (m : Mesh) (found : List (List ℤ)) → found ≡ found_in (place_points (m.points ++ [])) m → (length found == 0) ≡ true →
    place_points (m.points ++ []) ≡ all_points m
points_none m found is none = points_all m found [] is (no_points found none)

-- what exceeds a limit by a remeshed mesh's numbers exceeds it by those of the definition
pub sizes_are : (r : Remeshed) (d : TheRemeshed) (limits : Limits) (points triangles : ℕ) → IsRemeshed r d → points ≡ length r.mesh.points → triangles ≡ length r.mesh.triples →
    excess limits points triangles ≡ excess limits (length d.mesh.points) (length d.mesh.triples)
sizes_are r d limits points triangles is p t =
    let first = p ∙ ap (λ (m : Mesh). length m.points) is.mesh in
    let second = t ∙ ap (λ (m : Mesh). length m.triples) is.mesh in
    λ i. excess limits (first i) (second i)

abbrev fault_in : {T E : Type 0} → E → Result T E → E
fault_in d (Ok x) = d
fault_in d (Err e) = e

abbrev what_in : Option RemeshFault → Counted
what_in (Some (Over what seen)) = what
what_in _ = Points

abbrev seen_in : Option RemeshFault → ℕ
seen_in (Some (Over what seen)) = seen
seen_in _ = 0

-- what exceeds, where the two tests are told
abbrev either : Bool → Bool → ℕ → ℕ → Option MadeFault
either s t points triangles = if s then Some (Exceeds terms.Points points) else if t then Some (Exceeds terms.Triangles triangles) else None

none_either : (s t : Bool) (points triangles : ℕ) → ◌≡◌ {A = Option RemeshFault} None (refusal (either s t points triangles)) → either s t points triangles ≡ None
none_either true t points triangles h = absurd cc
none_either false true points triangles h = absurd cc
none_either false false points triangles h = refl

some_either : (s t : Bool) (points triangles : ℕ) (what : Counted) (seen : ℕ) → Some (Over what seen) ≡ refusal (either s t points triangles) →
    either s t points triangles ≡ Some (Exceeds (counted_of what) seen)
some_either true t points triangles what seen h = let w = ap what_in h in let n = ap seen_in h in λ i. Some (Exceeds (counted_of (sym w i)) (sym n i))
some_either false true points triangles what seen h = let w = ap what_in h in let n = ap seen_in h in λ i. Some (Exceeds (counted_of (sym w i)) (sym n i))
some_either false false points triangles what seen h = absurd cc

-- no excess where none is told; and the one that is told
pub no_excess : (limits : Limits) (points triangles : ℕ) → ◌≡◌ {A = Option RemeshFault} None (refusal (excess limits points triangles)) → excess limits points triangles ≡ None
no_excess limits points triangles h = none_either (nat_lt limits.points points) (nat_lt limits.triangles triangles) points triangles h

pub over_fault : {T : Type 0} (limits : Limits) (points triangles : ℕ) (fault : RemeshFault) (what : Counted) (seen : ℕ) → Some fault ≡ refusal (excess limits points triangles) →
    ◌≡◌ {A = Result T RemeshFault} (Err fault) (Err (Over what seen)) → excess limits points triangles ≡ Some (Exceeds (counted_of what) seen)
over_fault limits points triangles fault what seen told same =
    some_either (nat_lt limits.points points) (nat_lt limits.triangles triangles) points triangles what seen
    (ap (λ (f : RemeshFault). Some f) (sym (ap (fault_in fault) same)) ∙ told)
