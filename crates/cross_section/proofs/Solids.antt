-- The solid over an outline is accepted, and how large it is.
use Rattle.std.proofs.Common.{◌≡◌, ℕ, ◌+◌, ◌*◌, ◌<◌, ◌≤◌, ℤ, pos, List, [], ◌∷◌, ◌++◌, length, get_or, map, take, append-nil, to_z, of_z, w32, refl, ap, subst, ◌∙◌, inl, inr, arith, rules}
use Rattle.std.specs.Prelude.{◌-ℤ◌, ◌*ℤ◌, Option, None, Some, IfSome, IsErrOf, Result, Ok, Err}
use Rattle.std.specs.List.{All, flat_map}
use Rattle.std.specs.List.{concat}
use Rattle.std.proofs.lemmas.Int.{fits_signed_from_abs, to_z-of_z}
use Rattle.std.proofs.lemmas.List.{get_or-map, length-append, length-map, take_more}
use Rattle.std.proofs.lemmas.List.Concat.{flat_map-append}
use Rattle.std.proofs.lemmas.List.Elements.{All-head, All-tail}
use Rattle.std.proofs.lemmas.List.Sums.{count_by-le-length, length-filter}
use Rattle.chain_terms.specs.Odd.{along}
use Rattle.chain_terms.specs.Paths.{round_edges}
use Rattle.chain_terms.specs.Sums.{total}
use Rattle.chain_laws.specs.Areas.{area_at}
use Rattle.chain_laws.specs.Sums.{total-flat_map, total-same}
use Rattle.chain_laws.specs.Triples.{opposite_triple, renamed_triple}
use Rattle.mesh_terms.specs.Limits.{Limits, most_triangles}
use Rattle.mb_base.specs.declared.fault.Counted.TheVariants.{Triangles}
use Rattle.mesh_terms.specs.Meshes.{IsAccepted, IsBelow, Triple, triple_of, triples_of}
use Rattle.mesh_terms.specs.Points.{IsOnGrid, coordinate_of}
use Rattle.mesh_terms.specs.Volume.{volume6_of}
use Rattle.face_plane.specs.Planes.{Plane, across, area, plane_of, point_at}
use Rattle.hole_joining.specs.Holes.{hole_count, is_hole}
use Rattle.hole_joining.specs.Laws.{AreFillable}
use Rattle.triangulate.specs.Laws.{HasCount}
use Rattle.outline_terms.specs.Extrusion.{at_height, extruded_points, extruded_triples, walls}
use Rattle.outline_terms.specs.Outlines.{IsOutline, Outline, outline_edges}
use Rattle.outline_terms.proofs.Edges.{edges_between, edges_long, edges_proper, loops_below, loops_long}
use Rattle.outline_terms.proofs.Extruding.{extrusion_closed}
use Rattle.outline_terms.proofs.Once.{outline_different, outline_once}
use Rattle.outline_terms.proofs.SolidExtrusion.{extrusion_solid}
use Rattle.outline_terms.proofs.Volume.{extrusion_volume}
use Rattle.cross_section.specs.Extruded.{AreOver, IsRefusedFor, doubled_area, extruded, extrusion_fault, filling_of, first_reason, flat_or_over, over}
use Rattle.cross_section.specs.declared.extrusion.fault.ExtrudeFault.{ExtrudeFault}
use Rattle.cross_section.specs.declared.extrusion.fault.ExtrudeFault.TheVariants.{NoMemory}

-- a coordinate of the grid as it stands in 32 bits
pub kept_32 : (z : ℤ) → IsOnGrid z → to_z w32 (of_z w32 z) ≡ z
kept_32 z h = to_z-of_z w32 z (fits_signed_from_abs w32 z (omega (arith, h)))

-- the loops of an outline can be filled
pub outline_fillable : (o : Outline) → IsOutline o → AreFillable o.loops (length o.points)
outline_fillable o is = record {
  long = is.long;
  different = outline_different (length o.points) o.loops is.each;
  below = loops_below o is;
  few = omega (arith, loops_long o is, is.few);
}

-- a filling has at most three triangles for each vertex
three_each : (loops : List (List ℕ)) → All (λ loop. 3 ≤ length loop) loops → 3 * length loops ≤ length (concat loops)
three_each [] long = omega arith
three_each (l ∷ ls) long = omega (arith, length-append l (concat ls), All-head (λ loop. 3 ≤ length loop) l ls long, three_each ls (All-tail (λ loop. 3 ≤ length loop) l ls long))

holes_few : (at : Plane) (loops : List (List ℕ)) → hole_count at loops ≤ length loops
holes_few at loops = omega (arith, length-filter (is_hole at) loops, count_by-le-length (is_hole at) loops)

pub filling_few : (o : Outline) → IsOutline o → (at : Plane) (ts : List Triple) → HasCount at o.loops ts → length ts ≤ 3 * length o.points
filling_few o is at ts count = omega (arith, count, loops_long o is, three_each o.loops is.long, holes_few at o.loops)

-- the corners of one of its triangles
pub corners_below : (n : ℕ) (fill : List (List ℕ)) (i : ℕ) → i < length fill → All (IsBelow n) (triples_of fill) → IsBelow n (triple_of (get_or fill i []))
corners_below n fill i low h = subst (IsBelow n) (get_or-map triple_of fill i [] (0, 0, 0) low) (h i (0, 0, 0) (omega (arith, low, length-map fill triple_of)))

-- twice as many points
pub points_long : (low high : ℤ) (ps : List (List ℤ)) → length (extruded_points low high ps) ≡ 2 * length ps
points_long low high ps = omega (arith, length-append (map (at_height low) ps) (map (at_height high) ps), length-map ps (at_height low), length-map ps (at_height high))

-- the walls over one edge more
pub walls_more : (n : ℕ) (es : List (ℕ × ℕ)) (i : ℕ) → i < length es → flat_map (walls n) (take (i + 1) es) ≡ flat_map (walls n) (take i es) ++ walls n (get_or es i (0, 0))
walls_more n es i low =
    ap (flat_map (walls n)) (take_more es i (0, 0) low) ∙ flat_map-append (walls n) (take i es) (get_or es i (0, 0) ∷ [])
    ∙ ap (λ l. flat_map (walls n) (take i es) ++ l) (append-nil (walls n (get_or es i (0, 0))))

-- two triangles for each edge
walls_long : (n : ℕ) (es : List (ℕ × ℕ)) → length (flat_map (walls n) es) ≡ 2 * length es
walls_long n [] = refl
walls_long n (e ∷ es) = omega (arith, walls_long n es)

pub triples_long : (n : ℕ) (ts : List Triple) (es : List (ℕ × ℕ)) → length (extruded_triples n ts es) ≡ 2 * (length ts + length es)
triples_long n ts es =
    let top = map (renamed_triple (λ v. v + n)) ts in
    omega (
      arith,
      length-append (map opposite_triple ts) (top ++ flat_map (walls n) es),
      length-append top
          (flat_map (walls n) es),
      length-map ts opposite_triple,
      length-map ts (renamed_triple (λ v. v + n)),
      walls_long n es,
    )

-- the solid that they make is accepted where its triangles are few
pub solid_accepted : (o : Outline) → IsOutline o → (low high : ℤ) (ts : List Triple) → AreOver o ts → 2 * (length ts + length o.points) ≤ most_triangles →
    IsAccepted (length (extruded_points low high o.points)) (extruded_triples (length o.points) ts (outline_edges o))
solid_accepted o is low high ts over few =
    let n = length o.points in
    let es = outline_edges o in
    let s = extrusion_solid n ts es over.three over.below (edges_proper o is) (λ v low. omega (arith, (outline_once o is).starts v low)) in
    let twice : n + n ≡ length (extruded_points low high o.points) = omega (arith, points_long low high o.points) in
    subst (λ m. IsAccepted m (extruded_triples n ts es)) twice (record {
      mesh = record {
        three = s.three;
        below = s.below;
        used = s.used;
        few_points = omega (arith, is.few);
        few_triples = omega (arith, few, triples_long n ts es, edges_long o is);
      };
      closed = extrusion_closed n ts o.loops over.chain;
    })

-- its volume
pub solid_volume : (o : Outline) → IsOutline o → (low high : ℤ) (ts : List Triple) → AreOver o ts →
    volume6_of (extruded_points low high o.points) (extruded_triples (length o.points) ts (outline_edges o)) ≡ pos 3 *ℤ ((high -ℤ low) *ℤ doubled_area o)
solid_volume o is low high ts over =
    let x_of : ℕ → ℤ = λ v. coordinate_of (point_at o.points v) 0 in
    let y_of : ℕ → ℤ = λ v. coordinate_of (point_at o.points v) 1 in
    let edge_area : (ℕ × ℕ) → ℤ = along (area_at x_of y_of) in
    let by_loops : total edge_area (outline_edges o) ≡ doubled_area o =
    total-flat_map edge_area round_edges o.loops ∙ total-same (λ l. total edge_area (round_edges l)) (area (plane_of 2 (point_at o.points)))
    (λ l. total-same edge_area (across (plane_of 2 (point_at o.points))) (λ e. refl) (round_edges l)) o.loops in
    extrusion_volume low high o.points ts (outline_edges o) over.below (edges_between o is) over.chain ∙ ap (λ a. pos 3 *ℤ ((high -ℤ low) *ℤ a)) by_loops

-- why there is none
pub fault_is : (limits : Limits) (o : Outline) → IsOutline o → (low high : ℤ) (first second : Option ExtrudeFault) → flat_or_over limits low high (2 * length o.points) ≡ first →
    over Triangles limits.triangles (2 * (length (filling_of o).triples + length o.points)) ≡ second → extrusion_fault limits o low high ≡ first_reason first second
fault_is limits o is low high first second f g =
    let ts = (filling_of o).triples in
    let seen : length (extruded o low high).triples ≡ 2 * (length ts + length o.points) = triples_long (length o.points) ts (outline_edges o)
    ∙ ap (λ n. 2 * (length ts + n)) (edges_long o is) in
    (λ i. first_reason (flat_or_over limits low high (points_long low high o.points i)) (over Triangles limits.triangles (seen i))) ∙ (λ i. first_reason (f i) (g i))

-- want of memory may always be the answer
pub memory_wants : (X : Type 0) (why : Option ExtrudeFault) → IsRefusedFor {X = X} why (Err NoMemory)
memory_wants X None = inr refl
memory_wants X (Some why) = inr refl

-- a reason that stands is the answer
abbrev pub AnswersAtOnce : {X : Type 0} → Option ExtrudeFault → Result X ExtrudeFault → Type 0
AnswersAtOnce o r = IfSome o (λ why. IsErrOf r why)

pub answers_some : (X : Type 0) (o : Option ExtrudeFault) (why : ExtrudeFault) → o ≡ Some why → AnswersAtOnce {X = X} o (Err why)
answers_some X None why e = absurd (cc)
answers_some X (Some w) why e = cc

-- where there is no reason all is done
pub all_done : {X : Type 0} (why : Option ExtrudeFault) (x : X) → why ≡ None → IsRefusedFor {X = X} why (Ok x)
all_done None x e = inl (search rules)
all_done (Some w) x e = absurd (cc)

-- and a reason that stands is the answer
pub refused_by : (X : Type 0) (why : Option ExtrudeFault) (fault : ExtrudeFault) → why ≡ Some fault → IsRefusedFor {X = X} why (Err fault)
refused_by X None fault e = absurd (cc)
refused_by X (Some w) fault e = inl (cc)
