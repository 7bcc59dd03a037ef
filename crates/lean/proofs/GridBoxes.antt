-- Boxes of triangles in steps of the grid: nothing is lost in them, and they are the boxes of the triangles' corners.
use Rattle.std.proofs.Common.{◌≡◌, ◌∙◌, ℕ, ◌-◌, ◌<◌, ◌≤◌, ◌^◌, ℤ, pos, ◌*ℤ◌, List, [], ◌∷◌, length, get_or, map, refl, ap, arith, subst, inl, inr, unsigned_abs}
use Rattle.std.specs.Prelude.{◌≤ℤ◌, Bool}
use Rattle.std.specs.Int.{int_max, int_min}
use Rattle.std.specs.List.{All}
use Rattle.std.proofs.lemmas.Int.{ints, clamps}
use Rattle.std.proofs.lemmas.Bool.{cases_lt}
use Rattle.std.proofs.lemmas.List.{get_or-map, get_or_past, length-map}
use Rattle.std.proofs.lemmas.List.Elements.{All-head, All-tail}
use Rattle.mb_base.specs.declared.TheConstants.{UNIT}
use Rattle.mb_base.specs.Boxes.{box_of}
use Rattle.mesh_terms.specs.Meshes.{IsBelow, Triple, triple_of, triples_of}
use Rattle.mesh_terms.specs.Points.{coordinate_of}
use Rattle.side_terms.specs.Corners.{AllFine, IsFineCorner}
use Rattle.side_terms.specs.Fine.{IsFine}
use Rattle.side_terms.specs.Sides.{corner_of, corners_of, face_of}
use Rattle.box_tree.specs.declared.bounds.Range.{Range}
use Rattle.box_tree.specs.Coarse.{IsExact, IsWhole, bounds_around, fine, step_above, step_below}
use Rattle.box_tree.specs.Touching.{IsBox, box_at, no_box}
use Rattle.box_tree.proofs.Quantized.{above_whole, below_whole}
use Rattle.lean.specs.Grid.{IsGridStep, boxes_on, face_bounds, face_box}
use Rattle.lean.specs.Vectors.{AllSmall, AreSmall}
use Rattle.lean.proofs.Corners.{corner_fine, corners_at}

-- a product is that of the numbers exchanged
exchanged : (a b : ℤ) → a *ℤ b ≡ b *ℤ a
exchanged a b = omega (arith, ints)

-- a number of grid steps, in fine steps, is as many coarse steps as they are
in_steps : (shift : ℕ) → IsGridStep shift → (z : ℤ) → UNIT *ℤ z ≡ fine shift z
in_steps shift step z = ap (λ u. u *ℤ z) step.same ∙ exchanged (pos (2 ^ shift)) z

-- a number that is small is an i32, though not an end of them
few_steps : (z : ℤ) → unsigned_abs z ≤ 2 ^ 30 → unsigned_abs z < 2 ^ 31 - 1
few_steps z small = omega (arith, small)

-- so it is not rounded
low_kept : (shift : ℕ) → IsGridStep shift → (z : ℤ) → unsigned_abs z ≤ 2 ^ 30 → step_below shift (UNIT *ℤ z) ≡ z
low_kept shift step z small = below_whole shift (UNIT *ℤ z) (record { steps = z; exact = in_steps shift step z; few = few_steps z small })

high_kept : (shift : ℕ) → IsGridStep shift → (z : ℤ) → unsigned_abs z ≤ 2 ^ 30 → step_above shift (UNIT *ℤ z) ≡ z
high_kept shift step z small = above_whole shift (UNIT *ℤ z) (record { steps = z; exact = in_steps shift step z; few = few_steps z small })

-- the least and the greatest of three small numbers are small
least_small : (a b c : ℤ) (n : ℕ) → unsigned_abs a ≤ n → unsigned_abs b ≤ n → unsigned_abs c ≤ n → unsigned_abs (int_min (int_min a b) c) ≤ n
least_small a b c n h k l = omega (arith, ints, clamps)

greatest_small : (a b c : ℤ) (n : ℕ) → unsigned_abs a ≤ n → unsigned_abs b ≤ n → unsigned_abs c ≤ n → unsigned_abs (int_max (int_max a b) c) ≤ n
greatest_small a b c n h k l = omega (arith, ints, clamps)

-- the least and the greatest of three small numbers of grid steps, in fine steps
least_whole : (shift : ℕ) → IsGridStep shift → (a b c : ℤ) → unsigned_abs a ≤ 2 ^ 30 →
    unsigned_abs b ≤ 2 ^ 30 → unsigned_abs c ≤ 2 ^ 30 → IsWhole shift (UNIT *ℤ int_min (int_min a b) c)
least_whole shift step a b c h k l =
    let m = int_min (int_min a b) c in
    record { steps = m; exact = in_steps shift step m; few = few_steps m (least_small a b c (2 ^ 30) h k l) }

greatest_whole : (shift : ℕ) → IsGridStep shift → (a b c : ℤ) → unsigned_abs a ≤ 2 ^ 30 →
    unsigned_abs b ≤ 2 ^ 30 → unsigned_abs c ≤ 2 ^ 30 → IsWhole shift (UNIT *ℤ int_max (int_max a b) c)
greatest_whole shift step a b c h k l =
    let m = int_max (int_max a b) c in
    record { steps = m; exact = in_steps shift step m; few = few_steps m (greatest_small a b c (2 ^ 30) h k l) }

-- each coordinate of the box of a triangle is a whole number of such steps
pub face_exact : (shift : ℕ) → IsGridStep shift → (points : List (List ℤ)) → AllSmall (2 ^ 30) points → (t : Triple) → IsExact shift (face_box points t)
face_exact shift step points small t =
    let a = small t.0 in
    let b = small t.1 in
    let c = small t.2 in
    let at : ℕ → ℕ → ℤ = λ v i. coordinate_of (get_or points v []) i in
    record {
      low = record {
        count = refl;
        x = least_whole shift step (at t.0 0) (at t.1 0) (at t.2 0) a.x b.x c.x;
        y = least_whole shift step (at t.0 1) (at t.1 1) (at t.2 1) a.y b.y c.y;
        z = least_whole shift step (at t.0 2) (at t.1 2) (at t.2 2) a.z b.z c.z;
      };
      high = record {
        count = refl;
        x = greatest_whole shift step (at t.0 0) (at t.1 0) (at t.2 0) a.x b.x c.x;
        y = greatest_whole shift step (at t.0 1) (at t.1 1) (at t.2 1) a.y b.y c.y;
        z = greatest_whole shift step (at t.0 2) (at t.1 2) (at t.2 2) a.z b.z c.z;
      };
    }

-- a range in steps of the grid, in fine steps and back
range_kept : (shift : ℕ) → IsGridStep shift → (a b c : ℤ) → unsigned_abs a ≤ 2 ^ 30 → unsigned_abs b ≤ 2 ^ 30 → unsigned_abs c ≤ 2 ^ 30 →
    ◌≡◌ {A = Range} (record { low = step_below shift (UNIT *ℤ int_min (int_min a b) c); high = step_above shift (UNIT *ℤ int_max (int_max a b) c) })
    (record { low = int_min (int_min a b) c; high = int_max (int_max a b) c })
range_kept shift step a b c h k l =
    let low = low_kept shift step (int_min (int_min a b) c) (least_small a b c (2 ^ 30) h k l) in
    let high = high_kept shift step (int_max (int_max a b) c) (greatest_small a b c (2 ^ 30) h k l) in
    λ i. record { low = low i; high = high i }

-- so the bounds of a triangle's box in coarse steps are those in steps of the grid
pub bounds_kept : (shift : ℕ) → IsGridStep shift → (points : List (List ℤ)) → AllSmall (2 ^ 30) points →
    (t : Triple) → bounds_around shift (face_box points t) ≡ face_bounds points t
bounds_kept shift step points small t =
    let a = small t.0 in
    let b = small t.1 in
    let c = small t.2 in
    let at : ℕ → ℕ → ℤ = λ v i. coordinate_of (get_or points v []) i in
    let x = range_kept shift step (at t.0 0) (at t.1 0) (at t.2 0) a.x b.x c.x in
    let y = range_kept shift step (at t.0 1) (at t.1 1) (at t.2 1) a.y b.y c.y in
    let z = range_kept shift step (at t.0 2) (at t.1 2) (at t.2 2) a.z b.z c.z in
    λ i. record { x = x i; y = y i; z = z i }

-- low is at most high on each axis
in_order : (a b c : ℤ) → (UNIT *ℤ int_min (int_min a b) c) ≤ℤ (UNIT *ℤ int_max (int_max a b) c)
in_order a b c = omega (arith, ints, clamps)

pub face_box-ordered : (points : List (List ℤ)) (t : Triple) → IsBox (face_box points t)
face_box-ordered points t =
    let at : ℕ → ℕ → ℤ = λ v i. coordinate_of (get_or points v []) i in
    record { x = in_order (at t.0 0) (at t.1 0) (at t.2 0); y = in_order (at t.0 1) (at t.1 1) (at t.2 1); z = in_order (at t.0 2) (at t.1 2) (at t.2 2) }

-- the box at a place is that of the triangle there
pub box_at-boxes : (points : List (List ℤ)) (xs : List (List ℕ)) (k : ℕ) → k < length (boxes_on points (triples_of xs)) →
    box_at (boxes_on points (triples_of xs)) k ≡ face_box points (triple_of (get_or xs k []))
box_at-boxes points xs k h =
    let listed : k < length (triples_of xs) = omega (arith, h, length-map (triples_of xs) (face_box points)) in
    let there : k < length xs = omega (arith, listed, length-map xs triple_of) in
    get_or-map (face_box points) (triples_of xs) k (triple_of []) no_box listed ∙ ap (face_box points) (get_or-map triple_of xs k [] (triple_of []) there)

-- and as many are there as triangles
pub length-boxes : (points : List (List ℤ)) (xs : List (List ℕ)) → length (boxes_on points (triples_of xs)) ≡ length xs
length-boxes points xs = length-map (triples_of xs) (face_box points) ∙ length-map xs triple_of

-- where the corners of points are fine, the points are on the grid
small_from_fine : (z : ℤ) → IsFine (UNIT *ℤ z) → unsigned_abs z ≤ 2 ^ 30
small_from_fine z fine = omega (arith, ints, fine.low, fine.high)

pub small_points : (points : List (List ℤ)) (ups : List (List Bool)) → length ups ≡ length points → AllFine (corners_of points ups) → AllSmall (2 ^ 30) points
small_points points ups long all v = elim (cases_lt v (length points)) as (λ _. AreSmall (2 ^ 30) (get_or points v [])) [
  | inl l ↦
      let at : IsFineCorner (corner_of (get_or points v []) (get_or ups v [])) = subst IsFineCorner
      (corners_at points ups v l (omega (arith, l, long))) (corner_fine (corners_of points ups) all v) in
      let p = get_or points v [] in
      record { x = small_from_fine (coordinate_of p 0) at.x; y = small_from_fine (coordinate_of p 1) at.y; z = small_from_fine (coordinate_of p 2) at.z }
  | inr l ↦ rw (get_or_past points v [] l) (record { x = omega arith; y = omega arith; z = omega arith })
]

-- the least of three numbers of grid steps, in fine steps, is the least of them in fine steps
least_scaled : (a b c : ℤ) → int_min (int_min (int_min (UNIT *ℤ a) (UNIT *ℤ a)) (UNIT *ℤ b)) (UNIT *ℤ c) ≡ UNIT *ℤ int_min (int_min a b) c
least_scaled a b c = omega (arith, ints, clamps)

greatest_scaled : (a b c : ℤ) → int_max (int_max (int_max (UNIT *ℤ a) (UNIT *ℤ a)) (UNIT *ℤ b)) (UNIT *ℤ c) ≡ UNIT *ℤ int_max (int_max a b) c
greatest_scaled a b c = omega (arith, ints, clamps)

-- the box of the corners of three points
box_of_points : (p q r : List ℤ) (u v w : List Bool) → box_of (corner_of p u ∷ corner_of q v ∷ corner_of r w ∷ []) ≡ face_box (p ∷ q ∷ r ∷ []) (0, 1, 2)
box_of_points p q r u v w =
    let low = λ (i : ℕ). least_scaled (coordinate_of p i) (coordinate_of q i) (coordinate_of r i) in
    let high = λ (i : ℕ). greatest_scaled (coordinate_of p i) (coordinate_of q i) (coordinate_of r i) in
    let lx = low 0 in
    let ly = low 1 in
    let lz = low 2 in
    let hx = high 0 in
    let hy = high 1 in
    let hz = high 2 in
    λ i. record { low = lx i ∷ ly i ∷ lz i ∷ []; high = hx i ∷ hy i ∷ hz i ∷ [] }

-- the box of a triangle's corners
box_of_face : (points : List (List ℤ)) (ups : List (List Bool)) (t : Triple) → length ups ≡ length points →
    IsBelow (length points) t → box_of (face_of (corners_of points ups) t) ≡ face_box points t
box_of_face points ups t long below =
    let corner = λ (v : ℕ) (h : v < length points). corners_at points ups v h (omega (arith, h, long)) in
    let a = corner t.0 below.a in
    let b = corner t.1 below.b in
    let c = corner t.2 below.c in
    (λ i. box_of (a i ∷ b i ∷ c i ∷ [])) ∙ box_of_points (get_or points t.0 []) (get_or points t.1 [])
    (get_or points t.2 []) (get_or ups t.0 []) (get_or ups t.1 []) (get_or ups t.2 [])

-- the boxes of all
pub boxes_of_faces : (points : List (List ℤ)) (ups : List (List Bool)) (ts : List Triple) → length ups ≡ length points → All (IsBelow (length points)) ts →
    map (λ t. box_of (face_of (corners_of points ups) t)) ts ≡ boxes_on points ts
boxes_of_faces points ups [] long below = refl
boxes_of_faces points ups (t ∷ ts) long below =
    let first = box_of_face points ups t long (All-head (IsBelow (length points)) t ts below) in
    let rest = boxes_of_faces points ups ts long (All-tail (IsBelow (length points)) t ts below) in
    λ i. first i ∷ rest i
