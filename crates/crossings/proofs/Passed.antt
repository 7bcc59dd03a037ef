-- Runs of triangles, and the faces that are near them.
use Rattle.std.proofs.Common.{◌≡◌, ℕ, zero, suc, ◌+◌, ◌-◌, ◌*◌, ◌/◌, ◌<◌, ◌≤◌, ℤ, Bool, true, false, ◌&&◌, List, [], ◌∷◌, ◌++◌, length, get_or, refl, sym, ap, subst, arith, inl, inr, ◌∙◌, append-nil}
use Rattle.std.specs.Prelude.{◌≤ℤ◌}
use Rattle.std.specs.List.{All}
use Rattle.std.proofs.lemmas.Bool.{and_cases, cases_lt}
use Rattle.std.proofs.lemmas.Int.{ints, clamps}
use Rattle.chain_terms.specs.Chains.{all_edges}
use Rattle.chain_terms.specs.Ranks.{start, finish, twin}
use Rattle.mesh_terms.specs.Meshes.{Triple}
use Rattle.mb_base.specs.declared.point.Box3.{Box3}
use Rattle.mb_base.specs.declared.point.Corner.{Corner}
use Rattle.mb_base.specs.Boxes.{box_of}
use Rattle.side_terms.specs.Corners.{blank_corner, corner_at}
use Rattle.side_terms.specs.Sides.{Side, IsSide, edge_at, face_at, face_boxes}
use Rattle.box_tree.specs.Touching.{end_on, overlap, overlap_on, touches, touching_numbers}
use Rattle.lean.proofs.Corners.{edge_fine}
use Rattle.crossings.specs.Hits.{CrossingTest, hits_along, hits_before}
use Rattle.crossings.specs.Near.{hits_with}
use Rattle.crossings.specs.Runs.{IsRound}
use Rattle.crossings.proofs.Nearby.{Separates, hits_in}
use Rattle.crossings.proofs.Rows.{hits_lower, hits_upper}

-- on axis i the second box takes in the first
pub record TakesIn (i : ℕ) (small large : Box3) : Type 0 where
  pub low : end_on i large.low ≤ℤ end_on i small.low
  pub high : end_on i small.high ≤ℤ end_on i large.high

-- an interval that does not overlap another overlaps none within it
overlap_less : (low high from to less more : ℤ) → from ≤ℤ less → more ≤ℤ to → overlap low high from to ≡ false → overlap low high less more ≡ false
overlap_less low high from to less more h k e = grind (arith, ints, clamps, h, k, e)

overlap_on_less : (i : ℕ) (b small large : Box3) → TakesIn i small large → overlap_on i b large ≡ false → overlap_on i b small ≡ false
overlap_on_less i b small large t e =
    overlap_less (end_on i b.low) (end_on i b.high) (end_on i large.low) (end_on i large.high) (end_on i small.low) (end_on i small.high) t.low t.high e

-- no two where one of them is not
and_left : (x y : Bool) → x ≡ false → (x && y) ≡ false
and_left x y e = rw e refl

and_right : (x y : Bool) → y ≡ false → (x && y) ≡ false
and_right true y e = e
and_right false y e = refl

-- the second box takes in the first on each axis
pub record IsWithin (small large : Box3) : Type 0 where
  pub x : TakesIn 0 small large
  pub y : TakesIn 1 small large
  pub z : TakesIn 2 small large

-- a box that does not touch an area touches none within it
touches_less : (b small large : Box3) → IsWithin small large → touches b large ≡ false → touches b small ≡ false
touches_less b small large within e =
    elim (and_cases (overlap_on 0 b large && overlap_on 1 b large) (overlap_on 2 b large) e) as (λ _. touches b small ≡ false) [
      | inl f ↦
          and_left (overlap_on 0 b small && overlap_on 1 b small) (overlap_on 2 b small)
          (elim (and_cases (overlap_on 0 b large) (overlap_on 1 b large) f) as (λ _. (overlap_on 0 b small && overlap_on 1 b small) ≡ false) [
            | inl x ↦ and_left (overlap_on 0 b small) (overlap_on 1 b small) (overlap_on_less 0 b small large within.x x)
            | inr y ↦ and_right (overlap_on 0 b small) (overlap_on 1 b small) (overlap_on_less 1 b small large within.y y)
          ])
      | inr z ↦ and_right (overlap_on 0 b small && overlap_on 1 b small) (overlap_on 2 b small) (overlap_on_less 2 b small large within.z z)
    ]

-- the box of two corners lies in every box that holds both
edge_within : (c d : Corner) (b : Box3) → IsRound b c → IsRound b d → IsWithin (box_of (c ∷ d ∷ [])) b
edge_within c d b h k = record {
  x = record { low = grind (arith, ints, clamps, h.low_x, k.low_x); high = grind (arith, ints, clamps, h.high_x, k.high_x) };
  y = record { low = grind (arith, ints, clamps, h.low_y, k.low_y); high = grind (arith, ints, clamps, h.high_y, k.high_y) };
  z = record { low = grind (arith, ints, clamps, h.low_z, k.low_z); high = grind (arith, ints, clamps, h.high_z, k.high_z) };
}

-- what holds of the vertices of a triangle holds of the ends of its half-edges
ends_of : (P : ℕ → Type 0) (ts : List Triple) (h : ℕ) → h < 3 * length ts → ((t : Triple) → t ≡ get_or ts (h / 3) (0, 0, 0) → P t.0 × P t.1 × P t.2) →
    P (start (all_edges ts) h) × P (finish (all_edges ts) h)
ends_of P [] h below each = absurd (omega (arith, below))
ends_of P (t ∷ ts) zero below each = let e = each t refl in (e.0, e.1)
ends_of P (t ∷ ts) (suc zero) below each = let e = each t refl in (e.1, e.2)
ends_of P (t ∷ ts) (suc (suc zero)) below each = let e = each t refl in (e.2, e.0)
ends_of P (t ∷ ts) (suc (suc (suc h))) below each =
    let third : suc (suc (suc h)) / 3 ≡ suc (h / 3) = omega arith in
    ends_of P ts h (omega (arith, below)) (λ u e. each u (e ∙ sym (ap (λ f. get_or (t ∷ ts) f (0, 0, 0)) third)))

-- so the box of an edge lies in every box that holds the corners of its triangle
half_within : (side : Side) (b : Box3) (h : ℕ) → h < 3 * length side.triples → All (IsRound b) (face_at side (h / 3)) → IsWithin (box_of (edge_at side h)) b
half_within side b h below round =
    let es = all_edges side.triples in
    let P : ℕ → Type 0 = λ v. IsRound b (corner_at side.corners v) in
    let t = get_or side.triples (h / 3) (0, 0, 0) in
    let three : P t.0 × P t.1 × P t.2 = (round 0 blank_corner (omega arith), round 1 blank_corner (omega arith), round 2 blank_corner (omega arith)) in
    let ends = ends_of P side.triples h below (λ u e. subst (λ (w : Triple). P w.0 × P w.1 × P w.2) (sym e) three) in
    edge_within (corner_at side.corners (start es h)) (corner_at side.corners (finish es h)) b ends.0 ends.1

-- a half-edge whose triangle lies in a box has its hits with the faces whose boxes touch that one
hits_within : (test : CrossingTest) (edges faces : Side) → Separates test → IsSide edges → IsSide faces → (b : Box3) (h : ℕ) → h < 3 * length edges.triples →
    All (IsRound b) (face_at edges (h / 3)) → hits_with test edges faces h (touching_numbers (face_boxes faces) b) ≡ hits_along test edges faces h
hits_within test edges faces apart own known b h below round =
    let es = all_edges edges.triples in
    let fine = edge_fine edges.corners own.fine (start es h) (finish es h) in
    hits_in test edges faces apart known h fine b (λ c far. touches_less c (box_of (edge_at edges h)) b (half_within edges b h below round) far)

-- a half-edge without hits adds none
passed_one : (test : CrossingTest) (edges faces : Side) (h : ℕ) → hits_along test edges faces h ≡ [] → hits_before test edges faces (h + 1) ≡ hits_before test edges faces h
passed_one test edges faces h none = elim (cases_lt h (twin (all_edges edges.triples) h)) as (λ _. hits_before test edges faces (h + 1) ≡ hits_before test edges faces h) [
  | inl lower ↦ hits_lower test edges faces h lower ∙ ap (λ r. hits_before test edges faces h ++ r) none ∙ append-nil (hits_before test edges faces h)
  | inr upper ↦ hits_upper test edges faces h upper
]

-- nor do many
passed : (test : CrossingTest) (edges faces : Side) (from n : ℕ) → ((h : ℕ) → from ≤ h → h < from + n → hits_along test edges faces h ≡ []) →
    hits_before test edges faces (from + n) ≡ hits_before test edges faces from
passed test edges faces from zero none = ap (hits_before test edges faces) (omega arith)
passed test edges faces from (suc n) none =
    let last : from + suc n ≡ from + n + 1 = omega arith in
    ap (hits_before test edges faces) last ∙ passed_one test edges faces (from + n) (none (from + n) (omega arith) (omega arith))
    ∙ passed test edges faces from n (λ h low high. none h low (omega (arith, high)))

-- half-edges of a run of triangles that lies in a box
pub run_within : (test : CrossingTest) (edges faces : Side) → Separates test → IsSide edges → IsSide faces → (b : Box3) (from to : ℕ) → to ≤ length edges.triples →
    ((f : ℕ) → from ≤ f → f < to → All (IsRound b) (face_at edges f)) → (h : ℕ) → 3 * from ≤ h → h < 3 * to →
    hits_with test edges faces h (touching_numbers (face_boxes faces) b) ≡ hits_along test edges faces h
run_within test edges faces apart own known b from to within round h low high =
    hits_within test edges faces apart own known b h (omega (arith, high, within)) (round (h / 3) (omega (arith, low)) (omega (arith, high)))

-- where no half-edge of a run has hits, the run adds none
pub passed_run : (test : CrossingTest) (edges faces : Side) (first end : ℕ) → first ≤ end →
    ((h : ℕ) → first ≤ h → h < end → hits_along test edges faces h ≡ []) →
    hits_before test edges faces first ≡ hits_before test edges faces end
passed_run test edges faces first end order none =
    let all : first + (end - first) ≡ end = omega (arith, order) in
    sym (passed test edges faces first (end - first) (λ h low high. none h low (omega (arith, high, order)))) ∙ ap (hits_before test edges faces) all
