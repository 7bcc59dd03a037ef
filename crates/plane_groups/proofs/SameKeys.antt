-- Two triangles lie in one plane exactly where the keys of their planes are one.
use Rattle.std.specs.Prelude.{◌≡◌, ◌≢◌, ℕ, ℤ, pos, neg_ℤ, ◌+ℤ◌, ◌-ℤ◌, ◌*ℤ◌, List, [], ◌∷◌, true, false, ◌&&◌}
use Rattle.std.specs.Cmp.Lexicographic.{pointwise}
use Rattle.std.specs.Ordering.{int_eq}
use Rattle.std.proofs.Common.{arith, refl, sym, ap, ◌∙◌}
use Rattle.std.proofs.Math.IntN.{*ℤ-zero, *ℤ_comm}
use Rattle.std.proofs.lemmas.Bool.{and_from, and_parts}
use Rattle.std.proofs.lemmas.Bool.Decides.{Decides-int_eq, same_from_decides}
use Rattle.std.proofs.lemmas.Int.{ints}
use Rattle.std.proofs.lemmas.Slice.Eq.{slice_eq-Decides}
use Rattle.chain_laws.specs.Products.{mul-add, mul-assoc, mul-neg, mul-sub}
use Rattle.plane_laws.specs.Areas.{Place, exchanged, no_volume}
use Rattle.face_plane.specs.Planes.{point_at}
use Rattle.mesh_terms.specs.Points.{coordinate_of, cross_on, cross_product}
use Rattle.sheet_terms.specs.Cuts.{scalar}
use Rattle.sheet_terms.specs.Faces.{Face, in_plane, is_flat, lies_in, normal}
use Rattle.edge_cutting.proofs.Multiples.{AreParallel, cancel}
use Rattle.plane_groups.specs.Keys.{front_normal, key_at, same_key}
use Rattle.plane_groups.proofs.FrontNormals.{front_is, front_up, same_front, signed_divisor}

-- a normal with no part along two ways has their cross product's direction, or the opposite one: one coordinate of it
module _ (n0 n1 n2 u0 u1 u2 w0 w1 w2 : ℤ) (hu : (n0 *ℤ u0 +ℤ n1 *ℤ u1) +ℤ n2 *ℤ u2 ≡ pos 0) (hw : (n0 *ℤ w0 +ℤ n1 *ℤ w1) +ℤ n2 *ℤ w2 ≡ pos 0) where
  crossed_first : n0 *ℤ (u2 *ℤ w0 -ℤ u0 *ℤ w2) ≡ (u1 *ℤ w2 -ℤ u2 *ℤ w1) *ℤ n1
  crossed_first =
      let first : w2 *ℤ ((n0 *ℤ u0 +ℤ n1 *ℤ u1) +ℤ n2 *ℤ u2) ≡ pos 0 = ap (λ t. w2 *ℤ t) hu ∙ *ℤ-zero w2 in
      let second : u2 *ℤ ((n0 *ℤ w0 +ℤ n1 *ℤ w1) +ℤ n2 *ℤ w2) ≡ pos 0 = ap (λ t. u2 *ℤ t) hw ∙ *ℤ-zero u2 in
      omega (
        arith,
        ints,
        first,
        second,
        mul-add w2 (n0 *ℤ u0 +ℤ n1 *ℤ u1) (n2 *ℤ u2),
        mul-add w2 (n0 *ℤ u0) (n1 *ℤ u1),
        mul-add u2 (n0 *ℤ w0 +ℤ n1 *ℤ w1) (n2 *ℤ w2),
        mul-add u2 (n0 *ℤ w0) (n1 *ℤ w1),
        mul-sub n0 (u2 *ℤ w0) (u0 *ℤ w2),
        *ℤ_comm (u1 *ℤ w2 -ℤ u2 *ℤ w1) n1,
        mul-sub n1 (u1 *ℤ w2) (u2 *ℤ w1),
        exchanged n0 u2 w0,
        ap (λ t. n0 *ℤ t) (*ℤ_comm u0 w2),
        exchanged n0 w2 u0,
        ap (λ t. n1 *ℤ t) (*ℤ_comm u1 w2),
        exchanged n1 w2 u1,
        exchanged n1 u2 w1,
        exchanged w2 n2 u2,
        exchanged u2 n2 w2,
        ap (λ t. n2 *ℤ t) (*ℤ_comm w2 u2),
      )

-- the part of a normal along a way
abbrev along : List ℤ → List ℤ → List ℤ → ℤ
along n p q =
    (coordinate_of n 0 *ℤ (coordinate_of q 0 -ℤ coordinate_of p 0) +ℤ coordinate_of n 1 *ℤ (coordinate_of q 1 -ℤ coordinate_of p 1))
    +ℤ coordinate_of n 2 *ℤ (coordinate_of q 2 -ℤ coordinate_of p 2)

along_is : (n p q : List ℤ) → along n p q ≡ scalar n q -ℤ scalar n p
along_is n p q =
    let by : (i : ℕ) → coordinate_of n i *ℤ (coordinate_of q i -ℤ coordinate_of p i) ≡ coordinate_of n i *ℤ coordinate_of q i -ℤ coordinate_of n i *ℤ coordinate_of p i = λ i.
    mul-sub (coordinate_of n i) (coordinate_of q i) (coordinate_of p i) in
    omega (arith, ints, by 0, by 1, by 2)

-- so a normal at whose level the corners of a triangle lie is parallel to that of the triangle
pub parallel_to : (n p q r : List ℤ) → scalar n q ≡ scalar n p → scalar n r ≡ scalar n p →
    AreParallel (coordinate_of n 0) (coordinate_of n 1) (coordinate_of n 2) (cross_on 1 2 p q r) (cross_on 2 0 p q r) (cross_on 0 1 p q r)
parallel_to n p q r hq hr =
    let u : ℕ → ℤ = λ i. coordinate_of q i -ℤ coordinate_of p i in
    let w : ℕ → ℤ = λ i. coordinate_of r i -ℤ coordinate_of p i in
    let m : ℕ → ℤ = λ i. coordinate_of n i in
    let eu : along n p q ≡ pos 0 = omega (arith, ints, along_is n p q, hq) in
    let ew : along n p r ≡ pos 0 = omega (arith, ints, along_is n p r, hr) in
    record {
      ab = crossed_first (m 0) (m 1) (m 2) (u 0) (u 1) (u 2) (w 0) (w 1) (w 2) eu ew;
      bc = crossed_first (m 1) (m 2) (m 0) (u 1) (u 2) (u 0) (w 1) (w 2) (w 0) (omega (arith, ints, eu)) (omega (arith, ints, ew));
      ca = crossed_first (m 2) (m 0) (m 1) (u 2) (u 0) (u 1) (w 2) (w 0) (w 1) (omega (arith, ints, eu)) (omega (arith, ints, ew));
    }

-- the normal of a triangle has no part along its edges
flat_first : (p q r : List ℤ) → along (cross_product p q r) p q ≡ pos 0
flat_first p q r =
    let u : ℕ → ℤ = λ i. coordinate_of q i -ℤ coordinate_of p i in
    let w : ℕ → ℤ = λ i. coordinate_of r i -ℤ coordinate_of p i in
    let s : ℕ → Place = λ i. record { x = u i; y = w i } in
    omega (
      arith,
      ints,
      no_volume (s 0) (s 1) (s 2),
      *ℤ_comm (cross_on 1 2 p q r) (u 0),
      *ℤ_comm (cross_on 2 0 p q r) (u 1),
      *ℤ_comm (cross_on 0 1 p q r) (u 2),
    )

flat_second : (p q r : List ℤ) → along (cross_product p q r) p r ≡ pos 0
flat_second p q r =
    let u : ℕ → ℤ = λ i. coordinate_of q i -ℤ coordinate_of p i in
    let w : ℕ → ℤ = λ i. coordinate_of r i -ℤ coordinate_of p i in
    let s : ℕ → Place = λ i. record { x = w i; y = u i } in
    let turned : (i j : ℕ) → w i *ℤ u j -ℤ w j *ℤ u i ≡ neg_ℤ (u i *ℤ w j -ℤ u j *ℤ w i) = λ i j. omega (arith, ints, *ℤ_comm (w i) (u j), *ℤ_comm (w j) (u i)) in
    omega (
      arith,
      ints,
      no_volume (s 0) (s 1) (s 2),
      ap (λ t. w 0 *ℤ t) (turned 1 2),
      ap (λ t. w 1 *ℤ t) (turned 2 0),
      ap (λ t. w 2 *ℤ t) (turned 0 1),
      mul-neg (w 0) (cross_on 1 2 p q r),
      mul-neg (w 1) (cross_on 2 0 p q r),
      mul-neg (w 2) (cross_on 0 1 p q r),
      *ℤ_comm (cross_on 1 2 p q r) (w 0),
      *ℤ_comm (cross_on 2 0 p q r) (w 1),
      *ℤ_comm (cross_on 0 1 p q r) (w 2),
    )

-- scalar products with a multiple
scalar_times : (n m v : List ℤ) (d : ℤ) → coordinate_of n 0 ≡ d *ℤ coordinate_of m 0 → coordinate_of n 1 ≡ d *ℤ coordinate_of m 1 → coordinate_of n 2 ≡ d *ℤ coordinate_of m 2 →
    scalar n v ≡ d *ℤ scalar m v
scalar_times n m v d x y z =
    let m_at : ℕ → ℤ = λ i. coordinate_of m i in
    let v_at : ℕ → ℤ = λ i. coordinate_of v i in
    omega (
      arith,
      ints,
      ap (λ t. t *ℤ v_at 0) x ∙ mul-assoc d (m_at 0) (v_at 0),
      ap (λ t. t *ℤ v_at 1) y ∙ mul-assoc d (m_at 1) (v_at 1),
      ap (λ t. t *ℤ v_at 2) z ∙ mul-assoc d (m_at 2) (v_at 2),
      mul-add d (m_at 0 *ℤ v_at 0 +ℤ m_at 1 *ℤ v_at 1) (m_at 2 *ℤ v_at 2),
      mul-add d (m_at 0 *ℤ v_at 0) (m_at 1 *ℤ v_at 1),
    )

-- factors that may be left out of a direction
parallel_divided : (d e a b x y u v w z : ℤ) → d ≢ pos 0 → e ≢ pos 0 → u ≡ d *ℤ a → v ≡ d *ℤ b → w ≡ e *ℤ x → z ≡ e *ℤ y → u *ℤ z ≡ w *ℤ v → a *ℤ y ≡ x *ℤ b
parallel_divided d e a b x y u v w z some more hu hv hw hz h =
    let left : u *ℤ z ≡ d *ℤ (e *ℤ (a *ℤ y)) = ap (λ t. t *ℤ z) hu ∙ ap (λ t. (d *ℤ a) *ℤ t) hz ∙ mul-assoc d a (e *ℤ y) ∙ ap (λ t. d *ℤ t) (exchanged a e y) in
    let right : w *ℤ v ≡ d *ℤ (e *ℤ (x *ℤ b)) =
    ap (λ t. t *ℤ v) hw ∙ ap (λ t. (e *ℤ x) *ℤ t) hv ∙ mul-assoc e x (d *ℤ b) ∙ ap (λ t. e *ℤ t) (exchanged x d b) ∙ exchanged e d (x *ℤ b) in
    cancel e (a *ℤ y) (x *ℤ b) more (cancel d (e *ℤ (a *ℤ y)) (e *ℤ (x *ℤ b)) some (sym left ∙ h ∙ right))

module _ (points : List (List ℤ)) (s f : Face) (bent_s : is_flat points s.corners ≡ false) (bent_f : is_flat points f.corners ≡ false) where
  abbrev a : List ℤ
  a = point_at points s.corners.0

  abbrev p : List ℤ
  p = point_at points f.corners.0

  abbrev q : List ℤ
  q = point_at points f.corners.1

  abbrev r : List ℤ
  r = point_at points f.corners.2

  abbrev n : List ℤ
  n = normal points s

  abbrev m : List ℤ
  m = normal points f

  -- the front normals are one, and the levels
  pub record AreOne : Type 0 where
    pub normals : front_normal n ≡ front_normal m
    pub levels : scalar (front_normal n) a ≡ scalar (front_normal m) p

  at_level : (v : List ℤ) → scalar n v ≡ scalar n a → scalar (front_normal n) v ≡ scalar (front_normal n) a
  at_level v h =
      let k = front_is n bent_s in
      let d = signed_divisor n in
      cancel d (scalar (front_normal n) v) (scalar (front_normal n) a) k.some
      (sym (scalar_times n (front_normal n) v d k.x k.y k.z) ∙ h ∙ scalar_times n (front_normal n) a d k.x k.y k.z)

  pub in_to_one : in_plane points s f ≡ true → AreOne
  in_to_one h =
      let outer = and_parts (lies_in points s f.corners.0 && lies_in points s f.corners.1) (lies_in points s f.corners.2) h in
      let inner = and_parts (lies_in points s f.corners.0) (lies_in points s f.corners.1) outer.0 in
      let on : (v : List ℤ) → int_eq (scalar n v) (scalar n a) ≡ true → scalar n v ≡ scalar n a = λ v. (Decides-int_eq (scalar n v) (scalar n a)).0 in
      let hp = on p inner.0 in
      let hq = on q inner.1 in
      let hr = on r outer.1 in
      let k = front_is n bent_s in
      let l = front_is m bent_f in
      let d = signed_divisor n in
      let e = signed_divisor m in
      let c = parallel_to n p q r (hq ∙ sym hp) (hr ∙ sym hp) in
      let N : ℕ → ℤ = λ i. coordinate_of (front_normal n) i in
      let M : ℕ → ℤ = λ i. coordinate_of (front_normal m) i in
      let one = same_front (front_normal n) (front_normal m) (front_up n bent_s) (front_up m bent_f) k.primitive l.primitive (record {
        ab = parallel_divided d e (N 0) (N 1) (M 0) (M 1) _ _ _ _ k.some l.some k.x k.y l.x l.y c.ab;
        bc = parallel_divided d e (N 1) (N 2) (M 1) (M 2) _ _ _ _ k.some l.some k.y k.z l.y l.z c.bc;
        ca = parallel_divided d e (N 2) (N 0) (M 2) (M 0) _ _ _ _ k.some l.some k.z k.x l.z l.x c.ca;
      }) in
      let same : front_normal n ≡ front_normal m = three_same (N 0) (N 1) (N 2) (M 0) (M 1) (M 2) (sym one.0) (sym one.1) (sym one.2) in
      record { normals = same; levels = sym (at_level p hp) ∙ ap (λ t. scalar t p) same }
    where
      three_same : (x y z u v w : ℤ) → x ≡ u → y ≡ v → z ≡ w → ◌≡◌ {A = List ℤ} (x ∷ y ∷ z ∷ []) (u ∷ v ∷ w ∷ [])
      three_same x y z u v w a b c = cc

  pub one_to_in : AreOne → in_plane points s f ≡ true
  one_to_in h =
      let k = front_is n bent_s in
      let l = front_is m bent_f in
      let d = signed_divisor n in
      let e = signed_divisor m in
      let level : (v : List ℤ) → scalar m v ≡ scalar m p → scalar n v ≡ scalar n a = λ v same.
      let own : scalar (front_normal m) v ≡ scalar (front_normal m) p =
      cancel e (scalar (front_normal m) v) (scalar (front_normal m) p) l.some
      (sym (scalar_times m (front_normal m) v e l.x l.y l.z) ∙ same ∙ scalar_times m (front_normal m) p e l.x l.y l.z) in
      scalar_times n (front_normal n) v d k.x k.y k.z ∙ ap (λ t. d *ℤ scalar t v) h.normals ∙ ap (λ t. d *ℤ t) (own ∙ sym h.levels)
      ∙ sym (scalar_times n (front_normal n) a d k.x k.y k.z) in
      let first : scalar m q ≡ scalar m p = omega (arith, ints, along_is m p q, flat_first p q r) in
      let second : scalar m r ≡ scalar m p = omega (arith, ints, along_is m p r, flat_second p q r) in
      let test : (v : List ℤ) → scalar n v ≡ scalar n a → int_eq (scalar n v) (scalar n a) ≡ true = λ v. (Decides-int_eq (scalar n v) (scalar n a)).1 in
      and_from (lies_in points s f.corners.0 && lies_in points s f.corners.1) (lies_in points s f.corners.2)
      (and_from (lies_in points s f.corners.0) (lies_in points s f.corners.1) (test p (level p refl)) (test q (level q first))) (test r (level r second))

  -- so the tests are one
  pub in_plane_by_key : in_plane points s f ≡ same_key (key_at points s.corners) (key_at points f.corners)
  in_plane_by_key =
      let N = front_normal n in
      let M = front_normal m in
      let lists = slice_eq-Decides Decides-int_eq N M (pointwise int_eq N M) refl in
      let levels = Decides-int_eq (scalar N a) (scalar M p) in
      same_from_decides (in_plane points s f) (pointwise int_eq N M && int_eq (scalar N a) (scalar M p)) (in_to_one, one_to_in) (
        (λ h. let both = and_parts (pointwise int_eq N M) (int_eq (scalar N a) (scalar M p)) h in record { normals = lists.0 both.0; levels = levels.0 both.1 }),
        (λ h. and_from (pointwise int_eq N M) (int_eq (scalar N a) (scalar M p)) (lists.1 h.normals) (levels.1 h.levels)),
      )
