-- Planes of triangles: what lies at the level of one, and that triangles with an area lie in the same planes or in none.
use Rattle.std.specs.Prelude.{◌≡◌, ◌≢◌, ◌⊎◌, ℕ, ℤ, pos, ◌+ℤ◌, ◌-ℤ◌, ◌*ℤ◌, List, true, false, Bool, ◌&&◌}
use Rattle.std.specs.Ordering.{int_eq}
use Rattle.std.proofs.Common.{arith, refl, sym, ap, ◌∙◌, inl, inr}
use Rattle.std.proofs.Math.IntN.{*ℤ-zero, *ℤ_comm}
use Rattle.std.proofs.lemmas.Bool.{and_from, and_parts, both_ways}
use Rattle.std.proofs.lemmas.Bool.Decides.{Decides-int_eq}
use Rattle.std.proofs.lemmas.Int.{ints}
use Rattle.chain_laws.specs.Products.{mul-add, mul-sub}
use Rattle.face_plane.specs.Planes.{point_at}
use Rattle.mesh_terms.specs.Points.{coordinate_of, cross_on, cross_product}
use Rattle.mesh_terms.specs.Volume.{determinant}
use Rattle.plane_laws.specs.Areas.{exchanged}
use Rattle.sheet_laws.proofs.Determinants.{det_rotates, det_turns}
use Rattle.sheet_terms.specs.Cuts.{is_none, scalar, way}
use Rattle.sheet_terms.specs.Faces.{Face, in_plane, is_flat, lies_in, normal}
use Rattle.sheet_laws.proofs.InLine.{AreAlong, Differ, InLine, is_zero, none_of, ways}

-- the determinant of a point twice is none
pub det_twice : (a b : List ℤ) → determinant a a b ≡ pos 0
det_twice a b = omega (arith, ints, det_turns a a b, det_rotates a a b)

-- a way along one without a part along the normal has none either
part_none : (n0 n1 n2 d0 d1 d2 u0 u1 u2 : ℤ) → d0 *ℤ u1 ≡ u0 *ℤ d1 → d0 *ℤ u2 ≡ u0 *ℤ d2 → (n0 *ℤ d0 +ℤ n1 *ℤ d1) +ℤ n2 *ℤ d2 ≡ pos 0 → d0 ≢ pos 0 →
    (n0 *ℤ u0 +ℤ n1 *ℤ u1) +ℤ n2 *ℤ u2 ≡ pos 0
part_none n0 n1 n2 d0 d1 d2 u0 u1 u2 one two flat some =
    none_of d0 ((n0 *ℤ u0 +ℤ n1 *ℤ u1) +ℤ n2 *ℤ u2) some
    (omega (
      arith,
      ints,
      mul-add d0 (n0 *ℤ u0 +ℤ n1 *ℤ u1) (n2 *ℤ u2),
      mul-add d0 (n0 *ℤ u0) (n1 *ℤ u1),
      exchanged d0 n0 u0 ∙ ap (λ t. n0 *ℤ t) (*ℤ_comm d0 u0) ∙ exchanged n0 u0 d0,
      exchanged d0 n1 u1 ∙ ap (λ t. n1 *ℤ t) one ∙ exchanged n1 u0 d1,
      exchanged d0 n2 u2 ∙ ap (λ t. n2 *ℤ t) two ∙ exchanged n2 u0 d2,
      mul-add u0 (n0 *ℤ d0 +ℤ n1 *ℤ d1) (n2 *ℤ d2),
      mul-add u0 (n0 *ℤ d0) (n1 *ℤ d1),
      ap (λ t. u0 *ℤ t) flat,
      *ℤ-zero u0,
    ))

-- one of three numbers is not 0
abbrev pub IsSome : ℤ → ℤ → ℤ → Type 0
IsSome d0 d1 d2 = (d0 ≢ pos 0) ⊎ ((d1 ≢ pos 0) ⊎ (d2 ≢ pos 0))

-- so from whichever coordinate on
part_gone : (n0 n1 n2 d0 d1 d2 u0 u1 u2 : ℤ) → AreAlong d0 d1 d2 u0 u1 u2 → IsSome d0 d1 d2 → (n0 *ℤ d0 +ℤ n1 *ℤ d1) +ℤ n2 *ℤ d2 ≡ pos 0 →
    (n0 *ℤ u0 +ℤ n1 *ℤ u1) +ℤ n2 *ℤ u2 ≡ pos 0
part_gone n0 n1 n2 d0 d1 d2 u0 u1 u2 w (inl h) flat =
    part_none n0 n1 n2 d0 d1 d2 u0 u1 u2 w.ij (*ℤ_comm d0 u2 ∙ sym w.ki ∙ *ℤ_comm d2 u0) flat h
part_gone n0 n1 n2 d0 d1 d2 u0 u1 u2 w (inr (inl h)) flat =
    let e = part_none n1 n2 n0 d1 d2 d0 u1 u2 u0 w.jk (*ℤ_comm d1 u0 ∙ sym w.ij ∙ *ℤ_comm d0 u1) (omega (arith, ints, flat)) h in omega (arith, ints, e)
part_gone n0 n1 n2 d0 d1 d2 u0 u1 u2 w (inr (inr h)) flat =
    let e = part_none n2 n0 n1 d2 d0 d1 u2 u0 u1 w.ki (*ℤ_comm d2 u1 ∙ sym w.jk ∙ *ℤ_comm d1 u2) (omega (arith, ints, flat)) h in omega (arith, ints, e)

-- the part of a normal along a way
abbrev along : List ℤ → List ℤ → List ℤ → ℤ
along n p q =
    (coordinate_of n 0 *ℤ (coordinate_of q 0 -ℤ coordinate_of p 0) +ℤ coordinate_of n 1 *ℤ (coordinate_of q 1 -ℤ coordinate_of p 1))
    +ℤ coordinate_of n 2 *ℤ (coordinate_of q 2 -ℤ coordinate_of p 2)

-- it is the difference of the levels
along_is : (n p q : List ℤ) → along n p q ≡ scalar n q -ℤ scalar n p
along_is n p q =
    let by : (i : ℕ) → coordinate_of n i *ℤ (coordinate_of q i -ℤ coordinate_of p i) ≡ coordinate_of n i *ℤ coordinate_of q i -ℤ coordinate_of n i *ℤ coordinate_of p i = λ i.
    mul-sub (coordinate_of n i) (coordinate_of q i) (coordinate_of p i) in
    omega (arith, ints, by 0, by 1, by 2)

-- a point on the line of two different points at one level is at that level
pub on_level : (n p q x : List ℤ) → Differ p q → InLine p q x → scalar n q ≡ scalar n p → scalar n x ≡ scalar n p
on_level n p q x some line level =
    let N : ℕ → ℤ = coordinate_of n in
    let d : ℕ → ℤ = λ i. coordinate_of q i -ℤ coordinate_of p i in
    let u : ℕ → ℤ = λ i. coordinate_of x i -ℤ coordinate_of p i in
    let flat : along n p q ≡ pos 0 = omega (arith, ints, along_is n p q, level) in
    omega (arith, ints, along_is n p x, part_gone (N 0) (N 1) (N 2) (d 0) (d 1) (d 2) (u 0) (u 1) (u 2) (ways p q x line) some flat)

-- a normal without a part along two ways has the direction of their cross product, or the opposite one: one coordinate of it
one_along : (n0 n1 n2 u0 u1 u2 w0 w1 w2 : ℤ) → (n0 *ℤ u0 +ℤ n1 *ℤ u1) +ℤ n2 *ℤ u2 ≡ pos 0 → (n0 *ℤ w0 +ℤ n1 *ℤ w1) +ℤ n2 *ℤ w2 ≡ pos 0 →
    n0 *ℤ (u2 *ℤ w0 -ℤ u0 *ℤ w2) ≡ (u1 *ℤ w2 -ℤ u2 *ℤ w1) *ℤ n1
one_along n0 n1 n2 u0 u1 u2 w0 w1 w2 flat_u flat_w =
    omega (
      arith,
      ints,
      ap (λ t. w2 *ℤ t) flat_u ∙ *ℤ-zero w2,
      ap (λ t. u2 *ℤ t) flat_w ∙ *ℤ-zero u2,
      mul-add w2 (n0 *ℤ u0 +ℤ n1 *ℤ u1) (n2 *ℤ u2),
      mul-add w2 (n0 *ℤ u0) (n1 *ℤ u1),
      mul-add u2 (n0 *ℤ w0 +ℤ n1 *ℤ w1) (n2 *ℤ w2),
      mul-add u2 (n0 *ℤ w0) (n1 *ℤ w1),
      mul-sub n0 (u2 *ℤ w0) (u0 *ℤ w2),
      *ℤ_comm (u1 *ℤ w2 -ℤ u2 *ℤ w1) n1,
      mul-sub n1 (u1 *ℤ w2) (u2 *ℤ w1),
      exchanged n0 u2 w0,
      ap (λ t. n0 *ℤ t) (*ℤ_comm u0 w2) ∙ exchanged n0 w2 u0,
      ap (λ t. n1 *ℤ t) (*ℤ_comm u1 w2) ∙ exchanged n1 w2 u1,
      exchanged n1 u2 w1,
      exchanged w2 n2 u2,
      exchanged u2 n2 w2,
      ap (λ t. n2 *ℤ t) (*ℤ_comm w2 u2),
    )

-- so a normal at whose level three points lie has the direction of theirs
normals_along : (n p q r : List ℤ) → scalar n q ≡ scalar n p → scalar n r ≡ scalar n p →
    AreAlong (coordinate_of n 0) (coordinate_of n 1) (coordinate_of n 2) (cross_on 1 2 p q r) (cross_on 2 0 p q r) (cross_on 0 1 p q r)
normals_along n p q r level_q level_r =
    let N : ℕ → ℤ = coordinate_of n in
    let u : ℕ → ℤ = λ i. coordinate_of q i -ℤ coordinate_of p i in
    let w : ℕ → ℤ = λ i. coordinate_of r i -ℤ coordinate_of p i in
    let flat_u : along n p q ≡ pos 0 = omega (arith, ints, along_is n p q, level_q) in
    let flat_w : along n p r ≡ pos 0 = omega (arith, ints, along_is n p r, level_r) in
    record {
      ij = one_along (N 0) (N 1) (N 2) (u 0) (u 1) (u 2) (w 0) (w 1) (w 2) flat_u flat_w;
      jk = one_along (N 1) (N 2) (N 0) (u 1) (u 2) (u 0) (w 1) (w 2) (w 0) (omega (arith, ints, flat_u)) (omega (arith, ints, flat_w));
      ki = one_along (N 2) (N 0) (N 1) (u 2) (u 0) (u 1) (w 2) (w 0) (w 1) (omega (arith, ints, flat_u)) (omega (arith, ints, flat_w));
    }

-- the other way round
along_back : (a b c x y z : ℤ) → AreAlong a b c x y z → AreAlong x y z a b c
along_back a b c x y z h = record {
  jk = sym h.jk;
  ki = sym h.ki;
  ij = sym h.ij;
}

-- the corners of a triangle are at one level
second_level : (p q r : List ℤ) → scalar (cross_product p q r) q ≡ scalar (cross_product p q r) p
second_level p q r =
    let u = way p q in
    let n = cross_product p q r in
    omega (
      arith,
      ints,
      along_is n p q,
      det_twice u (way p r),
      *ℤ_comm (coordinate_of n 0) (coordinate_of u 0),
      *ℤ_comm (coordinate_of n 1) (coordinate_of u 1),
      *ℤ_comm (coordinate_of n 2) (coordinate_of u 2),
    )

third_level : (p q r : List ℤ) → scalar (cross_product p q r) r ≡ scalar (cross_product p q r) p
third_level p q r =
    let w = way p r in
    let n = cross_product p q r in
    omega (
      arith,
      ints,
      along_is n p r,
      det_rotates w w (way p q) ∙ det_twice w (way p q),
      *ℤ_comm (coordinate_of n 0) (coordinate_of w 0),
      *ℤ_comm (coordinate_of n 1) (coordinate_of w 1),
      *ℤ_comm (coordinate_of n 2) (coordinate_of w 2),
    )

-- three numbers of which one is not 0
some_of : (n : List ℤ) → is_none n ≡ false → IsSome (coordinate_of n 0) (coordinate_of n 1) (coordinate_of n 2)
some_of n bent = by (is_zero (coordinate_of n 0)) (is_zero (coordinate_of n 1)) (is_zero (coordinate_of n 2))
  where
    test : ℕ → Bool
    test i = int_eq (coordinate_of n i) (pos 0)

    Is : ℕ → Type 0
    Is i = (coordinate_of n i ≡ pos 0) ⊎ (coordinate_of n i ≢ pos 0)

    by : Is 0 → Is 1 → Is 2 → IsSome (coordinate_of n 0) (coordinate_of n 1) (coordinate_of n 2)
    by (inr a) b c = inl a
    by (inl a) (inr b) c = inr (inl b)
    by (inl a) (inl b) (inr c) = inr (inr c)
    by (inl a) (inl b) (inl c) =
        let is : (z : ℤ) → z ≡ pos 0 → int_eq z (pos 0) ≡ true = λ z. (Decides-int_eq z (pos 0)).1 in
        absurd
        (both_ways (is_none n) bent
        (and_from (test 0 && test 1) (test 2) (and_from (test 0) (test 1) (is (coordinate_of n 0) a) (is (coordinate_of n 1) b)) (is (coordinate_of n 2) c)))

-- the corners of a triangle
pub record AreCorners (P : ℕ → Type 0) (f : Face) : Type 0 where
  pub a : P f.corners.0
  pub b : P f.corners.1
  pub c : P f.corners.2

module _ (points : List (List ℤ)) (s : Face) where
  -- the place is at the level of the plane of s
  abbrev pub IsLevel : ℕ → Type 0
  IsLevel v = scalar (normal points s) (point_at points v) ≡ scalar (normal points s) (point_at points s.corners.0)

  level_of : (v : ℕ) → lies_in points s v ≡ true → IsLevel v
  level_of v = (Decides-int_eq (scalar (normal points s) (point_at points v)) (scalar (normal points s) (point_at points s.corners.0))).0

  pub corners_level : (f : Face) → in_plane points s f ≡ true → AreCorners IsLevel f
  corners_level f h =
      let all = and_parts (lies_in points s f.corners.0 && lies_in points s f.corners.1) (lies_in points s f.corners.2) h in
      let two = and_parts (lies_in points s f.corners.0) (lies_in points s f.corners.1) all.0 in
      record { a = level_of f.corners.0 two.0; b = level_of f.corners.1 two.1; c = level_of f.corners.2 all.1 }

  -- its own corners are
  own_level : AreCorners IsLevel s
  own_level =
      let p = point_at points s.corners.0 in
      let q = point_at points s.corners.1 in
      let r = point_at points s.corners.2 in record { a = refl; b = second_level p q r; c = third_level p q r }

  -- where the corners of a triangle are, it lies in the plane
  in_from_level : (f : Face) → AreCorners IsLevel f → in_plane points s f ≡ true
  in_from_level f on =
      let n = normal points s in
      let test : (v : ℕ) → IsLevel v → lies_in points s v ≡ true = λ v. (Decides-int_eq (scalar n (point_at points v)) (scalar n (point_at points s.corners.0))).1 in
      and_from (lies_in points s f.corners.0 && lies_in points s f.corners.1) (lies_in points s f.corners.2)
      (and_from (lies_in points s f.corners.0) (lies_in points s f.corners.1) (test f.corners.0 on.a) (test f.corners.1 on.b)) (test f.corners.2 on.c)

-- not flat
abbrev pub IsBent : List (List ℤ) → Face → Type 0
IsBent points f = is_flat points f.corners ≡ false

-- a triangle in the plane of another has its levels
module _ (points : List (List ℤ)) (s f : Face) (bent_s : IsBent points s) (bent_f : IsBent points f) (h : in_plane points s f ≡ true) where
  abbrev n : ℕ → ℤ
  n i = coordinate_of (normal points s) i

  abbrev m : ℕ → ℤ
  m i = coordinate_of (normal points f) i

  abbrev p : List ℤ
  p = point_at points f.corners.0

  on : AreCorners (IsLevel points s) f
  on = corners_level points s f h

  pub same_way : AreAlong (n 0) (n 1) (n 2) (m 0) (m 1) (m 2)
  same_way = normals_along (normal points s) p (point_at points f.corners.1) (point_at points f.corners.2) (on.b ∙ sym on.a) (on.c ∙ sym on.a)

  pub turned_way : AreAlong (m 0) (m 1) (m 2) (n 0) (n 1) (n 2)
  turned_way = along_back (n 0) (n 1) (n 2) (m 0) (m 1) (m 2) same_way

  abbrev way_on : ℕ → ℕ → ℤ
  way_on v i = coordinate_of (point_at points v) i -ℤ coordinate_of p i

  -- a product in the other order
  exchanged_part : (k : List ℤ) (v : ℕ) → along k p (point_at points v) ≡ pos 0 →
      (way_on v 0 *ℤ coordinate_of k 0 +ℤ way_on v 1 *ℤ coordinate_of k 1) +ℤ way_on v 2 *ℤ coordinate_of k 2 ≡ pos 0
  exchanged_part k v e =
      omega (arith, ints, e, *ℤ_comm (way_on v 0) (coordinate_of k 0), *ℤ_comm (way_on v 1) (coordinate_of k 1), *ℤ_comm (way_on v 2) (coordinate_of k 2))

  part_exchanged : (k : List ℤ) (v : ℕ) → (way_on v 0 *ℤ coordinate_of k 0 +ℤ way_on v 1 *ℤ coordinate_of k 1) +ℤ way_on v 2 *ℤ coordinate_of k 2 ≡ pos 0 →
      along k p (point_at points v) ≡ pos 0
  part_exchanged k v e =
      omega (arith, ints, e, *ℤ_comm (way_on v 0) (coordinate_of k 0), *ℤ_comm (way_on v 1) (coordinate_of k 1), *ℤ_comm (way_on v 2) (coordinate_of k 2))

  pub to_first : (v : ℕ) → IsLevel points f v → IsLevel points s v
  to_first v level =
      let N = normal points s in
      let M = normal points f in
      let x = point_at points v in
      let flat : along M p x ≡ pos 0 = omega (arith, ints, along_is M p x, level) in
      let gone = part_gone (way_on v 0) (way_on v 1) (way_on v 2) (m 0) (m 1) (m 2) (n 0) (n 1) (n 2) turned_way (some_of M bent_f) (exchanged_part M v flat) in
      omega (arith, ints, along_is N p x, part_exchanged N v gone, on.a)

  pub to_second : (v : ℕ) → IsLevel points s v → IsLevel points f v
  to_second v level =
      let N = normal points s in
      let M = normal points f in
      let x = point_at points v in
      let flat : along N p x ≡ pos 0 = omega (arith, ints, along_is N p x, level, on.a) in
      let gone = part_gone (way_on v 0) (way_on v 1) (way_on v 2) (n 0) (n 1) (n 2) (m 0) (m 1) (m 2) same_way (some_of N bent_s) (exchanged_part N v flat) in
      omega (arith, ints, along_is M p x, part_exchanged M v gone)

module _ (points : List (List ℤ)) where
  pub plane_self : (f : Face) → in_plane points f f ≡ true
  plane_self f = in_from_level points f f (own_level points f)

  pub plane_back : (s f : Face) → IsBent points s → IsBent points f → in_plane points s f ≡ true → in_plane points f s ≡ true
  plane_back s f bent_s bent_f h =
      let own = own_level points s in
      let to = to_second points s f bent_s bent_f h in
      in_from_level points f s (record { a = to s.corners.0 own.a; b = to s.corners.1 own.b; c = to s.corners.2 own.c })

  pub plane_on : (s f g : Face) → IsBent points s → IsBent points f → in_plane points s f ≡ true → in_plane points f g ≡ true → in_plane points s g ≡ true
  plane_on s f g bent_s bent_f h i =
      let own = corners_level points f g i in
      let to = to_first points s f bent_s bent_f h in
      in_from_level points s g (record { a = to g.corners.0 own.a; b = to g.corners.1 own.b; c = to g.corners.2 own.c })
