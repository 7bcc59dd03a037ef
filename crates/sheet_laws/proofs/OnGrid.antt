-- The points over which a mesh is filled anew lie on the grid: those of the mesh, and those in which edges cross.
use Rattle.std.specs.Prelude.{◌≡◌, ◌⊎◌, ℕ, ◌<◌, ℤ, pos, neg_ℤ, ◌+ℤ◌, ◌-ℤ◌, ◌*ℤ◌, ◌<ℤ◌, ◌≤ℤ◌, List, [], ◌∷◌, ◌++◌, true, Bool, ◌&&◌, get_or, int_lt, length}
use Rattle.std.specs.List.{All, flat_map}
use Rattle.std.proofs.Common.{arith, refl, inl, inr}
use Rattle.std.proofs.lemmas.Bool.{and_parts, cond_both, or_cases}
use Rattle.std.proofs.lemmas.Bool.Decides.{Decides-int_eq}
use Rattle.std.proofs.lemmas.Int.{by_lt_z, ints}
use Rattle.std.proofs.lemmas.List.Elements.{All-append, All-cons, All-filter, All-nil, All-weaker, filter_passes}
use Rattle.chain_laws.specs.Products.{mul-neg, mul-sub, neg-mul, pos_mul, sub-mul}
use Rattle.face_plane.specs.Planes.{Plane, orient, point_at}
use Rattle.mesh_terms.specs.Meshes.{IsBelow, Mesh}
use Rattle.mesh_terms.specs.Points.{IsOnGrid, IsPoint, coordinate_of}
use Rattle.plane_laws.specs.Moved.{nonneg_mul}
use Rattle.sheet_terms.specs.Chains.{ChainEdge, are_opposite, chain, cross, crossing_point, grid_point, is_whole, part_way}
use Rattle.sheet_terms.specs.Crossings.{all_points, coplanar, crossings, crossings_in, is_lower}
use Rattle.sheet_terms.specs.Faces.{Face, faces, in_plane, labels_of, planes, seen}
use Rattle.sheet_terms.specs.Places.{place_points}
use Rattle.tidy_terms.specs.PointTriples.{same_point}
use Rattle.sheet_laws.proofs.Corners.{All-firsts, All-flat, Ends, chain_on}
use Rattle.sheet_laws.proofs.FacesOn.{rims_below}
use Rattle.sheet_laws.proofs.Rims.{All-ordered}
use Rattle.sheet_laws.proofs.Standing.{own_places}

-- n lies between 0 and d, which is not 0
abbrev pub IsShare : ℤ → ℤ → Type 0
IsShare n d = ((pos 0 ≤ℤ n) × (n ≤ℤ d) × (pos 0 <ℤ d)) ⊎ ((n ≤ℤ pos 0) × (d ≤ℤ n) × (d <ℤ pos 0))

-- a product with a factor above 0 tells the sign of the other
other_sign : (x d : ℤ) → pos 0 <ℤ d → pos 0 ≤ℤ (x *ℤ d) → pos 0 ≤ℤ x
other_sign x d above h = by_lt_z x (pos 0) below (λ k. k)
  where
    below : x <ℤ pos 0 → pos 0 ≤ℤ x
    below k = let p = pos_mul (neg_ℤ x) d (omega (arith, ints, k)) above in absurd (omega (arith, ints, p, h, neg-mul x d))

-- a share of a way that leads up leads up, and no further
share_up : (s n d w : ℤ) → w *ℤ d ≡ s *ℤ n → pos 0 ≤ℤ n → n ≤ℤ d → pos 0 <ℤ d → pos 0 ≤ℤ s → (pos 0 ≤ℤ w) × (w ≤ℤ s)
share_up s n d w e low high above some =
    let here = nonneg_mul s n some low in
    let there = nonneg_mul s (d -ℤ n) some (omega (arith, ints, high)) in
    let gap = other_sign (s -ℤ w) d above (omega (arith, ints, e, there, mul-sub s d n, sub-mul s w d)) in
    (other_sign w d above (omega (arith, ints, e, here)), omega (arith, ints, gap))

-- so the share of a way from the grid to the grid leads to it
share_on : (x y n d w : ℤ) → w *ℤ d ≡ (y -ℤ x) *ℤ n → pos 0 ≤ℤ n → n ≤ℤ d → pos 0 <ℤ d → IsOnGrid x → IsOnGrid y → IsOnGrid (x +ℤ w)
share_on x y n d w e low high above from to = by_lt_z (y -ℤ x) (pos 0) down up
  where
    up : pos 0 ≤ℤ (y -ℤ x) → IsOnGrid (x +ℤ w)
    up k = let p = share_up (y -ℤ x) n d w e low high above k in omega (arith, ints, from, to, p.0, p.1)

    down : (y -ℤ x) <ℤ pos 0 → IsOnGrid (x +ℤ w)
    down k =
        let p = share_up (neg_ℤ (y -ℤ x)) n d (neg_ℤ w) (omega (arith, ints, e, neg-mul w d, neg-mul (y -ℤ x) n)) low high above (omega (arith, ints, k)) in
        omega (arith, ints, from, to, p.0, p.1)

-- the same with both numbers turned
on_way : (x y n d w : ℤ) → w *ℤ d ≡ (y -ℤ x) *ℤ n → IsShare n d → IsOnGrid x → IsOnGrid y → IsOnGrid (x +ℤ w)
on_way x y n d w e (inl p) from to = share_on x y n d w e p.0 p.1 p.2 from to
on_way x y n d w e (inr p) from to =
    share_on x y (neg_ℤ n) (neg_ℤ d) w (omega (arith, ints, e, mul-neg w d, mul-neg (y -ℤ x) n)) (omega (arith, ints, p.0)) (omega (arith, ints, p.1))
    (omega (arith, ints, p.2)) from to

-- the point on the way between two of the grid
grid_on : (n d : ℤ) (p q : List ℤ) → IsShare n d → IsPoint p → IsPoint q → All IsPoint (grid_point n d p q)
grid_on n d p q share from to k e low =
    let value : ℕ → ℤ = λ i. coordinate_of p i +ℤ part_way n d p q i in
    let test : List ℤ → Bool = λ x. is_whole n d p q 0 && is_whole n d p q 1 && is_whole n d p q 2 in
    let one : List (List ℤ) = (value 0 ∷ value 1 ∷ value 2 ∷ []) ∷ [] in
    let all = and_parts (is_whole n d p q 0 && is_whole n d p q 1) (is_whole n d p q 2) (filter_passes test one k e low) in
    let two = and_parts (is_whole n d p q 0) (is_whole n d p q 1) all.0 in
    let whole : (i : ℕ) → is_whole n d p q i ≡ true → part_way n d p q i *ℤ d ≡ (coordinate_of q i -ℤ coordinate_of p i) *ℤ n =
    λ i. (Decides-int_eq (part_way n d p q i *ℤ d) ((coordinate_of q i -ℤ coordinate_of p i) *ℤ n)).0 in
    let point : IsPoint (value 0 ∷ value 1 ∷ value 2 ∷ []) = record {
      three = refl;
      x = on_way (coordinate_of p 0) (coordinate_of q 0) n d (part_way n d p q 0) (whole 0 two.0) share from.x to.x;
      y = on_way (coordinate_of p 1) (coordinate_of q 1) n d (part_way n d p q 1) (whole 1 two.1) share from.y to.y;
      z = on_way (coordinate_of p 2) (coordinate_of q 2) n d (part_way n d p q 2) (whole 2 all.1) share from.z to.z;
    } in
    All-filter test IsPoint one (All-cons IsPoint (value 0 ∷ value 1 ∷ value 2 ∷ []) [] point (All-nil IsPoint)) k e low

-- where turns are opposite, one is a share of the difference
opposite_share : (x y : ℤ) → are_opposite x y ≡ true → IsShare x (x -ℤ y)
opposite_share x y h = by (or_cases (int_lt x (pos 0) && int_lt (pos 0) y) (int_lt (pos 0) x && int_lt y (pos 0)) h)
  where
    is_less : (a b : ℤ) → int_lt a b ≡ true → a <ℤ b
    is_less a b h = grind (arith, ints)

    by : ((int_lt x (pos 0) && int_lt (pos 0) y) ≡ true) ⊎ ((int_lt (pos 0) x && int_lt y (pos 0)) ≡ true) → IsShare x (x -ℤ y)
    by (inl p) =
        let b = and_parts (int_lt x (pos 0)) (int_lt (pos 0) y) p in
        let l = is_less x (pos 0) b.0 in
        let r = is_less (pos 0) y b.1 in inr (omega (arith, ints, l), omega (arith, ints, r), omega (arith, ints, l, r))
    by (inr p) =
        let b = and_parts (int_lt (pos 0) x) (int_lt y (pos 0)) p in
        let l = is_less (pos 0) x b.0 in
        let r = is_less y (pos 0) b.1 in inl (omega (arith, ints, l), omega (arith, ints, r), omega (arith, ints, l, r))

module _ (points : List (List ℤ)) where
  -- the vertex is at a point of the grid
  abbrev pub IsOn : ℕ → Type 0
  IsOn v = IsPoint (point_at points v)

  -- the point in which an edge crosses another lies on the grid where its ends do
  crossing_on : (at : Plane) (d e : ℕ × ℕ) → Ends IsOn d → All IsPoint (crossing_point points at d e)
  crossing_on at d e ends =
      let n = orient at e.0 e.1 d.0 in
      let o = orient at e.0 e.1 d.1 in
      let g : (ℕ × ℕ) → List (List ℤ) = λ f. grid_point n (n -ℤ o) (point_at points d.0) (point_at points d.1) in
      cond_both (cross at d e) (e ∷ []) [] (λ l. All IsPoint (flat_map g l))
      (λ y.
      let share = opposite_share n o (and_parts (are_opposite (orient at d.0 d.1 e.0) (orient at d.0 d.1 e.1)) (are_opposite n o) y).1 in
      All-append IsPoint (g e) [] (grid_on n (n -ℤ o) (point_at points d.0) (point_at points d.1) share ends.from ends.to) (All-nil IsPoint))
      (λ n. All-nil IsPoint)

  -- so do all of a plane
  crossings_on : (fs : List Face) → All (λ f. All IsOn f.rim) fs → (s : Face) → All IsPoint (crossings_in points fs s)
  crossings_on fs rims s =
      let at = seen points s in
      let own = coplanar points fs s in
      let cs = chain (labels_of own) own in
      let ends = chain_on IsOn (labels_of own) own (All-filter (in_plane points s) (λ f. All IsOn f.rim) fs rims) in
      All-flat IsPoint (λ c. flat_map (λ d. crossing_point points at c.edge d.edge) cs) cs
      (λ k d low.
      let c = get_or cs k d in
      All-flat IsPoint (λ (d : ChainEdge). crossing_point points at c.edge d.edge) cs (λ j e l. crossing_on at c.edge (get_or cs j e).edge (ends k d low)))

-- all points are on the grid
pub all_on : (m : Mesh) → All (IsBelow (length m.points)) m.triples → All IsPoint m.points → All IsPoint (all_points m)
all_on m below on =
    let points = place_points m.points in
    let fs = faces points m in
    let placed = All-firsts IsPoint same_point [] m.points on in
    let rims = All-weaker (λ f. All (λ v. v < length points) f.rim) (λ f. All (IsOn points) f.rim)
    (λ f all. All-weaker (λ v. v < length points) (IsOn points) (λ v low. placed v [] low) f.rim all) fs (rims_below points m (own_places m.points) below) in
    let more = crossings points fs in
    let crossed = flat_map (crossings_in points fs) (planes points fs) in
    All-firsts IsPoint same_point [] (points ++ more)
    (All-append IsPoint points more placed
    (All-ordered IsPoint is_lower crossed (All-flat IsPoint (crossings_in points fs) (planes points fs) (λ k d low. crossings_on points fs rims (get_or (planes points fs) k d)))))
