-- Points of the grid in which edges cross.
use Rattle.std.proofs.Common.{◌≡◌, ◌≢◌, ◌<◌, ◌≤◌, ◌+◌, ◌^◌, ◌++◌, ◌∙◌, ℕ, ℤ, Bool, List, [], ◌∷◌, true, false, Option, ap, arith, cond, filter, get_or, inl, inr, length, neg_ℤ, pos, suc, sym, take, ◌+ℤ◌, ◌-ℤ◌, ◌*ℤ◌, ◌≤ℤ◌, ◌<ℤ◌}
use Rattle.std.specs.Prelude.{◌&&◌, unsigned_abs}
use Rattle.std.specs.List.{All, flat_map}
use Rattle.std.proofs.lemmas.Bool.{and_parts}
use Rattle.std.proofs.lemmas.Int.{by_lt_z, ints}
use Rattle.std.proofs.lemmas.List.{append-nil, flat_map_more, take_more}
use Rattle.std.proofs.lemmas.List.Elements.{All-append, All-filter, All-map, All-nil, filter_passes}
use Rattle.chain_laws.proofs.Places.{get_or-up_from, length-up_from}
use Rattle.chain_laws.specs.Products.{mul-neg, mul-sub, neg-mul, pos_mul, sub-mul}
use Rattle.chain_terms.specs.Sums.{upto}
use Rattle.face_plane.specs.Planes.{Plane, orient, point_at}
use Rattle.mesh_terms.specs.Points.{IsOnGrid, coordinate_of}
use Rattle.plane_laws.specs.Moved.{nonneg_mul}
use Rattle.sheet_terms.specs.Chains.{are_opposite, cross, crossing_point, grid_point}
use Rattle.plane_chains.specs.Pairs.{IsCrossingPair, crossing_pairs, edge_at, option_list, pairs_among}
use Rattle.plane_chains.specs.Parts.{IsPartOf, is_whole_between, part_between}
use Rattle.plane_chains.proofs.Crossing.{Opposite, opposite}

-- a factor of what isn't below 0
nonneg_factor : (x d : ℤ) → pos 0 <ℤ d → pos 0 ≤ℤ (x *ℤ d) → pos 0 ≤ℤ x
nonneg_factor x d above h = by_lt_z x (pos 0) below (λ k. k) where
  below : x <ℤ pos 0 → pos 0 ≤ℤ x
  below k = let p = pos_mul (neg_ℤ x) d (omega (arith, ints, k)) above in absurd (omega (arith, ints, p, h, neg-mul x d))

-- w lies between 0 and s
pub record IsTowards (s w : ℤ) : Type 0 where
  pub up : pos 0 ≤ℤ s → (pos 0 ≤ℤ w) × (w ≤ℤ s)
  pub down : s ≤ℤ pos 0 → (s ≤ℤ w) × (w ≤ℤ pos 0)

part_up : (s n d w : ℤ) → w *ℤ d ≡ s *ℤ n → pos 0 ≤ℤ n → n ≤ℤ d → pos 0 <ℤ d → pos 0 ≤ℤ s → (pos 0 ≤ℤ w) × (w ≤ℤ s)
part_up s n d w e low high above some =
    let here = nonneg_mul s n some low in
    let there = nonneg_mul s (d -ℤ n) some (omega (arith, ints, high)) in
    let gap = nonneg_factor (s -ℤ w) d above (omega (arith, ints, e, there, mul-sub s d n, sub-mul s w d)) in
    (nonneg_factor w d above (omega (arith, ints, e, here)), omega (arith, ints, gap))

part_towards : (s n d w : ℤ) → w *ℤ d ≡ s *ℤ n → pos 0 ≤ℤ n → n ≤ℤ d → pos 0 <ℤ d → IsTowards s w
part_towards s n d w e low high above = record {
  up = part_up s n d w e low high above;
  down = λ h.
      let p = part_up (neg_ℤ s) n d (neg_ℤ w) (omega (arith, ints, e, neg-mul w d, neg-mul s n)) low high above (omega (arith, ints, h)) in
      (omega (arith, ints, p.1), omega (arith, ints, p.0));
}

pub towards : (s n d w : ℤ) → w *ℤ d ≡ s *ℤ n → IsPartOf n d → IsTowards s w
towards s n d w e (inl p) = part_towards s n d w e p.0 p.1 p.2
towards s n d w e (inr p) =
    part_towards s (neg_ℤ n) (neg_ℤ d) w (omega (arith, ints, e, mul-neg w d, mul-neg s n)) (omega (arith, ints, p.1)) (omega (arith, ints, p.0)) (omega (arith, ints, p.2))

-- so it leads from the grid to the grid
pub towards_grid : (from to w : ℤ) → IsOnGrid from → IsOnGrid to → IsTowards (to -ℤ from) w → IsOnGrid (from +ℤ w)
towards_grid from to w f t h = by_lt_z (to -ℤ from) (pos 0) back forth where
  back : (to -ℤ from) <ℤ pos 0 → IsOnGrid (from +ℤ w)
  back k = let p = h.down (omega (arith, ints, k)) in omega (arith, ints, f, t, p.0, p.1)

  forth : pos 0 ≤ℤ (to -ℤ from) → IsOnGrid (from +ℤ w)
  forth k = let p = h.up k in omega (arith, ints, f, t, p.0, p.1)

pub towards_small : (from to w : ℤ) → IsOnGrid from → IsOnGrid to → IsTowards (to -ℤ from) w → unsigned_abs w ≤ 2 ^ 31
towards_small from to w f t h = omega (arith, ints, f, towards_grid from to w f t h)

-- what is a part of something isn't a part of nothing
pub part_some : (n d : ℤ) → IsPartOf n d → d ≢ pos 0
part_some n d (inl p) e = omega (arith, ints, e, p.2)
part_some n d (inr p) e = omega (arith, ints, e, p.2)

-- where edges cross the turn of one end is a part of the difference of both
pub crossing_part : (at : Plane) (d e : ℕ × ℕ) → cross at d e ≡ true → IsPartOf (orient at e.0 e.1 d.0) (orient at e.0 e.1 d.0 -ℤ orient at e.0 e.1 d.1)
crossing_part at d e h = by (opposite (orient at e.0 e.1 d.0) (orient at e.0 e.1 d.1) (and_parts (are_opposite (orient at d.0 d.1 e.0) (orient at d.0 d.1 e.1)) (are_opposite (orient at e.0 e.1 d.0) (orient at e.0 e.1 d.1)) h).1) where
  by : Opposite (orient at e.0 e.1 d.0) (orient at e.0 e.1 d.1) → IsPartOf (orient at e.0 e.1 d.0) (orient at e.0 e.1 d.0 -ℤ orient at e.0 e.1 d.1)
  by (inl p) = inr (omega (arith, ints, p.1), omega (arith, ints, p.0), omega (arith, ints, p.0, p.1))
  by (inr p) = inl (omega (arith, ints, p.0), omega (arith, ints, p.1), omega (arith, ints, p.0, p.1))

-- the point that they have then
pub crossing_is : (points : List (List ℤ)) (at : Plane) (d e : ℕ × ℕ) → cross at d e ≡ true →
    crossing_point points at d e
    ≡ grid_point (orient at e.0 e.1 d.0) (orient at e.0 e.1 d.0 -ℤ orient at e.0 e.1 d.1) (point_at points d.0) (point_at points d.1)
crossing_is points at d e h =
    let g = grid_point (orient at e.0 e.1 d.0) (orient at e.0 e.1 d.0 -ℤ orient at e.0 e.1 d.1) (point_at points d.0) (point_at points d.1) in
    ap (λ b. flat_map (λ (f : ℕ × ℕ). grid_point (orient at e.0 e.1 d.0) (orient at e.0 e.1 d.0 -ℤ orient at e.0 e.1 d.1) (point_at points d.0) (point_at points d.1)) (cond b (e ∷ []) [])) h
    ∙ append-nil g

-- a coordinate of a point in between
abbrev pub whole_on : ℤ → ℤ → List ℤ → List ℤ → ℕ → Bool
whole_on n d p q i = is_whole_between n d (coordinate_of p i) (coordinate_of q i)

abbrev pub value_on : ℤ → ℤ → List ℤ → List ℤ → ℕ → ℤ
value_on n d p q i = coordinate_of p i +ℤ part_between n d (coordinate_of p i) (coordinate_of q i)

abbrev shown : Bool → List ℤ → List (List ℤ)
shown b x = cond b (x ∷ []) []

pub not_first : (n d : ℤ) (p q : List ℤ) → whole_on n d p q 0 ≡ false → grid_point n d p q ≡ []
not_first n d p q h = ap (λ b. shown ((b && whole_on n d p q 1) && whole_on n d p q 2) (value_on n d p q 0 ∷ value_on n d p q 1 ∷ value_on n d p q 2 ∷ [])) h

pub not_second : (n d : ℤ) (p q : List ℤ) → whole_on n d p q 0 ≡ true → whole_on n d p q 1 ≡ false → grid_point n d p q ≡ []
not_second n d p q h i = λ j. shown ((h j && i j) && whole_on n d p q 2) (value_on n d p q 0 ∷ value_on n d p q 1 ∷ value_on n d p q 2 ∷ [])

pub not_third : (n d : ℤ) (p q : List ℤ) → whole_on n d p q 0 ≡ true → whole_on n d p q 1 ≡ true → whole_on n d p q 2 ≡ false → grid_point n d p q ≡ []
not_third n d p q h i k = λ j. shown ((h j && i j) && k j) (value_on n d p q 0 ∷ value_on n d p q 1 ∷ value_on n d p q 2 ∷ [])

pub all_three : (n d : ℤ) (p q : List ℤ) (x y z : ℤ) → (whole_on n d p q 0 ≡ true) × (x ≡ value_on n d p q 0) → (whole_on n d p q 1 ≡ true) × (y ≡ value_on n d p q 1) →
    (whole_on n d p q 2 ≡ true) × (z ≡ value_on n d p q 2) → (x ∷ y ∷ z ∷ []) ∷ [] ≡ grid_point n d p q
all_three n d p q x y z f g h =
    (λ j. (f.1 j ∷ g.1 j ∷ h.1 j ∷ []) ∷ [])
    ∙ sym (λ j. shown ((f.0 j && g.0 j) && h.0 j) (value_on n d p q 0 ∷ value_on n d p q 1 ∷ value_on n d p q 2 ∷ []))

-- all pairs of edges that cross are such
pub flat_map_all : {X Y : Type 0} (P : Y → Type 0) (f : X → List Y) (xs : List X) → All (λ x. All P (f x)) xs → All P (flat_map f xs)
flat_map_all P f [] h = All-nil P
flat_map_all P f (x ∷ xs) h = All-append P (f x) (flat_map f xs) (h 0 x (omega arith)) (flat_map_all P f xs (λ k d low. h (suc k) d (omega (arith, low))))

among_crossing : (at : Plane) (es : List (ℕ × ℕ)) (i : ℕ) (js : List ℕ) → i < length es → All (λ j. j < length es) js → All (IsCrossingPair at es) (pairs_among at es i js)
among_crossing at es i js low below =
    All-map (IsCrossingPair at es) (λ j. (i, j)) (filter (λ j. cross at (edge_at es i) (edge_at es j)) js)
    (λ k d inside. record {
      one = low;
      other = All-filter (λ j. cross at (edge_at es i) (edge_at es j)) (λ j. j < length es) js below k d inside;
      crosses = filter_passes (λ j. cross at (edge_at es i) (edge_at es j)) js k d inside;
    })

pub upto_below : (n : ℕ) → All (λ k. k < n) (upto n)
upto_below n k d low = let inside : k < n = omega (arith, low, length-up_from 0 n) in omega (arith, get_or-up_from 0 n k d inside, inside)

pub pairs_cross : (at : Plane) (es : List (ℕ × ℕ)) → All (IsCrossingPair at es) (crossing_pairs at es)
pairs_cross at es =
    flat_map_all (IsCrossingPair at es) (λ i. pairs_among at es i (upto (length es))) (upto (length es))
    (λ k d low. among_crossing at es (get_or (upto (length es)) k d) (upto (length es)) (upto_below (length es) k d low) (upto_below (length es)))

-- the points of one pair more
pub found_more : (f : List ℕ → List (List ℤ)) (pairs : List (List ℕ)) (k : ℕ) (found new : List (List ℤ)) (r : Option (List ℤ)) → k < length pairs →
    found ≡ flat_map f (take k pairs) → option_list r ≡ f (get_or pairs k []) → new ≡ found ++ option_list r → new ≡ flat_map f (take (k + 1) pairs)
found_more f pairs k found new r low before is pushed =
    pushed ∙ (λ j. before j ++ is j) ∙ flat_map_more f [] (take k pairs) (get_or pairs k []) ∙ ap (flat_map f) (sym (take_more pairs k [] low))
