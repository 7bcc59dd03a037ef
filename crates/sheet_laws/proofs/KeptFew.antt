-- No more triangles are kept than there are: each faces one of the sides.
use Rattle.std.specs.Prelude.{◌≡◌, ◌≢◌, ◌⊎◌, ℕ, zero, suc, ◌<◌, ◌≤◌, ℤ, pos, neg_ℤ, ◌*ℤ◌, ◌<ℤ◌, ◌≤ℤ◌, List, [], ◌∷◌, true, false, Bool, cond, not, ◌&&◌, filter, int_lt, length, map, sum_by}
use Rattle.std.specs.List.{All}
use Rattle.std.proofs.Common.{arith, refl, sym, ap, ◌∙◌, inl, inr}
use Rattle.std.proofs.Math.IntN.{*ℤ_comm}
use Rattle.std.proofs.lemmas.Bool.{and_from, and_parts, both_ways, cases_Bool}
use Rattle.std.proofs.lemmas.Int.{by_lt_z, ints}
use Rattle.std.proofs.lemmas.List.{length-map}
use Rattle.std.proofs.lemmas.List.Elements.{All-weaker}
use Rattle.std.proofs.lemmas.List.Sums.{sum_by-cons}
use Rattle.chain_terms.specs.Sums.{total, upto}
use Rattle.chain_laws.specs.Products.{mul-neg, neg-mul, pos_factor, pos_mul}
use Rattle.chain_laws.proofs.Places.{length-up_from}
use Rattle.face_plane.specs.Planes.{flat_at, flat_point, point_at, turn}
use Rattle.face_plane.proofs.Dropped.{drop_below, turn_on_axis}
use Rattle.mesh_terms.specs.Meshes.{Mesh}
use Rattle.mesh_terms.specs.Points.{coordinate_of}
use Rattle.sheet_laws.proofs.Determinants.{drop_counts}
use Rattle.sheet_terms.specs.Crossings.{coplanar}
use Rattle.sheet_terms.specs.Cuts.{is_none}
use Rattle.sheet_terms.specs.Faces.{Face, drop_of, face_of, faces, faces_as, in_plane, is_flat, is_left, normal, seen, sides}
use Rattle.sheet_terms.specs.Kept.{free, is_out, remains}
use Rattle.sheet_terms.specs.Places.{has_three}
use Rattle.sheet_terms.specs.Regions.{all_sides, side_of}
use Rattle.sheet_laws.proofs.Coplanar.{IsBent, plane_back, plane_on, plane_self, same_way, turned_way}
use Rattle.sheet_laws.proofs.InLine.{AreAlong}
use Rattle.sheet_laws.proofs.OncePlanes.{TellsKinds, one_kind, total_by}
use Rattle.sheet_laws.proofs.Rims.{IsCut}
use Rattle.sheet_laws.proofs.SamePlanes.{faces_cut}

-- both numbers are above 0, or both are below
abbrev SameSign : ℤ → ℤ → Type 0
SameSign x y = ((pos 0 <ℤ x) × (pos 0 <ℤ y)) ⊎ ((x <ℤ pos 0) × (y <ℤ pos 0))

sign_self : (x : ℤ) → x ≢ pos 0 → SameSign x x
sign_self x some = by_lt_z x (pos 0) (λ l. inr (l, l)) (λ l. let up : pos 0 <ℤ x = by_lt_z (pos 0) x (λ k. k) (λ k. absurd (some (omega (arith, ints, l, k)))) in inl (up, up))

sign_back : (x y : ℤ) → SameSign x y → SameSign y x
sign_back x y (inl p) = inl (p.1, p.0)
sign_back x y (inr p) = inr (p.1, p.0)

sign_on : (x y z : ℤ) → SameSign x y → SameSign y z → SameSign x z
sign_on x y z (inl p) (inl q) = inl (p.0, q.1)
sign_on x y z (inl p) (inr q) = absurd (omega (arith, ints, p.1, q.0))
sign_on x y z (inr p) (inl q) = absurd (omega (arith, ints, p.1, q.0))
sign_on x y z (inr p) (inr q) = inr (p.0, q.1)

sign_some : (x y : ℤ) → SameSign x y → y ≢ pos 0
sign_some x y (inl p) e = omega (arith, ints, p.1, e)
sign_some x y (inr p) e = omega (arith, ints, p.1, e)

-- numbers in one proportion
above_too : (x y u v : ℤ) → x *ℤ v ≡ y *ℤ u → pos 0 <ℤ x → pos 0 <ℤ y → pos 0 <ℤ u → pos 0 <ℤ v
above_too x y u v e px py pu = let p = pos_mul y u py pu in pos_factor x v px (omega (arith, ints, e, p))

sign_moved : (x y u v : ℤ) → x *ℤ v ≡ y *ℤ u → SameSign x y → u ≢ pos 0 → SameSign u v
sign_moved x y u v e same some = by same (sign_self u some)
  where
    turned_e : x *ℤ neg_ℤ v ≡ y *ℤ neg_ℤ u
    turned_e = omega (arith, ints, e, mul-neg x v, mul-neg y u)

    by : SameSign x y → SameSign u u → SameSign u v
    by (inl p) (inl q) = inl (q.0, above_too x y u v e p.0 p.1 q.0)
    by (inl p) (inr q) =
        let k = above_too x y (neg_ℤ u) (neg_ℤ v) turned_e p.0 p.1 (omega (arith, ints, q.0)) in inr (q.0, omega (arith, ints, k))
    by (inr p) (inl q) =
        let k = above_too (neg_ℤ x) (neg_ℤ y) u v (omega (arith, ints, e, neg-mul x v, neg-mul y u)) (omega (arith, ints, p.0)) (omega (arith, ints, p.1)) q.0 in inl (q.0, k)
    by (inr p) (inr q) =
        let k = above_too (neg_ℤ x) (neg_ℤ y) (neg_ℤ u) (neg_ℤ v) (omega (arith, ints, turned_e, neg-mul x (neg_ℤ v), neg-mul y (neg_ℤ u))) (omega (arith, ints, p.0))
        (omega (arith, ints, p.1)) (omega (arith, ints, q.0)) in
        inr (q.0, omega (arith, ints, k))

-- coordinates of normals in one direction
in_proportion : (n m : List ℤ) → AreAlong (coordinate_of n 0) (coordinate_of n 1) (coordinate_of n 2) (coordinate_of m 0) (coordinate_of m 1) (coordinate_of m 2) →
    (d e : ℕ) → d < 3 → e < 3 → coordinate_of n d *ℤ coordinate_of m e ≡ coordinate_of m d *ℤ coordinate_of n e
in_proportion n m w d e d_low e_low = by d e d_low e_low
  where
    N : ℕ → ℤ
    N i = coordinate_of n i

    M : ℕ → ℤ
    M i = coordinate_of m i

    other : (i j : ℕ) → N i *ℤ M j ≡ M i *ℤ N j → N j *ℤ M i ≡ M j *ℤ N i
    other i j h = *ℤ_comm (N j) (M i) ∙ sym h ∙ *ℤ_comm (N i) (M j)

    by : (d e : ℕ) → d < 3 → e < 3 → N d *ℤ M e ≡ M d *ℤ N e
    by zero zero p q = *ℤ_comm (N 0) (M 0)
    by zero (suc zero) p q = w.ij
    by zero (suc (suc zero)) p q = other 2 0 w.ki
    by zero (suc (suc (suc k))) p q = absurd (omega (arith, q))
    by (suc zero) zero p q = other 0 1 w.ij
    by (suc zero) (suc zero) p q = *ℤ_comm (N 1) (M 1)
    by (suc zero) (suc (suc zero)) p q = w.jk
    by (suc zero) (suc (suc (suc k))) p q = absurd (omega (arith, q))
    by (suc (suc zero)) zero p q = w.ki
    by (suc (suc zero)) (suc zero) p q = other 1 2 w.jk
    by (suc (suc zero)) (suc (suc zero)) p q = *ℤ_comm (N 2) (M 2)
    by (suc (suc zero)) (suc (suc (suc k))) p q = absurd (omega (arith, q))
    by (suc (suc (suc k))) e p q = absurd (omega (arith, p))

-- a turn as seen from a side
turn_seen : (d : ℕ) (turned : Bool) (a b c : List ℤ) →
    turn (flat_at d turned a) (flat_at d turned b) (flat_at d turned c)
    ≡ cond turned (neg_ℤ (turn (flat_point d a) (flat_point d b) (flat_point d c))) (turn (flat_point d a) (flat_point d b) (flat_point d c))
turn_seen d false a b c = refl
turn_seen d true a b c = omega (arith, ints)

is_less : (a b : ℤ) → int_lt a b ≡ true → a <ℤ b
is_less a b h = grind (arith, ints)

is_not : (a b : ℤ) → int_lt a b ≡ false → b ≤ℤ a
is_not a b h = grind (arith, ints)

less_is : (a b : ℤ) → a <ℤ b → int_lt a b ≡ true
less_is a b h = grind (arith, ints)

-- it is to the left where the signs are one
to_sign : (x y : ℤ) → x ≢ pos 0 → int_lt (pos 0) (cond (int_lt x (pos 0)) (neg_ℤ y) y) ≡ true → SameSign x y
to_sign x y some h = by (cases_Bool (int_lt x (pos 0)))
  where
    by : (int_lt x (pos 0) ≡ true) ⊎ (int_lt x (pos 0) ≡ false) → SameSign x y
    by (inl l) =
        let k = is_less (pos 0) (neg_ℤ y) (sym (ap (λ b. int_lt (pos 0) (cond b (neg_ℤ y) y)) l) ∙ h) in inr (is_less x (pos 0) l, omega (arith, ints, k))
    by (inr r) =
        let k = is_less (pos 0) y (sym (ap (λ b. int_lt (pos 0) (cond b (neg_ℤ y) y)) r) ∙ h) in
        let up : pos 0 <ℤ x = by_lt_z (pos 0) x (λ l. l) (λ l. absurd (some (omega (arith, ints, l, is_not x (pos 0) r)))) in inl (up, k)

from_sign : (x y : ℤ) → SameSign x y → int_lt (pos 0) (cond (int_lt x (pos 0)) (neg_ℤ y) y) ≡ true
from_sign x y same = by same (cases_Bool (int_lt x (pos 0)))
  where
    by : SameSign x y → (int_lt x (pos 0) ≡ true) ⊎ (int_lt x (pos 0) ≡ false) → int_lt (pos 0) (cond (int_lt x (pos 0)) (neg_ℤ y) y) ≡ true
    by (inl p) (inl l) = absurd (omega (arith, ints, p.0, is_less x (pos 0) l))
    by (inl p) (inr r) = ap (λ b. int_lt (pos 0) (cond b (neg_ℤ y) y)) r ∙ less_is (pos 0) y p.1
    by (inr p) (inl l) = ap (λ b. int_lt (pos 0) (cond b (neg_ℤ y) y)) l ∙ less_is (pos 0) (neg_ℤ y) (omega (arith, ints, p.1))
    by (inr p) (inr r) = absurd (omega (arith, ints, p.0, is_not x (pos 0) r))

module _ (points : List (List ℤ)) where
  -- the coordinate of the normal of f on an axis
  abbrev part : Face → ℕ → ℤ
  part f d = coordinate_of (normal points f) d

  axis_low : (s : Face) → drop_of points s < 3
  axis_low s = drop_below (point_at points s.corners.0) (point_at points s.corners.1) (point_at points s.corners.2)

  axis_some : (s : Face) → IsBent points s → part s (drop_of points s) ≢ pos 0
  axis_some s bent =
      drop_counts (point_at points s.corners.0) (point_at points s.corners.1) (point_at points s.corners.2)
      (λ e. both_ways (is_flat points s.corners) bent (ap is_none e))

  -- f faces the side that s faces
  abbrev HasSide : Face → Face → Type 0
  HasSide s f = SameSign (part s (drop_of points s)) (part f (drop_of points s))

  left_is : (s f : Face) →
      is_left (seen points s) f.corners
      ≡ int_lt (pos 0) (cond (int_lt (part s (drop_of points s)) (pos 0)) (neg_ℤ (part f (drop_of points s))) (part f (drop_of points s)))
  left_is s f =
      let d = drop_of points s in
      let turned = int_lt (part s d) (pos 0) in
      let a = point_at points f.corners.0 in
      let b = point_at points f.corners.1 in
      let c = point_at points f.corners.2 in
      ap (int_lt (pos 0)) (turn_seen d turned a b c) ∙ ap (λ t. int_lt (pos 0) (cond turned (neg_ℤ t) t)) (turn_on_axis d a b c (axis_low s))

  to_side : (s f : Face) → IsBent points s → faces_as points s f ≡ true → (in_plane points s f ≡ true) × HasSide s f
  to_side s f bent h =
      let both = and_parts (in_plane points s f) (is_left (seen points s) f.corners) h in
      (both.0, to_sign (part s (drop_of points s)) (part f (drop_of points s)) (axis_some s bent) (sym (left_is s f) ∙ both.1))

  from_side : (s f : Face) → in_plane points s f ≡ true → HasSide s f → faces_as points s f ≡ true
  from_side s f h same =
      and_from (in_plane points s f) (is_left (seen points s) f.corners) h (left_is s f ∙ from_sign (part s (drop_of points s)) (part f (drop_of points s)) same)

  sides_tell : TellsKinds (IsBent points) (faces_as points)
  sides_tell = record {
    self = λ s bent. from_side s s (plane_self points s) (sign_self (part s (drop_of points s)) (axis_some s bent));
    back = λ s f bent_s bent_f h.
        let is = to_side s f bent_s h in
        let d = drop_of points s in
        let e = drop_of points f in
        from_side f s (plane_back points s f bent_s bent_f is.0)
        (sign_moved (part f d) (part s d) (part f e) (part s e)
        (in_proportion (normal points f) (normal points s) (turned_way points s f bent_s bent_f is.0) d e (axis_low s) (axis_low f)) (sign_back (part s d) (part f d) is.1)
        (axis_some f bent_f));
    on = λ s f g bent_s bent_f bent_g h i.
        let one = to_side s f bent_s h in
        let two = to_side f g bent_f i in
        let d = drop_of points s in
        let e = drop_of points f in
        from_side s g (plane_on points s f g bent_s bent_f one.0 two.0)
        (sign_on (part s d) (part f d) (part g d) one.1
        (sign_moved (part f e) (part g e) (part f d) (part g d)
        (in_proportion (normal points f) (normal points g) (same_way points f g bent_f bent_g two.0) e d (axis_low f) (axis_low s)) two.1
        (sign_some (part s d) (part f d) one.1)));
  }

-- fewer pass two tests than one
filter_few : {X : Type 0} (p : X → Bool) (xs : List X) → length (filter p xs) ≤ length xs
filter_few p [] = omega arith
filter_few p (x ∷ xs) = by (p x) (filter_few p xs)
  where
    by : (b : Bool) → length (filter p xs) ≤ length xs → length (cond b (x ∷ filter p xs) (filter p xs)) ≤ suc (length xs)
    by true h = omega (arith, h)
    by false h = omega (arith, h)

filter_fewer : {X : Type 0} (p q : X → Bool) (xs : List X) → length (filter p (filter q xs)) ≤ length (filter p xs)
filter_fewer p q [] = omega arith
filter_fewer p q (x ∷ xs) = by (q x) (filter_fewer p q xs)
  where
    in_both : (b : Bool) → length (filter p (filter q xs)) ≤ length (filter p xs) →
        length (cond b (x ∷ filter p (filter q xs)) (filter p (filter q xs))) ≤ length (cond b (x ∷ filter p xs) (filter p xs))
    in_both true h = omega (arith, h)
    in_both false h = h

    in_one : (b : Bool) → length (filter p (filter q xs)) ≤ length (filter p xs) → length (filter p (filter q xs)) ≤ length (cond b (x ∷ filter p xs) (filter p xs))
    in_one true h = omega (arith, h)
    in_one false h = h

    by : (b : Bool) → length (filter p (filter q xs)) ≤ length (filter p xs) →
        length (filter p (cond b (x ∷ filter q xs) (filter q xs))) ≤ length (cond (p x) (x ∷ filter p xs) (filter p xs))
    by true h = in_both (p x) h
    by false h = in_one (p x) h

filter_both : {X : Type 0} (p q : X → Bool) (xs : List X) → filter p (filter q xs) ≡ filter (λ x. q x && p x) xs
filter_both p q [] = refl
filter_both p q (x ∷ xs) = by (q x) (filter_both p q xs)
  where
    by : (b : Bool) → filter p (filter q xs) ≡ filter (λ x. q x && p x) xs →
        filter p (cond b (x ∷ filter q xs) (filter q xs)) ≡ cond (b && p x) (x ∷ filter (λ x. q x && p x) xs) (filter (λ x. q x && p x) xs)
    by true h = ap (λ l. cond (p x) (x ∷ l) l) h
    by false h = h

module _ (points : List (List ℤ)) (fs : List Face) where
  -- the kept ones of a side face it
  side_few : (s : Face) → (side_of points fs s).kept ≤ length (filter (faces_as points s) fs)
  side_few s =
      let at = seen points s in
      let own = coplanar points fs s in
      let left : Face → Bool = λ f. is_left at f.corners in
      let out = filter (is_out (free at own)) own in
      omega (
        arith,
        filter_fewer left (remains at out) out,
        filter_fewer left (is_out (free at own)) own,
        ap length (filter_both left (in_plane points s) fs),
      )

  one_each : (xs : List Face) → total (λ _. pos 1) xs ≡ pos (length xs)
  one_each [] = refl
  one_each (x ∷ xs) = omega (arith, ints, one_each xs)

  kept_sum : (ps : List Face) → pos (sum_by (λ t. t.kept) (map (side_of points fs) ps)) ≤ℤ total (λ s. total (λ _. pos 1) (filter (faces_as points s) fs)) ps
  kept_sum [] = omega (arith, ints)
  kept_sum (s ∷ ps) =
      omega (
        arith,
        ints,
        kept_sum ps,
        side_few s,
        one_each (filter (faces_as points s) fs),
        sum_by-cons (λ t. t.kept) (side_of points fs s) (map (side_of points fs) ps),
      )

  pub kept_few : All (IsBent points) fs → sum_by (λ t. t.kept) (all_sides points fs) ≤ length fs
  kept_few bent =
      let ps = sides points fs in
      omega (arith, ints, kept_sum ps, total_by (faces_as points) (λ _. pos 1) ps fs (one_kind (IsBent points) (faces_as points) (sides_tell points) fs bent), one_each fs)

-- there are no more faces than triangles
pub kept_of : (points : List (List ℤ)) (m : Mesh) → sum_by (λ t. t.kept) (all_sides points (faces points m)) ≤ length m.triples
kept_of points m =
    let fs = faces points m in
    let n = length m.triples in
    let made = map (face_of points m) (upto n) in
    let bent = All-weaker (IsCut points) (IsBent points) (λ f c. c.bent) fs (faces_cut points m) in
    omega (
      arith,
      kept_few points fs bent,
      filter_few (λ f. has_three f.corners && not (is_flat points f.corners)) made,
      length-map (upto n) (face_of points m),
      length-up_from 0 n,
    )
