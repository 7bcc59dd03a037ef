-- Triangles of one plane: the sides that they face, and how the plane is seen from these.
use Rattle.std.proofs.Common.{◌≡◌, ◌∙◌, ℤ, Bool, List, [], ◌∷◌, true, false, ap, arith, cond, filter, get_or, neg_ℤ, pos, refl, suc, sym}
use Rattle.std.specs.Prelude.{◌&&◌, if◌then◌else◌, not}
use Rattle.std.specs.List.{All}
use Rattle.std.proofs.lemmas.Int.{ints}
use Rattle.std.proofs.lemmas.List.Elements.{All-weaker, filter_passes}
use Rattle.face_plane.specs.Planes.{Plane, exchanged, face_plane, orient}
use Rattle.sheet_terms.specs.Crossings.{coplanar}
use Rattle.sheet_terms.specs.Faces.{Face, drop_of, in_plane, is_flat, is_left, seen}
use Rattle.sheet_terms.specs.Kept.{free, kept}
use Rattle.sheet_terms.specs.Twins.{are_same}
use Rattle.plane_chains.proofs.Behind.{IsTurned, behind_is, free_back, kept_back, left_back, orient_back}
use Rattle.plane_groups.specs.Grouped.{bent, is_front}
use Rattle.plane_groups.specs.Keys.{key_at, same_key}
use Rattle.plane_groups.proofs.SameKeys.{in_plane_by_key, in_to_one}
use Rattle.plane_groups.proofs.Views.{same_drop, side_by_front, turned_by_front, turns_there}
use Rattle.plane_remesh.specs.Pushed.{side_seen}
use Rattle.plan_laws.specs.Views.{front_seen, front_turned, is_turned, side_turned}

double : (b : Bool) → not (not b) ≡ b
double true = refl
double false = refl

unflat : (b : Bool) → not b ≡ true → b ≡ false
unflat true h = sym h
unflat false h = refl

-- none of these triangles is flat
abbrev pub IsBent : List (List ℤ) → Face → Type 0
IsBent points f = is_flat points f.corners ≡ false

pub bent_all : (points : List (List ℤ)) (all : List Face) → All (IsBent points) (bent points all)
bent_all points all =
    All-weaker (λ f. not (is_flat points f.corners) ≡ true) (IsBent points) (λ f h. unflat (is_flat points f.corners) h) (bent points all)
    (filter_passes (λ f. not (is_flat points f.corners)) all)

-- tests that agree for all members keep the same ones
pub filter_same : {X : Type 0} (p q : X → Bool) (xs : List X) → All (λ x. p x ≡ q x) xs → filter p xs ≡ filter q xs
filter_same p q [] h = refl
filter_same p q (x ∷ xs) h = by (filter_same p q xs (λ k d low. h (suc k) d (omega (arith, low)))) where
  by : filter p xs ≡ filter q xs → cond (p x) (x ∷ filter p xs) (filter p xs) ≡ cond (q x) (x ∷ filter q xs) (filter q xs)
  by rest = λ i. cond (h 0 x (omega arith) i) (x ∷ rest i) (rest i)

-- a triangle that turns does so from behind too
turned_back : (at : Plane) (f : Face) → IsTurned at f → IsTurned (exchanged at) f
turned_back at f some e =
    some (none (orient at f.corners.0 f.corners.1 f.corners.2) (sym (orient_back at f.corners.0 f.corners.1 f.corners.2) ∙ e))
  where
    none : (x : ℤ) → neg_ℤ x ≡ pos 0 → x ≡ pos 0
    none x h = omega (arith, ints, h)

module _ (points : List (List ℤ)) (s f : Face) (bent_s : is_flat points s.corners ≡ false) (bent_f : is_flat points f.corners ≡ false) (in_one : in_plane points s f ≡ true) where
  -- the plane from the front, and from any side, is the same by either of them
  front_same : front_turned points f ≡ front_turned points s
  front_same = by (is_front points s) (is_front points f) (is_turned points s) (is_turned points f) (turned_by_front points s f bent_s bent_f in_one)
    where
      by : (a b t u : Bool) → u ≡ (if are_same a b then t else not t) → (if b then u else not u) ≡ (if a then t else not t)
      by true true t u e = e
      by true false t u e = ap not e ∙ double t
      by false true t u e = e
      by false false t u e = ap not e

  pub side_same : (front : Bool) → side_turned points f front ≡ side_turned points s front
  side_same true = front_same
  side_same false = ap not front_same

  pub seen_same : (front : Bool) → side_seen points f front ≡ side_seen points s front
  seen_same front = λ i. face_plane (same_drop points s f bent_s bent_f in_one i) (side_same front i) points

  -- a triangle turns left as the side that it faces sees it
  pub left_on_side : (front : Bool) → is_left (side_seen points s front) f.corners ≡ (if front then is_front points f else not (is_front points f))
  left_on_side front =
      let sees : Bool → Bool = λ t. is_left (face_plane (drop_of points s) t points) f.corners in
      let own : sees (is_turned points s) ≡ are_same (is_front points s) (is_front points f) =
      ap (λ b. b && is_left (seen points s) f.corners) (sym in_one) ∙ side_by_front points s f bent_s bent_f in_one in
      let other : sees (not (is_turned points s)) ≡ not (sees (is_turned points s)) =
      ap (λ at. is_left at f.corners) (behind_is (drop_of points s) (is_turned points s) points) ∙ left_back (seen points s) f (turns_there points s f bent_s bent_f in_one) in
      by sees (is_turned points s) front (is_front points s) (is_front points f) own (other ∙ ap not own)
    where
      by : (sees : Bool → Bool) (t front a b : Bool) → sees t ≡ are_same a b → sees (not t) ≡ not (are_same a b) →
          sees (if front then (if a then t else not t) else not (if a then t else not t)) ≡ (if front then b else not b)
      by sees t true true b e h = e
      by sees t true false b e h = h ∙ double b
      by sees t false true b e h = h
      by sees t false false b e h = ap sees (double t) ∙ e

  -- and isn't flat there
  pub turns_on : (t : Bool) → IsTurned (face_plane (drop_of points s) t points) f
  turns_on t = by (is_turned points s) t (turns_there points s f bent_s bent_f in_one)
    where
      by : (t u : Bool) → IsTurned (face_plane (drop_of points s) t points) f → IsTurned (face_plane (drop_of points s) u points) f
      by true true h = h
      by false false h = h
      by true false h = turned_back (face_plane (drop_of points s) true points) f h
      by false true h = turned_back (face_plane (drop_of points s) false points) f h

  -- the triangles of their plane are the same by either of them
  key_same : key_at points f.corners ≡ key_at points s.corners
  key_same = let one = in_to_one points s f bent_s bent_f in_one in λ i. record { normal = sym one.normals i; level = sym one.levels i }

  pub in_plane_same : (g : Face) → is_flat points g.corners ≡ false → in_plane points f g ≡ in_plane points s g
  in_plane_same g h = in_plane_by_key points f g bent_f h ∙ ap (λ k. same_key k (key_at points g.corners)) key_same ∙ sym (in_plane_by_key points s g bent_s h)

  pub coplanar_same : (all : List Face) → coplanar points (bent points all) f ≡ coplanar points (bent points all) s
  coplanar_same all =
      filter_same (in_plane points f) (in_plane points s) (bent points all)
      (λ k d low. in_plane_same (get_or (bent points all) k d) (bent_all points all k d low))

-- the plane of a triangle as it is seen from the side that it faces
pub seen_own : (points : List (List ℤ)) (f : Face) → seen points f ≡ side_seen points f (is_front points f)
seen_own points f = ap (λ t. face_plane (drop_of points f) t points) (by (is_front points f) (is_turned points f))
  where
    by : (b t : Bool) → t ≡ (if b then (if b then t else not t) else not (if b then t else not t))
    by true t = refl
    by false t = sym (double t)

-- the same triangles are free as the plane is seen from any side, and the same ones are kept
pub free_side : (points : List (List ℤ)) (s : Face) (own : List Face) (front : Bool) → free (side_seen points s front) own ≡ free (front_seen points s) own
free_side points s own true = refl
free_side points s own false = ap (λ at. free at own) (behind_is (drop_of points s) (front_turned points s) points) ∙ free_back (front_seen points s) own

pub kept_side : (points : List (List ℤ)) (s : Face) (own : List Face) (front : Bool) → All (IsTurned (front_seen points s)) own →
    kept (side_seen points s front) own ≡ kept (front_seen points s) own
kept_side points s own true all = refl
kept_side points s own false all = ap (λ at. kept at own) (behind_is (drop_of points s) (front_turned points s) points) ∙ kept_back (front_seen points s) own all
