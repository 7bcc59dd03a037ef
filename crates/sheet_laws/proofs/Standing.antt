-- Where a member stands that passes a test, and the places of points.
use Rattle.std.specs.Prelude.{◌≡◌, ◌⊎◌, ℕ, suc, ◌+◌, ◌<◌, ℤ, List, [], ◌∷◌, ◌++◌, true, false, Bool, cond, not, ◌&&◌, ◌||◌, get_or, length}
use Rattle.std.specs.List.{All, list_any, position_or_len}
use Rattle.std.specs.Ordering.{int_eq}
use Rattle.std.proofs.Common.{arith, refl, sym, ap, subst, ◌∙◌, inl, inr}
use Rattle.std.proofs.lemmas.Bool.{and_from, and_parts, cases_Bool, or_left}
use Rattle.std.proofs.lemmas.Bool.Decides.{Decides-int_eq}
use Rattle.std.proofs.lemmas.List.Folds.{list_any-append}
use Rattle.mesh_terms.specs.Meshes.{Mesh}
use Rattle.mesh_terms.specs.Points.{coordinate_of}
use Rattle.sheet_terms.specs.Crossings.{all_points, crossings}
use Rattle.sheet_terms.specs.Faces.{faces}
use Rattle.sheet_terms.specs.Places.{place_points}
use Rattle.tidy_terms.specs.PointTriples.{same_point}
use Rattle.sheet_laws.proofs.Firsts.{like_one, some_member}

-- a member that passes a test stands there
pub record Stands {X : Type 0} (p : X → Bool) (xs : List X) (d : X) (k : ℕ) : Type 0 where
  pub low : k < length xs
  pub passes : p (get_or xs k d) ≡ true

-- the first one does
pub stands : {X : Type 0} (p : X → Bool) (xs : List X) (d : X) → list_any p xs ≡ true → Stands p xs d (position_or_len p xs)
stands p [] d h = absurd cc
stands p (x ∷ xs) d h = by (cases_Bool (p x)) (stands p xs d)
  where
    one_more : (k : ℕ) → 1 + k ≡ suc k
    one_more k = omega arith

    by : (p x ≡ true) ⊎ (p x ≡ false) → (list_any p xs ≡ true → Stands p xs d (position_or_len p xs)) → Stands p (x ∷ xs) d (cond (not (p x)) (1 + position_or_len p xs) 0)
    by (inl y) go = subst (λ b. Stands p (x ∷ xs) d (cond (not b) (1 + position_or_len p xs) 0)) (sym y) (record { low = omega arith; passes = y })
    by (inr n) go =
        let rest = go (sym (ap (λ b. b || list_any p xs) n) ∙ h) in
        subst (λ b. Stands p (x ∷ xs) d (cond (not b) (1 + position_or_len p xs) 0)) (sym n)
        (subst (Stands p (x ∷ xs) d) (sym (one_more (position_or_len p xs))) (record { low = omega (arith, rest.low); passes = rest.passes }))

-- the same coordinates
pub record AreSame (p q : List ℤ) : Type 0 where
  pub x : coordinate_of p 0 ≡ coordinate_of q 0
  pub y : coordinate_of p 1 ≡ coordinate_of q 1
  pub z : coordinate_of p 2 ≡ coordinate_of q 2

-- the test says it
pub same_parts : (p q : List ℤ) → same_point p q ≡ true → AreSame p q
same_parts p q h =
    let t : ℕ → Bool = λ i. int_eq (coordinate_of p i) (coordinate_of q i) in
    let all = and_parts (t 0 && t 1) (t 2) h in
    let two = and_parts (t 0) (t 1) all.0 in
    let by : (i : ℕ) → t i ≡ true → coordinate_of p i ≡ coordinate_of q i = λ i. (Decides-int_eq (coordinate_of p i) (coordinate_of q i)).0 in
    record { x = by 0 two.0; y = by 1 two.1; z = by 2 all.1 }

pub same_from : (p q : List ℤ) → AreSame p q → same_point p q ≡ true
same_from p q are =
    let t : ℕ → Bool = λ i. int_eq (coordinate_of p i) (coordinate_of q i) in
    let by : (i : ℕ) → coordinate_of p i ≡ coordinate_of q i → t i ≡ true = λ i. (Decides-int_eq (coordinate_of p i) (coordinate_of q i)).1 in
    and_from (t 0 && t 1) (t 2) (and_from (t 0) (t 1) (by 0 are.x) (by 1 are.y)) (by 2 are.z)

-- a point is the same as itself, and as what is the same as one that is the same
pub same_self : (p : List ℤ) → same_point p p ≡ true
same_self p = same_from p p (record { x = refl; y = refl; z = refl })

same_on : (p q r : List ℤ) → same_point p q ≡ true → same_point q r ≡ true → same_point p r ≡ true
same_on p q r h g =
    let a = same_parts p q h in let b = same_parts q r g in same_from p r (record { x = a.x ∙ b.x; y = a.y ∙ b.y; z = a.z ∙ b.z })

-- each of some points is one of a list
abbrev pub IsOver : List (List ℤ) → List (List ℤ) → Type 0
IsOver points ps = All (λ p. list_any (same_point p) points ≡ true) ps

-- so it is one of their places
over_places : (points ps : List (List ℤ)) → IsOver points ps → IsOver (place_points points) ps
over_places points ps over k d low = like_one same_point same_self same_on (get_or ps k d) points (over k d low)

-- and one of more points
over_more : (points more ps : List (List ℤ)) → IsOver points ps → IsOver (points ++ more) ps
over_more points more ps over k d low =
    let p = get_or ps k d in list_any-append (same_point p) points more ∙ or_left (list_any (same_point p) points) (list_any (same_point p) more) (over k d low)

-- the points of a mesh have places
pub own_places : (ps : List (List ℤ)) → IsOver (place_points ps) ps
own_places ps = over_places ps ps (λ k d low. some_member (same_point (get_or ps k d)) ps k d low (same_self (get_or ps k d)))

-- they are places of all points, those in which edges cross among them
pub all_over : (m : Mesh) → IsOver (all_points m) m.points
all_over m =
    let points = place_points m.points in
    let more = crossings points (faces points m) in over_places (points ++ more) m.points (over_more points more m.points (own_places m.points))
