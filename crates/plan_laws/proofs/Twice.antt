-- Points that are welded again with others: the first ones of first ones.
use Rattle.std.specs.Prelude.{◌≡◌, ◌⊎◌, ℤ, List, [], ◌∷◌, ◌++◌, Bool, true, false, ◌&&◌, ◌||◌, cond}
use Rattle.std.specs.List.{list_any}
use Rattle.std.specs.Ordering.{int_eq}
use Rattle.std.proofs.Common.{refl, sym, ap, ◌∙◌, inl, inr}
use Rattle.std.proofs.lemmas.Bool.{both_ways, cases_Bool}
use Rattle.std.proofs.lemmas.Bool.Decides.{Decides-int_eq}
use Rattle.std.proofs.lemmas.List.{append-nil, append_assoc}
use Rattle.std.proofs.lemmas.List.Folds.{list_any-append}
use Rattle.mesh_terms.specs.Points.{coordinate_of}
use Rattle.sheet_terms.specs.Crossings.{crossings}
use Rattle.sheet_terms.specs.Faces.{faces}
use Rattle.sheet_terms.specs.Places.{firsts, firsts_after, place_points}
use Rattle.tidy_terms.specs.PointTriples.{same_point}
use Rattle.edge_cutting.proofs.Numbered.{IsLike, any_firsts}
use Rattle.plan_laws.specs.Twice.{AllPointsAre, WeldsOnce}

-- what stood before counts only by what is like it
same_after : {X : Type 0} (like : X → X → Bool) (before other xs : List X) → ((y : X) → list_any (like y) before ≡ list_any (like y) other) →
    firsts_after like before xs ≡ firsts_after like other xs
same_after like before other [] same = refl
same_after like before other (x ∷ xs) same =
    let more : (y : _) → list_any (like y) (before ++ x ∷ []) ≡ list_any (like y) (other ++ x ∷ []) = λ y.
    list_any-append (like y) before (x ∷ []) ∙ ap (λ b. b || list_any (like y) (x ∷ [])) (same y) ∙ sym (list_any-append (like y) other (x ∷ [])) in
    λ i. cond (same x i) [] (x ∷ []) ++ same_after like (before ++ x ∷ []) (other ++ x ∷ []) xs more i

-- those of two lists
after_append : {X : Type 0} (like : X → X → Bool) (before xs ys : List X) → firsts_after like before (xs ++ ys) ≡ firsts_after like before xs ++ firsts_after like (before ++ xs) ys
after_append like before [] ys = ap (λ b. firsts_after like b ys) (sym (append-nil before))
after_append like before (x ∷ xs) ys =
    let c = cond (list_any (like x) before) [] (x ∷ []) in
    ap (λ l. c ++ l) (after_append like (before ++ x ∷ []) xs ys)
    ∙ sym (append_assoc c (firsts_after like (before ++ x ∷ []) xs) (firsts_after like ((before ++ x ∷ []) ++ xs) ys))
    ∙ ap (λ b. (c ++ firsts_after like (before ++ x ∷ []) xs) ++ firsts_after like b ys) (append_assoc before (x ∷ []) xs)

module _ {X : Type 0} (like : X → X → Bool) (is : IsLike like) where
  -- what is like something that is like one of a list
  passed_on : (x y : X) (zs : List X) → like x y ≡ true → list_any (like y) zs ≡ true → list_any (like x) zs ≡ true
  passed_on x y [] h some = some
  passed_on x y (z ∷ zs) h some = by (cases_Bool (like y z)) (passed_on x y zs h)
    where
      or_true : (a : Bool) → (a || true) ≡ true
      or_true true = refl
      or_true false = refl

      by : (like y z ≡ true) ⊎ (like y z ≡ false) → (list_any (like y) zs ≡ true → list_any (like x) zs ≡ true) → (like x z || list_any (like x) zs) ≡ true
      by (inl here) go = λ i. is.on x y z h here i || list_any (like x) zs
      by (inr none) go = (λ i. like x z || go (sym (ap (λ b. b || list_any (like y) zs) none) ∙ some) i) ∙ or_true (like x z)

  -- first ones are first again
  after_twice : (before xs : List X) → firsts_after like before (firsts_after like before xs) ≡ firsts_after like before xs
  after_twice before [] = refl
  after_twice before (x ∷ xs) = by (cases_Bool (list_any (like x) before)) (after_twice (before ++ x ∷ []) xs)
    where
      rest : List X
      rest = firsts_after like (before ++ x ∷ []) xs

      by : (list_any (like x) before ≡ true) ⊎ (list_any (like x) before ≡ false) → firsts_after like (before ++ x ∷ []) rest ≡ rest →
          firsts_after like before (cond (list_any (like x) before) [] (x ∷ []) ++ rest) ≡ cond (list_any (like x) before) [] (x ∷ []) ++ rest
      by (inl was) go =
          ap (λ b. firsts_after like before (cond b [] (x ∷ []) ++ rest)) was ∙ same_after like before (before ++ x ∷ []) rest same ∙ go
          ∙ sym (ap (λ b. cond b [] (x ∷ []) ++ rest) was)
        where
          same : (y : X) → list_any (like y) before ≡ list_any (like y) (before ++ x ∷ [])
          same y = either (cases_Bool (like y x)) ∙ sym (list_any-append (like y) before (x ∷ []))
            where
              or_true : (a : Bool) → a ≡ true → a ≡ (a || (true || false))
              or_true true h = refl
              or_true false h = absurd (both_ways false refl h)

              or_none : (a : Bool) → a ≡ (a || (false || false))
              or_none true = refl
              or_none false = refl

              either : (like y x ≡ true) ⊎ (like y x ≡ false) → list_any (like y) before ≡ (list_any (like y) before || (like y x || false))
              either (inl h) = or_true (list_any (like y) before) (passed_on y x before h was) ∙ sym (ap (λ b. list_any (like y) before || (b || false)) h)
              either (inr n) = or_none (list_any (like y) before) ∙ sym (ap (λ b. list_any (like y) before || (b || false)) n)
      by (inr new) go =
          ap (λ b. firsts_after like before (cond b [] (x ∷ []) ++ rest)) new ∙ ap (λ b. cond b [] (x ∷ []) ++ firsts_after like (before ++ x ∷ []) rest) new
          ∙ ap (λ l. x ∷ l) go ∙ sym (ap (λ b. cond b [] (x ∷ []) ++ rest) new)

  pub firsts_again : (xs ys : List X) → firsts like (firsts like xs ++ ys) ≡ firsts like (xs ++ ys)
  firsts_again xs ys =
      after_append like [] (firsts like xs) ys ∙ ap (λ l. l ++ firsts_after like (firsts like xs) ys) (after_twice [] xs)
      ∙ ap (λ l. firsts like xs ++ l) (same_after like (firsts like xs) xs ys (λ y. any_firsts like is y xs)) ∙ sym (after_append like [] xs ys)

-- points are like one another where their coordinates are the same
same_coordinates : (p q : List ℤ) → coordinate_of p 0 ≡ coordinate_of q 0 → coordinate_of p 1 ≡ coordinate_of q 1 → coordinate_of p 2 ≡ coordinate_of q 2 → same_point p q ≡ true
same_coordinates p q e f g =
    λ i. (Decides-int_eq (coordinate_of p 0) (coordinate_of q 0)).1 e i && (Decides-int_eq (coordinate_of p 1) (coordinate_of q 1)).1 f i
    && (Decides-int_eq (coordinate_of p 2) (coordinate_of q 2)).1 g i

record HaveSame (p q : List ℤ) : Type 0 where
  x : coordinate_of p 0 ≡ coordinate_of q 0
  y : coordinate_of p 1 ≡ coordinate_of q 1
  z : coordinate_of p 2 ≡ coordinate_of q 2

coordinates_same : (p q : List ℤ) → same_point p q ≡ true → HaveSame p q
coordinates_same p q h =
    let a = int_eq (coordinate_of p 0) (coordinate_of q 0) in
    let b = int_eq (coordinate_of p 1) (coordinate_of q 1) in
    let c = int_eq (coordinate_of p 2) (coordinate_of q 2) in
    record {
      x = (Decides-int_eq (coordinate_of p 0) (coordinate_of q 0)).0 (left a b (left (a && b) c h));
      y = (Decides-int_eq (coordinate_of p 1) (coordinate_of q 1)).0 (right a b (left (a && b) c h));
      z = (Decides-int_eq (coordinate_of p 2) (coordinate_of q 2)).0 (right (a && b) c h);
    }
  where
    left : (a b : Bool) → (a && b) ≡ true → a ≡ true
    left true b h = refl
    left false b h = h

    right : (a b : Bool) → (a && b) ≡ true → b ≡ true
    right true b h = h
    right false b h = absurd (both_ways false refl h)

pub points_like : IsLike same_point
points_like = record {
  self = λ p. same_coordinates p p refl refl refl;
  back = λ p q h. let s = coordinates_same p q h in same_coordinates q p (sym s.x) (sym s.y) (sym s.z);
  on = λ p q r h k. let s = coordinates_same p q h in let t = coordinates_same q r k in same_coordinates p r (s.x ∙ t.x) (s.y ∙ t.y) (s.z ∙ t.z);
}

pub welds_once : WeldsOnce
welds_once points more = firsts_again same_point points_like points more

pub all_points_are : AllPointsAre
all_points_are m = let points = place_points m.points in welds_once m.points (crossings points (faces points m))
