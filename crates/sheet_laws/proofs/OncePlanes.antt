-- Each triangle is in one of the planes, so sums over triangles are sums over planes.
use Rattle.std.specs.Prelude.{◌≡◌, ◌⊎◌, ℤ, pos, ◌+ℤ◌, List, [], ◌∷◌, ◌++◌, true, false, Bool, cond, ◌||◌, count_by, filter, get_or}
use Rattle.std.specs.List.{All, list_any}
use Rattle.std.proofs.Common.{arith, refl, sym, ap, ◌∙◌, inl, inr}
use Rattle.std.proofs.lemmas.Bool.{both_ways, cases_Bool, false_from_ne_true, or_cases, or_left, or_right}
use Rattle.std.proofs.lemmas.Int.{ints}
use Rattle.std.proofs.lemmas.List.Elements.{All-head, All-map, All-nil, All-push, All-tail}
use Rattle.std.proofs.lemmas.List.Folds.{list_any-append}
use Rattle.chain_terms.specs.Chains.{one_if}
use Rattle.chain_terms.specs.Sums.{total}
use Rattle.chain_laws.specs.Counts.{count_by-cons, one_if-false, one_if-true}
use Rattle.chain_laws.specs.Firsts.{total-no_hit}
use Rattle.chain_laws.specs.Sums.{total-same, total-same_all, total-swap}
use Rattle.chain_laws.proofs.Ascending.{total-filter}
use Rattle.sheet_terms.specs.Faces.{Face, faces_as, in_plane, planes, sides}
use Rattle.sheet_terms.specs.Places.{firsts, firsts_after}
use Rattle.sheet_terms.specs.Regions.{all_sides, side_of}
use Rattle.sheet_laws.proofs.Coplanar.{IsBent, plane_back, plane_on, plane_self}
use Rattle.sheet_laws.proofs.Corners.{All-firsts}
use Rattle.sheet_laws.proofs.Firsts.{some_member}

-- of members of some kind: each is like itself, in both orders, and what is like a like one
pub record TellsKinds {X : Type 0} (P : X → Type 0) (like : X → X → Bool) : Type 0 where
  pub self : (x : X) → P x → like x x ≡ true
  pub back : (x y : X) → P x → P y → like x y ≡ true → like y x ≡ true
  pub on : (x y z : X) → P x → P y → P z → like x y ≡ true → like y z ≡ true → like x z ≡ true

module _ {X : Type 0} (P : X → Type 0) (like : X → X → Bool) (tells : TellsKinds P like) where
  -- what is like something that is like one of a list
  passed_on : (x y : X) (zs : List X) → P x → P y → All P zs → like x y ≡ true → list_any (like y) zs ≡ true → list_any (like x) zs ≡ true
  passed_on x y [] px py all h some = some
  passed_on x y (z ∷ zs) px py all h some = elim (or_cases (like y z) (list_any (like y) zs) some) as (λ _. list_any (like x) (z ∷ zs) ≡ true) [
    | inl here ↦ or_left (like x z) (list_any (like x) zs) (tells.on x y z px py (All-head P z zs all) h here)
    | inr later ↦ or_right (like x z) (list_any (like x) zs) (passed_on x y zs px py (All-tail P z zs all) h later)
  ]

  -- one more before
  pushed : (x y : X) (before : List X) → list_any (like x) (before ++ y ∷ []) ≡ (list_any (like x) before || like x y)
  pushed x y before = list_any-append (like x) before (y ∷ []) ∙ ap (λ b. list_any (like x) before || b) (last (like x y))
    where
      last : (b : Bool) → (b || false) ≡ b
      last true = refl
      last false = refl

  -- of those like one before none is first
  none_first : (x : X) (before xs : List X) → P x → All P before → All P xs → list_any (like x) before ≡ true →
      count_by (λ s. like s x) (firsts_after like before xs) ≡ 0
  none_first x before [] px was all some = refl
  none_first x before (y ∷ ys) px was all some =
      by (cases_Bool (list_any (like y) before))
      (none_first x (before ++ y ∷ []) ys px (All-push P before y was py) (All-tail P y ys all) (pushed x y before ∙ or_left (list_any (like x) before) (like x y) some))
    where
      py : P y
      py = All-head P y ys all

      rest : List X
      rest = firsts_after like (before ++ y ∷ []) ys

      by : (list_any (like y) before ≡ true) ⊎ (list_any (like y) before ≡ false) → count_by (λ s. like s x) rest ≡ 0 →
          count_by (λ s. like s x) (cond (list_any (like y) before) [] (y ∷ []) ++ rest) ≡ 0
      by (inl h) none = ap (λ b. count_by (λ s. like s x) (cond b [] (y ∷ []) ++ rest)) h ∙ none
      by (inr n) none =
          let unlike = false_from_ne_true (like y x) (λ h. both_ways (list_any (like y) before) n (passed_on y x before py px was h some)) in
          ap (λ b. count_by (λ s. like s x) (cond b [] (y ∷ []) ++ rest)) n
          ∙ omega (arith, count_by-cons (λ s. like s x) y rest, one_if-false (like y x) unlike, none)

  -- so of those that are like a member one is
  one_first : (x : X) (before xs : List X) → P x → All P before → All P xs → list_any (like x) before ≡ false →
      count_by (λ s. like s x) (firsts_after like before xs) ≡ one_if (list_any (like x) xs)
  one_first x before [] px was all none = refl
  one_first x before (y ∷ ys) px was all none =
      by (cases_Bool (list_any (like y) before)) (cases_Bool (like x y)) (none_first x (before ++ y ∷ []) ys px more (All-tail P y ys all))
      (one_first x (before ++ y ∷ []) ys px more (All-tail P y ys all))
    where
      py : P y
      py = All-head P y ys all

      more : All P (before ++ y ∷ [])
      more = All-push P before y was py

      rest : List X
      rest = firsts_after like (before ++ y ∷ []) ys

      still : like x y ≡ false → list_any (like x) (before ++ y ∷ []) ≡ false
      still n = pushed x y before ∙ ap (λ b. b || like x y) none ∙ n

      by : (list_any (like y) before ≡ true) ⊎ (list_any (like y) before ≡ false) → (like x y ≡ true) ⊎ (like x y ≡ false) →
          (list_any (like x) (before ++ y ∷ []) ≡ true → count_by (λ s. like s x) rest ≡ 0) →
          (list_any (like x) (before ++ y ∷ []) ≡ false → count_by (λ s. like s x) rest ≡ one_if (list_any (like x) ys)) →
          count_by (λ s. like s x) (cond (list_any (like y) before) [] (y ∷ []) ++ rest) ≡ one_if (like x y || list_any (like x) ys)
      by (inl w) (inl h) gone go = absurd (both_ways (list_any (like x) before) none (passed_on x y before px py was h w))
      by (inl w) (inr n) gone go =
          ap (λ b. count_by (λ s. like s x) (cond b [] (y ∷ []) ++ rest)) w ∙ go (still n) ∙ ap (λ b. one_if (b || list_any (like x) ys)) (sym n)
      by (inr w) (inl h) gone go =
          ap (λ b. count_by (λ s. like s x) (cond b [] (y ∷ []) ++ rest)) w
          ∙ omega (
            arith,
            count_by-cons (λ s. like s x) y rest,
            one_if-true (like y x) (tells.back x y px py h),
            gone (pushed x y before ∙ or_right (list_any (like x) before) (like x y) h),
            one_if-true (like x y || list_any (like x) ys) (or_left (like x y) (list_any (like x) ys) h),
          )
      by (inr w) (inr n) gone go =
          let unlike = false_from_ne_true (like y x) (λ h. both_ways (like x y) n (tells.back y x py px h)) in
          ap (λ b. count_by (λ s. like s x) (cond b [] (y ∷ []) ++ rest)) w
          ∙ omega (arith, count_by-cons (λ s. like s x) y rest, one_if-false (like y x) unlike, go (still n), ap (λ b. one_if (b || list_any (like x) ys)) n)

  pub one_kind : (xs : List X) → All P xs → All (λ x. count_by (λ s. like s x) (firsts like xs) ≡ 1) xs
  one_kind xs all k d low =
      let x = get_or xs k d in
      one_first x [] xs (all k d low) (All-nil P) all refl ∙ one_if-true (list_any (like x) xs) (some_member (like x) xs k d low (tells.self x (all k d low)))

-- a number where one passes
once_total : {S : Type 0} (p : S → Bool) (z : ℤ) (ss : List S) → count_by p ss ≡ 1 → total (λ s. cond (p s) z (pos 0)) ss ≡ z
once_total p z [] h = absurd (omega (arith, h))
once_total p z (s ∷ ss) h = by (cases_Bool (p s)) (once_total p z ss)
  where
    by : (p s ≡ true) ⊎ (p s ≡ false) → (count_by p ss ≡ 1 → total (λ s. cond (p s) z (pos 0)) ss ≡ z) → cond (p s) z (pos 0) +ℤ total (λ s. cond (p s) z (pos 0)) ss ≡ z
    by (inl y) go =
        omega (
          arith,
          ints,
          ap (λ b. cond b z (pos 0)) y,
          total-no_hit p (λ _. z) ss (omega (arith, h, count_by-cons p s ss, one_if-true (p s) y)),
        )
    by (inr n) go = omega (arith, ints, ap (λ b. cond b z (pos 0)) n, go (omega (arith, h, count_by-cons p s ss, one_if-false (p s) n)))

-- where each member belongs to one of a list, a sum over all is a sum over these
pub total_by : {S X : Type 0} (R : S → X → Bool) (g : X → ℤ) (ss : List S) (xs : List X) → All (λ x. count_by (λ s. R s x) ss ≡ 1) xs →
    total g xs ≡ total (λ s. total g (filter (R s) xs)) ss
total_by R g ss xs once =
    sym
    (total-same (λ s. total g (filter (R s) xs)) (λ s. total (λ x. cond (R s x) (g x) (pos 0)) xs) (λ s. total-filter g (R s) xs) ss
    ∙ total-swap (λ s x. cond (R s x) (g x) (pos 0)) ss xs
    ∙ total-same_all (λ x. total (λ s. cond (R s x) (g x) (pos 0)) ss) g xs (λ k d low. once_total (λ s. R s (get_or xs k d)) (g (get_or xs k d)) ss (once k d low)))

module _ (points : List (List ℤ)) where
  -- triangles with an area lie in the same planes or in none
  planes_tell : TellsKinds (IsBent points) (in_plane points)
  planes_tell = record {
    self = λ f bent. plane_self points f;
    back = plane_back points;
    on = λ s f g bent_s bent_f bent_g. plane_on points s f g bent_s bent_f;
  }

  -- each is in one
  pub in_one : (fs : List Face) → All (IsBent points) fs → All (λ f. count_by (λ s. in_plane points s f) (planes points fs) ≡ 1) fs
  in_one fs bent = one_kind (IsBent points) (in_plane points) planes_tell fs bent

  -- and each side is of one
  pub side_in_one : (fs : List Face) → All (IsBent points) fs → All (λ t. count_by (λ s. in_plane points s t.face) (planes points fs) ≡ 1) (all_sides points fs)
  side_in_one fs bent =
      All-map (λ t. count_by (λ s. in_plane points s t.face) (planes points fs) ≡ 1) (side_of points fs) (sides points fs)
      (All-firsts (λ f. count_by (λ s. in_plane points s f) (planes points fs) ≡ 1) (faces_as points) [] fs (in_one fs bent))
