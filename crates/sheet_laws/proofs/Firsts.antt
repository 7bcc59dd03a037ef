-- The first members of each kind: every member is like one of them.
use Rattle.std.specs.Prelude.{◌≡◌, ◌⊎◌, ℕ, zero, suc, ◌<◌, List, [], ◌∷◌, ◌++◌, true, false, Bool, cond, ◌||◌, length, get_or}
use Rattle.std.specs.List.{flat_map, list_any}
use Rattle.std.proofs.Common.{arith, refl, sym, ap, ◌∙◌, inl, inr}
use Rattle.std.proofs.lemmas.Bool.{cases_Bool}
use Rattle.std.proofs.lemmas.List.Folds.{list_any-append}
use Rattle.sheet_terms.specs.Places.{firsts, firsts_after}

-- one of two tests holds
either : (a b : Bool) → (a || b) ≡ true → (a ≡ true) ⊎ (b ≡ true)
either true b h = inl refl
either false b h = inr h

first_holds : (a b : Bool) → a ≡ true → (a || b) ≡ true
first_holds true b h = refl
first_holds false b h = absurd cc

second_holds : (a b : Bool) → b ≡ true → (a || b) ≡ true
second_holds true b h = refl
second_holds false b h = h

-- a test passed by a member is passed by some member
pub some_member : {X : Type 0} (p : X → Bool) (xs : List X) (k : ℕ) (d : X) → k < length xs → p (get_or xs k d) ≡ true → list_any p xs ≡ true
some_member p [] k d low h = absurd (omega (arith, low))
some_member p (x ∷ xs) zero d low h = first_holds (p x) (list_any p xs) h
some_member p (x ∷ xs) (suc k) d low h = second_holds (p x) (list_any p xs) (some_member p xs k d (omega (arith, low)) h)

-- of lists that are made one for each member, one has a member that passes
pub some_of_all : {X Y : Type 0} (p : Y → Bool) (h : X → List Y) (xs : List X) (k : ℕ) (d : X) → k < length xs → list_any p (h (get_or xs k d)) ≡ true →
    list_any p (flat_map h xs) ≡ true
some_of_all p h [] k d low some = absurd (omega (arith, low))
some_of_all p h (x ∷ xs) zero d low some = list_any-append p (h x) (flat_map h xs) ∙ first_holds (list_any p (h x)) (list_any p (flat_map h xs)) some
some_of_all p h (x ∷ xs) (suc k) d low some =
    list_any-append p (h x) (flat_map h xs)
    ∙ second_holds (list_any p (h x)) (list_any p (flat_map h xs)) (some_of_all p h xs k d (omega (arith, low)) some)

module _ {X : Type 0} (like : X → X → Bool) (self : (x : X) → like x x ≡ true) (on : (x y z : X) → like x y ≡ true → like y z ≡ true → like x z ≡ true) where
  -- what is like something that is like one of a list
  passed_on : (x y : X) (zs : List X) → like x y ≡ true → list_any (like y) zs ≡ true → list_any (like x) zs ≡ true
  passed_on x y [] h some = some
  passed_on x y (z ∷ zs) h some = by (either (like y z) (list_any (like y) zs) some) (passed_on x y zs h)
    where
      by : (like y z ≡ true) ⊎ (list_any (like y) zs ≡ true) → (list_any (like y) zs ≡ true → list_any (like x) zs ≡ true) → list_any (like x) (z ∷ zs) ≡ true
      by (inl here) rest = first_holds (like x z) (list_any (like x) zs) (on x y z h here)
      by (inr later) rest = second_holds (like x z) (list_any (like x) zs) (rest later)

  -- what is like a member is like one that stood before, or like a first one
  like_first : (x : X) (before xs : List X) → list_any (like x) xs ≡ true →
      (list_any (like x) before ≡ true) ⊎ (list_any (like x) (firsts_after like before xs) ≡ true)
  like_first x before [] some = absurd cc
  like_first x before (y ∷ ys) some = by (either (like x y) (list_any (like x) ys) some) (like_first x (before ++ y ∷ []) ys)
    where
      rest : List X
      rest = firsts_after like (before ++ y ∷ []) ys

      at_head : like x y ≡ true → (list_any (like x) before ≡ true) ⊎ (list_any (like x) (firsts_after like before (y ∷ ys)) ≡ true)
      at_head h = elim (cases_Bool (list_any (like y) before)) as (λ _. (list_any (like x) before ≡ true) ⊎ (list_any (like x) (firsts_after like before (y ∷ ys)) ≡ true)) [
        | inl was ↦ inl (passed_on x y before h was)
        | inr new ↦
            let out : firsts_after like before (y ∷ ys) ≡ y ∷ rest = ap (λ b. cond b [] (y ∷ []) ++ rest) new in
            inr (ap (list_any (like x)) out ∙ first_holds (like x y) (list_any (like x) rest) h)
      ]

      in_rest : list_any (like x) rest ≡ true → (list_any (like x) before ≡ true) ⊎ (list_any (like x) (firsts_after like before (y ∷ ys)) ≡ true)
      in_rest h =
          inr (list_any-append (like x) (cond (list_any (like y) before) [] (y ∷ [])) rest
          ∙ second_holds (list_any (like x) (cond (list_any (like y) before) [] (y ∷ []))) (list_any (like x) rest) h)

      by : (like x y ≡ true) ⊎ (list_any (like x) ys ≡ true) →
          (list_any (like x) ys ≡ true → (list_any (like x) (before ++ y ∷ []) ≡ true) ⊎ (list_any (like x) rest ≡ true)) →
          (list_any (like x) before ≡ true) ⊎ (list_any (like x) (firsts_after like before (y ∷ ys)) ≡ true)
      by (inl here) later = at_head here
      by (inr later) go = elim (go later) as (λ _. (list_any (like x) before ≡ true) ⊎ (list_any (like x) (firsts_after like before (y ∷ ys)) ≡ true)) [
        | inl was ↦ elim (either (list_any (like x) before) (list_any (like x) (y ∷ [])) (sym (list_any-append (like x) before (y ∷ [])) ∙ was))
            as (λ _. (list_any (like x) before ≡ true) ⊎ (list_any (like x) (firsts_after like before (y ∷ ys)) ≡ true)) [
              | inl h ↦ inl h
              | inr h ↦ elim (either (like x y) false h) as (λ _. (list_any (like x) before ≡ true) ⊎ (list_any (like x) (firsts_after like before (y ∷ ys)) ≡ true)) [
                | inl t ↦ at_head t
                | inr f ↦ absurd cc
              ]
            ]
        | inr h ↦ in_rest h
      ]

  pub like_one : (x : X) (xs : List X) → list_any (like x) xs ≡ true → list_any (like x) (firsts like xs) ≡ true
  like_one x xs some = elim (like_first x [] xs some) as (λ _. list_any (like x) (firsts like xs) ≡ true) [
    | inl none ↦ absurd cc
    | inr h ↦ h
  ]
