-- Vertices that stand in a list.
use Rattle.std.specs.Prelude.{◌≡◌, ℕ, List, [], ◌∷◌, ◌++◌, true, false, ◌==◌, ◌⊎◌}
use Rattle.std.specs.List.{All}
use Rattle.std.proofs.Common.{refl, sym, subst, inl, inr}
use Rattle.std.proofs.lemmas.Bool.{cases_eq, eqb-true, eq-eqb, or_cases, or_left, or_right, false_from_ne_true}
use Rattle.std.proofs.lemmas.List.Elements.{All-head, All-tail}
use Rattle.chain_terms.specs.Paths.{last_of}
use Rattle.face_plane.specs.Rings.{In, in_list, Three}

-- the first place of the list, or x where there is none
abbrev pub head_or : ℕ → List ℕ → ℕ
head_or x [] = x
head_or x (y ∷ r) = y

-- a vertex stands in every list in which an equal one does
pub in_as : (v w : ℕ) (xs : List ℕ) → v ≡ w → In w xs → In v xs
in_as v w xs e h = subst (λ u. In u xs) (sym e) h

-- it stands there or it does not
pub in_or_not : (v : ℕ) (xs : List ℕ) → In v xs ⊎ (In v xs → ⊥)
in_or_not v [] = inr (λ h. h)
in_or_not v (x ∷ xs) = elim (cases_eq v x) as (λ _. In v (x ∷ xs) ⊎ (In v (x ∷ xs) → ⊥)) [
  | inl e ↦ inl (inl e)
  | inr n ↦ elim (in_or_not v xs) as (λ _. In v (x ∷ xs) ⊎ (In v (x ∷ xs) → ⊥)) [
    | inl i ↦ inl (inr i)
    | inr m ↦ inr (λ h. elim h as (λ _. ⊥) [ inl e ↦ n e | inr i ↦ m i ])
  ]
]

-- it stands in the first part of a longer list
pub in_front : (v : ℕ) (xs ys : List ℕ) → In v xs → In v (xs ++ ys)
in_front v [] ys h = elim h [ ]
in_front v (x ∷ xs) ys (inl e) = inl e
in_front v (x ∷ xs) ys (inr h) = inr (in_front v xs ys h)

-- or in the second
pub in_back : (v : ℕ) (xs ys : List ℕ) → In v ys → In v (xs ++ ys)
in_back v [] ys h = h
in_back v (x ∷ xs) ys h = inr (in_back v xs ys h)

-- and in no third
pub in_either : (v : ℕ) (xs ys : List ℕ) → In v (xs ++ ys) → In v xs ⊎ In v ys
in_either v [] ys h = inr h
in_either v (x ∷ xs) ys (inl e) = inl (inl e)
in_either v (x ∷ xs) ys (inr h) = elim (in_either v xs ys h) as (λ _. In v (x ∷ xs) ⊎ In v ys) [
  | inl i ↦ inl (inr i)
  | inr i ↦ inr i
]

-- the parts may be exchanged
pub in_moved : (v : ℕ) (xs ys : List ℕ) → In v (xs ++ ys) → In v (ys ++ xs)
in_moved v xs ys h = elim (in_either v xs ys h) as (λ _. In v (ys ++ xs)) [
  | inl i ↦ in_back v ys xs i
  | inr i ↦ in_front v ys xs i
]

-- what stays stood there before
pub in_wider : (v : ℕ) (xs : List ℕ) (x : ℕ) (ys : List ℕ) → In v (xs ++ ys) → In v (xs ++ x ∷ ys)
in_wider v xs x ys h = elim (in_either v xs ys h) as (λ _. In v (xs ++ x ∷ ys)) [
  | inl i ↦ in_front v xs (x ∷ ys) i
  | inr i ↦ in_back v xs (x ∷ ys) (inr i)
]

-- the place taken out stood there
pub in_middle : (xs : List ℕ) (x : ℕ) (ys : List ℕ) → In x (xs ++ x ∷ ys)
in_middle xs x ys = in_back x xs (x ∷ ys) (inl refl)

-- the last place of a list stands in it
pub last_in : (x : ℕ) (r : List ℕ) → In (last_of x r) (x ∷ r)
last_in x [] = inl refl
last_in x (y ∷ r) = inr (last_in y r)

-- so does the first
pub head_in : (x : ℕ) (r : List ℕ) → In (head_or x r) (x ∷ r)
head_in x [] = inl refl
head_in x (y ∷ r) = inr (inl refl)

-- the test
pub in_list-true : (v : ℕ) (xs : List ℕ) → In v xs → in_list v xs ≡ true
in_list-true v [] h = elim h [ ]
in_list-true v (x ∷ xs) (inl e) = or_left (x == v) (in_list v xs) (eq-eqb x v (sym e))
in_list-true v (x ∷ xs) (inr h) = or_right (x == v) (in_list v xs) (in_list-true v xs h)

pub true-in_list : (v : ℕ) (xs : List ℕ) → in_list v xs ≡ true → In v xs
true-in_list v [] h = cc
true-in_list v (x ∷ xs) h = elim (or_cases (x == v) (in_list v xs) h) as (λ _. In v (x ∷ xs)) [
  | inl y ↦ inl (sym (eqb-true x v y))
  | inr y ↦ inr (true-in_list v xs y)
]

pub in_list-false : (v : ℕ) (xs : List ℕ) → (In v xs → ⊥) → in_list v xs ≡ false
in_list-false v xs n = false_from_ne_true (in_list v xs) (λ y. n (true-in_list v xs y))

-- three different vertices stand in every list that has all of them
pub three_within : (r s : List ℕ) → ((v : ℕ) → In v r → In v s) → Three r → Three s
three_within r s f t =
    record { a = t.a; b = t.b; c = t.c; a_in = f t.a t.a_in; b_in = f t.b t.b_in; c_in = f t.c t.c_in; ab = t.ab; bc = t.bc; ca = t.ca }

-- what holds of each member of a list holds of a vertex that stands there
pub all_in : (P : ℕ → Type 0) (v : ℕ) (xs : List ℕ) → All P xs → In v xs → P v
all_in P v [] all h = elim h [ ]
all_in P v (x ∷ xs) all (inl e) = subst P (sym e) (All-head P x xs all)
all_in P v (x ∷ xs) all (inr h) = all_in P v xs (All-tail P x xs all) h
