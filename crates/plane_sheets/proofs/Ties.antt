-- What stable sorts by a number keep, and where members of a sorted list stand.
use Rattle.std.proofs.Common.{is_lt, ◌≡◌, ℕ, zero, suc, ◌-◌, ◌<◌, ◌≤◌, ◌==◌, ◌&&◌, not, List, [], ◌∷◌, Bool, true, false, cond, filter, get_or, length, take, drop, refl, sym, ap, ◌∙◌, arith, inl, inr, Less, Equal, Greater}
use Rattle.std.specs.List.Sorted.{IsNonDecreasingBy, IsStableByKey}
use Rattle.std.specs.Ordering.{nat_cmp}
use Rattle.std.proofs.lemmas.Bool.{cases_Bool, cases_lt, eq-eqb, ne_eqb, lt-ltb, le-ltb}

-- tests that agree keep the same
pub filter_same : {X : Type 0} (p q : X → Bool) → ((x : X) → p x ≡ q x) → (xs : List X) → filter p xs ≡ filter q xs
filter_same p q h [] = refl
filter_same p q h (x ∷ xs) = ap (λ b. cond b (x ∷ filter p xs) (filter p xs)) (h x) ∙ ap (λ l. cond (q x) (x ∷ l) l) (filter_same p q h xs)

-- two tests one after the other
pub filter_both : {X : Type 0} (p q : X → Bool) → (xs : List X) → filter q (filter p xs) ≡ filter (λ x. p x && q x) xs
filter_both p q [] = refl
filter_both p q (x ∷ xs) = elim (cases_Bool (p x)) as (λ _. filter q (filter p (x ∷ xs)) ≡ filter (λ y. p y && q y) (x ∷ xs)) [
  | inl y ↦ rw y (ap (λ l. cond (q x) (x ∷ l) l) (filter_both p q xs))
  | inr n ↦ rw n (filter_both p q xs)
]

-- two tests in either order
pub filter_swap : {X : Type 0} (p q : X → Bool) → (xs : List X) → filter q (filter p xs) ≡ filter p (filter q xs)
filter_swap p q xs = filter_both p q xs ∙ filter_same (λ x. p x && q x) (λ x. q x && p x) (λ x. and_turned (p x) (q x)) xs ∙ sym (filter_both q p xs)
  where
    and_turned : (a b : Bool) → (a && b) ≡ (b && a)
    and_turned true true = refl
    and_turned true false = refl
    and_turned false true = refl
    and_turned false false = refl

-- numbers tie where they are the same
ties_are : (a b : ℕ) → (not (is_lt (nat_cmp a b)) && not (is_lt (nat_cmp b a))) ≡ (b == a)
ties_are a b = elim (cases_lt a b) as (λ _. (not (is_lt (nat_cmp a b)) && not (is_lt (nat_cmp b a))) ≡ (b == a)) [
  | inl low ↦
      ap (λ t. not (is_lt (cond t Less (cond (a == b) Equal Greater))) && not (is_lt (nat_cmp b a))) (lt-ltb a b low)
      ∙ sym (ne_eqb b a (λ e. omega (arith, e, low)))
  | inr high ↦ elim (cases_lt b a) as (λ _. (not (is_lt (nat_cmp a b)) && not (is_lt (nat_cmp b a))) ≡ (b == a)) [
    | inl more ↦
        ap (λ t. not (is_lt (cond t Less (cond (a == b) Equal Greater))) && not (is_lt (nat_cmp b a))) (le-ltb a b high)
        ∙ ap (λ t. not (is_lt (cond t Equal Greater)) && not (is_lt (nat_cmp b a))) (ne_eqb a b (λ e. omega (arith, e, more)))
        ∙ ap (λ t. not (is_lt (cond t Less (cond (b == a) Equal Greater)))) (lt-ltb b a more)
        ∙ sym (ne_eqb b a (λ e. omega (arith, e, more)))
    | inr less ↦
        let same : a ≡ b = omega (arith, high, less) in
        ap (λ t. not (is_lt (cond t Less (cond (a == b) Equal Greater))) && not (is_lt (nat_cmp b a))) (le-ltb a b high)
        ∙ ap (λ t. not (is_lt (cond t Equal Greater)) && not (is_lt (nat_cmp b a))) (eq-eqb a b same)
        ∙ ap (λ t. not (is_lt (cond t Less (cond (b == a) Equal Greater)))) (le-ltb b a less)
        ∙ ap (λ t. not (is_lt (cond t Equal Greater))) (eq-eqb b a (sym same))
        ∙ sym (eq-eqb b a (sym same))
  ]
]

-- a stable sort keeps the order of those with one key; x is one that has it
pub stable_class : {X : Type 0} (key : X → ℕ) (xs ys : List X) (v : ℕ) (x : X) → key x ≡ v → IsStableByKey key nat_cmp xs ys →
    filter (λ y. key y == v) ys ≡ filter (λ y. key y == v) xs
stable_class {X} key xs ys v x e stable =
    let agree : (y : X) → (key y == v) ≡ (not (is_lt (nat_cmp (key x) (key y))) && not (is_lt (nat_cmp (key y) (key x)))) =
    λ y. ap (λ u. key y == u) (sym e) ∙ sym (ties_are (key x) (key y)) in
    filter_same (λ y. key y == v) _ agree ys ∙ stable x ∙ sym (filter_same (λ y. key y == v) _ agree xs)

-- keys don't fall, from k on
abbrev pub StepsBy : {X : Type 0} → (X → ℕ) → ℕ → List X → Type 0
StepsBy key k [] = Unit {0}
StepsBy key k (x ∷ xs) = (k ≤ key x) × StepsBy key (key x) xs

pub steps_lower : {X : Type 0} (key : X → ℕ) (j k : ℕ) (xs : List X) → j ≤ k → StepsBy key k xs → StepsBy key j xs
steps_lower key j k [] l h = tt
steps_lower key j k (x ∷ xs) l h = let low = h.0 in (omega (arith, l, low), h.1)

pub steps_from : {X : Type 0} (key : X → ℕ) (k : ℕ) (xs : List X) → IsNonDecreasingBy key xs → ((d : X) → 0 < length xs → k ≤ key (get_or xs 0 d)) → StepsBy key k xs
steps_from key k [] up first = tt
steps_from key k (x ∷ xs) up first =
    (first x (omega arith), steps_from key (key x) xs (λ i j d l h. up (suc i) (suc j) d (omega (arith, l)) (omega (arith, h))) (λ d h. up 0 1 d (omega arith) (omega (arith, h))))

-- no key is below the first
pub none_below : {X : Type 0} (key : X → ℕ) (v k : ℕ) (xs : List X) → v < k → StepsBy key k xs → filter (λ x. key x == v) xs ≡ []
none_below key v k [] below h = refl
none_below key v k (x ∷ xs) below h =
    let low = h.0 in
    ap (λ b. cond b (x ∷ filter (λ y. key y == v) xs) (filter (λ y. key y == v) xs)) (ne_eqb (key x) v (λ e. omega (arith, below, low, e)))
    ∙ none_below key v (key x) xs (omega (arith, below, low)) h.1

-- a filter of what doesn't fall doesn't fall
pub steps_filter : {X : Type 0} (key : X → ℕ) (p : X → Bool) (k : ℕ) (xs : List X) → StepsBy key k xs → StepsBy key k (filter p xs)
steps_filter key p k [] h = tt
steps_filter key p k (x ∷ xs) h = elim (cases_Bool (p x)) as (λ _. StepsBy key k (filter p (x ∷ xs))) [
  | inl y ↦ rw y (h.0, steps_filter key p (key x) xs h.1)
  | inr n ↦ rw n (steps_lower key k (key x) (filter p xs) h.0 (steps_filter key p (key x) xs h.1))
]

-- and back to what is asked by places
pub steps_rise : {X : Type 0} (key : X → ℕ) (k : ℕ) (xs : List X) → StepsBy key k xs → (i : ℕ) (d : X) → i < length xs → k ≤ key (get_or xs i d)
steps_rise key k [] h i d l = absurd (omega (arith, l))
steps_rise key k (x ∷ xs) h zero d l = h.0
steps_rise key k (x ∷ xs) h (suc i) d l = let low = h.0 in omega (arith, low, steps_rise key (key x) xs h.1 i d (omega (arith, l)))

pub rise_steps : {X : Type 0} (key : X → ℕ) (k : ℕ) (xs : List X) → StepsBy key k xs → IsNonDecreasingBy key xs
rise_steps key k [] h i j d l b = absurd (omega (arith, b))
rise_steps key k (x ∷ xs) h zero zero d l b = omega arith
rise_steps key k (x ∷ xs) h zero (suc j) d l b = steps_rise key (key x) xs h.1 j d (omega (arith, b))
rise_steps key k (x ∷ xs) h (suc i) zero d l b = absurd (omega (arith, l))
rise_steps key k (x ∷ xs) h (suc i) (suc j) d l b = rise_steps key (key x) xs h.1 i j d (omega (arith, l)) (omega (arith, b))

-- between the place before which keys are below v and that before which they are not above it stand those with key v
pub between_points : {X : Type 0} (key : X → ℕ) (v : ℕ) (xs : List X) (i j : ℕ) → i ≤ j → j ≤ length xs →
    ((n : ℕ) (d : X) → n < i → key (get_or xs n d) < v) → ((n : ℕ) (d : X) → i ≤ n → n < length xs → v ≤ key (get_or xs n d)) →
    ((n : ℕ) (d : X) → n < j → key (get_or xs n d) ≤ v) → ((n : ℕ) (d : X) → j ≤ n → n < length xs → v < key (get_or xs n d)) →
    take (j - i) (drop i xs) ≡ filter (λ x. key x == v) xs
between_points key v [] i j le within a b c d = let zero : i ≡ 0 = omega (arith, le, within) in let z : j ≡ 0 = omega (arith, within) in rw (zero, z) refl
between_points key v (x ∷ xs) zero zero le within a b c d =
    let here : (key x ≡ v) → ⊥ = λ e. omega (arith, e, d 0 x (omega arith) (omega arith)) in
    between_points key v xs 0 0 le (omega arith) (λ n y h. absurd (omega (arith, h))) (λ n y l h. b (suc n) y (omega arith) (omega (arith, h)))
    (λ n y h. absurd (omega (arith, h))) (λ n y l h. d (suc n) y (omega arith) (omega (arith, h)))
    ∙ sym (ap (λ t. cond t (x ∷ filter (λ y. key y == v) xs) (filter (λ y. key y == v) xs)) (ne_eqb (key x) v here))
between_points key v (x ∷ xs) zero (suc j) le within a b c d =
    let same : key x ≡ v = omega (arith, b 0 x (omega arith) (omega arith), c 0 x (omega arith)) in
    let rest = between_points key v xs 0 j (omega arith) (omega (arith, within)) (λ n y h. absurd (omega (arith, h))) (λ n y l h. b (suc n) y (omega arith) (omega (arith, h)))
    (λ n y h. c (suc n) y (omega (arith, h))) (λ n y l h. d (suc n) y (omega (arith, l)) (omega (arith, h))) in
    let all : suc j - 0 ≡ suc (j - 0) = omega arith in
    ap (λ n. take n (x ∷ xs)) all ∙ ap (λ l. x ∷ l) rest
    ∙ sym (ap (λ t. cond t (x ∷ filter (λ y. key y == v) xs) (filter (λ y. key y == v) xs)) (eq-eqb (key x) v same))
between_points key v (x ∷ xs) (suc i) zero le within a b c d = absurd (omega (arith, le))
between_points key v (x ∷ xs) (suc i) (suc j) le within a b c d =
    let here : (key x ≡ v) → ⊥ = λ e. omega (arith, e, a 0 x (omega arith)) in
    let less : suc j - suc i ≡ j - i = omega arith in
    let rest = between_points key v xs i j (omega (arith, le)) (omega (arith, within)) (λ n y h. a (suc n) y (omega (arith, h))) (λ n y l h. b (suc n) y (omega (arith, l)) (omega (arith, h)))
    (λ n y h. c (suc n) y (omega (arith, h))) (λ n y l h. d (suc n) y (omega (arith, l)) (omega (arith, h))) in
    ap (λ n. take n (drop i xs)) less ∙ rest
    ∙ sym (ap (λ t. cond t (x ∷ filter (λ y. key y == v) xs) (filter (λ y. key y == v) xs)) (ne_eqb (key x) v here))
