-- Sorted lists of edges in which each edge is as often are one list.
use Rattle.std.specs.Prelude.{◌≡◌, ◌≢◌, ◌⊎◌, ℕ, zero, suc, ◌+◌, ◌<◌, ◌≤◌, ◌==◌, pos, ◌-ℤ◌, List, [], ◌∷◌, ◌++◌, Bool, true, false, ◌&&◌, cond, get_or, length, map}
use Rattle.std.specs.List.{All, list_all, sum_by}
use Rattle.std.specs.Ordering.{int_eq}
use Rattle.std.proofs.lemmas.Bool.Decides.{Decides-int_eq}
use Rattle.std.specs.List.Sorted.{IsPermutation, IsSorted}
use Rattle.std.specs.Ordering.{is_lt, nat_cmp, ordering_then}
use Rattle.std.proofs.Common.{Less, Equal, Greater}
use Rattle.std.proofs.Common.{arith, refl, sym, ap, subst, ◌∙◌, inl, inr}
use Rattle.std.proofs.lemmas.Bool.{both_ways, cases_eq, cases_lt, eq-eqb, le-ltb, lt-ltb, ne_eqb}
use Rattle.std.proofs.lemmas.Int.{ints}
use Rattle.std.proofs.lemmas.List.Elements.{All-cons, All-head, All-nil, All-tail}
use Rattle.std.proofs.lemmas.List.Sorted.{sum_by-IsPermutation}
use Rattle.std.proofs.lemmas.List.Sums.{sum_by-cons}
use Rattle.chain_terms.specs.Chains.{boundary, dir, is_edge, one_if}
use Rattle.chain_laws.specs.Chains.{boundary_same}
use Rattle.sheet_laws.proofs.SamePlanes.{agree}
use Rattle.sheet_terms.specs.Filled.{same_boundary}
use Rattle.plan_laws.specs.Sorting.{AreOne, AreWays, BoundariesAreTested, SortedAlike, edge_cmp, turned}

-- an edge stands at or before another
abbrev UpTo : (ℕ × ℕ) → (ℕ × ℕ) → Type 0
UpTo x y = (x.0 < y.0) ⊎ ((x.0 ≡ y.0) × (x.1 ≤ y.1))

up_self : (x : ℕ × ℕ) → UpTo x x
up_self x = inr (refl, omega arith)

up_on : (x y z : ℕ × ℕ) → UpTo x y → UpTo y z → UpTo x z
up_on x y z (inl h) (inl k) = inl (omega (arith, h, k))
up_on x y z (inl h) (inr k) = inl (omega (arith, h, k.0))
up_on x y z (inr h) (inl k) = inl (omega (arith, h.0, k))
up_on x y z (inr h) (inr k) = inr (h.0 ∙ k.0, omega (arith, h.1, k.1))

up_both : (x y : ℕ × ℕ) → UpTo x y → UpTo y x → x ≡ y
up_both x y (inl h) (inl k) = absurd (omega (arith, h, k))
up_both x y (inl h) (inr k) = absurd (omega (arith, h, k.0))
up_both x y (inr h) (inl k) = absurd (omega (arith, h.0, k))
up_both x y (inr h) (inr k) = (let e : x.1 ≡ y.1 = omega (arith, h.1, k.1) in λ i. (h.0 i, e i))

-- what a sort says of two that stand side by side
up_of : (x y : ℕ × ℕ) → is_lt (edge_cmp y x) ≡ false → UpTo x y
up_of x y h = elim (cases_lt y.0 x.0) as (λ _. UpTo x y) [
  | inl l ↦ absurd (both_ways (is_lt (edge_cmp y x)) h (λ i. is_lt (ordering_then (cond (lt-ltb y.0 x.0 l i) Less (cond (y.0 == x.0) Equal Greater)) (nat_cmp y.1 x.1))))
  | inr l ↦ elim (cases_eq x.0 y.0) as (λ _. UpTo x y) [
    | inl e ↦ elim (cases_lt y.1 x.1) as (λ _. UpTo x y) [
      | inl m ↦ absurd (both_ways (is_lt (edge_cmp y x)) h
          ((λ i. is_lt (ordering_then (cond (le-ltb y.0 x.0 l i) Less (cond (eq-eqb y.0 x.0 (sym e) i) Equal Greater)) (nat_cmp y.1 x.1)))
          ∙ (λ i. is_lt (cond (lt-ltb y.1 x.1 m i) Less (cond (y.1 == x.1) Equal Greater)))))
      | inr m ↦ inr (e, m)
    ]
    | inr n ↦ inl (less x.0 y.0 l n)
  ]
]
  where
    less : (a b : ℕ) → a ≤ b → a ≢ b → a < b
    less a b h n = elim (cases_lt a b) as (λ _. a < b) [ inl k ↦ k | inr k ↦ (let e : a ≡ b = omega (arith, h, k) in absurd (n e)) ]

-- lists in order, from the front
abbrev Rises : List (ℕ × ℕ) → Type 0
Rises [] = Unit {0}
Rises (x ∷ xs) = All (UpTo x) xs × Rises xs

rest_sorted : (x : ℕ × ℕ) (xs : List (ℕ × ℕ)) → IsSorted edge_cmp (x ∷ xs) → IsSorted edge_cmp xs
rest_sorted x xs h k d low high =
    let next : suc k + 1 ≡ suc (k + 1) = omega arith in
    subst (λ n. is_lt (edge_cmp (get_or (x ∷ xs) n d) (get_or xs k d)) ≡ false) next (h (suc k) d (omega arith) (omega (arith, high)))

rises : (xs : List (ℕ × ℕ)) → IsSorted edge_cmp xs → Rises xs
rises [] h = tt
rises (x ∷ []) h = (All-nil (UpTo x), tt)
rises (x ∷ y ∷ xs) h =
    let rest = rises (y ∷ xs) (rest_sorted x (y ∷ xs) h) in
    let first : UpTo x y = up_of x y (h 0 x (omega arith) (omega arith)) in
    (All-cons (UpTo x) y xs first (λ k d low. up_on x y (get_or xs k d) first (rest.0 k d low)), rest)

-- how often an edge is there
itself : (x : ℕ × ℕ) (xs : List (ℕ × ℕ)) → dir (x ∷ xs) x.0 x.1 ≡ 1 + dir xs x.0 x.1
itself x xs = λ i. one_if (eq-eqb x.0 x.0 refl i && eq-eqb x.1 x.1 refl i) + dir xs x.0 x.1

none_there : (x : ℕ × ℕ) (ys : List (ℕ × ℕ)) → All (λ y. x ≡ y → ⊥) ys → dir ys x.0 x.1 ≡ 0
none_there x [] h = refl
none_there x (y ∷ ys) h =
    (let rest = none_there x ys (All-tail (λ z. x ≡ z → ⊥) y ys h) in let here : one_if (is_edge y x.0 x.1) ≡ 0 = ap one_if apart in omega (arith, rest, here))
  where
    apart : is_edge y x.0 x.1 ≡ false
    apart = elim (cases_eq y.0 x.0) as (λ _. is_edge y x.0 x.1 ≡ false) [
      | inl e ↦ elim (cases_eq y.1 x.1) as (λ _. is_edge y x.0 x.1 ≡ false) [
        | inl f ↦ absurd (All-head (λ z. x ≡ z → ⊥) y ys h (λ i. (sym e i, sym f i)))
        | inr n ↦ (λ i. (y.0 == x.0) && ne_eqb y.1 x.1 n i) ∙ by (y.0 == x.0)
      ]
      | inr n ↦ (λ i. ne_eqb y.0 x.0 n i && (y.1 == x.1))
    ]
      where
        by : (t : Bool) → (t && false) ≡ false
        by true = refl
        by false = refl

-- of two lists in order in which each edge is as often the first ones are one
first_up : (x y : ℕ × ℕ) (xs ys : List (ℕ × ℕ)) → All (UpTo y) ys → dir (x ∷ xs) x.0 x.1 ≡ dir (y ∷ ys) x.0 x.1 → UpTo y x
first_up x y xs ys all same = by (compare_pairs y x)
  where
    compare_pairs : (a b : ℕ × ℕ) → UpTo a b ⊎ (UpTo a b → ⊥)
    compare_pairs a b = elim (cases_lt a.0 b.0) as (λ _. UpTo a b ⊎ (UpTo a b → ⊥)) [
      | inl h ↦ inl (inl h)
      | inr h ↦ elim (cases_eq a.0 b.0) as (λ _. UpTo a b ⊎ (UpTo a b → ⊥)) [
        | inl e ↦ elim (cases_lt b.1 a.1) as (λ _. UpTo a b ⊎ (UpTo a b → ⊥)) [
          | inl k ↦ inr (λ u. neither a b h e k u)
          | inr k ↦ inl (inr (e, k))
        ]
        | inr n ↦ inr (λ u. not_up a b h n u)
      ]
    ]
      where
        neither : (a b : ℕ × ℕ) → b.0 ≤ a.0 → a.0 ≡ b.0 → b.1 < a.1 → UpTo a b → ⊥
        neither a b h e k (inl l) = omega (arith, h, l)
        neither a b h e k (inr l) = omega (arith, k, l.1)

        not_up : (a b : ℕ × ℕ) → b.0 ≤ a.0 → a.0 ≢ b.0 → UpTo a b → ⊥
        not_up a b h n (inl l) = omega (arith, h, l)
        not_up a b h n (inr l) = n l.0

    by : UpTo y x ⊎ (UpTo y x → ⊥) → UpTo y x
    by (inl h) = h
    by (inr n) =
        let here : x ≡ y → ⊥ = λ e. n (subst (λ z. UpTo y z) (sym e) (up_self y)) in
        let none = none_there x (y ∷ ys) (All-cons (λ z. x ≡ z → ⊥) y ys here (λ k d low e. n (subst (λ z. UpTo y z) (sym e) (all k d low)))) in
        absurd (omega (arith, same, none, itself x xs))

one_list : (xs ys : List (ℕ × ℕ)) → Rises xs → Rises ys → ((a b : ℕ) → dir xs a b ≡ dir ys a b) → xs ≡ ys
one_list [] [] p q same = refl
one_list [] (y ∷ ys) p q same = absurd (omega (arith, same y.0 y.1, itself y ys))
one_list (x ∷ xs) [] p q same = absurd (omega (arith, same x.0 x.1, itself x xs))
one_list (x ∷ xs) (y ∷ ys) p q same =
    let e : x ≡ y = up_both x y (first_up y x ys xs p.0 (sym (same y.0 y.1))) (first_up x y xs ys q.0 (same x.0 x.1)) in
    let rest = one_list xs ys p.1 q.1 (λ a b.
    let here = same a b in
    let equal : one_if (is_edge x a b) ≡ one_if (is_edge y a b) = ap (λ (z : ℕ × ℕ). one_if (is_edge z a b)) e in omega (arith, here, equal)) in
    λ i. e i ∷ rest i

-- counts as sums, so permutations keep them
dir_sum : (es : List (ℕ × ℕ)) (a b : ℕ) → dir es a b ≡ sum_by (λ e. one_if (is_edge e a b)) es
dir_sum [] a b = refl
dir_sum (e ∷ es) a b = omega (arith, dir_sum es a b, sum_by-cons (λ (d : ℕ × ℕ). one_if (is_edge d a b)) e es)

dir_moved : (es ms : List (ℕ × ℕ)) → IsPermutation es ms → (a b : ℕ) → dir ms a b ≡ dir es a b
dir_moved es ms h a b = dir_sum ms a b ∙ sum_by-IsPermutation (λ (e : ℕ × ℕ). one_if (is_edge e a b)) es ms h ∙ sym (dir_sum es a b)

dir_joined : (es ms : List (ℕ × ℕ)) (a b : ℕ) → dir (es ++ ms) a b ≡ dir es a b + dir ms a b
dir_joined [] ms a b = omega arith
dir_joined (e ∷ es) ms a b = omega (arith, dir_joined es ms a b)

dir_turned : (es : List (ℕ × ℕ)) (a b : ℕ) → dir (map turned es) a b ≡ dir es b a
dir_turned [] a b = refl
dir_turned (e ∷ es) a b = λ i. one_if (by (e.1 == a) (e.0 == b) i) + dir_turned es a b i
  where
    by : (s t : Bool) → (s && t) ≡ (t && s)
    by true true = refl
    by true false = refl
    by false true = refl
    by false false = refl

pub sorted_alike : SortedAlike
sorted_alike es ms there back ways =
    let ahead : (a b : ℕ) → dir there a b ≡ dir es a b + dir ms b a = λ a b.
    dir_moved (es ++ map turned ms) there ways.ahead a b ∙ dir_joined es (map turned ms) a b ∙ ap (λ n. dir es a b + n) (dir_turned ms a b) in
    let behind : (a b : ℕ) → dir back a b ≡ dir es b a + dir ms a b = λ a b.
    dir_moved (map turned es ++ ms) back ways.behind a b ∙ dir_joined (map turned es) ms a b ∙ ap (λ n. n + dir ms a b) (dir_turned es a b) in
    record {
      one = λ e a b. let s : dir there a b ≡ dir back a b = ap (λ l. dir l a b) e in omega (arith, ints, s, ahead a b, behind a b);
      same = λ h. one_list there back (rises there ways.up) (rises back ways.up_too) (λ a b. let s = h a b in omega (arith, ints, s, ahead a b, behind a b));
    }

-- what passes at all members
all_hold : (p : (ℕ × ℕ) → Bool) (es : List (ℕ × ℕ)) → ((e : ℕ × ℕ) → p e ≡ true) → list_all p es ≡ true
all_hold p [] h = refl
all_hold p (e ∷ es) h = λ i. h e i && all_hold p es h i

pub boundaries_are_tested : BoundariesAreTested
boundaries_are_tested es ms = (
  (λ h. boundary_same es ms (agree es ms h)),
  (λ h. all_hold (λ e. int_eq (boundary es e.0 e.1) (boundary ms e.0 e.1)) (es ++ ms) (λ e. (Decides-int_eq (boundary es e.0 e.1) (boundary ms e.0 e.1)).1 (h e.0 e.1))),
)
