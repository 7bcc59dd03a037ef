-- Numbers in another order: what passes a test, and lists that are joined, stay the same but for their order.
use Rattle.std.proofs.Common.{◌≡◌, ◌∙◌, ℕ, ◌<◌, ◌==◌, ◌&&◌, Bool, cond, List, [], ◌∷◌, ◌++◌, refl, sym, ap, arith, subst, inl, inr}
use Rattle.std.specs.List.{filter, flat_map, count_by, sum_by}
use Rattle.std.specs.List.Sorted.{IsPermutation}
use Rattle.std.proofs.lemmas.Bool.{cases_Bool}
use Rattle.std.proofs.lemmas.Bool.Decides.{Decides-eqb}
use Rattle.std.proofs.lemmas.List.Sums.{sum_by-append, sum_by-cons}
use Rattle.std.proofs.lemmas.List.Sorted.{sum_by-IsPermutation, IsPermutation-refl, IsPermutation-cons, IsPermutation-trans, IsPermutation-middle, IsPermutation-sym}
use Rattle.chain_terms.specs.Chains.{one_if}
use Rattle.chain_laws.specs.Counts.{count_by-cons, count_by-middle, one_if-true, split_by}

-- how often each number occurs tells a list but for its order
same_counts : (xs ys : List ℕ) → ((k : ℕ) → count_by (λ n. n == k) xs ≡ count_by (λ n. n == k) ys) → IsPermutation xs ys
same_counts [] [] same = IsPermutation-refl []
same_counts [] (y ∷ ys) same = absurd (omega (arith, same y, count_by-cons (λ n. n == y) y ys, one_if-true (y == y) ((Decides-eqb y y).1 refl)))
same_counts (x ∷ xs) ys same =
    let some : 0 < count_by (λ n. n == x) ys = omega (arith, same x, count_by-cons (λ n. n == x) x xs, one_if-true (x == x) ((Decides-eqb x x).1 refl)) in
    let s = split_by (λ n. n == x) ys some in
    let e : s.member ≡ x = (Decides-eqb s.member x).0 s.passes in
    let rest = same_counts xs (s.front ++ s.back)
    (λ k. omega (
      arith,
      same k,
      count_by-cons (λ n. n == k) x xs,
      ap (count_by (λ n. n == k)) s.joined,
      count_by-middle (λ n. n == k) s.front s.member s.back,
      ap (λ m. one_if (m == k)) e,
    )) in
    let P : List ℕ → Type 0 = λ l. IsPermutation (x ∷ xs) l in
    let Q : ℕ → Type 0 = λ m. IsPermutation (m ∷ (s.front ++ s.back)) (s.front ++ s.member ∷ s.back) in
    let back = IsPermutation-sym (s.front ++ s.member ∷ s.back) (s.member ∷ (s.front ++ s.back)) (IsPermutation-middle s.front s.member s.back) in
    subst P (sym s.joined) (IsPermutation-trans (x ∷ xs) (x ∷ (s.front ++ s.back)) (s.front ++ s.member ∷ s.back)
    (IsPermutation-cons x xs (s.front ++ s.back) rest) (subst Q e back))

-- how many of those that pass one test pass another
count_filter : (p q : ℕ → Bool) (xs : List ℕ) → count_by q (filter p xs) ≡ count_by (λ x. p x && q x) xs
count_filter p q [] = refl
count_filter p q (x ∷ xs) = elim (cases_Bool (p x)) as (λ _. count_by q (filter p (x ∷ xs)) ≡ count_by (λ y. p y && q y) (x ∷ xs)) [
  | inl y ↦
      let e : count_by q (x ∷ filter p xs) ≡ count_by (λ z. p z && q z) (x ∷ xs) =
      omega (arith, count_filter p q xs, count_by-cons q x (filter p xs), count_by-cons (λ z. p z && q z) x xs, ap (λ b. one_if (b && q x)) y) in
      ap (λ b. count_by q (cond b (x ∷ filter p xs) (filter p xs))) y ∙ e
  | inr n ↦
      let e : count_by q (filter p xs) ≡ count_by (λ z. p z && q z) (x ∷ xs) =
      omega (arith, count_filter p q xs, count_by-cons (λ z. p z && q z) x xs, ap (λ b. one_if (b && q x)) n) in
      ap (λ b. count_by q (cond b (x ∷ filter p xs) (filter p xs))) n ∙ e
]

-- those that pass, of a list in another order
pub filter_moved : (p : ℕ → Bool) (xs ys : List ℕ) → IsPermutation xs ys → IsPermutation (filter p xs) (filter p ys)
filter_moved p xs ys moved =
    same_counts (filter p xs) (filter p ys)
    (λ k. count_filter p (λ n. n == k) xs ∙ sym (sum_by-IsPermutation (λ n. cond (p n && (n == k)) 1 0) xs ys moved) ∙ sym (count_filter p (λ n. n == k) ys))

-- how many in joined lists pass a test
count_flat_map : {X : Type 0} (q : ℕ → Bool) (f : X → List ℕ) → (xs : List X) → count_by q (flat_map f xs) ≡ sum_by (λ x. count_by q (f x)) xs
count_flat_map q f [] = refl
count_flat_map q f (x ∷ xs) =
    omega (arith, sum_by-append (λ n. cond (q n) 1 0) (f x) (flat_map f xs), sum_by-cons (λ y. count_by q (f y)) x xs, count_flat_map q f xs)

-- lists that are joined in another order
pub flat_map_moved : {X : Type 0} (f : X → List ℕ) (xs ys : List X) → IsPermutation xs ys → IsPermutation (flat_map f xs) (flat_map f ys)
flat_map_moved f xs ys moved =
    same_counts (flat_map f xs) (flat_map f ys)
    (λ k. count_flat_map (λ n. n == k) f xs ∙ sym (sum_by-IsPermutation (λ x. count_by (λ n. n == k) (f x)) xs ys moved) ∙ sym (count_flat_map (λ n. n == k) f ys))
