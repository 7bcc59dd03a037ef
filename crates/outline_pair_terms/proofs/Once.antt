-- Each copy is a start of one list of edges and an end of one.
use Rattle.std.proofs.Common.{◌≡◌, ◌≢◌, ℕ, zero, suc, ◌+◌, ◌<◌, inl, inr, Bool, true, false, cond, ◌==◌, ℤ, pos, negsuc, neg_ℤ, List, [], ◌∷◌, ◌++◌, length, map, get_or, int_lt, count_by, refl, sym, ap, ◌∙◌, arith}
use Rattle.std.specs.Prelude.{◌-ℤ◌}
use Rattle.std.specs.List.{All}
use Rattle.std.proofs.lemmas.Int.{ints}
use Rattle.std.proofs.lemmas.Bool.{cases_Bool, eqb-true, eq-eqb, le-ltb, lt-ltb}
use Rattle.std.proofs.lemmas.List.Elements.{All-head, All-tail}
use Rattle.chain_terms.specs.Chains.{one_if}
use Rattle.chain_terms.specs.Cycles.{into, out}
use Rattle.chain_terms.specs.Ranks.{start, finish}
use Rattle.chain_terms.specs.Sums.{upto}
use Rattle.chain_laws.specs.Counts.{count_by-cons, count_by-map, total-count_by}
use Rattle.chain_laws.proofs.Places.{total-places}
use Rattle.face_loops.specs.Standings.{StandOnce}
use Rattle.outline_pair_terms.specs.Laws.{IsOfBoth}
use Rattle.outline_pair_terms.specs.Lists.{EdgeP, EdgeQ, FlatCopy, FlatList, FlatOrigin, OfBoth, OfP, OfQ, at_end, at_same, flat_incidence, flat_lists, flat_standing, no_flat_copy}
use Rattle.outline_terms.proofs.Once.{IsOnce, ends_differ}
use Rattle.outline_terms.proofs.Returning.{NoReturn}
use Rattle.outline_terms.proofs.Standing.{once_below}

-- counts of two lists, of tests that agree, and of one that never passes
count_both : {X : Type 0} (p : X → Bool) (xs ys : List X) → count_by p (xs ++ ys) ≡ count_by p xs + count_by p ys
count_both p [] ys = omega (arith)
count_both p (x ∷ xs) ys = omega (arith, count_both p xs ys, count_by-cons p x (xs ++ ys), count_by-cons p x xs)

count_same : {X : Type 0} (p q : X → Bool) (xs : List X) → All (λ x. p x ≡ q x) xs → count_by p xs ≡ count_by q xs
count_same p q [] same = refl
count_same p q (x ∷ xs) same =
    omega (arith, count_same p q xs (All-tail (λ y. p y ≡ q y) x xs same), count_by-cons p x xs, count_by-cons q x xs, ap one_if (All-head (λ y. p y ≡ q y) x xs same))

pub count_never : {X : Type 0} (p : X → Bool) (xs : List X) → ((x : X) → p x ≡ false) → count_by p xs ≡ 0
count_never p [] never = refl
count_never p (x ∷ xs) never = omega (arith, count_never p xs never, count_by-cons p x xs, ap one_if (never x))

-- over the places of edges as over the edges
count_places : (t : ℕ → ℕ → Bool) (es : List (ℕ × ℕ)) → count_by (λ k. t (start es k) (finish es k)) (upto (length es)) ≡ count_by (λ e. t e.0 e.1) es
count_places t es =
    omega (
      arith,
      ints,
      total-places (λ e. pos (one_if (t e.0 e.1))) (0, 0) es,
      total-count_by
          (λ e. t e.0 e.1) es,
      total-count_by (λ k. t (start es k) (finish es k)) (upto (length es)),
    )

-- of two different ends one at most is v
pub starts_test : (a b v : ℕ) → a ≢ b → int_lt (pos 0) (at_same a v -ℤ at_same b v) ≡ (a == v)
starts_test a b v n = by (a == v) (b == v) refl refl where
  by : (x y : Bool) → (a == v) ≡ x → (b == v) ≡ y → int_lt (pos 0) (cond x (pos 1) (pos 0) -ℤ cond y (pos 1) (pos 0)) ≡ x
  by true true e f = absurd (n (eqb-true a v e ∙ sym (eqb-true b v f)))
  by true false e f = refl
  by false true e f = refl
  by false false e f = refl

pub ends_test : (a b v : ℕ) → a ≢ b → int_lt (at_same a v -ℤ at_same b v) (pos 0) ≡ (b == v)
ends_test a b v n = by (a == v) (b == v) refl refl where
  by : (x y : Bool) → (a == v) ≡ x → (b == v) ≡ y → int_lt (cond x (pos 1) (pos 0) -ℤ cond y (pos 1) (pos 0)) (pos 0) ≡ y
  by true true e f = absurd (n (eqb-true a v e ∙ sym (eqb-true b v f)))
  by true false e f = refl
  by false true e f = refl
  by false false e f = refl

-- a vertex starts as many lists as edges, and ends as many
vertex_starts : (es : List (ℕ × ℕ)) (v : ℕ) → NoReturn es → count_by (λ k. int_lt (pos 0) (at_end es k v)) (upto (length es)) ≡ out es v
vertex_starts es v none =
    count_places (λ a b. int_lt (pos 0) (at_same a v -ℤ at_same b v)) es
    ∙ count_same (λ e. int_lt (pos 0) (at_same e.0 v -ℤ at_same e.1 v)) (λ e. e.0 == v) es
    (λ k d low. starts_test (get_or es k d).0 (get_or es k d).1 v (ends_differ es none k d low))

vertex_ends : (es : List (ℕ × ℕ)) (v : ℕ) → NoReturn es → count_by (λ k. int_lt (at_end es k v) (pos 0)) (upto (length es)) ≡ into es v
vertex_ends es v none =
    count_places (λ a b. int_lt (at_same a v -ℤ at_same b v) (pos 0)) es
    ∙ count_same (λ e. int_lt (at_same e.0 v -ℤ at_same e.1 v) (pos 0)) (λ e. e.1 == v) es
    (λ k d low. ends_test (get_or es k d).0 (get_or es k d).1 v (ends_differ es none k d low))

-- tests of whether two numbers are the same
pub same_test : (i k : ℕ) → int_lt (pos 0) (at_same i k) ≡ (k == i)
same_test i k = elim (cases_Bool (i == k)) as (λ _. int_lt (pos 0) (at_same i k) ≡ (k == i)) [
  | inl y ↦ ap (λ b. int_lt (pos 0) (cond b (pos 1) (pos 0))) y ∙ sym (eq-eqb k i (sym (eqb-true i k y)))
  | inr m ↦ ap (λ b. int_lt (pos 0) (cond b (pos 1) (pos 0))) m ∙ sym (off m)
]
  where
    off : (i == k) ≡ false → (k == i) ≡ false
    off m = elim (cases_Bool (k == i)) as (λ _. (k == i) ≡ false) [
      | inl y ↦ let z = eq-eqb i k (sym (eqb-true k i y)) in absurd (cc)
      | inr n ↦ n
    ]

pub same_turned : (i k : ℕ) → int_lt (neg_ℤ (at_same i k)) (pos 0) ≡ int_lt (pos 0) (at_same i k)
same_turned i k = by (i == k) where
  by : (b : Bool) → int_lt (neg_ℤ (cond b (pos 1) (pos 0))) (pos 0) ≡ int_lt (pos 0) (cond b (pos 1) (pos 0))
  by true = refl
  by false = refl

pub same_never : (i k : ℕ) → int_lt (at_same i k) (pos 0) ≡ false
same_never i k = by (i == k) where
  by : (b : Bool) → int_lt (cond b (pos 1) (pos 0)) (pos 0) ≡ false
  by true = refl
  by false = refl

pub same_never_turned : (i k : ℕ) → int_lt (pos 0) (neg_ℤ (at_same i k)) ≡ false
same_never_turned i k = by (i == k) where
  by : (b : Bool) → int_lt (pos 0) (neg_ℤ (cond b (pos 1) (pos 0))) ≡ false
  by true = refl
  by false = refl

once_among : (m i : ℕ) → i < m → count_by (λ k. int_lt (pos 0) (at_same i k)) (upto m) ≡ 1
once_among m i low = count_same (λ k. int_lt (pos 0) (at_same i k)) (λ k. k == i) (upto m) (λ k d l. same_test i (get_or (upto m) k d)) ∙ once_below m i low

module _ (p q : List (ℕ × ℕ)) (m n : ℕ) (ps : IsOnce p m) (qs : IsOnce q n) where
  -- a count over all lists, by its two parts
  parts : (t : FlatList → Bool) → count_by t (flat_lists p q) ≡ count_by (λ k. t (EdgeP k)) (upto (length p)) + count_by (λ k. t (EdgeQ k)) (upto (length q))
  parts t =
      omega (arith, count_both t (map EdgeP (upto (length p))) (map EdgeQ (upto (length q))), count_by-map t EdgeP (upto (length p)), count_by-map t EdgeQ (upto (length q)))

  above_once : (o : FlatOrigin) → IsOfBoth p q m n o → count_by (λ x. int_lt (pos 0) (flat_incidence p q x o)) (flat_lists p q) ≡ 1
  above_once (OfP v) low =
      omega (
        arith,
        parts (λ x. int_lt (pos 0) (flat_incidence p q x (OfP v))),
        vertex_starts
            p v ps.none,
        ps.starts v low,
        count_never (λ (k : ℕ). false) (upto (length q)) (λ k. refl),
      )
  above_once (OfQ v) low =
      omega (
        arith,
        parts (λ x. int_lt (pos 0) (flat_incidence p q x (OfQ v))),
        vertex_starts
            q v qs.none,
        qs.starts v low,
        count_never (λ (k : ℕ). false) (upto (length p)) (λ k. refl),
      )
  above_once (OfBoth i j) low =
      omega (
        arith,
        parts (λ x. int_lt (pos 0) (flat_incidence p q x (OfBoth i j))),
        once_among (length p) i low.0,
        count_never (λ k. int_lt (pos 0) (neg_ℤ (at_same j k))) (upto (length q)) (same_never_turned j),
      )

  below_once : (o : FlatOrigin) → IsOfBoth p q m n o → count_by (λ x. int_lt (flat_incidence p q x o) (pos 0)) (flat_lists p q) ≡ 1
  below_once (OfP v) low =
      omega (
        arith,
        parts (λ x. int_lt (flat_incidence p q x (OfP v)) (pos 0)),
        vertex_ends p v ps.none,
        ps.ends v low,
        count_never (λ (k : ℕ). false) (upto (length q)) (λ k. refl),
      )
  below_once (OfQ v) low =
      omega (
        arith,
        parts (λ x. int_lt (flat_incidence p q x (OfQ v)) (pos 0)),
        vertex_ends q v qs.none,
        qs.ends v low,
        count_never (λ (k : ℕ). false) (upto (length p)) (λ k. refl),
      )
  below_once (OfBoth i j) low =
      omega (
        arith,
        parts (λ x. int_lt (flat_incidence p q x (OfBoth i j)) (pos 0)),
        count_never (λ k. int_lt (at_same i k) (pos 0)) (upto (length p)) (same_never i),
        count_same (λ k. int_lt (neg_ℤ (at_same j k)) (pos 0)) (λ k. int_lt (pos 0) (at_same j k)) (upto (length q)) (λ k d l. same_turned j (get_or (upto (length q)) k d)),
        once_among (length q) j low.1,
      )

  -- a turned number is above where the number is below
  above_turned : (z : ℤ) → int_lt (pos 0) (neg_ℤ z) ≡ int_lt z (pos 0)
  above_turned (pos zero) = refl
  above_turned (pos (suc k)) = sym (le-ltb (suc k) 0 (omega arith))
  above_turned (negsuc k) = lt-ltb 0 (suc k) (omega arith)

  below_turned : (z : ℤ) → int_lt (neg_ℤ z) (pos 0) ≡ int_lt (pos 0) z
  below_turned (pos zero) = refl
  below_turned (pos (suc k)) = sym (lt-ltb 0 (suc k) (omega arith))
  below_turned (negsuc k) = le-ltb (suc k) 0 (omega arith)

  pub starts_once : (b : Bool) (o : FlatOrigin) → IsOfBoth p q m n o →
      count_by (λ x. int_lt (pos 0) (cond b (neg_ℤ (flat_incidence p q x o)) (flat_incidence p q x o))) (flat_lists p q) ≡ 1
  starts_once true o known =
      count_same (λ x. int_lt (pos 0) (neg_ℤ (flat_incidence p q x o))) (λ x. int_lt (flat_incidence p q x o) (pos 0))
      (flat_lists p q) (λ k d l. above_turned (flat_incidence p q (get_or (flat_lists p q) k d) o)) ∙ below_once o known
  starts_once false o known = above_once o known

  ends_once : (b : Bool) (o : FlatOrigin) → IsOfBoth p q m n o →
      count_by (λ x. int_lt (cond b (neg_ℤ (flat_incidence p q x o)) (flat_incidence p q x o)) (pos 0)) (flat_lists p q) ≡ 1
  ends_once true o known =
      count_same (λ x. int_lt (neg_ℤ (flat_incidence p q x o)) (pos 0)) (λ x. int_lt (pos 0) (flat_incidence p q x o))
      (flat_lists p q) (λ k d l. below_turned (flat_incidence p q (get_or (flat_lists p q) k d) o)) ∙ above_once o known
  ends_once false o known = below_once o known

  pub stand_once : (cs : List FlatCopy) → All (λ c. IsOfBoth p q m n c.origin) cs → StandOnce (flat_standing p q cs) (length cs) (flat_lists p q)
  stand_once cs known = record {
    even = λ v low. let c = get_or cs v no_flat_copy in let k = known v no_flat_copy low in starts_once c.negative c.origin k ∙ sym (ends_once c.negative c.origin k);
    few = λ v low. let c = get_or cs v no_flat_copy in omega (arith, starts_once c.negative c.origin (known v no_flat_copy low));
  }
