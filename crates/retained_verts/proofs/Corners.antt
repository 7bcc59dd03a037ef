-- The half-edges at vertices, counted by the corners of triangles.
use Rattle.std.proofs.Common.{◌≡◌, ℕ, ◌+◌, ◌*◌, ◌==◌, ◌||◌, Bool, true, false, cond, ℤ, pos, ◌+ℤ◌, List, [], ◌∷◌, ◌++◌, arith, inl, inr, refl, ap, sym, ◌∙◌}
use Rattle.std.specs.List.{sum_by}
use Rattle.std.proofs.lemmas.Int.{ints}
use Rattle.std.proofs.lemmas.Bool.{cases_eq, eq-eqb, ne_eqb}
use Rattle.std.proofs.lemmas.List.Sums.{sum_by-cons, sum_by_push}
use Rattle.chain_terms.specs.Sums.{total, upto}
use Rattle.chain_laws.specs.Sums.{total-add, total-same}
use Rattle.chain_laws.proofs.Places.{where_same, where_same-at, where_same-apart, one_hit_of}
use Rattle.mesh_terms.specs.Meshes.{Triple, HasThree, IsBelow, has}
use Rattle.side_terms.specs.Prescribed.{triples_at}

-- a sum of natural numbers is one of whole numbers
pub total_pos : {X : Type 0} (f : X → ℕ) (xs : List X) → total (λ x. pos (f x)) xs ≡ pos (sum_by f xs)
total_pos f [] = refl
total_pos f (x ∷ xs) = omega (arith, ints, sum_by-cons f x xs, total_pos f xs)

-- one more triangle counts where it has the vertex
count_more : (ts : List Triple) (t : Triple) (v : ℕ) → triples_at (ts ++ t ∷ []) v ≡ triples_at ts v + cond (has t v) 1 0
count_more ts t v = sum_by_push (λ u. cond (has u v) 1 0) ts t

-- what a triangle has, by its three vertices
has_is : (t : Triple) (v : ℕ) (x y z : Bool) → (t.0 == v) ≡ x → (t.1 == v) ≡ y → (t.2 == v) ≡ z → has t v ≡ (x || y || z)
has_is t v x y z a b c = cc

-- where it has the vertex, s counts once more
counted_once : (s k c : ℕ) → c ≡ 1 → s * (k + c) ≡ s * k + s
counted_once s k c e = ap (λ n. s * (k + n)) e ∙ omega arith

counted_no_more : (s k c : ℕ) → c ≡ 0 → s * (k + c) ≡ s * k
counted_no_more s k c e = ap (λ n. s * (k + n)) e ∙ omega arith

-- a vertex is at most one of the three of a triangle
one_corner : (t : Triple) (v k s : ℕ) → HasThree t →
    pos (s * (k + cond (has t v) 1 0)) ≡ pos (s * k) +ℤ (where_same v t.0 (pos s) +ℤ (where_same v t.1 (pos s) +ℤ where_same v t.2 (pos s)))
one_corner t v k s three =
    let n : ℕ = cond (has t v) 1 0 in
    let Goal : Type 0 = pos (s * (k + n)) ≡ pos (s * k) +ℤ (where_same v t.0 (pos s) +ℤ (where_same v t.1 (pos s) +ℤ where_same v t.2 (pos s))) in
    elim (cases_eq t.0 v) as (λ _. Goal) [
      | inl a ↦
          let b : t.1 ≡ v → ⊥ = λ e. three.ab (a ∙ sym e) in
          let c : t.2 ≡ v → ⊥ = λ e. three.ca (e ∙ sym a) in
          let here : n ≡ 1 = ap (λ x. cond x 1 0) (has_is t v true false false (eq-eqb t.0 v a) (ne_eqb t.1 v b) (ne_eqb t.2 v c)) in
          omega (
            arith,
            ints,
            counted_once s k n here,
            where_same-at v t.0 (pos s) (sym a),
            where_same-apart v t.1 (pos s) (λ e. b (sym e)),
            where_same-apart v t.2 (pos s) (λ e. c (sym e)),
          )
      | inr a ↦ elim (cases_eq t.1 v) as (λ _. Goal) [
        | inl b ↦
            let c : t.2 ≡ v → ⊥ = λ e. three.bc (b ∙ sym e) in
            let here : n ≡ 1 = ap (λ x. cond x 1 0) (has_is t v false true false (ne_eqb t.0 v a) (eq-eqb t.1 v b) (ne_eqb t.2 v c)) in
            omega (
              arith,
              ints,
              counted_once s k n here,
              where_same-apart v t.0 (pos s) (λ e. a (sym e)),
              where_same-at v t.1 (pos s) (sym b),
              where_same-apart v t.2 (pos s) (λ e. c (sym e)),
            )
        | inr b ↦ elim (cases_eq t.2 v) as (λ _. Goal) [
          | inl c ↦
              let here : n ≡ 1 = ap (λ x. cond x 1 0) (has_is t v false false true (ne_eqb t.0 v a) (ne_eqb t.1 v b) (eq-eqb t.2 v c)) in
              omega (
                arith,
                ints,
                counted_once s k n here,
                where_same-apart v t.0 (pos s) (λ e. a (sym e)),
                where_same-apart v t.1 (pos s) (λ e. b (sym e)),
                where_same-at v t.2 (pos s) (sym c),
              )
          | inr c ↦
              let none : n ≡ 0 = ap (λ x. cond x 1 0) (has_is t v false false false (ne_eqb t.0 v a) (ne_eqb t.1 v b) (ne_eqb t.2 v c)) in
              omega (
                arith,
                ints,
                counted_no_more s k n none,
                where_same-apart v t.0 (pos s) (λ e. a (sym e)),
                where_same-apart v t.1 (pos s) (λ e. b (sym e)),
                where_same-apart v t.2 (pos s) (λ e. c (sym e)),
              )
        ]
      ]
    ]

-- the half-edges at vertices that count s each: one triangle more
pub corners_more : (s : ℕ → ℕ) (n : ℕ) (ts : List Triple) (t : Triple) → HasThree t → IsBelow n t →
    sum_by (λ v. s v * triples_at (ts ++ t ∷ []) v) (upto n) ≡ sum_by (λ v. s v * triples_at ts v) (upto n) + (s t.0 + s t.1 + s t.2)
corners_more s n ts t three below =
    let at : ℕ → ℕ → ℤ = λ c v. where_same v c (pos (s v)) in
    let before : ℕ → ℤ = λ v. pos (s v * triples_at ts v) in
    let each = total-same (λ v. pos (s v * triples_at (ts ++ t ∷ []) v)) (λ v. before v +ℤ (at t.0 v +ℤ (at t.1 v +ℤ at t.2 v)))
    (λ v. ap (λ k. pos (s v * k)) (count_more ts t v) ∙ one_corner t v (triples_at ts v) (s v) three) (upto n) in
    let first = total-add before (λ v. at t.0 v +ℤ (at t.1 v +ℤ at t.2 v)) (upto n) in
    let second = total-add (at t.0) (λ v. at t.1 v +ℤ at t.2 v) (upto n) in
    let third = total-add (at t.1) (at t.2) (upto n) in
    let a : total (at t.0) (upto n) ≡ pos (s t.0) = one_hit_of (λ v. pos (s v)) t.0 n below.a in
    let b : total (at t.1) (upto n) ≡ pos (s t.1) = one_hit_of (λ v. pos (s v)) t.1 n below.b in
    let c : total (at t.2) (upto n) ≡ pos (s t.2) = one_hit_of (λ v. pos (s v)) t.2 n below.c in
    omega (arith, ints, total_pos (λ v. s v * triples_at (ts ++ t ∷ []) v) (upto n), total_pos (λ v. s v * triples_at ts v) (upto n), each, first, second, third, a, b, c)

-- without a triangle there are none
pub corners_none : (s : ℕ → ℕ) (xs : List ℕ) → sum_by (λ v. s v * 0) xs ≡ 0
corners_none s [] = refl
corners_none s (x ∷ xs) = omega (arith, sum_by-cons (λ v. s v * 0) x xs, corners_none s xs)
