-- The half-edges of faces against edges, as numbers of 0 and 1.
use Rattle.std.proofs.Common.{◌≡◌, ℕ, ◌+◌, ◌*◌, ◌/◌, ◌≤◌, inl, inr, true, false, cond, ◌==◌, pos, ◌-ℤ◌, List, refl, arith, ap, sym, ◌∙◌}
use Rattle.std.proofs.lemmas.Int.{ints}
use Rattle.std.proofs.lemmas.Bool.{cases_eq, eq-eqb, ne_eqb}
use Rattle.chain_terms.specs.Chains.{one_if}
use Rattle.chain_terms.specs.Ranks.{twin}
use Rattle.chain_laws.specs.Sums.{IsWithin}
use Rattle.side_terms.specs.Lists.{at_same, way, way_round}

-- 1 where the two are the same
abbrev pub same : ℕ → ℕ → ℕ
same a b = one_if (a == b)

pub at_same_is : (a b : ℕ) → at_same a b ≡ pos (same a b)
at_same_is a b = elim (a == b) as (λ t. cond t (pos 1) (pos 0) ≡ pos (one_if t)) [ true ↦ refl | false ↦ refl ]

-- which it is
pub same_yes : (a b : ℕ) → a ≡ b → same a b ≡ 1
same_yes a b e = ap one_if (eq-eqb a b e)

pub same_no : (a b : ℕ) → (a ≡ b → ⊥) → same a b ≡ 0
same_no a b d = ap one_if (ne_eqb a b d)

pub same_few : (a b : ℕ) → same a b ≤ 1
same_few a b = elim (a == b) as (λ t. one_if t ≤ 1) [ true ↦ omega arith | false ↦ omega arith ]

-- two different numbers are not both the same as one
pub not_both : (a b c : ℕ) → (b ≡ c → ⊥) → same a b + same a c ≤ 1
not_both a b c d = elim (cases_eq a b) as (λ _. same a b + same a c ≤ 1) [
  | inl e ↦ omega (arith, same_few a b, same_no a c (λ f. d (sym e ∙ f)))
  | inr n ↦ omega (arith, same_no a b n, same_few a c)
]

abbrev OneOfThree : ℕ → ℕ → Type 0
OneOfThree f e = same (3 * f + 0) e + (same (3 * f + 1) e + same (3 * f + 2) e) ≡ same f (e / 3)

-- a half-edge is one of the three of its face, and of no other
pub one_of_three : (f e : ℕ) → same (3 * f + 0) e + (same (3 * f + 1) e + same (3 * f + 2) e) ≡ same f (e / 3)
one_of_three f e = elim (cases_eq (3 * f + 0) e) as (λ _. OneOfThree f e) [
  | inl a ↦ omega (
    arith,
    same_yes (3 * f + 0) e a,
    same_no (3 * f + 1) e (λ x. omega (arith, a, x)),
    same_no (3 * f + 2) e (λ x. omega (arith, a, x)),
    same_yes f (e / 3) (omega (arith, a)),
  )
  | inr a ↦ elim (cases_eq (3 * f + 1) e) as (λ _. OneOfThree f e) [
    | inl b ↦ omega (arith, same_no (3 * f + 0) e a, same_yes (3 * f + 1) e b, same_no (3 * f + 2) e (λ x. omega (arith, b, x)), same_yes f (e / 3) (omega (arith, b)))
    | inr b ↦ elim (cases_eq (3 * f + 2) e) as (λ _. OneOfThree f e) [
      | inl c ↦ omega (arith, same_no (3 * f + 0) e a, same_no (3 * f + 1) e b, same_yes (3 * f + 2) e c, same_yes f (e / 3) (omega (arith, c)))
      | inr c ↦ omega (arith, same_no (3 * f + 0) e a, same_no (3 * f + 1) e b, same_no (3 * f + 2) e c, same_no f (e / 3) (λ x. omega (arith, a, b, c, x)))
    ]
  ]
]

-- a half-edge against an edge
pub way_is : (es : List (ℕ × ℕ)) (h e : ℕ) → way es h e ≡ pos (same h e) -ℤ pos (same h (twin es e))
way_is es h e = omega (arith, ints, at_same_is h e, at_same_is h (twin es e))

-- those of a face, added up: whether it is the face of the lower half-edge, less whether it is that of its twin
pub way_round_is : (es : List (ℕ × ℕ)) (f e : ℕ) → way_round es f e ≡ pos (same f (e / 3)) -ℤ pos (same f (twin es e / 3))
way_round_is es f e =
    let t = twin es e in
    omega (arith, ints, way_is es (3 * f + 0) e, way_is es (3 * f + 1) e, way_is es (3 * f + 2) e, one_of_three f e, one_of_three f t)

-- both are from -1 to 1
pub way_within : (es : List (ℕ × ℕ)) (h e : ℕ) → IsWithin (way es h e) 1
way_within es h e =
    let w = way_is es h e in
    let a = same_few h e in
    let b = same_few h (twin es e) in
    record { low = omega (arith, ints, w, a, b); high = omega (arith, ints, w, a, b) }

pub way_round_within : (es : List (ℕ × ℕ)) (f e : ℕ) → IsWithin (way_round es f e) 1
way_round_within es f e =
    let w = way_round_is es f e in
    let a = same_few f (e / 3) in
    let b = same_few f (twin es e / 3) in
    record { low = omega (arith, ints, w, a, b); high = omega (arith, ints, w, a, b) }
