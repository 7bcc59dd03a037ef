-- Nodes on a stack.
use Rattle.std.proofs.Common.{◌≡◌, ◌∙◌, ℕ, ◌+◌, ◌-◌, ◌*◌, ◌^◌, ◌<◌, ◌≤◌, List, [], ◌∷◌, ◌++◌, length, get_or, sym, ap, arith, subst}
use Rattle.std.proofs.Common.{inl, inr}
use Rattle.std.proofs.lemmas.Bool.{cases_lt}
use Rattle.std.proofs.lemmas.Nat.{pow-add}
use Rattle.std.proofs.Math.Pow.{pow_mono}
use Rattle.std.proofs.Math.Nat.{mul-le-mul_right}
use Rattle.std.proofs.lemmas.List.{get_or_append_left, get_or_push, length_push}
use Rattle.box_tree.specs.declared.nodes.Node.{Node}
use Rattle.box_tree.specs.Nodes.{node_at}
use Rattle.box_tree.specs.Walks.{IsStack}

-- the count of a node on the stack is small
abbrev pub IsSmall : List Node → ℕ → ℕ → Type 0
IsSmall nodes place depth = ((node_at nodes place).count - 1) * 2 ^ depth < 2 ^ 32

-- one more node on the stack
pub stack_push : (nodes : List Node) (stack : List ℕ) (place : ℕ) → IsStack nodes stack → place < length nodes → IsSmall nodes place (length stack) →
    IsStack nodes (stack ++ place ∷ [])
stack_push nodes stack place h there small = record {
  there = λ i l.
      let P : ℕ → Type 0 = λ p. p < length nodes in
      elim (cases_lt i (length stack)) as (λ _. get_or (stack ++ place ∷ []) i 0 < length nodes) [
        | inl m ↦ subst P (sym (get_or_append_left stack (place ∷ []) 0 i m)) (h.there i m)
        | inr m ↦ let e : length stack ≡ i = omega (arith, l, m, length_push stack place) in subst P (sym (get_or_push stack place 0 i e)) there
      ];
  small = λ i l.
      let P : ℕ → Type 0 = λ p. IsSmall nodes p i in
      let D : ℕ → Type 0 = λ d. IsSmall nodes place d in
      elim (cases_lt i (length stack)) as (λ _. IsSmall nodes (get_or (stack ++ place ∷ []) i 0) i) [
        | inl m ↦ subst P (sym (get_or_append_left stack (place ∷ []) 0 i m)) (h.small i m)
        | inr m ↦ let e : length stack ≡ i = omega (arith, l, m, length_push stack place) in subst P (sym (get_or_push stack place 0 i e)) (subst D e small)
      ];
}

-- at most half as many blocks are small one place higher
pub halved_small : (count part depth : ℕ) → 2 * (part - 1) ≤ count - 1 → (count - 1) * 2 ^ depth < 2 ^ 32 → (part - 1) * 2 ^ (depth + 1) < 2 ^ 32
halved_small count part depth halved small =
    let more : (2 * (part - 1)) * 2 ^ depth ≤ (count - 1) * 2 ^ depth = mul-le-mul_right (2 ^ depth) halved in
    let power : 2 ^ (depth + 1) ≡ 2 ^ depth * 2 = pow-add 2 depth 1 in
    let same : (part - 1) * 2 ^ (depth + 1) ≡ (2 * (part - 1)) * 2 ^ depth = ap (λ p. (part - 1) * p) power ∙ omega arith in
    omega (arith, more, same, small)

-- fewer blocks are small at the same place
pub fewer_small : (count part depth : ℕ) → part ≤ count → (count - 1) * 2 ^ depth < 2 ^ 32 → (part - 1) * 2 ^ depth < 2 ^ 32
fewer_small count part depth fewer small =
    let more : (part - 1) * 2 ^ depth ≤ (count - 1) * 2 ^ depth = mul-le-mul_right (2 ^ depth) (omega (arith, fewer)) in
    omega (arith, more, small)

-- a node with more than one block lies below place 32
pub small_depth : (count depth : ℕ) → 1 < count → (count - 1) * 2 ^ depth < 2 ^ 32 → depth < 32
small_depth count depth some small = elim (cases_lt depth 32) as (λ _. depth < 32) [
  | inl l ↦ l
  | inr l ↦
      let power : 2 ^ 32 ≤ 2 ^ depth = pow_mono l in
      let more : 1 * 2 ^ depth ≤ (count - 1) * 2 ^ depth = mul-le-mul_right (2 ^ depth) (omega (arith, some)) in
      absurd (omega (arith, power, more, small))
]
