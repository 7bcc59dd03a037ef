-- Vertices have one label exactly where edges join them.
use Rattle.std.proofs.Common.{◌≡◌, ◌⊎◌, ◌<◌, ◌≤◌, ◌||◌, ◌==◌, ℕ, min, true, List, [], ◌∷◌, length, get_or, refl, sym, ◌∙◌, ap, subst, inl, inr, arith}
use Rattle.std.proofs.lemmas.Bool.{cases_Bool, cases_lt, cond_both, cond-true, eqb-true, eq-eqb, or_left, or_right}
use Rattle.std.proofs.lemmas.List.{get_or-map, length-map}
use Rattle.std.proofs.lemmas.List.Elements.{All-contains, All-head, All-tail}
use Rattle.chain_terms.specs.Chains.{dir, is_edge}
use Rattle.chain_terms.specs.Sums.{upto}
use Rattle.chain_laws.specs.Chains.{edge_is, dir_contains}
use Rattle.chain_laws.specs.Counts.{one_if-false}
use Rattle.chain_laws.proofs.Places.{length-up_from, get_or-up_from}
use Rattle.component_terms.specs.Components.{IsJoined, Here, Along, IsLeast}
use Rattle.component_terms.specs.Counts.{joined_label, joined_by, labels}
use Rattle.component_terms.specs.Laws.{AreBelow}
use Rattle.component_terms.proofs.Joined.{joined_on, joined_back, joined_still, joined_ends}

-- the label of a vertex
abbrev pub label : List ℕ → ℕ → ℕ
label ls v = get_or ls v 0

-- each vertex below n has a label, which is joined to it and not above it; both ends of an edge have the same
pub record AreLabels (n : ℕ) (es : List (ℕ × ℕ)) (ls : List ℕ) : Type 0 where
  pub full : length ls ≡ n
  pub lower : (v : ℕ) → v < n → label ls v ≤ v
  pub joined : (v : ℕ) → v < n → IsJoined es v (label ls v)
  pub same : (a b : ℕ) → a < n → b < n → 0 < dir es a b → label ls a ≡ label ls b

-- a label is that of one of two classes, which get the lesser, or stays
joined_cases : (a b l : ℕ) (P : ℕ → Type 0) → ((l ≡ a) ⊎ (l ≡ b) → P (min a b)) → P l → P (joined_label a b l)
joined_cases a b l P one other = cond_both (l == a || l == b) (min a b) l P (λ h. one (which h)) (λ h. other)
  where
    which : (l == a || l == b) ≡ true → (l ≡ a) ⊎ (l ≡ b)
    which h = elim (cases_Bool (l == a)) as (λ _. (l ≡ a) ⊎ (l ≡ b)) [
      | inl y ↦ inl (eqb-true l a y)
      | inr n ↦ inr (eqb-true l b (subst (λ t. (t || l == b) ≡ true) n h))
    ]

-- the first class gets the lesser label
joined_first : (a b : ℕ) → joined_label a b a ≡ min a b
joined_first a b = cond-true (a == a || a == b) (min a b) a (or_left (a == a) (a == b) (eq-eqb a a refl))

-- and the second
joined_second : (a b : ℕ) → joined_label a b b ≡ min a b
joined_second a b = cond-true (b == a || b == b) (min a b) b (or_right (b == a) (b == b) (eq-eqb b b refl))

-- one of the two is the lesser
min_is : (a b : ℕ) (P : ℕ → Type 0) → P a → P b → P (min a b)
min_is a b P x y = elim (cases_lt a b) as (λ _. P (min a b)) [
  | inl l ↦ let e : a ≡ min a b = omega (arith, l) in subst P e x
  | inr g ↦ let e : b ≡ min a b = omega (arith, g) in subst P e y
]

-- without edges each vertex has its own number
labels_none : (n : ℕ) → AreLabels n [] (upto n)
labels_none n = record {
  full = length-up_from 0 n;
  lower = λ v low. omega (arith, get_or-up_from 0 n v 0 low);
  joined = λ v low. let e : v ≡ label (upto n) v = omega (arith, get_or-up_from 0 n v 0 low) in subst (IsJoined [] v) e Here;
  same = λ a b low high some. absurd (omega (arith, some));
}

-- with one more edge
labels_more : (n : ℕ) (e : ℕ × ℕ) (es : List (ℕ × ℕ)) (ls : List ℕ) → e.0 < n → e.1 < n → AreLabels n es ls → AreLabels n (e ∷ es) (joined_by ls e)
labels_more n e es ls from to are = record {
  full = length-map ls relabel ∙ are.full;
  lower = λ v low. subst (λ l. l ≤ v) (sym (relabelled v low)) (lower v low);
  joined = λ v low. subst (IsJoined (e ∷ es) v) (sym (relabelled v low)) (joined v low);
  same = λ c d low high some. relabelled c low ∙ same c d low high some ∙ sym (relabelled d high);
}
  where
    a : ℕ
    a = label ls e.0

    b : ℕ
    b = label ls e.1

    relabel : ℕ → ℕ
    relabel = joined_label a b

    relabelled : (v : ℕ) → v < n → label (joined_by ls e) v ≡ relabel (label ls v)
    relabelled v low = get_or-map relabel ls v 0 0 (omega (arith, low, are.full))

    lower : (v : ℕ) → v < n → relabel (label ls v) ≤ v
    lower v low = joined_cases a b (label ls v) (λ l. l ≤ v) (λ which. elim which as (λ _. min a b ≤ v) [
      | inl p ↦ omega (arith, p, are.lower v low)
      | inr p ↦ omega (arith, p, are.lower v low)
    ]) (are.lower v low)

    still : (v : ℕ) → v < n → IsJoined (e ∷ es) v (label ls v)
    still v low = joined_still e es v (label ls v) (are.joined v low)

    second : IsJoined (e ∷ es) e.0 b
    second = joined_on (e ∷ es) e.0 e.1 b (joined_ends e es) (still e.1 to)

    lesser : IsJoined (e ∷ es) e.0 (min a b)
    lesser = min_is a b (IsJoined (e ∷ es) e.0) (still e.0 from) second

    to_edge : (l : ℕ) → (l ≡ a) ⊎ (l ≡ b) → IsJoined (e ∷ es) l e.0
    to_edge l which = elim which as (λ _. IsJoined (e ∷ es) l e.0) [
      | inl p ↦ subst (λ k. IsJoined (e ∷ es) k e.0) (sym p) (joined_back (e ∷ es) e.0 a (still e.0 from))
      | inr p ↦ subst (λ k. IsJoined (e ∷ es) k e.0) (sym p) (joined_back (e ∷ es) e.0 b second)
    ]

    joined : (v : ℕ) → v < n → IsJoined (e ∷ es) v (relabel (label ls v))
    joined v low =
        let before = still v low in
        joined_cases a b (label ls v) (IsJoined (e ∷ es) v)
        (λ which. joined_on (e ∷ es) v e.0 (min a b) (joined_on (e ∷ es) v (label ls v) e.0 before (to_edge (label ls v) which)) lesser)
        before

    same : (c d : ℕ) → c < n → d < n → 0 < dir (e ∷ es) c d → relabel (label ls c) ≡ relabel (label ls d)
    same c d low high some = elim (cases_Bool (is_edge e c d)) as (λ _. relabel (label ls c) ≡ relabel (label ls d)) [
      | inl y ↦
          let ends = edge_is e c d y in
          ap (λ v. relabel (label ls v)) (sym ends.0) ∙ joined_first a b ∙ sym (joined_second a b) ∙ ap (λ v. relabel (label ls v)) ends.1
      | inr m ↦ ap relabel (are.same c d low high (omega (arith, some, one_if-false (is_edge e c d) m)))
    ]

-- over all edges
pub are_labels : (n : ℕ) (es : List (ℕ × ℕ)) → AreBelow n es → AreLabels n es (labels n es)
are_labels n [] below = labels_none n
are_labels n (e ∷ es) below =
    let P = λ (d : ℕ × ℕ). (d.0 < n) × (d.1 < n) in
    let ends = All-head P e es below in
    labels_more n e es (labels n es) ends.0 ends.1 (are_labels n es (All-tail P e es below))

-- the ends of an edge that occurs are below n
ends_below : (n : ℕ) (es : List (ℕ × ℕ)) (a b : ℕ) → AreBelow n es → 0 < dir es a b → (a < n) × (b < n)
ends_below n es a b below some = All-contains (λ (e : ℕ × ℕ). (e.0 < n) × (e.1 < n)) es (a, b) below (dir_contains es a b some)

-- what is joined to a vertex below n is below n, and has the same label
pub joined_same : (n : ℕ) (es : List (ℕ × ℕ)) (ls : List ℕ) (v w : ℕ) → AreBelow n es → AreLabels n es ls → v < n → IsJoined es v w →
    (w < n) × (label ls v ≡ label ls w)
joined_same n es ls v w below are low Here = (low, refl)
joined_same n es ls v w below are low (Along a b joined some) =
    let before = joined_same n es ls v a below are low joined in
    elim (cases_lt 0 (dir es a b)) as (λ _. (b < n) × (label ls v ≡ label ls b)) [
      | inl there ↦ let ends = ends_below n es a b below there in (ends.1, before.1 ∙ are.same a b ends.0 ends.1 there)
      | inr none ↦
          let there : 0 < dir es b a = omega (arith, none, some) in
          let ends = ends_below n es b a below there in
          (ends.0, before.1 ∙ sym (are.same b a ends.0 ends.1 there))
    ]

-- a vertex that keeps its number is the least of its component
pub kept_least : (n : ℕ) (es : List (ℕ × ℕ)) (ls : List ℕ) (v : ℕ) → AreBelow n es → AreLabels n es ls → v < n → label ls v ≡ v → IsLeast es v
kept_least n es ls v below are low own w joined =
    let same = joined_same n es ls v w below are low joined in
    omega (arith, own, same.1, are.lower w same.0)

-- and the least keeps its number
pub least_kept : (n : ℕ) (es : List (ℕ × ℕ)) (ls : List ℕ) (v : ℕ) → AreLabels n es ls → v < n → IsLeast es v → label ls v ≡ v
least_kept n es ls v are low least = omega (arith, are.lower v low, least (label ls v) (are.joined v low))

-- the label of a vertex keeps its number
pub label_kept : (n : ℕ) (es : List (ℕ × ℕ)) (ls : List ℕ) (v : ℕ) → AreBelow n es → AreLabels n es ls → v < n → label ls (label ls v) ≡ label ls v
label_kept n es ls v below are low = sym ((joined_same n es ls v (label ls v) below are low (are.joined v low)).1)
