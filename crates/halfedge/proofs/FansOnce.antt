-- There is one numbering of the fans: what the fans are, and their order, determine both lists.
use Rattle.std.proofs.Common.{◌≡◌, ◌<◌, ◌≤◌, ◌↔◌, ℕ, zero, suc, List, [], ◌∷◌, length, get_or, refl, sym, ◌∙◌, ap, subst, arith, inl, inr}
use Rattle.std.specs.List.{Contains}
use Rattle.std.proofs.lemmas.Bool.{cases_order}
use Rattle.std.proofs.lemmas.List.{get_or_default, same_lists}
use Rattle.chain_terms.specs.Chains.{all_edges, IsClosed}
use Rattle.chain_terms.specs.Ranks.{start}
use Rattle.chain_laws.proofs.Ascending.{contains_later, contains_rest}
use Rattle.mesh_terms.specs.Meshes.{Triple}
use Rattle.mesh_terms.specs.Halves.{SameFan}
use Rattle.mesh_terms.specs.Fans.{AreFans}
use Rattle.halfedge.proofs.FanSteps.{same_in_fan}

-- by the start, then by the number
pub record IsBefore (es : List (ℕ × ℕ)) (x y : ℕ) : Type 0 where
  pub starts : start es x ≤ start es y
  pub halves : start es x ≡ start es y → x < y

-- each is before all later ones
abbrev pub Rises : List (ℕ × ℕ) → List ℕ → Type 0
Rises es xs = (j k : ℕ) → j < k → k < length xs → IsBefore es (get_or xs j 0) (get_or xs k 0)

-- nothing is before what is before it
one_way : (es : List (ℕ × ℕ)) (x y : ℕ) → IsBefore es x y → IsBefore es y x → ⊥
one_way es x y first second =
    let same : start es x ≡ start es y = omega (arith, first.starts, second.starts) in
    omega (arith, first.halves same, second.halves (sym same))

-- the rest of a rising list rises
rises_rest : (es : List (ℕ × ℕ)) (x : ℕ) (xs : List ℕ) → Rises es (x ∷ xs) → Rises es xs
rises_rest es x xs up j k less below = up (suc j) (suc k) (omega (arith, less)) (omega (arith, below))

-- the head is before each of the rest
head_before : (es : List (ℕ × ℕ)) (x : ℕ) (xs : List ℕ) → Rises es (x ∷ xs) → (z : ℕ) → Contains xs z → IsBefore es x z
head_before es x xs up z (i, l, e) =
    subst (IsBefore es x) (sym (get_or_default xs i z 0 l) ∙ e) (up 0 (suc i) (omega arith) (omega (arith, l)))

-- two rising lists with the same members have the same head
same_head : (es : List (ℕ × ℕ)) (x y : ℕ) (xs ys : List ℕ) → Rises es (x ∷ xs) → Rises es (y ∷ ys) → Contains (y ∷ ys) x → Contains (x ∷ xs) y → x ≡ y
same_head es x y xs ys up vp (zero, l, e) inside = sym e
same_head es x y xs ys up vp (suc i, l, e) (zero, m, d) = d
same_head es x y xs ys up vp (suc i, l, e) (suc j, m, d) =
    absurd (one_way es x y (head_before es x xs up y (j, omega (arith, m), d)) (head_before es y ys vp x (i, omega (arith, l), e)))

-- rising lists with the same members are one
pub rising_same : (es : List (ℕ × ℕ)) (xs ys : List ℕ) → Rises es xs → Rises es ys → ((z : ℕ) → Contains xs z ↔ Contains ys z) → xs ≡ ys
rising_same es [] [] up vp same = refl
rising_same es [] (y ∷ ys) up vp same = let c = (same y).1 (0, omega arith, refl) in absurd (omega (arith, c.1))
rising_same es (x ∷ xs) [] up vp same = let c = (same x).0 (0, omega arith, refl) in absurd (omega (arith, c.1))
rising_same es (x ∷ xs) (y ∷ ys) up vp same =
    let e = same_head es x y xs ys up vp ((same x).0 (0, omega arith, refl)) ((same y).1 (0, omega arith, refl)) in
    let rest = rising_same es xs ys (rises_rest es x xs up) (rises_rest es y ys vp)
    (λ z. (
      (λ c. contains_rest y ys z ((same z).0 (contains_later z x xs c)) (λ q. let b = subst (IsBefore es x) (sym (e ∙ q)) (head_before es x xs up z c) in one_way es x x b b)),
      (λ c. contains_rest x xs z ((same z).1 (contains_later z y ys c)) (λ q. let b = subst (IsBefore es y) (sym q ∙ e) (head_before es y ys vp z c) in one_way es y y b b)),
    )) in
    ap (λ z. z ∷ xs) e ∙ ap (λ l. y ∷ l) rest

-- first half-edges rise
pub firsts_rise : (es : List (ℕ × ℕ)) (of first : List ℕ) → AreFans es of first → Rises es first
firsts_rise es of first fans j k less below = record { starts = fans.by_start j k less below; halves = fans.by_half j k less below }

-- a half-edge's fan has the same least half-edge in both numberings
least_at_most : (ts : List Triple) → IsClosed (all_edges ts) → (of first others heads : List ℕ) → AreFans (all_edges ts) of first →
    AreFans (all_edges ts) others heads → (h : ℕ) → h < length (all_edges ts) →
    get_or first (get_or of h 0) 0 ≤ get_or heads (get_or others h 0) 0
least_at_most ts closed of first others heads fans again h below =
    let g = get_or heads (get_or others h 0) 0 in
    let gn = (again.first_in (get_or others h 0) (again.numbered h below)).0 in
    at g gn (again.reached h below)
  where
    at : (g : ℕ) → g < length (all_edges ts) → SameFan (all_edges ts) g h → get_or first (get_or of h 0) 0 ≤ g
    at g gn (n, e) =
        let same : get_or of h 0 ≡ get_or of g 0 = ap (λ x. get_or of x 0) (sym e) ∙ same_in_fan ts closed of fans.steps g gn n in
        subst (λ k. get_or first k 0 ≤ g) (sym same) (fans.least g gn)

-- neither is greater
same_least : (ts : List Triple) → IsClosed (all_edges ts) → (of first others heads : List ℕ) → AreFans (all_edges ts) of first →
    AreFans (all_edges ts) others heads → (h : ℕ) → h < length (all_edges ts) →
    get_or first (get_or of h 0) 0 ≡ get_or heads (get_or others h 0) 0
same_least ts closed of first others heads fans again h below =
    omega (arith, least_at_most ts closed of first others heads fans again h below, least_at_most ts closed others heads of first again fans h below)

-- a first half-edge of the one is a first of the other
firsts_among : (ts : List Triple) → IsClosed (all_edges ts) → (of first others heads : List ℕ) → AreFans (all_edges ts) of first →
    AreFans (all_edges ts) others heads → (z : ℕ) → Contains first z → Contains heads z
firsts_among ts closed of first others heads fans again z (k, l, e) =
    let is : get_or first k 0 ≡ z = sym (get_or_default first k z 0 l) ∙ e in
    let held = fans.first_in k l in
    let zn : z < length (all_edges ts) = subst (λ x. x < length (all_edges ts)) is held.0 in
    let mine : get_or first (get_or of z 0) 0 ≡ z = ap (λ x. get_or first (get_or of x 0) 0) (sym is) ∙ ap (λ j. get_or first j 0) held.1 ∙ is in
    let j = get_or others z 0 in
    (j, again.numbered z zn, get_or_default heads j z 0 (again.numbered z zn) ∙ sym (same_least ts closed of first others heads fans again z zn) ∙ mine)

-- of two places with one half-edge there is one
one_place : (es : List (ℕ × ℕ)) (xs : List ℕ) → Rises es xs → (j k : ℕ) → j < length xs → k < length xs → get_or xs j 0 ≡ get_or xs k 0 → j ≡ k
one_place es xs up j k l m same = elim (cases_order j k) as (λ _. j ≡ k) [
  | inl e ↦ e
  | inr (inl less) ↦ let b = up j k less m in
      absurd (one_way es (get_or xs j 0) (get_or xs j 0) (subst (IsBefore es (get_or xs j 0)) (sym same) b) (subst (IsBefore es (get_or xs j 0)) (sym same) b))
  | inr (inr less) ↦ let b = up k j less l in
      absurd (one_way es (get_or xs k 0) (get_or xs k 0) (subst (IsBefore es (get_or xs k 0)) same b) (subst (IsBefore es (get_or xs k 0)) same b))
]

-- both lists are determined
pub one_numbering : (ts : List Triple) → IsClosed (all_edges ts) → (of first others heads : List ℕ) → AreFans (all_edges ts) of first →
    AreFans (all_edges ts) others heads → (of ≡ others) × (first ≡ heads)
one_numbering ts closed of first others heads fans again = (
  same_lists of others (fans.one_each ∙ sym again.one_each)
      (λ h d below. get_or_default of h d 0 below ∙ same_of h (omega (arith, below, fans.one_each))
      ∙ sym (get_or_default others h d 0 (omega (arith, below, fans.one_each, again.one_each)))),
  same_first,
)
  where
    es : List (ℕ × ℕ)
    es = all_edges ts

    same_first : first ≡ heads
    same_first = rising_same es first heads (firsts_rise es of first fans) (firsts_rise es others heads again)
        (λ z. (firsts_among ts closed of first others heads fans again z, firsts_among ts closed others heads of first again fans z))

    same_of : (h : ℕ) → h < length es → get_or of h 0 ≡ get_or others h 0
    same_of h below =
        one_place es first (firsts_rise es of first fans) (get_or of h 0) (get_or others h 0) (fans.numbered h below)
        (subst (λ l. get_or others h 0 < length l) (sym same_first) (again.numbered h below))
        (same_least ts closed of first others heads fans again h below ∙ ap (λ l. get_or l (get_or others h 0) 0) (sym same_first))
