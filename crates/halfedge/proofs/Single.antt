-- Sorted half-edges of which no two run the same way.
use Rattle.std.proofs.Common.{◌≡◌, ◌<◌, ◌≤◌, ◌+◌, ℕ, zero, suc, Bool, true, false, List, [], ◌∷◌, length, get_or, refl, sym, ◌∙◌, ap, arith}
use Rattle.std.specs.List.Sorted.{IsSorted}
use Rattle.std.proofs.lemmas.Bool.Decides.{nat_tests}
use Rattle.chain_terms.specs.Chains.{dir, is_edge, one_if}
use Rattle.chain_laws.specs.Chains.{edge_is}
use Rattle.mesh_terms.specs.OpenEdges.{is_lesser}
use Rattle.halfedge.specs.Laws.{AreSingle}
use Rattle.halfedge.specs.Pairing.{Half, ends, ends_of, half_cmp}
use Rattle.halfedge.proofs.Order.{not_lesser_half, is_itself}
use Rattle.halfedge.proofs.Walk.{later_sorted, rising_from_sorted, none_lesser}

-- the ends at a place
abbrev pub ends_at : List Half → ℕ → ℕ × ℕ
ends_at xs i = ends (get_or xs i (0, 0, 0))

-- the half-edges at two places run the same way
abbrev pub runs_with : List Half → ℕ → ℕ → Bool
runs_with xs i j = is_edge (ends_at xs i) (ends_at xs j).0 (ends_at xs j).1

-- of two that run otherwise, of which the second is not lesser, the first is
is_below : (e f : ℕ × ℕ) → is_lesser f e ≡ false → is_edge e f.0 f.1 ≡ false → is_lesser e f ≡ true
is_below e f up other = grind (arith, nat_tests, up, other)

-- an edge in front of others, none of which runs as it
one_more : (e : ℕ × ℕ) (es : List (ℕ × ℕ)) → dir es e.0 e.1 ≡ 0 → AreSingle es → AreSingle (e ∷ es)
one_more e es none single a b = by (is_edge e a b) refl
  where
    by : (t : Bool) → is_edge e a b ≡ t → one_if t + dir es a b ≤ 1
    by false is = omega (arith, single a b)
    by true is =
        let p = edge_is e a b is in
        let here : dir es a b ≡ 0 = sym (ap (λ u. dir es u e.1) p.0 ∙ ap (λ v. dir es a v) p.1) ∙ none in
        omega (arith, here)

-- sorted half-edges, each of which runs otherwise than the one before it
pub single_from_steps : (xs : List Half) → IsSorted half_cmp xs → ((j : ℕ) → j + 1 < length xs → runs_with xs j (j + 1) ≡ false) → AreSingle (ends_of xs)
single_from_steps [] up steps = λ a b. omega arith
single_from_steps (x ∷ []) up steps = one_more (ends x) [] refl (λ a b. omega arith)
single_from_steps (x ∷ y ∷ ys) up steps =
    let later : IsSorted half_cmp (y ∷ ys) = later_sorted x (y ∷ ys) up in
    let less : is_lesser (ends x) (ends y) ≡ true = is_below (ends x) (ends y) (not_lesser_half y x (up 0 x (omega arith) (omega arith))) (steps 0 (omega arith)) in
    one_more (ends x) (ends_of (y ∷ ys)) (none_lesser (ends y) (ends x) (ends_of ys) (rising_from_sorted (y ∷ ys) later) less)
    (single_from_steps (y ∷ ys) later (λ j below. later_step j (steps (suc j) (omega (arith, below)))))
  where
    later_step : (j : ℕ) → runs_with (x ∷ y ∷ ys) (suc j) (suc j + 1) ≡ false → runs_with (y ∷ ys) j (j + 1) ≡ false
    later_step j other = let next : suc (j + 1) ≡ suc j + 1 = omega arith in ap (runs_with (x ∷ y ∷ ys) (suc j)) next ∙ other

-- an edge at two places next to each other runs twice
twice : (xs : List Half) (i : ℕ) → suc i < length xs → runs_with xs i (suc i) ≡ true → 1 < dir (ends_of xs) (ends_at xs (suc i)).0 (ends_at xs (suc i)).1
twice [] i below same = absurd (omega (arith, below))
twice (x ∷ []) i below same = absurd (omega (arith, below))
twice (x ∷ y ∷ ys) zero below same = omega (arith, ap one_if same, ap one_if (is_itself (ends y)))
twice (x ∷ y ∷ ys) (suc i) below same = omega (arith, twice (y ∷ ys) i (omega (arith, below)) same)

-- so such half-edges are not single
pub not_single : (xs : List Half) (i : ℕ) → i + 1 < length xs → runs_with xs i (i + 1) ≡ true → AreSingle (ends_of xs) → ⊥
not_single xs i below same single =
    let next : i + 1 ≡ suc i = omega arith in
    omega (arith, twice xs i (omega (arith, below)) (ap (runs_with xs i) (sym next) ∙ same), single (ends_at xs (suc i)).0 (ends_at xs (suc i)).1)
