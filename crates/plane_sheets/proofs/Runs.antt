-- The first group of grouped edges is taken away.
use Rattle.std.proofs.Common.{arith, ◌≡◌, ℕ, suc, ◌<◌, ◌≤◌, ◌==◌, List, [], ◌∷◌, ◌++◌, cond, true, false, drop, get_or, length, map, take, refl, sym, ap, subst, ◌∙◌, inl, inr}
use Rattle.std.specs.List.{All}
use Rattle.std.specs.List.Sorted.{IsNonDecreasingBy}
use Rattle.std.proofs.lemmas.Bool.{cases_lt, eq-eqb}
use Rattle.std.proofs.lemmas.List.Elements.{All-head}
use Rattle.face_plane.specs.Planes.{Plane}
use Rattle.plane_chains.specs.EdgeBoxes.{pair_of}
use Rattle.sheet_terms.specs.Walks.{walks}
use Rattle.plane_sheets.specs.declared.borders.RegionEdge.{RegionEdge}
use Rattle.plane_sheets.specs.Found.{IsWithin, front_count, label_regions, of_label, side_regions, some_region}
use Rattle.plane_sheets.proofs.Grouping.{first_label, first_level, front_is, rest_has, rest_steps}
use Rattle.plane_sheets.proofs.Ties.{StepsBy, none_below, rise_steps, steps_lower}

-- what follows the first group does not fall either
pub later_steps : (key : RegionEdge → ℕ) (es : List RegionEdge) (d : RegionEdge) (count : ℕ) → 0 < length es → StepsBy key 0 es → count ≡ front_count key (key (get_or es 0 d)) es →
    StepsBy key 0 (drop count es)
later_steps key [] d count some steps own = absurd (omega (arith, some))
later_steps key (e ∷ es) d count some steps own =
    subst (λ n. StepsBy key 0 (drop n (e ∷ es))) (sym own)
    (steps_lower key 0 (suc (key e)) (drop (front_count key (key e) (e ∷ es)) (e ∷ es)) (omega arith) (rest_steps key (key e) (e ∷ es) (omega arith, steps.1)))

-- the group is not empty
pub some_taken : (key : RegionEdge → ℕ) (es : List RegionEdge) (d : RegionEdge) (count : ℕ) → 0 < length es → count ≡ front_count key (key (get_or es 0 d)) es → 0 < count
some_taken key [] d count some own = absurd (omega (arith, some))
some_taken key (e ∷ es) d count some own = omega (arith, own, ap (λ b. cond b (suc (front_count key (key e) es)) 0) (eq-eqb (key e) (key e) refl))

-- and ends within
pub front_within : (key : RegionEdge → ℕ) (v : ℕ) (es : List RegionEdge) → front_count key v es ≤ length es
front_within key v [] = omega arith
front_within key v (e ∷ es) = within (key e == v) (front_count key v es) (length es) (front_within key v es)
  where
    within : (b : _) (n m : ℕ) → n ≤ m → cond b (suc n) 0 ≤ suc m
    within true n m h = omega (arith, h)
    within false n m h = omega arith

-- the first level of a label
pub level_taken : (at : Plane) (n most j : ℕ) (es : List RegionEdge) (d : RegionEdge) (count : ℕ) (ws : List (List ℕ)) → 0 < length es →
    StepsBy (λ e. e.level) 0 es → All (IsWithin n most) es →
    count ≡ front_count (λ e. e.level) (get_or es 0 d).level es → ws ≡ walks at (map (λ e. pair_of e.ends) (take count es)) →
    label_regions at most j es ≡ (j, ws) ∷ label_regions at most j (drop count es)
level_taken at n most j [] d count ws some steps within own value = absurd (omega (arith, some))
level_taken at n most j (e ∷ es) d count ws some steps within own value =
    let v = e.level in
    let key : RegionEdge → ℕ = λ f. f.level in
    let own_bounds : IsWithin n most e = All-head (IsWithin n most) e es within in
    let long : front_count key v (e ∷ es) ≡ suc (front_count key v es) = ap (λ b. cond b (suc (front_count key v es)) 0) (eq-eqb v v refl) in
    let made : List RegionEdge → List (ℕ × List (List ℕ)) = λ own. some_region j (walks at (map (λ (f : RegionEdge). pair_of f.ends) own)) in
    let one : made (take (front_count key v (e ∷ es)) (e ∷ es)) ≡ (j, ws) ∷ [] =
    ap (λ c. made (take c (e ∷ es))) long ∙ ap (λ l. (j, l) ∷ []) (sym (value ∙ ap (λ c. walks at (map (λ (f : RegionEdge). pair_of f.ends) (take c (e ∷ es)))) (own ∙ long))) in
    first_level at most j v (e ∷ es) own_bounds.low own_bounds.high (omega arith, steps.1) ∙ ap (λ l. l ++ label_regions at most j (drop (front_count key v (e ∷ es)) (e ∷ es))) one
    ∙ ap (λ c. (j, ws) ∷ label_regions at most j (drop c (e ∷ es))) (sym own)

-- the first label of a side
pub label_taken : (at : Plane) (n most : ℕ) (es : List RegionEdge) (d : RegionEdge) (count : ℕ) → 0 < length es → StepsBy (λ e. e.label) 0 es → All (IsWithin n most) es →
    count ≡ front_count (λ e. e.label) (get_or es 0 d).label es →
    side_regions at most n es ≡ label_regions at most (get_or es 0 d).label (take count es) ++ side_regions at most n (drop count es)
label_taken at n most [] d count some steps within own = absurd (omega (arith, some))
label_taken at n most (e ∷ es) d count some steps within own =
    let bounds : IsWithin n most e = All-head (IsWithin n most) e es within in
    first_label at most n e.label (e ∷ es) bounds.label (omega arith, steps.1)
    ∙ ap (λ c. label_regions at most e.label (take c (e ∷ es)) ++ side_regions at most n (drop c (e ∷ es))) (sym own)

-- the levels of the first label, and of the later ones
pub levels_taken : (es : List RegionEdge) (d : RegionEdge) (count : ℕ) → 0 < length es → StepsBy (λ e. e.label) 0 es → ((j : ℕ) → StepsBy (λ e. e.level) 0 (of_label j es)) →
    count ≡ front_count (λ e. e.label) (get_or es 0 d).label es → IsNonDecreasingBy (λ e. e.level) (take count es)
levels_taken [] d count some steps levels own = absurd (omega (arith, some))
levels_taken (e ∷ es) d count some steps levels own =
    subst (IsNonDecreasingBy (λ (f : RegionEdge). f.level)) (sym (ap (λ c. take c (e ∷ es)) own ∙ front_is (λ f. f.label) e.label (e ∷ es) (omega arith, steps.1)))
    (rise_steps (λ (f : RegionEdge). f.level) 0 (of_label e.label (e ∷ es)) (levels e.label))

pub levels_left : (es : List RegionEdge) (d : RegionEdge) (count : ℕ) → 0 < length es → StepsBy (λ e. e.label) 0 es → ((j : ℕ) → StepsBy (λ e. e.level) 0 (of_label j es)) →
    count ≡ front_count (λ e. e.label) (get_or es 0 d).label es → (j : ℕ) → StepsBy (λ e. e.level) 0 (of_label j (drop count es))
levels_left [] d count some steps levels own j = absurd (omega (arith, some))
levels_left (e ∷ es) d count some steps levels own j =
    let key : RegionEdge → ℕ = λ f. f.label in
    let rest = drop (front_count key e.label (e ∷ es)) (e ∷ es) in
    subst (λ c. StepsBy (λ (f : RegionEdge). f.level) 0 (of_label j (drop c (e ∷ es)))) (sym own)
    (elim (cases_lt e.label j) as (λ _. StepsBy (λ (f : RegionEdge). f.level) 0 (of_label j rest)) [
      | inl later ↦ subst (StepsBy (λ (f : RegionEdge). f.level) 0) (sym (rest_has key e.label j (e ∷ es) later)) (levels j)
      | inr past ↦
          subst (StepsBy (λ (f : RegionEdge). f.level) 0)
          (sym (none_below key j (suc e.label) rest (omega (arith, past)) (rest_steps key e.label (e ∷ es) (omega arith, steps.1)))) tt
    ])
