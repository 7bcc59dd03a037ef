-- Regions of grouped edges, group by group.
use Rattle.std.proofs.Common.{arith, ◌≡◌, ℕ, zero, suc, ◌+◌, ◌<◌, ◌≤◌, ◌==◌, List, [], ◌∷◌, ◌++◌, cond, drop, filter, map, take, refl, sym, ap, subst, ◌∙◌, inl, inr}
use Rattle.std.specs.List.{flat_map}
use Rattle.std.proofs.lemmas.Bool.{cases_eq, eq-eqb, ne_eqb}
use Rattle.chain_terms.specs.Sums.{up_from}
use Rattle.face_plane.specs.Planes.{Plane}
use Rattle.plane_chains.specs.EdgeBoxes.{pair_of}
use Rattle.sheet_terms.specs.Walks.{walks}
use Rattle.plane_sheets.specs.declared.borders.RegionEdge.{RegionEdge}
use Rattle.plane_sheets.specs.Found.{front_count, label_regions, of_label, of_level, side_regions, some_region}
use Rattle.plane_sheets.proofs.Ties.{StepsBy, none_below, steps_lower}

-- those of a key
abbrev pub keyed : (RegionEdge → ℕ) → ℕ → List RegionEdge → List RegionEdge
keyed key v es = filter (λ e. key e == v) es

-- at the front of edges whose keys don't fall stand those with the first key
keyed_same : (key : RegionEdge → ℕ) (v : ℕ) (e : RegionEdge) (es : List RegionEdge) → key e ≡ v → keyed key v (e ∷ es) ≡ e ∷ keyed key v es
keyed_same key v e es h = ap (λ b. cond b (e ∷ keyed key v es) (keyed key v es)) (eq-eqb (key e) v h)

keyed_other : (key : RegionEdge → ℕ) (v : ℕ) (e : RegionEdge) (es : List RegionEdge) → (key e ≡ v → ⊥) → keyed key v (e ∷ es) ≡ keyed key v es
keyed_other key v e es h = ap (λ b. cond b (e ∷ keyed key v es) (keyed key v es)) (ne_eqb (key e) v h)

pub front_is : (key : RegionEdge → ℕ) (v : ℕ) (es : List RegionEdge) → StepsBy key v es → take (front_count key v es) es ≡ keyed key v es
front_is key v [] h = refl
front_is key v (e ∷ es) h = elim (cases_eq (key e) v) as (λ _. take (front_count key v (e ∷ es)) (e ∷ es) ≡ keyed key v (e ∷ es)) [
  | inl same ↦
      ap (λ b. take (cond b (suc (front_count key v es)) 0) (e ∷ es)) (eq-eqb (key e) v same)
      ∙ ap (λ l. e ∷ l) (front_is key v es (steps_lower key v (key e) es (omega (arith, same)) h.1)) ∙ sym (keyed_same key v e es same)
  | inr other ↦
      let low = h.0 in
      ap (λ b. take (cond b (suc (front_count key v es)) 0) (e ∷ es)) (ne_eqb (key e) v other)
      ∙ sym (keyed_other key v e es other ∙ none_below key v (key e) es (omega (arith, low, other)) h.1)
]

pub rest_steps : (key : RegionEdge → ℕ) (v : ℕ) (es : List RegionEdge) → StepsBy key v es → StepsBy key (suc v) (drop (front_count key v es) es)
rest_steps key v [] h = tt
rest_steps key v (e ∷ es) h = elim (cases_eq (key e) v) as (λ _. StepsBy key (suc v) (drop (front_count key v (e ∷ es)) (e ∷ es))) [
  | inl same ↦
      subst (λ b. StepsBy key (suc v) (drop (cond b (suc (front_count key v es)) 0) (e ∷ es))) (sym (eq-eqb (key e) v same))
      (rest_steps key v es (steps_lower key v (key e) es (omega (arith, same)) h.1))
  | inr other ↦
      let low = h.0 in
      subst (λ b. StepsBy key (suc v) (drop (cond b (suc (front_count key v es)) 0) (e ∷ es))) (sym (ne_eqb (key e) v other)) (omega (arith, low, other), h.1)
]

pub rest_has : (key : RegionEdge → ℕ) (v w : ℕ) (es : List RegionEdge) → v < w → keyed key w (drop (front_count key v es) es) ≡ keyed key w es
rest_has key v w [] below = refl
rest_has key v w (e ∷ es) below = elim (cases_eq (key e) v) as (λ _. keyed key w (drop (front_count key v (e ∷ es)) (e ∷ es)) ≡ keyed key w (e ∷ es)) [
  | inl same ↦
      ap (λ b. keyed key w (drop (cond b (suc (front_count key v es)) 0) (e ∷ es))) (eq-eqb (key e) v same) ∙ rest_has key v w es below
      ∙ sym (keyed_other key w e es (λ q. omega (arith, q, same, below)))
  | inr other ↦ ap (λ b. keyed key w (drop (cond b (suc (front_count key v es)) 0) (e ∷ es))) (ne_eqb (key e) v other)
]

-- lists made for numbers, where those before l make none, and what l makes is taken away
pub one_first : {X : Type 0} (f g : ℕ → List X) (l k n : ℕ) → k ≤ l → l < k + n → ((i : ℕ) → i < l → f i ≡ []) → ((i : ℕ) → i ≤ l → g i ≡ []) → ((i : ℕ) → l < i → f i ≡ g i) →
    flat_map f (up_from k n) ≡ f l ++ flat_map g (up_from k n)
one_first f g l k zero low high none gone later = absurd (omega (arith, low, high))
one_first {X} f g l k (suc n) low high none gone later = elim (cases_eq k l) as (λ _. flat_map f (up_from k (suc n)) ≡ f l ++ flat_map g (up_from k (suc n))) [
  | inl same ↦
      ap (λ i. f i ++ flat_map f (up_from (suc k) n)) same
      ∙ ap (λ r. f l ++ r) (rest_same f g (suc k) n (λ i b. later i (omega (arith, b, same))) ∙ sym (ap (λ r. r ++ flat_map g (up_from (suc k) n)) (gone k (omega (arith, same)))))
  | inr other ↦
      ap (λ r. r ++ flat_map f (up_from (suc k) n)) (none k (omega (arith, low, other)))
      ∙ one_first f g l (suc k) n (omega (arith, low, other)) (omega (arith, high)) none gone later
      ∙ ap (λ r. f l ++ r) (sym (ap (λ r. r ++ flat_map g (up_from (suc k) n)) (gone k (omega (arith, low)))))
]
  where
    rest_same : {X : Type 0} (f g : ℕ → List X) (k n : ℕ) → ((i : ℕ) → k ≤ i → f i ≡ g i) → flat_map f (up_from k n) ≡ flat_map g (up_from k n)
    rest_same f g k zero h = refl
    rest_same f g k (suc n) h =
        ap (λ r. r ++ flat_map f (up_from (suc k) n)) (h k (omega arith)) ∙ ap (λ r. g k ++ r) (rest_same f g (suc k) n (λ i b. h i (omega (arith, b))))

-- no edges make no region
no_region : (at : Plane) (j : ℕ) → some_region j (walks at []) ≡ []
no_region at j = refl

-- the region of the first level, and those of the later
pub first_level : (at : Plane) (most j v : ℕ) (es : List RegionEdge) → 0 < v → v ≤ most → StepsBy (λ e. e.level) v es →
    label_regions at most j es ≡ some_region j (walks at (map (λ e. pair_of e.ends) (take (front_count (λ e. e.level) v es) es)))
    ++ label_regions at most j (drop (front_count (λ e. e.level) v es) es)
first_level at most j v es low high steps =
    let key : RegionEdge → ℕ = λ e. e.level in
    let made : List RegionEdge → List (ℕ × List (List ℕ)) = λ own. some_region j (walks at (map (λ (e : RegionEdge). pair_of e.ends) own)) in
    let rest = drop (front_count key v es) es in
    one_first (λ k. made (keyed key k es)) (λ k. made (keyed key k rest)) v 1 most (omega (arith, low)) (omega (arith, high))
    (λ i l. ap made (none_below key i v es l steps) ∙ no_region at j)
    (λ i l. ap made (none_below key i (suc v) rest (omega (arith, l)) (rest_steps key v es steps)) ∙ no_region at j)
    (λ i l. ap made (sym (rest_has key v i es l)))
    ∙ ap (λ own. made own ++ label_regions at most j rest) (sym (front_is key v es steps))

-- no edges make no regions
pub no_regions : (at : Plane) (j k n : ℕ) → flat_map (λ i. some_region j (walks at (map (λ (e : RegionEdge). pair_of e.ends) (of_level i [])))) (up_from k n) ≡ []
no_regions at j k zero = refl
no_regions at j k (suc n) = no_regions at j (suc k) n

-- the regions of the first label, and those of the later
pub first_label : (at : Plane) (most n v : ℕ) (es : List RegionEdge) → v < n → StepsBy (λ e. e.label) v es →
    side_regions at most n es ≡ label_regions at most v (take (front_count (λ e. e.label) v es) es) ++ side_regions at most n (drop (front_count (λ e. e.label) v es) es)
first_label at most n v es high steps =
    let key : RegionEdge → ℕ = λ e. e.label in
    let made : ℕ → List RegionEdge → List (ℕ × List (List ℕ)) = λ j own. label_regions at most j own in
    let rest = drop (front_count key v es) es in
    one_first (λ j. made j (keyed key j es)) (λ j. made j (keyed key j rest)) v 0 n (omega arith) (omega (arith, high))
    (λ i l. ap (made i) (none_below key i v es l steps) ∙ no_regions at i 1 most)
    (λ i l. ap (made i) (none_below key i (suc v) rest (omega (arith, l)) (rest_steps key v es steps)) ∙ no_regions at i 1 most)
    (λ i l. ap (made i) (sym (rest_has key v i es l)))
    ∙ ap (λ own. made v own ++ side_regions at most n rest) (sym (front_is key v es steps))

-- a side without edges has none
pub no_sides : (at : Plane) (most k n : ℕ) → flat_map (λ j. label_regions at most j (of_label j [])) (up_from k n) ≡ []
no_sides at most k zero = refl
no_sides at most k (suc n) = ap (λ r. r ++ flat_map (λ j. label_regions at most j (of_label j [])) (up_from (suc k) n)) (no_regions at k 1 most) ∙ no_sides at most (suc k) n

-- a region of some edges has walks
pub region_there : (at : Plane) (j : ℕ) (e : RegionEdge) (es : List RegionEdge) →
    some_region j (walks at (map (λ e. pair_of e.ends) (e ∷ es))) ≡ (j, walks at (map (λ e. pair_of e.ends) (e ∷ es))) ∷ []
region_there at j e es = refl
