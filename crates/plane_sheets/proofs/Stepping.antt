-- A map as edges: each number starts one.
use Rattle.std.proofs.Common.{arith, ◌≡◌, ℕ, zero, suc, ◌+◌, ◌<◌, ◌≤◌, ◌==◌, List, [], ◌∷◌, Bool, true, false, get_or, length, map, refl, sym, ap, ◌∙◌, inl, inr, None}
use Rattle.std.specs.List.{count_by}
use Rattle.std.proofs.lemmas.Bool.{both_ways, cases_lt}
use Rattle.std.proofs.lemmas.List.{get_or-map, length-map}
use Rattle.chain_terms.specs.Chains.{one_if}
use Rattle.chain_terms.specs.Cycles.{end_from, out}
use Rattle.chain_terms.specs.Ranks.{start, finish}
use Rattle.chain_terms.specs.Sums.{up_from, upto}
use Rattle.chain_laws.specs.Counts.{count_by-cons, count_by-map, one_if-false}
use Rattle.chain_laws.proofs.Places.{get_or-up_from, length-up_from}
use Rattle.face_loops.specs.Trails.{GoesOn, left}
use Rattle.face_loops.proofs.Marks.{goes_on, marked_alone, none_goes_on}
use Rattle.plane_sheets.specs.Rounds.{steps_of}
use Rattle.std.proofs.lemmas.Bool.{cases_eq, ne_eqb}

-- as many as numbers
pub length-steps : (next : List ℕ) → length (steps_of next) ≡ length next
length-steps next = length-map (upto (length next)) (λ i. (i, get_or next i 0)) ∙ length-up_from 0 (length next)

-- number i starts edge i
step_at : (next : List ℕ) (i : ℕ) → i < length next → get_or (steps_of next) i (0, 0) ≡ (i, get_or next i 0)
step_at next i below =
    let inside : i < length (upto (length next)) = omega (arith, below, length-up_from 0 (length next)) in
    let here : get_or (upto (length next)) i 0 ≡ i = omega (arith, get_or-up_from 0 (length next) i 0 below) in
    get_or-map (λ j. (j, get_or next j 0)) (upto (length next)) i 0 (0, 0) inside ∙ ap (λ j. (j, get_or next j 0)) here

pub start_step : (next : List ℕ) (i : ℕ) → i < length next → start (steps_of next) i ≡ i
start_step next i below = ap (λ (e : ℕ × ℕ). e.0) (step_at next i below)

pub finish_step : (next : List ℕ) (i : ℕ) → i < length next → finish (steps_of next) i ≡ get_or next i 0
finish_step next i below = ap (λ (e : ℕ × ℕ). e.1) (step_at next i below)

-- a number stands once among those from k on
count_none : (v k n : ℕ) → v < k → count_by (λ i. i == v) (up_from k n) ≡ 0
count_none v k zero h = refl
count_none v k (suc n) h =
    omega (arith, count_by-cons (λ i. i == v) k (up_from (suc k) n), one_if-false (k == v) (ne_eqb k v (λ e. omega (arith, e, h))), count_none v (suc k) n (omega (arith, h)))

count_once : (v k n : ℕ) → count_by (λ i. i == v) (up_from k n) ≤ 1
count_once v k zero = omega arith
count_once v k (suc n) = elim (cases_eq k v) as (λ _. count_by (λ i. i == v) (up_from k (suc n)) ≤ 1) [
  | inl e ↦ omega (arith, count_by-cons (λ i. i == v) k (up_from (suc k) n), at_most_one (k == v), count_none v (suc k) n (omega (arith, e)))
  | inr d ↦ omega (arith, count_by-cons (λ i. i == v) k (up_from (suc k) n), one_if-false (k == v) (ne_eqb k v d), count_once v (suc k) n)
]
  where
    at_most_one : (b : Bool) → one_if b ≤ 1
    at_most_one true = omega arith
    at_most_one false = omega arith

pub step_once : (next : List ℕ) (v : ℕ) → out (steps_of next) v ≤ 1
step_once next v =
    omega (arith, count_by-map (λ (e : ℕ × ℕ). e.0 == v) (λ i. (i, get_or next i 0)) (upto (length next)), count_once v 0 (length next))

-- a number without a mark goes on
inside_marks : (used : List Bool) (v : ℕ) → get_or used v true ≡ false → v < length used
inside_marks used v h = elim (cases_lt v (length used)) as (λ _. v < length used) [
  | inl l ↦ l
  | inr past ↦ absurd (both_ways (get_or used v true) h (beyond used v past))
]
  where
    beyond : (used : List Bool) (v : ℕ) → length used ≤ v → get_or used v true ≡ true
    beyond [] v h = refl
    beyond (u ∷ used) zero h = absurd (omega (arith, h))
    beyond (u ∷ used) (suc v) h = beyond used v (omega (arith, h))

default_mark : (used : List Bool) (v : ℕ) → v < length used → get_or used v true ≡ get_or used v false
default_mark [] v h = absurd (omega (arith, h))
default_mark (u ∷ used) zero h = refl
default_mark (u ∷ used) (suc v) h = default_mark used v (omega (arith, h))

pub free_inside : (next : List ℕ) (used : List Bool) (v : ℕ) → length used ≡ length next → get_or used v true ≡ false → v < length next
free_inside next used v full free = omega (arith, inside_marks used v free, full)

pub free_goes : (next : List ℕ) (used : List Bool) (v : ℕ) → length used ≡ length next → get_or used v true ≡ false → GoesOn (steps_of next) used v v
free_goes next used v full free =
    let within = free_inside next used v full free in
    goes_on (steps_of next) used v v (omega (arith, full, length-steps next)) (omega (arith, within, length-steps next))
    (sym (default_mark used v (omega (arith, within, full))) ∙ free) (start_step next v within) (step_once next v)

-- one with a mark, or none, doesn't
pub none_goes : (next : List ℕ) (used : List Bool) (v : ℕ) → length used ≡ length next → get_or used v true ≡ true → end_from v (left (steps_of next) used) ≡ None
none_goes next used v full taken = elim (cases_lt v (length next)) as (λ _. end_from v (left (steps_of next) used) ≡ None) [
  | inl within ↦ marked_alone (steps_of next) used v v (omega (arith, within, length-steps next)) (sym (default_mark used v (omega (arith, within, full))) ∙ taken)
      (start_step next v within) (step_once next v)
  | inr past ↦ none_goes_on (steps_of next) used v (λ k below here.
      let inside : k < length next = omega (arith, below, length-steps next) in absurd (omega (arith, past, inside, start_step next k inside, here)))
]

-- a number with its value
abbrev step_of : (ℕ → ℕ) → ℕ → ℕ × ℕ
step_of f i = (i, f i)

-- steps of values that are listed
pub steps_listed : (f : ℕ → ℕ) (n : ℕ) → steps_of (map f (upto n)) ≡ map (step_of f) (upto n)
steps_listed f n =
    let count : length (map f (upto n)) ≡ n = length-map (upto n) f ∙ length-up_from 0 n in
    ap (λ m. map (step_of (λ i. get_or (map f (upto n)) i 0)) (upto m)) count ∙ same f (λ i. get_or (map f (upto n)) i 0) 0 n (λ i l h. value f n i (omega (arith, h)))
  where
    value : (f : ℕ → ℕ) (n i : ℕ) → i < n → get_or (map f (upto n)) i 0 ≡ f i
    value f n i h =
        let inside : i < length (upto n) = omega (arith, h, length-up_from 0 n) in
        let here : get_or (upto n) i 0 ≡ i = omega (arith, get_or-up_from 0 n i 0 h) in
        get_or-map f (upto n) i 0 0 inside ∙ ap f here

    same : (f g : ℕ → ℕ) (k n : ℕ) → ((i : ℕ) → k ≤ i → i < k + n → g i ≡ f i) → map (step_of g) (up_from k n) ≡ map (step_of f) (up_from k n)
    same f g k zero h = refl
    same f g k (suc n) h =
        ap (λ v. step_of (λ i. v) k ∷ map (step_of g) (up_from (suc k) n)) (h k (omega arith) (omega arith))
        ∙ ap (λ l. step_of f k ∷ l) (same f g (suc k) n (λ i a b. h i (omega (arith, a)) (omega (arith, b))))
