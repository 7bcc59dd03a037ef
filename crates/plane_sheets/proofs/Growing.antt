-- Runs and sums, one member further.
use Rattle.std.proofs.Common.{arith, ◌≡◌, ℕ, ◌+◌, ◌-◌, ◌<◌, ◌≤◌, ℤ, ◌+ℤ◌, List, [], ◌∷◌, ◌++◌, drop, get_or, length, map, take, unsigned_abs, ap, ◌∙◌}
use Rattle.std.proofs.lemmas.List.{map-append, take-append-drop, take_more}
use Rattle.std.proofs.lemmas.List.Sums.{sum_by-append, sum_by-cons}
use Rattle.chain_terms.specs.Sums.{up_from}
use Rattle.chain_laws.specs.Sums.{total_push}
use Rattle.chain_laws.proofs.Places.{up_from-append}
use Rattle.plane_sheets.specs.declared.borders.RegionEdge.{RegionEdge}
use Rattle.plane_sheets.specs.declared.side_numbers.SideNumbers.{SideNumbers}
use Rattle.plane_sheets.specs.Dealt.{run}
use Rattle.plane_sheets.specs.Sides.{all_held, no_sides, size_held}
use Rattle.plane_sheets.proofs.Putting.{sided}

-- a run one level further
pub run_more : (l low level : ℕ) (e : List ℕ) → low ≤ level → run l low (level + 1) e ≡ run l low level e ++ (record { label = l; level = level + 1; ends = e }) ∷ []
run_more l low level e le =
    let edge : ℕ → RegionEdge = λ k. record { label = l; level = k + 1; ends = e } in
    let count : level + 1 - low ≡ (level - low) + 1 = omega arith in
    let last : low + (level - low) ≡ level = omega arith in
    ap (λ n. map edge (up_from low n)) count ∙ ap (map edge) (up_from-append low (level - low) 1) ∙ map-append edge (up_from low (level - low)) (up_from (low + (level - low)) 1)
    ∙ ap (λ k. run l low level e ++ edge k ∷ []) last

-- a run up to no higher level has none
pub run_none : (l low high : ℕ) (e : List ℕ) → high ≤ low → run l low high e ≡ []
run_none l low high e le = let none : high - low ≡ 0 = omega arith in ap (λ n. map (λ k. record { label = l; level = k + 1; ends = e }) (up_from low n)) none

-- one label more
pub sided_more : (f : SideNumbers → ℤ) (ss : List SideNumbers) (i : ℕ) → i < length ss →
    sided f (take (i + 1) ss) ≡ sided f (take i ss) ++ ((get_or ss i no_sides).label, f (get_or ss i no_sides)) ∷ []
sided_more f ss i below =
    ap (sided f) (take_more ss i no_sides below) ∙ map-append (λ (s : SideNumbers). (s.label, f s)) (take i ss) (get_or ss i no_sides ∷ [])

-- the sum of the numbers so far, with the next
pub held_next : (f : SideNumbers → ℤ) (ss : List SideNumbers) (i : ℕ) → i < length ss →
    all_held (sided f (take (i + 1) ss)) ≡ all_held (sided f (take i ss)) +ℤ f (get_or ss i no_sides)
held_next f ss i below =
    ap all_held (sided_more f ss i below) ∙ total_push (λ (p : ℕ × ℤ). p.1) (sided f (take i ss)) ((get_or ss i no_sides).label, f (get_or ss i no_sides))

-- and their sizes, which are no more than all
pub held_size : (f : SideNumbers → ℤ) (ss : List SideNumbers) (i : ℕ) → i < length ss →
    size_held (sided f (take (i + 1) ss)) ≡ size_held (sided f (take i ss)) + unsigned_abs (f (get_or ss i no_sides))
held_size f ss i below =
    let size : ℕ × ℤ → ℕ = λ p. unsigned_abs p.1 in
    let last : ℕ × ℤ = ((get_or ss i no_sides).label, f (get_or ss i no_sides)) in
    omega (arith, ap size_held (sided_more f ss i below), sum_by-append size (sided f (take i ss)) (last ∷ []), sum_by-cons size last [])

pub held_most : (f : SideNumbers → ℤ) (ss : List SideNumbers) (i : ℕ) → size_held (sided f (take i ss)) ≤ size_held (sided f ss)
held_most f ss i =
    let size : ℕ × ℤ → ℕ = λ p. unsigned_abs p.1 in
    omega (
      arith,
      ap (λ l. size_held (sided f l)) (take-append-drop i ss),
      ap size_held (map-append (λ (s : SideNumbers). (s.label, f s)) (take i ss) (drop i ss)),
      sum_by-append size (sided f (take i ss)) (sided f (drop i ss)),
    )
