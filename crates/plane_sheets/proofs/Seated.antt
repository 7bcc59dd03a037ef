-- Lists that are put for one edge after the other.
use Rattle.std.proofs.Common.{arith, ◌≡◌, ◌≢◌, ℕ, zero, suc, ◌+◌, ◌<◌, ◌≤◌, ◌^◌, ℤ, ◌-ℤ◌, List, [], ◌∷◌, ◌++◌, get_or, length, map, set, take, refl, sym, ap, subst, ◌∙◌, inl, inr}
use Rattle.std.specs.List.{All, Contains}
use Rattle.std.specs.List.Sorted.{IsPermutation}
use Rattle.chain_terms.specs.Sums.{upto}
use Rattle.chain_laws.proofs.Places.{get_or-up_from, length-up_from}
use Rattle.plane_sheets.specs.declared.seats.Seat.{Seat}
use Rattle.std.proofs.lemmas.Bool.{cases_eq}
use Rattle.std.proofs.lemmas.List.{get_or_append_left, get_or-set_other, get_or-set_same, length-append, length-map, map-set, take_all, take_more}
use Rattle.std.proofs.lemmas.List.Elements.{All-set, Contains-get_or, Contains-push_cases}
use Rattle.std.proofs.lemmas.List.Sorted.{All-permutation, Contains-permutation}
use Rattle.std.proofs.Math.Seq.{get_or-append_seam}
use Rattle.face_plane.specs.Planes.{Plane}
use Rattle.plane_chains.specs.declared.nets.LabelNumber.{LabelNumber}
use Rattle.plane_sheets.specs.declared.side_numbers.SideNumbers.{SideNumbers}
use Rattle.plane_sheets.specs.Found.{HasCrossing}
use Rattle.plane_sheets.specs.Sided.{IsSided, lists_at, seat_numbers}
use Rattle.plane_sheets.specs.Sides.{HasSums, left_sum_of, lefts, listed, right_sum_of, rights}
use Rattle.plane_sheets.proofs.Held.{sums_same}

-- lists that stand there stay where another is added
still_there : (ls : List (List SideNumbers)) (l : List SideNumbers) (seats : List ℕ) → All (λ i. i < length ls) seats → lists_at (ls ++ l ∷ []) seats ≡ lists_at ls seats
still_there ls l [] within = refl
still_there ls l (s ∷ seats) within =
    ap (λ x. x ∷ lists_at (ls ++ l ∷ []) seats) (get_or_append_left ls (l ∷ []) [] s (within 0 0 (omega arith)))
    ∙ ap (λ ys. get_or ls s [] ∷ ys) (still_there ls l seats (λ k d h. within (suc k) d (omega (arith, h))))

-- an edge gets the list that is added
pub put_table : (ls : List (List SideNumbers)) (l : List SideNumbers) (seats : List ℕ) (e : ℕ) → All (λ i. i < length ls) seats →
    lists_at (ls ++ l ∷ []) (set seats e (length ls)) ≡ set (lists_at ls seats) e l
put_table ls l seats e within =
    map-set (λ (i : ℕ). get_or (ls ++ l ∷ []) i []) seats e (length ls) ∙ ap (λ ys. set ys e (get_or (ls ++ l ∷ []) (length ls) [])) (still_there ls l seats within)
    ∙ ap (λ y. set (lists_at ls seats) e y) (get_or-append_seam ls l [] [])

pub put_within : (ls : List (List SideNumbers)) (l : List SideNumbers) (seats : List ℕ) (e : ℕ) → All (λ i. i < length ls) seats →
    All (λ i. i < length (ls ++ l ∷ [])) (set seats e (length ls))
put_within ls l seats e within =
    let long : length (ls ++ l ∷ []) ≡ length ls + 1 = omega (arith, length-append ls (l ∷ [])) in
    All-set (λ i. i < length (ls ++ l ∷ [])) seats e (length ls) (omega (arith, long)) (λ k d h. omega (arith, long, within k d h))

-- one edge more has its list
pub table_more : (P : ℕ → List SideNumbers → Type 0) (numbers : List ℕ) (i n : ℕ) (table : List (List SideNumbers)) (l : List SideNumbers) → i < length numbers →
    n ≡ get_or numbers i 0 → n < length table → P n l → ((e : ℕ) → Contains (take i numbers) e → P e (get_or table e [])) →
    (e : ℕ) → Contains (take (i + 1) numbers) e → P e (get_or (set table n l) e [])
table_more P numbers i n table l below is inside own before e there = elim (cases_eq e n) as (λ _. P e (get_or (set table n l) e [])) [
  | inl same ↦ subst (λ (m : ℕ). P m (get_or (set table n l) m [])) (sym same) (subst (P n) (sym (get_or-set_same table n l [] inside)) own)
  | inr other ↦
      let parts : Contains (take i numbers ++ get_or numbers i 0 ∷ []) e = subst (λ (xs : List ℕ). Contains xs e) (take_more numbers i 0 below) there in
      subst (P e) (sym (get_or-set_other table n e l [] other)) (elim (Contains-push_cases (take i numbers) (get_or numbers i 0) e parts) as (λ _. P e (get_or table e [])) [
        | inl early ↦ before e early
        | inr late ↦ absurd (other (sym late ∙ sym is))
      ])
]

-- the sums over edges that are near are those over all
pub near_sided : (at : Plane) (es : List (ℕ × ℕ)) (nets : List (List LabelNumber)) (e : ℕ) (near : List ℕ) (ss : List SideNumbers) → HasCrossing at es e near →
    HasSums nets (left_sum_of at es nets e near) (2 ^ 62) (lefts ss) → HasSums nets (right_sum_of at es nets e near) (2 ^ 62) (rights ss) → IsSided at es nets e ss
near_sided at es nets e near ss found left right = record {
  left = sums_same nets _ _ (2 ^ 62) (2 ^ 62) (lefts ss) left (λ k. found.sums (λ i. listed (get_or nets i []) k)) (omega arith);
  right = sums_same nets _ _ (2 ^ 62) (2 ^ 62) (rights ss) right (λ k. ap (λ (z : ℤ). z -ℤ listed (get_or nets e []) k) (found.sums (λ i. listed (get_or nets i []) k))) (omega arith);
}

-- the number of an edge in the order, and each edge is there
pub seat_below : (n : ℕ) (order : List Seat) (i : ℕ) → i < length order → IsPermutation (upto n) (seat_numbers order) → get_or (seat_numbers order) i 0 < n
seat_below n order i below moved =
    let first : All (λ k. k < n) (upto n) = λ k d h. let l : k < n = omega (arith, h, length-up_from 0 n) in omega (arith, l, get_or-up_from 0 n k d l) in
    All-permutation (λ k. k < n) (upto n) (seat_numbers order) moved first i 0 (omega (arith, below, length-map order (λ (s : Seat). s.number)))

pub seat_there : (n e i : ℕ) (order : List Seat) → e < n → length order ≤ i → IsPermutation (upto n) (seat_numbers order) → Contains (take i (seat_numbers order)) e
seat_there n e i order below end moved =
    let shift : 0 + e ≡ e = omega arith in
    let first : Contains (upto n) e = subst (Contains (upto n)) (get_or-up_from 0 n e 0 below ∙ shift) (Contains-get_or (upto n) e 0 (omega (arith, below, length-up_from 0 n))) in
    subst (λ (xs : List ℕ). Contains xs e) (sym (take_all i (seat_numbers order) (omega (arith, end, length-map order (λ (s : Seat). s.number)))))
    (Contains-permutation (upto n) (seat_numbers order) e moved first)
