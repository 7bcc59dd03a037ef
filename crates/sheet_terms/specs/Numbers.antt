-- Net numbers and sheets beside the edges of a plane's chain, as seen from one side of the plane.
use Rattle.std.specs.Prelude.{ℕ, ◌-◌, min, ℤ, pos, negsuc, neg_ℤ, ◌+ℤ◌, ◌-ℤ◌, ◌*ℤ◌, List, [], ◌∷◌, not, ◌&&◌, if◌then◌else◌, int_lt, length, get_or, map}
use Rattle.std.specs.Ordering.{int_eq}
use Rattle.chain_terms.specs.Sums.{total, upto}
use Rattle.face_plane.specs.Planes.{Plane}
use Rattle.sheet_terms.specs.Chains.{ChainEdge}

-- the first of three numbers that is not 0
abbrev pub first_of_three : ℤ → ℤ → ℤ → ℤ
first_of_three x y z = if int_eq x (pos 0) then if int_eq y (pos 0) then z else y else x

-- the place beside an edge: from the middle of a and b a little towards b, and by much less to the left. Above 0 where it
-- lies left of the edge from p to q, below 0 where it lies right of it
abbrev pub beside : ℤ × ℤ → ℤ × ℤ → ℤ × ℤ → ℤ × ℤ → ℤ
beside a b p q =
    let du = b.0 -ℤ a.0 in
    let dv = b.1 -ℤ a.1 in
    let eu = q.0 -ℤ p.0 in
    let ev = q.1 -ℤ p.1 in
    first_of_three (eu *ℤ (a.1 +ℤ b.1 -ℤ pos 2 *ℤ p.1) -ℤ ev *ℤ (a.0 +ℤ b.0 -ℤ pos 2 *ℤ p.0)) (eu *ℤ dv -ℤ ev *ℤ du) (eu *ℤ du +ℤ ev *ℤ dv)

-- below 0 where p lies lower than that place, else above 0
abbrev pub height : ℤ × ℤ → ℤ × ℤ → ℤ × ℤ → ℤ
height a b p = first_of_three (pos 2 *ℤ p.1 -ℤ (a.1 +ℤ b.1)) (a.1 -ℤ b.1) (a.0 -ℤ b.0)

-- how often the edge from p to q crosses the ray from that place along u: 1 where it does so upward, -1 downward, else 0
abbrev pub crossing : ℤ × ℤ → ℤ × ℤ → ℤ × ℤ → ℤ × ℤ → ℤ
crossing a b p q =
    let from_below = int_lt (height a b p) (pos 0) in
    let to_below = int_lt (height a b q) (pos 0) in
    let side = beside a b p q in
    if from_below && not to_below && int_lt (pos 0) side then pos 1
    else if not from_below && to_below && int_lt side (pos 0) then neg_ℤ (pos 1)
    else pos 0

-- the net number of label j at the left of an edge: the winding number of its chain about the place beside the edge
abbrev pub left_number : Plane → List ChainEdge → (ℕ × ℕ) → ℕ → ℤ
left_number at cs e j = total (λ c. get_or c.counts j (pos 0) *ℤ crossing (at e.0) (at e.1) (at c.edge.0) (at c.edge.1)) cs

-- those of all labels
abbrev pub left_numbers : Plane → List (List ℕ) → List ChainEdge → (ℕ × ℕ) → List ℤ
left_numbers at labels cs e = map (left_number at cs e) (upto (length labels))

-- one list less the other, member by member
abbrev pub differences : List ℤ → List ℤ → List ℤ
differences [] ms = []
differences (n ∷ ns) [] = n ∷ ns
differences (n ∷ ns) (m ∷ ms) = (n -ℤ m) ∷ differences ns ms

-- a number, and 0 where it is below
abbrev pub above_zero : ℤ → ℕ
above_zero (pos n) = n
above_zero (negsuc n) = 0

-- of so many sheets as many as each number says, the first numbers first
abbrev pub dealt : ℕ → List ℤ → List ℕ
dealt rest [] = []
dealt rest (n ∷ ns) = let k = min rest (above_zero n) in k ∷ dealt (rest - k) ns

-- how many sheets of each label face the side from which the plane is seen: as many as the numbers' sum says, of the labels with
-- numbers above 0, the first ones first
abbrev pub sheets : List ℤ → List ℕ
sheets ns = dealt (above_zero (total (λ n. n) ns)) ns

-- an edge with the sheets of each label at its left and at its right
pub record Border : Type 0 where
  pub edge : ℕ × ℕ
  pub left : List ℕ
  pub right : List ℕ

-- the numbers at the right are those at the left less those of the chain
abbrev pub border : Plane → List (List ℕ) → List ChainEdge → ChainEdge → Border
border at labels cs c =
    let ns = left_numbers at labels cs c.edge in record { edge = c.edge; left = sheets ns; right = sheets (differences ns c.counts) }
