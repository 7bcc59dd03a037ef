-- Edges by the heights of their middles, and the numbers at both sides of each.
use Rattle.std.specs.Prelude.{◌≡◌, ℕ, ◌<◌, ◌^◌, pos, List, [], get_or, length, map}
use Rattle.std.specs.List.{All}
use Rattle.chain_terms.specs.Sums.{upto}
use Rattle.face_plane.specs.Planes.{Plane}
use Rattle.plane_chains.specs.declared.nets.LabelNumber.{LabelNumber}
use Rattle.plane_sheets.specs.declared.seats.Seat.{Seat}
use Rattle.plane_sheets.specs.declared.side_numbers.SideNumbers.{SideNumbers}
use Rattle.plane_sheets.specs.declared.sided.Sided.{Sided}
use Rattle.plane_sheets.specs.Sides.{HasSums, left_sum_of, lefts, right_sum_of, rights}

-- the numbers of edges
abbrev pub seat_numbers : List Seat → List ℕ
seat_numbers order = map (λ s. s.number) order

-- what is read where there is none
abbrev pub no_seat : Seat
no_seat = record { height = pos 0; number = 0 }

-- the lists at some places
abbrev pub lists_at : List (List SideNumbers) → List ℕ → List (List SideNumbers)
lists_at ls seats = map (λ i. get_or ls i []) seats

-- and those of edges
abbrev pub table_of : Sided → List (List SideNumbers)
table_of s = lists_at s.lists.0 s.seats.items

-- no list is being made, and each edge has one that there is
pub record AreListed (s : Sided) : Type 0 where
  pub none : s.lists.1 ≡ []
  pub within : All (λ i. i < length s.lists.0) s.seats.items

-- the numbers at both sides of edge e
pub record IsSided (at : Plane) (es : List (ℕ × ℕ)) (nets : List (List LabelNumber)) (e : ℕ) (ss : List SideNumbers) : Type 0 where
  pub left : HasSums nets (left_sum_of at es nets e (upto (length es))) (2 ^ 62) (lefts ss)
  pub right : HasSums nets (right_sum_of at es nets e (upto (length es))) (2 ^ 62) (rights ss)

-- those of all edges
pub record AreSided (at : Plane) (es : List (ℕ × ℕ)) (nets : List (List LabelNumber)) (table : List (List SideNumbers)) : Type 0 where
  pub count : length table ≡ length es
  pub each : (e : ℕ) → e < length es → IsSided at es nets e (get_or table e [])
