-- Twins round an edge: half-edges in the order of their triangles' angles, paired so that each pair bounds solid.
use Rattle.std.specs.Prelude.{ℕ, ◌+◌, ℤ, pos, List, ◌++◌, Bool, not, ◌&&◌, ◌||◌, ◌==◌, if◌then◌else◌, nat_lt, int_lt, length, get_or, map, filter, take, drop, reverse, count_by}
use Rattle.std.specs.List.{position_or_len}
use Rattle.std.specs.Ordering.{int_eq}
use Rattle.chain_terms.specs.Chains.{all_edges, is_edge}
use Rattle.chain_terms.specs.Ranks.{start, finish}
use Rattle.chain_terms.specs.Sums.{upto}
use Rattle.face_plane.specs.Planes.{point_at}
use Rattle.mesh_terms.specs.Halves.{prev_half}
use Rattle.mesh_terms.specs.Meshes.{Triple}
use Rattle.mesh_terms.specs.Points.{coordinate_of, cross_product}
use Rattle.sheet_terms.specs.Cuts.{scalar, way}
use Rattle.sheet_terms.specs.Places.{ordered}

-- the half-edges between x and y, either way
abbrev pub between : List (ℕ × ℕ) → ℕ → ℕ → List ℕ
between es x y = filter (λ h. let e = get_or es h (0, 0) in is_edge e x y || is_edge e y x) (upto (length es))

-- the third point of the triangle of a half-edge
abbrev pub third_point : List (List ℤ) → List (ℕ × ℕ) → ℕ → List ℤ
third_point points es h = point_at points (start es (prev_half h))

-- the first coordinate other than 0 is above
abbrev pub is_up : List ℤ → Bool
is_up n =
    int_lt (pos 0) (coordinate_of n 0)
    || (int_eq (coordinate_of n 0) (pos 0) && (int_lt (pos 0) (coordinate_of n 1) || (int_eq (coordinate_of n 1) (pos 0) && int_lt (pos 0) (coordinate_of n 2))))

-- both or neither
abbrev pub are_same : Bool → Bool → Bool
are_same a b = if a then b else not b

-- how far r is turned from f about the axis from p to q: not at all 0, less than half round 1, half round 2, more 3
abbrev pub turned_by : List ℤ → List ℤ → List ℤ → List ℤ → ℕ
turned_by p q f r =
    let n = cross_product p q f in
    let side = scalar n (way p r) in
    if int_lt (pos 0) side then 1 else if int_lt side (pos 0) then 3 else if are_same (is_up (cross_product p q r)) (is_up n) then 0 else 2

-- from half-edge f on about the axis from x to y, g comes before h: by the angle, then by the number
abbrev pub turns_before : List (List ℤ) → List (ℕ × ℕ) → ℕ → ℕ → ℕ → ℕ → ℕ → Bool
turns_before points es x y f g h =
    let p = point_at points x in
    let q = point_at points y in
    let at = third_point points es in
    let i = turned_by p q (at f) (at g) in
    let j = turned_by p q (at f) (at h) in
    let side = scalar (cross_product p q (at g)) (way p (at h)) in
    nat_lt i j || ((i == j) && (int_lt (pos 0) side || (int_eq side (pos 0) && nat_lt g h)))

-- the half-edges between x and y in the order of their angles about the axis from x to y, from the first one on
abbrev pub round_edge : List (List ℤ) → List (ℕ × ℕ) → ℕ → ℕ → List ℕ
round_edge points es x y = let hs = between es x y in ordered (turns_before points es x y (get_or hs 0 0)) hs

-- what follows a member of a circle, up to it
abbrev pub rest_from : ℕ → List ℕ → List ℕ
rest_from h hs = let i = position_or_len (λ g. g == h) hs in drop (i + 1) hs ++ take i hs

-- of a list the first member behind which more have closed than opened
abbrev pub closing : (ℕ → Bool) → List ℕ → ℕ
closing opens hs =
    get_or hs
    (position_or_len (λ i. let ahead = take (i + 1) hs in nat_lt (count_by opens ahead) (count_by (λ h. not (opens h)) ahead)) (upto (length hs))) 0

-- the twin of a half-edge between x and y, where x is less: those from y to x open and those from x to y close, as brackets do
abbrev pub bracket_twin : List (List ℤ) → List (ℕ × ℕ) → ℕ → ℕ → ℕ → ℕ
bracket_twin points es x y h =
    let rest = rest_from h (round_edge points es x y) in
    let opens : ℕ → Bool = λ g. start es g == y in if opens h then closing opens rest else closing (λ g. not (opens g)) (reverse rest)

-- the twin of each half-edge
abbrev pub twin_by_angle : List (List ℤ) → List (ℕ × ℕ) → ℕ → ℕ
twin_by_angle points es h =
    let a = start es h in
    let b = finish es h in if nat_lt a b then bracket_twin points es a b h else bracket_twin points es b a h

abbrev pub twins_by_angle : List (List ℤ) → List Triple → List ℕ
twins_by_angle points ts = let es = all_edges ts in map (twin_by_angle points es) (upto (length es))
