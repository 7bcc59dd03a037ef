-- Outlines: loops of points in a plane, and on which axes a point counts as moved up.
use Rattle.std.specs.Prelude.{◌≡◌, ℕ, ◌<◌, ◌≤◌, ℤ, pos, ◌-ℤ◌, List, [], ◌∷◌, Bool, false, get_or, length, map, replicate, unwrap_or, int_lt}
use Rattle.std.specs.List.{All, concat, flat_map}
use Rattle.std.specs.List.Sorted.{IsPermutation}
use Rattle.chain_terms.specs.Cycles.{end_from}
use Rattle.chain_terms.specs.Odd.{backward}
use Rattle.chain_terms.specs.Paths.{round_edges}
use Rattle.chain_terms.specs.Sums.{upto}
use Rattle.mb_base.specs.declared.op.Op.{Op}
use Rattle.mb_base.specs.declared.op.Op.TheVariants.{Union, Intersect, Subtract}
use Rattle.mesh_terms.specs.Points.{coordinate_of}

-- points and loops of their numbers
pub record Outline : Type 0 where
  pub points : List (List ℤ)
  pub loops : List (List ℕ)

-- the edges, loop by loop: edge k starts at the k-th vertex of all loops
abbrev pub outline_edges : Outline → List (ℕ × ℕ)
outline_edges o = flat_map round_edges o.loops

-- the most vertices of an outline
abbrev pub most_vertices : ℕ
most_vertices = 1000000

-- every vertex is in exactly one loop, and each loop has three or more; z is 0
pub record IsOutline (o : Outline) : Type 0 where
  pub each : IsPermutation (upto (length o.points)) (concat o.loops)
  pub long : All (λ loop. 3 ≤ length loop) o.loops
  pub flat : All (λ p. coordinate_of p 2 ≡ pos 0) o.points
  pub few : length o.points ≤ most_vertices

-- an edge between the first n vertices
abbrev pub IsBetween : ℕ → (ℕ × ℕ) → Type 0
IsBetween n e = (e.0 < n) × (e.1 < n)

-- the vertex after v in its loop, and the one before
abbrev pub after : List (ℕ × ℕ) → ℕ → ℕ
after es v = unwrap_or (end_from v es) 0

abbrev pub before : List (ℕ × ℕ) → ℕ → ℕ
before es v = after (backward es) v

-- for a union up where the number is above 0, for the other two where it is below
abbrev pub is_up : Op → ℤ → Bool
is_up Union n = int_lt (pos 0) n
is_up Intersect n = int_lt n (pos 0)
is_up Subtract n = int_lt n (pos 0)

-- the marks of a vertex between a and b: by what is right of the way from a to b, and never up on z
abbrev pub marks_between : Op → List ℤ → List ℤ → List Bool
marks_between op a b = is_up op (coordinate_of b 1 -ℤ coordinate_of a 1) ∷ is_up op (coordinate_of a 0 -ℤ coordinate_of b 0) ∷ false ∷ []

-- the marks of all vertices of P
abbrev pub p_marks : Op → Outline → List (List Bool)
p_marks op o = let es = outline_edges o in map (λ v. marks_between op (get_or o.points (before es v) []) (get_or o.points (after es v) [])) (upto (length o.points))

-- and of Q: none is up
abbrev pub q_marks : Outline → List (List Bool)
q_marks o = replicate (length o.points) (false ∷ false ∷ false ∷ [])

-- a point of the plane at height 0
abbrev pub flat_at_zero : List ℤ → List ℤ
flat_at_zero p = coordinate_of p 0 ∷ coordinate_of p 1 ∷ pos 0 ∷ []

-- the outline of one loop through points of the plane, in order
abbrev pub ring_of : List (List ℤ) → Outline
ring_of points = record { points = map flat_at_zero points; loops = upto (length points) ∷ [] }
