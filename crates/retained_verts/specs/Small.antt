-- What bounds the counts.
use Rattle.std.specs.Prelude.{ℕ, ◌*◌, ◌≤◌, nat_abs, ℤ, List}
use Rattle.std.specs.List.{All}
use Rattle.mesh_terms.specs.Limits.{most_triangles}

-- winding numbers of at most a hundred million
abbrev pub AreSmallWindings : List ℤ → Type 0
AreSmallWindings ws = All (λ w. nat_abs w ≤ most_triangles) ws

-- the most hits of the edges of one side with the faces of another
abbrev pub most_hits : ℕ
most_hits = 3 * most_triangles * most_triangles
