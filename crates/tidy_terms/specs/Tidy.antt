-- Tidying: the least half-edge that can be collapsed is collapsed, until there is none.
use Rattle.std.specs.Prelude.{ℕ, zero, suc, ◌*◌, ℤ, List, if◌then◌else◌, nat_lt, length}
use Rattle.mesh_terms.specs.Meshes.{Mesh, Triple, soup_of}
use Rattle.tidy_terms.specs.Collapse.{collapsed_at, labels_left_at}
use Rattle.tidy_terms.specs.Collapsible.{least_collapsible}

-- triangles, the label of each, and how many collapses led to them
pub record Tidied : Type 0 where
  pub triples : List Triple
  pub labels : List (List ℕ)
  pub collapses : ℕ

-- one collapse before
abbrev pub one_more : Tidied → Tidied
one_more t = record { triples = t.triples; labels = t.labels; collapses = suc t.collapses }

-- within n collapses: the least half-edge that can be collapsed, until there is none
abbrev pub tidied_within : ℕ → List (List ℤ) → List Triple → List (List ℕ) → Tidied
tidied_within zero points ts labels = record { triples = ts; labels = labels; collapses = 0 }
tidied_within (suc n) points ts labels =
    let h = least_collapsible points ts in
    if nat_lt h (3 * length ts) then one_more (tidied_within n points (collapsed_at ts h) (labels_left_at ts h labels)) else record { triples = ts; labels = labels; collapses = 0 }

-- each takes triangles away, so that as many as there are triangles are enough
abbrev pub tidied : List (List ℤ) → List Triple → List (List ℕ) → Tidied
tidied points ts labels = tidied_within (length ts) points ts labels

-- the tidied mesh: points that no triangle uses any more are dropped; the others keep their order, and the triangles that stay
-- theirs and their labels
abbrev pub tidy_mesh : Mesh → Mesh
tidy_mesh m =
    let t = tidied m.points m.triples m.labels in
    let s = soup_of m.points t.triples t.labels in record { points = s.points; triples = s.triples; labels = s.labels }
