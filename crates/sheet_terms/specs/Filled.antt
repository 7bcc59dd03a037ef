-- Regions filled with triangles, and when this is taken.
use Rattle.std.specs.Prelude.{ℕ, ℤ, pos, List, [], ◌∷◌, ◌++◌, Bool, true, false, ◌&&◌, ◌||◌, ◌==◌, if◌then◌else◌, not, nat_lt, int_lt, length, map, filter}
use Rattle.std.specs.List.{flat_map, list_all, position_or_len}
use Rattle.std.specs.Ordering.{int_eq}
use Rattle.chain_terms.specs.Chains.{boundary}
use Rattle.chain_terms.specs.Paths.{round_edges}
use Rattle.chain_terms.specs.Sums.{upto}
use Rattle.face_plane.specs.Planes.{Plane, orient}
use Rattle.face_plane.specs.Rings.{vertex_after, vertex_at, vertex_before}
use Rattle.hole_joining.specs.Holes.{hole_start, is_hole, turned_to}
use Rattle.mesh_terms.specs.Meshes.{Triple}
use Rattle.mesh_terms.specs.OpenEdges.{is_lesser}
use Rattle.triangulate.specs.Fills.{fill_of}
use Rattle.sheet_terms.specs.Faces.{Face, drop_of, in_plane, rim_edges, seen}
use Rattle.sheet_terms.specs.Needless.{side_edges, thinned}
use Rattle.sheet_terms.specs.Places.{ordered}
use Rattle.sheet_terms.specs.Regions.{Region, Side}

-- no edge of the list is less, by its start, then by its end
abbrev pub is_least_edge : List (ℕ × ℕ) → (ℕ × ℕ) → Bool
is_least_edge es e = list_all (λ d. not (is_lesser d e)) es

-- the place at which a hole begins: its rightmost point, where the walk turns right, so that the way to the right lies in its cone
abbrev pub looks_right : Plane → List ℕ → ℕ → Bool
looks_right at walk i =
    (vertex_at walk i == hole_start at walk) && int_lt (orient at (vertex_before walk i) (vertex_at walk i) (vertex_after walk i)) (pos 0)

-- where a walk begins: a hole as above, another at its least place, by the place and the one after it
abbrev pub beginning : Plane → List ℕ → ℕ
beginning at walk =
    let es = round_edges walk in
    if is_hole at walk then position_or_len (looks_right at walk) (upto (length walk)) else position_or_len (is_least_edge es) es

abbrev pub begun : Plane → List ℕ → List ℕ
begun at walk = turned_to (beginning at walk) walk

-- member by member the first that is less decides; the shorter comes first
abbrev pub comes_before : List ℕ → List ℕ → Bool
comes_before vs [] = false
comes_before [] (w ∷ ws) = true
comes_before (v ∷ vs) (w ∷ ws) = nat_lt v w || ((v == w) && comes_before vs ws)

-- the walks of a region as they are filled: without needless places, each from its beginning, in order
abbrev pub loops : List (List ℤ) → Plane → List (ℕ × ℕ) → Region → List (List ℕ)
loops points at es r = ordered comes_before (map (λ walk. begun at (thinned points es walk)) r.walks)

-- the triangles of a region, all with one label, and how many of them were forced
pub record Filling : Type 0 where
  pub label : List ℕ
  pub triples : List Triple
  pub forced : ℕ

-- a region filled by the rule of operations; the edges of all walks tell which places are needless
abbrev pub filled : List (List ℤ) → List (ℕ × ℕ) → Side → Region → Filling
filled points es s r =
    let cut = fill_of (drop_of points s.face) points (loops points (seen points s.face) es r) in
    record { label = r.label; triples = cut.triples; forced = cut.forced }

-- all regions, side by side
abbrev pub fillings : List (List ℤ) → List (ℕ × ℕ) → List Side → List Filling
fillings points es ss = flat_map (λ s. map (filled points es s) s.regions) ss

-- two chains have one boundary
abbrev pub same_boundary : List (ℕ × ℕ) → List (ℕ × ℕ) → Bool
same_boundary es ms = list_all (λ e. int_eq (boundary es e.0 e.1) (boundary ms e.0 e.1)) (es ++ ms)

-- in the plane of s the walks have the boundary of the triangles that were there
abbrev pub keeps_boundary : List (List ℤ) → List Face → List Side → Face → Bool
keeps_boundary points fs ss s = same_boundary (flat_map side_edges (filter (λ t. in_plane points s t.face) ss)) (rim_edges (filter (in_plane points s) fs))
