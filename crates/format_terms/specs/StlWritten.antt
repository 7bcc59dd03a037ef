-- The text of a mesh in ASCII STL, and the suffix of its name.
use Rattle.std.specs.Prelude.{ℕ, ℤ, List, [], ◌++◌, Bool, codes, get_or}
use Rattle.std.specs.List.{flat_map}
use Rattle.text_terms.specs.Names.{has_suffix}
use Rattle.text_terms.specs.Written.{line_of, three_numbers}
use Rattle.mesh_terms.specs.Meshes.{Triple}

-- vertex X Y Z
abbrev pub corner_text : ℕ → List ℤ → List ℕ
corner_text k p = line_of (codes "vertex " ++ three_numbers k p)

-- the corner at point v of these points
abbrev pub corner_line : ℕ → List (List ℤ) → ℕ → List ℕ
corner_line k points v = corner_text k (get_or points v [])

abbrev pub facet_text : ℕ → List (List ℤ) → Triple → List ℕ
facet_text k points t =
    line_of (codes "facet normal 0 0 0") ++ line_of (codes "outer loop")
    ++ corner_line k points t.0 ++ corner_line k points t.1 ++ corner_line k points t.2
    ++ line_of (codes "endloop") ++ line_of (codes "endfacet")

abbrev pub stl_text : ℕ → List (List ℤ) → List Triple → List ℕ
stl_text k points ts = line_of (codes "solid manifold") ++ flat_map (facet_text k points) ts ++ line_of (codes "endsolid manifold")

abbrev pub is_stl : List ℕ → Bool
is_stl name = has_suffix (codes ".stl") name
