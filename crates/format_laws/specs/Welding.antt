-- What the STL text of a mesh gives when it is read: points at one place welded, in the order of the corners.
use Rattle.std.specs.Prelude.{◌≡◌, ℕ, ◌≤◌, ℤ, List, [], ◌∷◌, ◌++◌, if◌then◌else◌, get_or, length, nat_lt, Ok}
use Rattle.std.specs.List.{position_or_len}
use Rattle.mesh_terms.specs.Limits.{Limits, IsLawful}
use Rattle.mesh_terms.specs.Labels.{no_labels}
use Rattle.mesh_terms.specs.Meshes.{Triple, soup_of}
use Rattle.format_laws.specs.Within.{IsWithin}
use Rattle.format_terms.specs.Stl.{repeats, same_point, stl}
use Rattle.format_terms.specs.StlWritten.{stl_text}

-- the number of a point among these, which is that of the first equal one or the next; and these with it, where it is new
abbrev pub placed : List (List ℤ) → List ℤ → ℕ × List (List ℤ)
placed points p =
    let v = position_or_len (same_point p) points in
    (v, if nat_lt v (length points) then points else points ++ p ∷ [])

-- welded points and triangles
pub record WeldedMesh : Type 0 where
  pub points : List (List ℤ)
  pub triples : List Triple

-- one triangle more of a mesh with these points: its corners in order, unless two of them are one point
abbrev pub with_corners : List (List ℤ) → WeldedMesh → Triple → WeldedMesh
with_corners ps m t =
    let a = placed m.points (get_or ps t.0 []) in
    let b = placed a.1 (get_or ps t.1 []) in
    let c = placed b.1 (get_or ps t.2 []) in
    let u : Triple = (a.0, b.0, c.0) in
    record { points = c.1; triples = if repeats u then m.triples else m.triples ++ u ∷ [] }

-- all triangles, one after the other
abbrev pub welded_onto : List (List ℤ) → WeldedMesh → List Triple → WeldedMesh
welded_onto ps m [] = m
welded_onto ps m (t ∷ ts) = welded_onto ps (with_corners ps m t) ts

abbrev pub welded_mesh : List (List ℤ) → List Triple → WeldedMesh
welded_mesh ps ts = welded_onto ps (record { points = []; triples = [] }) ts

-- under lawful limits the STL text of a mesh within them, whatever the digits, reads as the welded mesh with empty labels, without the points that only dropped triangles used
abbrev pub MeshesReadWelded : Type 0
MeshesReadWelded =
    (k : ℕ) → k ≤ 6 → (limits : Limits) → IsLawful limits → (points : List (List ℤ)) (ts : List Triple) → IsWithin limits points ts →
    let m = welded_mesh points ts in stl k limits (stl_text k points ts) ≡ Ok (soup_of m.points m.triples (no_labels m.triples))
