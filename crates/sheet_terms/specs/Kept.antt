-- Triangles that are kept: edges of their rims cross, so that no net number is the same all along them.
use Rattle.std.specs.Prelude.{ℕ, zero, suc, List, Bool, not, ◌&&◌, ◌==◌, if◌then◌else◌, nat_le, nat_lt, filter, length, count_by}
use Rattle.std.specs.List.{list_all, list_any}
use Rattle.chain_terms.specs.Paths.{round_edges}
use Rattle.face_plane.specs.Planes.{Plane}
use Rattle.face_plane.specs.Rings.{in_list}
use Rattle.sheet_terms.specs.Chains.{chain, crossed, same_edge, upward}
use Rattle.sheet_terms.specs.Faces.{Face, is_left, labels_of}

-- one of the edges is in its rim
abbrev pub has_edge : List (ℕ × ℕ) → Face → Bool
has_edge es f = list_any (λ e. list_any (same_edge (upward e)) es) (round_edges f.rim)

-- triangles without those that have an edge of their chain that crosses another; n times over
abbrev pub free_after : ℕ → Plane → List (List ℕ) → List Face → List Face
free_after zero at labels fs = fs
free_after (suc n) at labels fs = let bad = crossed at (chain labels fs) in free_after n at labels (filter (λ f. not (has_edge bad f)) fs)

-- until no edge crosses another: as often as there are triangles is enough
abbrev pub free : Plane → List Face → List Face
free at fs = free_after (length fs) at (labels_of fs) fs

-- the triangle is none of a list
abbrev pub is_out : List Face → Face → Bool
is_out fs f = not (list_any (λ g. g.number == f.number) fs)

-- the same places are on both rims
abbrev pub same_rim : Face → Face → Bool
same_rim f g = list_all (λ v. in_list v g.rim) f.rim && list_all (λ v. in_list v f.rim) g.rim

-- f is not among the first on its rim and its side that go: as many stand before it as face the other side
abbrev pub remains : Plane → List Face → Face → Bool
remains at fs f =
    let like : Face → Bool = λ g. if is_left at f.corners then is_left at g.corners else not (is_left at g.corners) in
    nat_le (count_by (λ g. same_rim f g && not (like g)) fs) (count_by (λ g. same_rim f g && like g && nat_lt g.number f.number) fs)

-- the kept triangles of a plane: of those with one rim as many that face one side as face the other go, the first ones
abbrev pub kept : Plane → List Face → List Face
kept at fs = let out = filter (is_out (free at fs)) fs in filter (remains at out) out
