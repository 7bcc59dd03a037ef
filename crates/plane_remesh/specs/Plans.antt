-- What is to be filled, and what comes of it.
use Rattle.std.specs.Prelude.{◌≡◌, ℕ, ◌<◌, ◌==◌, ◌&&◌, ℤ, List, Bool, length, map, sum_by}
use Rattle.std.specs.List.{All, flat_map, list_all}
use Rattle.mesh_terms.specs.Meshes.{HasThree, IsBelow, triples_of}
use Rattle.plane_filling.specs.declared.filling.Filled.{Filled}
use Rattle.plane_filling.specs.Pieces.{CanBeFilled, Piece, all_pieces, forced_of, new_labels as piece_labels, new_triples as piece_triples}
use Rattle.plane_filling.specs.Ways.{Notes}
use Rattle.plane_groups.specs.Grouped.{bent, face_at}
use Rattle.sheet_terms.specs.Crossings.{crossings_in}
use Rattle.sheet_terms.specs.Faces.{Face, planes}
use Rattle.sheet_terms.specs.Filled.{Filling, fillings, keeps_boundary}
use Rattle.sheet_terms.specs.Needless.{side_edges}
use Rattle.sheet_terms.specs.Regions.{Side, all_sides}
use Rattle.sheet_terms.specs.Remesh.{new_labels, new_triples}
use Rattle.plane_remesh.specs.declared.plan.Plan.{Plan}

-- the sides of the planes of triangles, and what fills them
abbrev pub sides_of : List (List ℤ) → List Face → List Side
sides_of points all = all_sides points (bent points all)

abbrev pub fillings_of : List (List ℤ) → List Face → List Filling
fillings_of points all = let ss = sides_of points all in fillings points (flat_map side_edges ss) ss

-- the walks of each plane have the boundary of its triangles
abbrev pub keep_boundaries : List (List ℤ) → List Face → Bool
keep_boundaries points all = let fs = bent points all in list_all (keeps_boundary points fs (sides_of points all)) (planes points fs)

-- and no triangle is forced: the filling is taken where it is closed too
abbrev pub fills : List (List ℤ) → List Face → Bool
fills points all = (sum_by (λ g. g.forced) (fillings_of points all) == 0) && keep_boundaries points all

-- pieces with the triangles and labels of fillings, as many of them forced
pub record AreFillings (all : List Face) (ps : List Piece) (gs : List Filling) : Type 0 where
  pub triples : piece_triples ps ≡ new_triples gs
  pub labels : map (λ t. (face_at all t).label) (piece_labels ps) ≡ new_labels gs
  pub forced : forced_of ps ≡ sum_by (λ g. g.forced) gs

-- regions and marks that give these fillings
pub record IsPlan (points : List (List ℤ)) (all : List Face) (p : Plan) : Type 0 where
  pub found : p.found.items ≡ flat_map (crossings_in points (bent points all)) (planes points (bent points all))
  pub kept : p.kept ≡ sum_by (λ s. s.kept) (sides_of points all)
  pub sound : p.sound ≡ keep_boundaries points all
  pub regions : CanBeFilled (length all) (length points) p.regions
  pub known : All (λ x. x.label < length all) p.regions.all.items
  pub marks : length p.alone.items ≡ length all
  pub full : length p.ways.leads.items ≡ length points
  pub noted : (es : List (ℕ × ℕ)) × Notes es p.ways
  pub fill : AreFillings all (all_pieces points (map (λ f. f.corners) all) p.alone.items p.regions p.ways) (fillings_of points all)

-- triangles and labels of the fillings: three different places in each triangle, all of them there, and labels of triangles
pub record HasFilled (points : List (List ℤ)) (all : List Face) (f : Filled) : Type 0 where
  pub triples : triples_of f.triples.items ≡ new_triples (fillings_of points all)
  pub labels : map (λ t. (face_at all t).label) f.labels.items ≡ new_labels (fillings_of points all)
  pub three : All HasThree (triples_of f.triples.items)
  pub below : All (IsBelow (length points)) (triples_of f.triples.items)
  pub known : All (λ t. t < length all) f.labels.items
