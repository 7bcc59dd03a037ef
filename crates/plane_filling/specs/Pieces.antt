-- What is put at the place of each triangle: the triangles of regions, with their labels.
use Rattle.std.specs.Prelude.{◌≡◌, ℕ, ◌+◌, ◌*◌, ◌<◌, ◌^◌, ◌&&◌, ℤ, List, [], ◌∷◌, ◌++◌, Bool, false, cond, if◌then◌else◌, nat_lt, get_or, length, map, replicate, sum_by}
use Rattle.std.specs.List.{All, flat_map}
use Rattle.chain_terms.specs.Sums.{upto}
use Rattle.face_plane.specs.Planes.{face_plane}
use Rattle.mesh_terms.specs.Meshes.{Triple, triples_of}
use Rattle.places_by_key.specs.Buckets.{places_of}
use Rattle.triangulate.specs.Fills.{fill_of}
use Rattle.plane_filling.specs.declared.filling.Filled.{Filled}
use Rattle.plane_filling.specs.declared.needless.Ways.{Ways}
use Rattle.plane_filling.specs.declared.regions.Region.{Region}
use Rattle.plane_filling.specs.declared.regions.Regions.{Regions}
use Rattle.plane_filling.specs.Begun.{loops_without}
use Rattle.plane_filling.specs.Regions.{AreRegions, walks_at}
use Rattle.plane_filling.specs.Ways.{is_passed}

-- triangles, a triangle that has their label, and how many were forced
pub record Piece : Type 0 where
  pub label : ℕ
  pub triples : List Triple
  pub forced : ℕ

-- no region
abbrev pub no_region : Region
no_region = record { first = 0; kept = false; label = 0; view = record { plane = record { drop = 0 }; turned = false } }

-- the loops of a region without needless places
abbrev pub loops_at : List (List ℤ) → Regions → Ways → ℕ → List (List ℕ)
loops_at points r w k =
    let view = (get_or r.all.items k no_region).view in loops_without (is_passed points w) (face_plane view.plane.drop view.turned points) (walks_at r k)

-- a region filled
abbrev pub piece_of : List (List ℤ) → Regions → Ways → ℕ → Piece
piece_of points r w k =
    let region = get_or r.all.items k no_region in
    let cut = fill_of region.view.plane.drop points (loops_at points r w k) in
    record { label = region.label; triples = cut.triples; forced = cut.forced }

-- a triangle from its least corner
abbrev pub from_least : Triple → Triple
from_least t = if nat_lt t.0 t.1 && nat_lt t.0 t.2 then t else if nat_lt t.1 t.2 then (t.1, t.2, t.0) else (t.2, t.0, t.1)

-- a triangle that is alone in its plane
abbrev pub alone_piece : ℕ → Triple → Piece
alone_piece number t = record { label = number; triples = from_least t ∷ []; forced = 0 }

abbrev pub alone_pieces : Bool → ℕ → Triple → List Piece
alone_pieces alone number t = cond alone (alone_piece number t ∷ []) []

-- regions stand by the first triangle that faces their side, kept triangles after the others
abbrev pub first_key : Region → ℕ
first_key r = 2 * r.first + cond r.kept 1 0

abbrev pub first_keys : List Region → List ℕ
first_keys rs = map first_key rs

-- the regions that stand by a triangle
abbrev pub turns_at : List ℕ → ℕ → List ℕ
turns_at keys number = places_of keys (2 * number) ++ places_of keys (2 * number + 1)

abbrev pub region_pieces : List (List ℤ) → Regions → Ways → List ℕ → List Piece
region_pieces points r w ks = map (piece_of points r w) ks

-- what is put at the place of a triangle
abbrev pub pieces_at : List (List ℤ) → List Triple → List Bool → Regions → Ways → ℕ → List Piece
pieces_at points ts alone r w number =
    alone_pieces (get_or alone number false) number (get_or ts number (0, 0, 0)) ++ region_pieces points r w (turns_at (first_keys r.all.items) number)

-- and of all triangles
abbrev pub all_pieces : List (List ℤ) → List Triple → List Bool → Regions → Ways → List Piece
all_pieces points ts alone r w = flat_map (pieces_at points ts alone r w) (upto (length ts))

-- how many triangles were forced
abbrev pub forced_of : List Piece → ℕ
forced_of ps = sum_by (λ p. p.forced) ps

-- the triangles of pieces, and the label of each
abbrev pub new_triples : List Piece → List Triple
new_triples ps = flat_map (λ p. p.triples) ps

abbrev pub new_labels : List Piece → List ℕ
new_labels ps = flat_map (λ p. replicate (length p.triples) p.label) ps

-- pieces were added
pub record Adds (ps : List Piece) (old new : Filled) : Type 0 where
  pub triples : triples_of new.triples.items ≡ triples_of old.triples.items ++ new_triples ps
  pub labels : new.labels.items ≡ old.labels.items ++ new_labels ps

-- the pieces, of which none has a forced triangle
pub record AreFilled (ps : List Piece) (f : Filled) : Type 0 where
  pub unforced : forced_of ps ≡ 0
  pub triples : triples_of f.triples.items ≡ new_triples ps
  pub labels : f.labels.items ≡ new_labels ps

-- regions of planes of so many triangles over so many points
pub record CanBeFilled (count points : ℕ) (r : Regions) : Type 0 where
  pub are : AreRegions r
  pub few : length r.all.items < 2 ^ 32
  pub firsts : All (λ x. x.first < count) r.all.items
  pub axes : All (λ x. x.view.plane.drop < 3) r.all.items
  pub places : All (λ walk. All (λ v. v < points) walk) r.walks.0
