-- A plan of the first planes.
use Rattle.std.specs.Prelude.{◌≡◌, ℕ, ◌<◌, ◌==◌, ◌&&◌, ℤ, List, [], ◌∷◌, Bool, true, false, cond, not, nat_le, nat_lt, get_or, length, sum_by, take}
use Rattle.std.specs.List.{All, flat_map, list_all, position_or_len}
use Rattle.chain_terms.specs.Paths.{round_edges}
use Rattle.mesh_terms.specs.Meshes.{Triple}
use Rattle.plane_filling.specs.Ways.{Notes}
use Rattle.plane_groups.specs.Grouped.{bent, face_at}
use Rattle.sheet_terms.specs.Crossings.{coplanar, crossings_in}
use Rattle.sheet_terms.specs.Faces.{Face, in_plane, planes}
use Rattle.sheet_terms.specs.Filled.{keeps_boundary}
use Rattle.sheet_terms.specs.Kept.{kept}
use Rattle.plan_laws.specs.Ordered.{is_first}
use Rattle.plan_laws.specs.Standing.{AreAt, numbers_at}
use Rattle.plane_remesh.specs.declared.plan.Plan.{Plan}
use Rattle.plane_remesh.specs.Plans.{sides_of}
use Rattle.plane_remesh.specs.Pushed.{AreWhole}
use Rattle.plan_laws.specs.Views.{front_seen}

-- the planes of triangles
abbrev pub planes_of : List (List ℤ) → List Face → List Face
planes_of points all = planes points (bent points all)

-- the number of the plane of triangle t
abbrev pub plane_of : List (List ℤ) → List Face → ℕ → ℕ
plane_of points all t = position_or_len (λ s. in_plane points s (face_at all t)) (planes_of points all)

-- a triangle has no other one in its plane, and no edge of it is cut
abbrev pub is_alone : List (List ℤ) → List Face → Face → Bool
is_alone points all f = (length (coplanar points (bent points all) f) == 1) && nat_le (length f.rim) 3

-- the first triangle of a side of one of the first k planes, alone in it or not
abbrev pub stands_alone : List (List ℤ) → List Face → ℕ → ℕ → Bool
stands_alone points all k t = nat_lt (plane_of points all t) k && is_first points all t && is_alone points all (face_at all t)

abbrev pub has_regions : List (List ℤ) → List Face → ℕ → ℕ → Bool
has_regions points all k t = nat_lt (plane_of points all t) k && is_first points all t && not (is_alone points all (face_at all t))

-- the corners of a triangle
abbrev pub corner_list : Triple → List ℕ
corner_list t = t.0 ∷ t.1 ∷ t.2 ∷ []

-- the edges of triangles that are alone
abbrev pub alone_edges : List (List ℤ) → List Face → Face → List (ℕ × ℕ)
alone_edges points all s = cond (is_alone points all s) (round_edges s.rim) []

-- the first k planes are in a plan
pub record IsPlanTo (points : List (List ℤ)) (all : List Face) (k : ℕ) (p : Plan) : Type 0 where
  pub found : p.found.items ≡ flat_map (crossings_in points (bent points all)) (take k (planes_of points all))
  pub kept : p.kept ≡ sum_by (λ s. length (kept (front_seen points s) (coplanar points (bent points all) s))) (take k (planes_of points all))
  pub sound : p.sound ≡ list_all (keeps_boundary points (bent points all) (sides_of points all)) (take k (planes_of points all))
  pub whole : AreWhole p.regions
  pub firsts : All (λ x. x.first < length all) p.regions.all.items
  pub axes : All (λ x. x.view.plane.drop < 3) p.regions.all.items
  pub places : All (All (λ v. v < length points)) p.regions.walks.0
  pub known : All (λ x. x.label < length all) p.regions.all.items
  pub marks : length p.alone.items ≡ length all
  pub alone : (t : ℕ) → t < length all → get_or p.alone.items t false ≡ stands_alone points all k t
  pub at : (t : ℕ) → t < length all → has_regions points all k t ≡ true → AreAt points all t p.regions
  pub none : (t : ℕ) → has_regions points all k t ≡ false → numbers_at p.regions t ≡ []
  pub full : length p.ways.leads.items ≡ length points
  pub noted : Notes (flat_map (alone_edges points all) (take k (planes_of points all))) p.ways
