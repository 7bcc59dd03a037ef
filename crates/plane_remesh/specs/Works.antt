-- A plane in hand.
use Rattle.std.specs.Prelude.{◌≡◌, ℕ, ◌<◌, ◌≤◌, ◌^◌, ℤ, List, [], false, true, get_or, length, map}
use Rattle.sheet_terms.specs.Crossings.{coplanar}
use Rattle.std.specs.List.{All, Contains}
use Rattle.box_tree.specs.declared.TheConstants.{MOST_BOXES}
use Rattle.sheet_terms.specs.Faces.{Face, is_flat, labels_of}
use Rattle.sheet_terms.specs.Kept.{free}
use Rattle.plane_chains.specs.Listed.{label_number}
use Rattle.plane_chains.specs.Sizes.{sizes}
use Rattle.plane_chains.specs.Tellings.{IsTold}
use Rattle.plane_chains.specs.declared.plane_faces.PlaneFaces.{PlaneFaces}
use Rattle.plane_groups.specs.Grouped.{bent, face_at, is_front}
use Rattle.plane_remesh.specs.declared.plane_work.PlaneWork.{PlaneWork}
use Rattle.plan_laws.specs.Views.{IsSeenFrom, front_seen}

-- which of all triangles lie in a plane, by their numbers, with their rims and labels
pub record AreFacesOf (points : List (List ℤ)) (all own : List Face) (f : PlaneFaces) : Type 0 where
  pub faces : map (face_at all) f.numbers.now ≡ own
  pub below : All (λ t. t < length all) f.numbers.now
  pub full : length f.fronts.now ≡ length all
  pub fronts : (t : ℕ) → t < length all → is_flat points (face_at all t).corners ≡ false → get_or f.fronts.now t false ≡ is_front points (face_at all t)
  pub rims : f.rims ≡ (map (λ g. g.rim) own, [])
  pub places : All (λ r. All (λ v. v < length points) r) f.rims.0
  pub labels : f.labels.of.items ≡ map (label_number own) own
  pub firsts : labels_of own ≡ map (λ t. (face_at all t).label) f.labels.firsts.items
  pub firsts_below : All (λ t. t < length all) f.labels.firsts.items

-- the triangles `own`, of which s is one, seen from the front of their plane, and what is told of them
pub record IsWork (points : List (List ℤ)) (all own : List Face) (s : Face) (w : PlaneWork) : Type 0 where
  pub faces : AreFacesOf points all own w.faces
  pub are : own ≡ coplanar points (bent points all) s
  pub some : Contains (bent points all) s
  pub stored : w.points.now ≡ points
  pub view : IsSeenFrom points s true w.view
  pub told : IsTold points (front_seen points s) own w.told.points.items w.told.kept.items w.told.chain.edges.items w.told.chain.nets.0
  pub free : w.told.free ≡ length (free (front_seen points s) own)
  pub kept : All (λ i. i < length own) w.told.kept.items
  pub few : length w.told.chain.edges.items ≤ MOST_BOXES
  pub places : All (λ e. All (λ v. v < length points) e) w.told.chain.edges.items
  pub nets : length w.told.chain.nets.0 ≡ length w.told.chain.edges.items
  pub small : sizes w.told.chain.nets.0 ≤ 2 ^ 31
