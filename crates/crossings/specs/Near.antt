-- Faces that are near some edges, and the hits with these.
use Rattle.std.specs.Prelude.{◌≡◌, ◌<◌, ℕ, List, length, map}
use Rattle.std.specs.List.{All, filter_map}
use Rattle.mb_base.specs.declared.results.Hit.{Hit}
use Rattle.mb_base.specs.Boxes.{box_of}
use Rattle.side_terms.specs.Sides.{Side, edge_at, face_at}
use Rattle.crossings.specs.declared.near.Near.{Near}
use Rattle.crossings.specs.Hits.{CrossingTest, hit_of}

-- numbers of faces of a side, with their boxes
pub record AreNear (faces : Side) (near : Near) : Type 0 where
  pub below : All (λ f. f < length faces.triples) near.faces.items
  pub boxed : near.boxes.items ≡ map (λ f. box_of (face_at faces f)) near.faces.items

-- the hits of one half-edge with some faces, in their order
abbrev pub hits_with : CrossingTest → Side → Side → ℕ → List ℕ → List Hit
hits_with test edges faces h fs = filter_map (λ f. hit_of h f (test (edge_at edges h) (face_at faces f))) fs
