-- The faces of one side as source faces: what each is filled from, and what all of them add.
use Rattle.std.specs.Prelude.{◌≡◌, ℕ, ◌+◌, ◌<◌, ℤ, List, ◌++◌, map, length}
use Rattle.chain_terms.specs.Sums.{upto}
use Rattle.mesh_terms.specs.Meshes.{triples_of}
use Rattle.ring_cutting.specs.Cuts.{Cut}
use Rattle.side_terms.specs.Sides.{Side}
use Rattle.source_faces.specs.declared.lists.runs.CopyRange.{CopyRange}
use Rattle.source_faces.specs.declared.lists.stands.Stand.{Stand}
use Rattle.source_faces.specs.Agreement.{AreInOrder, Ascend, records_of}
use Rattle.source_faces.specs.ListParts.{AreRuns, CanBeSegments}
use Rattle.source_face_terms.specs.Filled.{all_triples, forced_of, sources_of}
use Rattle.source_faces.specs.Adding.{CanBeFilled, filled_by}
use Rattle.source_faces.specs.Plain.{LieAtVertices}
use Rattle.source_faces.specs.declared.triangles.SourceTriangles.{SourceTriangles}

-- runs of a side's vertices, one after the other, whose copies lie at the vertices
pub record HaveCopies (side : Side) (runs : List CopyRange) (points : List (List ℤ)) : Type 0 where
  pub are : AreRuns side (length points) runs
  pub last : ℕ
  pub order : AreInOrder last runs
  pub lie : LieAtVertices side runs points

-- the records of a face give it segments, and these form loops that can be filled
pub record CanBePart (side : Side) (runs : List CopyRange) (points : List (List ℤ)) (f : ℕ) (ss : List Stand) : Type 0 where
  pub paired : CanBeSegments side runs points f ss
  pub filled : CanBeFilled side runs points f ss

-- so do those of each face of a side, of which the first one is source face number x, among records that ascend
pub record HaveParts (side : Side) (runs : List CopyRange) (points : List (List ℤ)) (x : ℕ) (stands : List Stand) : Type 0 where
  pub copies : HaveCopies side runs points
  pub ascend : Ascend stands
  pub each : (f : ℕ) → f < length side.triples → CanBePart side runs points f (records_of stands (x + f))

-- the fillings of its first n faces
abbrev pub parts_of : Side → List CopyRange → List (List ℤ) → ℕ → List Stand → ℕ → List Cut
parts_of side runs points x stands n = map (λ f. filled_by side runs points f (records_of stands (x + f))) (upto n)

-- the fillings of source faces from number x on were added
pub record AreAdded (x : ℕ) (cs : List Cut) (old new : SourceTriangles) : Type 0 where
  pub triples : triples_of new.triples.items ≡ triples_of old.triples.items ++ all_triples cs
  pub source : new.source.items ≡ old.source.items ++ sources_of x cs
  pub forced : new.forced ≡ old.forced + forced_of cs

-- the fillings of the faces of both sides, P's first
abbrev pub both_parts : Side → Side → List CopyRange → List CopyRange → List (List ℤ) → List Stand → List Cut
both_parts p q p_runs q_runs points stands =
    parts_of p p_runs points 0 stands (length p.triples) ++ parts_of q q_runs points (length p.triples) stands (length q.triples)

-- these are all triangles, with their source faces
pub record AreAll (cs : List Cut) (all : SourceTriangles) : Type 0 where
  pub triples : triples_of all.triples.items ≡ all_triples cs
  pub source : all.source.items ≡ sources_of 0 cs
  pub forced : all.forced ≡ forced_of cs
