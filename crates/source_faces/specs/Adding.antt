-- Fillings that are added to the triangles so far, and faces whose filling is copies of them.
use Rattle.std.specs.Prelude.{◌≡◌, ℕ, ◌+◌, ◌==◌, ◌&&◌, ℤ, pos, List, ◌++◌, Bool, not, cond, map, length, get_or, replicate}
use Rattle.chain_terms.specs.Cycles.{cycles}
use Rattle.chain_terms.specs.Sums.{upto}
use Rattle.mesh_terms.specs.Meshes.{Triple, triples_of}
use Rattle.std.specs.Ordering.{int_eq}
use Rattle.mesh_terms.specs.Points.{coordinate_of, cross_product}
use Rattle.side_terms.specs.Sides.{Side}
use Rattle.source_face_terms.specs.Segments.{vertex_point}
use Rattle.source_faces.specs.declared.lists.runs.CopyRange.{CopyRange}
use Rattle.source_faces.specs.declared.lists.stands.Stand.{Stand}
use Rattle.source_faces.specs.ListParts.{no_run, segments_by}
use Rattle.source_face_terms.specs.Planes.{plane_drop_of}
use Rattle.face_loops.specs.Segments.{IsOneToOne}
use Rattle.hole_joining.specs.Laws.{AreFillable}
use Rattle.ring_cutting.specs.Cuts.{Cut}
use Rattle.triangulate.specs.Fills.{fill_of}
use Rattle.source_faces.specs.declared.triangles.SourceTriangles.{SourceTriangles}

-- the filling of source face x was added
pub record IsAdded (x : ℕ) (c : Cut) (old new : SourceTriangles) : Type 0 where
  pub triples : triples_of new.triples.items ≡ triples_of old.triples.items ++ c.triples
  pub source : new.source.items ≡ old.source.items ++ replicate (length c.triples) x
  pub forced : new.forced ≡ old.forced + c.forced

-- both or neither
abbrev pub same_sign : Bool → Bool → Bool
same_sign a b = cond a b (not b)

-- the runs are of one number
abbrev pub same_run : CopyRange → CopyRange → Bool
same_run r s = (r.count == s.count) && same_sign r.negative s.negative

-- the vertices of a triangle have runs of one number
abbrev pub are_equal_runs : List CopyRange → Triple → Bool
are_equal_runs runs t = same_run (get_or runs t.0 no_run) (get_or runs t.1 no_run) && same_run (get_or runs t.1 no_run) (get_or runs t.2 no_run)

-- the copies of a face's vertices as triangles, the i-th of each together: turned over where their number is below 0, and
-- forced where the face is flat
abbrev pub copy_triple : CopyRange → CopyRange → CopyRange → ℕ → Triple
copy_triple r s t i = cond r.negative (s.first + i, r.first + i, t.first + i) (r.first + i, s.first + i, t.first + i)

-- the three points of a face lie on a line
abbrev pub is_flat : Side → ℕ → Bool
is_flat side f =
    let t = get_or side.triples f (0, 0, 0) in
    let n = cross_product (vertex_point side t.0) (vertex_point side t.1) (vertex_point side t.2) in
    int_eq (coordinate_of n 0) (pos 0) && int_eq (coordinate_of n 1) (pos 0) && int_eq (coordinate_of n 2) (pos 0)

-- its filling, where its vertices are prescribed one number of times and it stands in no other lists
abbrev pub face_copies : Side → List CopyRange → ℕ → Cut
face_copies side runs f =
    let t = get_or side.triples f (0, 0, 0) in
    let r = get_or runs t.0 no_run in
    record {
      triples = map (copy_triple r (get_or runs t.1 no_run) (get_or runs t.2 no_run)) (upto r.count);
      forced =
          cond (is_flat side f) r.count 0;
    }

-- the filling of a face with these runs and records
abbrev pub filled_by : Side → List CopyRange → List (List ℤ) → ℕ → List Stand → Cut
filled_by side runs points f ss = fill_of (plane_drop_of side f) points (cycles (segments_by side runs points f ss))

-- its segments form loops that can be filled
pub record CanBeFilled (side : Side) (runs : List CopyRange) (points : List (List ℤ)) (f : ℕ) (ss : List Stand) : Type 0 where
  pub loops : IsOneToOne (segments_by side runs points f ss)
  pub fillable : AreFillable (cycles (segments_by side runs points f ss)) (length points)
