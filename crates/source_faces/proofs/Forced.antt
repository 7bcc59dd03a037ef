-- No more triangles are forced than there are.
use Rattle.std.proofs.Common.{◌≡◌, ℕ, ◌+◌, ◌≤◌, List, Bool, true, false, cond, get_or, length, arith, ap, ◌∙◌}
use Rattle.std.proofs.lemmas.List.{length-append, length-map}
use Rattle.chain_terms.specs.Sums.{upto}
use Rattle.chain_laws.proofs.Places.{length-up_from}
use Rattle.source_faces.specs.ListParts.{no_run}
use Rattle.source_faces.specs.declared.lists.runs.CopyRange.{CopyRange}
use Rattle.face_plane.specs.Planes.{Plane}
use Rattle.hole_joining.specs.Holes.{is_hole}
use Rattle.hole_joining.specs.Laws.{AreFillable}
use Rattle.mesh_terms.specs.Meshes.{Triple, triple_of, triples_of}
use Rattle.ring_cutting.specs.Cuts.{Cut}
use Rattle.side_terms.specs.Sides.{Side}
use Rattle.triangulate.specs.Laws.{HasCount}
use Rattle.triangulate.proofs.CutRings.{three_each}
use Rattle.source_faces.specs.Adding.{IsAdded, copy_triple, face_copies, is_flat}
use Rattle.source_faces.specs.declared.triangles.SourceTriangles.{SourceTriangles}

-- a filling of which this holds keeps it of all
pub forced_with : (x : ℕ) (c : Cut) (old new : SourceTriangles) → c.forced ≤ length c.triples → old.forced ≤ length old.triples.items →
    IsAdded x c old new → new.forced ≤ length new.triples.items
forced_with x c old new part before h =
    let long : length (triples_of new.triples.items) ≡ length (triples_of old.triples.items) + length c.triples =
    ap length h.triples ∙ length-append (triples_of old.triples.items) c.triples in
    omega (arith, part, before, long, h.forced, length-map new.triples.items triple_of, length-map old.triples.items triple_of)

-- it holds of the copies of a face
pub forced_copies : (side : Side) (runs : List CopyRange) (f : ℕ) → (face_copies side runs f).forced ≤ length (face_copies side runs f).triples
forced_copies side runs f =
    let t = get_or side.triples f (0, 0, 0) in
    let r = get_or runs t.0 no_run in
    let n = r.count in
    let all = length-map (upto n) (copy_triple r (get_or runs t.1 no_run) (get_or runs t.2 no_run)) in
    omega (arith, all, length-up_from 0 n, some (is_flat side f) n)
  where
    some : (b : Bool) (n : ℕ) → cond b n 0 ≤ n
    some true n = omega arith
    some false n = omega arith

-- loops that can be filled give at most 100,000,000 triangles
pub few_triples : (at : Plane) (loops : List (List ℕ)) (points : ℕ) (ts : List Triple) → AreFillable loops points → HasCount at loops ts →
    length ts ≤ 100000000
few_triples at loops points ts fillable count = omega (arith, count, three_each (is_hole at) loops fillable.long, fillable.few)
