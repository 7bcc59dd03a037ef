-- The copies of a face without records have the boundary of its segments.
use Rattle.std.proofs.Common.{◌≡◌, ◌+◌, ◌<◌, ℕ, ℤ, zero, suc, true, false, Bool, cond, List, [], ◌++◌, length, map, sym, ap, ◌∙◌, arith}
use Rattle.std.proofs.lemmas.Int.{ints}
use Rattle.chain_terms.specs.Chains.{all_edges, dir}
use Rattle.chain_terms.specs.Sums.{upto}
use Rattle.chain_laws.specs.Chains.{dir-append}
use Rattle.mesh_boolean.specs.Boundaries.{HaveOneBoundary}
use Rattle.side_terms.specs.Sides.{IsSide, Side}
use Rattle.source_faces.specs.declared.lists.runs.CopyRange.{CopyRange}
use Rattle.source_faces.specs.Agreement.{AreInOrder}
use Rattle.source_faces.specs.ListParts.{AreRuns, segments_by}
use Rattle.source_faces.specs.Adding.{are_equal_runs, copy_triple, face_copies}
use Rattle.source_faces.specs.Plain.{LieAtVertices}
use Rattle.source_faces.proofs.Copies.{block}
use Rattle.source_faces.proofs.Halves.{joined_as, run_of}
use Rattle.source_faces.proofs.PlainFaces.{IsPlain, all_copies, face, plain_face, segments}
use Rattle.triangulate.proofs.Rings.{loop_triples}

-- the edges of n triangles between three blocks of vertices join these
loop_edges : (a b c n x y : ℕ) → dir (all_edges (loop_triples a b c n)) x y ≡ dir (block a b n) x y + dir (block b c n) x y + dir (block c a n) x y
loop_edges a b c zero x y = omega arith
loop_edges a b c (suc n) x y = omega (arith, loop_edges (suc a) (suc b) (suc c) n x y)

-- three lists of segments, one after the other
three_lists : (es fs gs : List (ℕ × ℕ)) (x y : ℕ) → dir (es ++ (fs ++ (gs ++ []))) x y ≡ dir es x y + dir fs x y + dir gs x y
three_lists es fs gs x y = omega (arith, dir-append es (fs ++ (gs ++ [])) x y, dir-append fs (gs ++ []) x y, dir-append gs [] x y)

-- so the triangles have each edge as often as the segments, whichever the sign
as_often : (negative : Bool) (a b c n x y : ℕ) →
    dir (all_edges (cond negative (loop_triples b a c n) (loop_triples a b c n))) x y
    ≡ dir (joined_as negative a b n ++ (joined_as negative b c n ++ (joined_as negative c a n ++ []))) x y
as_often true a b c n x y = omega (arith, loop_edges b a c n x y, three_lists (block b a n) (block c b n) (block a c n) x y)
as_often false a b c n x y = omega (arith, loop_edges a b c n x y, three_lists (block a b n) (block b c n) (block c a n) x y)

-- chains that have each edge equally often have one boundary
same_often : (es ms : List (ℕ × ℕ)) → ((x y : ℕ) → dir es x y ≡ dir ms x y) → HaveOneBoundary es ms
same_often es ms same a b = omega (arith, ints, same a b, same b a)

-- the copies of a face whose vertices have n copies each, all of one sign
plain_bounded : (side : Side) (runs : List CopyRange) (points : List (List ℤ)) (f n : ℕ) (negative : Bool) → f < length side.triples →
    IsPlain side runs points n negative (face side f) → HaveOneBoundary (all_edges (face_copies side runs f).triples) (segments_by side runs points f [])
plain_bounded side runs points f n negative below plain =
    let t = face side f in
    let r = run_of runs t.0 in
    let s = run_of runs t.1 in
    let u = run_of runs t.2 in
    let triples : (face_copies side runs f).triples ≡ cond negative (loop_triples s.first r.first u.first n) (loop_triples r.first s.first u.first n) =
    ap (λ m. map (copy_triple r s u) (upto m)) plain.first.counted ∙ all_copies negative r s u n plain.first.signed in
    same_often (all_edges (face_copies side runs f).triples) (segments_by side runs points f [])
    (λ x y. ap (λ ts. dir (all_edges ts) x y) triples ∙ as_often negative r.first s.first u.first n x y
    ∙ sym (ap (λ es. dir es x y) (segments side runs points f n negative below plain)))

-- so where they are prescribed one number of times
pub copies_bounded : (side : Side) (runs : List CopyRange) (points : List (List ℤ)) (k : ℕ) → IsSide side → AreRuns side (length points) runs →
    AreInOrder k runs → LieAtVertices side runs points → (f : ℕ) → f < length side.triples → are_equal_runs runs (face side f) ≡ true →
    HaveOneBoundary (all_edges (face_copies side runs f).triples) (segments_by side runs points f [])
copies_bounded side runs points k known are order there f below equal =
    plain_bounded side runs points f (run_of runs (face side f).0).count (run_of runs (face side f).0).negative below
    (plain_face side runs points k known are order there f below equal)
