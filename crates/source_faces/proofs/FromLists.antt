-- Faces of a side, from runs and records that tell all copies.
use Rattle.std.proofs.Common.{◌≡◌, ℕ, ◌+◌, ◌<◌, ◌≤◌, List, [], get_or, length, arith, sym, ap, subst, ◌∙◌}
use Rattle.std.proofs.lemmas.List.{get_or-map, get_or_default, length-map}
use Rattle.chain_terms.specs.Cycles.{cycles}
use Rattle.mb_base.specs.declared.results.Origin.{Origin}
use Rattle.face_loops.specs.Segments.{IsOneToOne}
use Rattle.hole_joining.specs.Laws.{AreFillable}
use Rattle.mesh_terms.specs.Limits.{most_points}
use Rattle.side_terms.specs.Sides.{Side}
use Rattle.side_terms.specs.Lists.{Copy, no_copy}
use Rattle.source_face_terms.specs.Planes.{plane_drop_of}
use Rattle.triangulate.specs.Fills.{fill_of}
use Rattle.source_faces.specs.declared.lists.runs.CopyRange.{CopyRange}
use Rattle.source_faces.specs.declared.lists.stands.Stand.{Stand}
use Rattle.source_faces.specs.Agreement.{AreInOrder, AreRunsOf}
use Rattle.source_faces.specs.ListParts.{AreRuns, CanBeSegments, no_run, segments_by}
use Rattle.source_face_terms.specs.Assembling.{FormLoops}
use Rattle.source_face_terms.specs.Filled.{face_segments, filled_face, points_of_copies, source_drop}
use Rattle.source_faces.specs.Adding.{filled_by}
use Rattle.source_faces.specs.Parts.{CanBePart, HaveCopies}
use Rattle.source_faces.specs.Plain.{LieAtVertices}

-- as many points as copies
many_points : (cs : List Copy) → length (points_of_copies cs) ≡ length cs
many_points cs = length-map cs (λ c. c.point)

-- runs of copies have their numbers
in_numbers : (side : Side) (runs : List CopyRange) (cs : List Copy) (origin : ℕ → Origin) → AreRunsOf cs origin side runs →
    length cs ≤ most_points → AreRuns side (length (points_of_copies cs)) runs
in_numbers side runs cs origin h few = record {
  each = h.long;
  below = λ v d below.
      let there : v < length side.corners = omega (arith, below, h.long) in
      let same : get_or runs v d ≡ get_or runs v no_run = get_or_default runs v d no_run below in
      subst (λ (r : CopyRange). r.first + r.count ≤ length (points_of_copies cs)) (sym same) (omega (arith, (h.each v there).within, many_points cs));
  few = omega (arith, few, many_points cs);
}

-- and lie at their vertices
at_vertices : (side : Side) (runs : List CopyRange) (cs : List Copy) (origin : ℕ → Origin) → AreRunsOf cs origin side runs →
    LieAtVertices side runs (points_of_copies cs)
at_vertices side runs cs origin h = record {
  lies = λ v i there below.
      let r = get_or runs v no_run in
      let one = h.each v there in
      let w = r.first + i in
      let within : w < length cs = omega (arith, one.within, below) in
      get_or-map (λ (c : Copy). c.point) cs w no_copy [] within ∙ one.lies w (omega arith) (omega (arith, below));
}

-- so a side has its copies
pub have_copies : (side : Side) (runs : List CopyRange) (cs : List Copy) (origin : ℕ → Origin) (k : ℕ) → AreRunsOf cs origin side runs →
    AreInOrder k runs → length cs ≤ most_points → HaveCopies side runs (points_of_copies cs)
have_copies side runs cs origin k h order few =
    record { are = in_numbers side runs cs origin h few; last = k; order = order; lie = at_vertices side runs cs origin h }

-- records that give a source face its segments let it be filled
pub part_there : (p q : Side) (cs : List Copy) (x : ℕ) (side : Side) (runs : List CopyRange) (f : ℕ) (ss : List Stand) →
    CanBeSegments side runs (points_of_copies cs) f ss → segments_by side runs (points_of_copies cs) f ss ≡ face_segments p q cs x →
    FormLoops p q cs x →
    CanBePart side runs (points_of_copies cs) f ss
part_there p q cs x side runs f ss paired same loops = record {
  paired = paired;
  filled = record {
    loops = subst IsOneToOne (sym same) loops.once;
    fillable =
        subst (λ (n : ℕ). AreFillable (cycles (segments_by side runs (points_of_copies cs) f ss)) n) (sym (many_points cs))
        (subst (λ (es : List (ℕ × ℕ)). AreFillable (cycles es) (length cs)) (sym same) loops.fillable);
  };
}

-- and that is the filling of the source face
pub part_same : (p q : Side) (cs : List Copy) (x : ℕ) (side : Side) (runs : List CopyRange) (f : ℕ) (ss : List Stand) →
    segments_by side runs (points_of_copies cs) f ss ≡ face_segments p q cs x → plane_drop_of side f ≡ source_drop p q x →
    filled_by side runs (points_of_copies cs) f ss ≡ filled_face p q cs x
part_same p q cs x side runs f ss same drop =
    ap (λ n. fill_of n (points_of_copies cs) (cycles (segments_by side runs (points_of_copies cs) f ss))) drop
    ∙ ap (λ es. fill_of (source_drop p q x) (points_of_copies cs) (cycles es)) same
