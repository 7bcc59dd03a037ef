-- The laws of runs and records, as statements.
use Rattle.std.specs.Prelude.{◌≡◌, ℕ, ◌+◌, ◌<◌, List, length, map}
use Rattle.chain_terms.specs.Chains.{all_edges}
use Rattle.mb_base.specs.declared.op.Op.{Op}
use Rattle.side_terms.specs.Hits.{AreHits}
use Rattle.side_terms.specs.Sides.{IsSide, Side}
use Rattle.side_terms.specs.Lists.{Copy}
use Rattle.side_terms.specs.Prescribed.{Numbers, p_kept, p_number, prescribed, q_kept, q_number}
use Rattle.side_terms.specs.Standing.{IsBalanced}
use Rattle.source_face_terms.specs.Segments.{place_of, segments_of}
use Rattle.source_faces.specs.declared.lists.runs.CopyRange.{CopyRange}
use Rattle.source_faces.specs.declared.lists.stands.Stand.{Stand}
use Rattle.source_faces.specs.Agreement.{HaveLists, records_of}
use Rattle.source_faces.specs.ListParts.{CanBeSegments, segments_by}
use Rattle.source_faces.specs.Runs.{runs_from}
use Rattle.source_faces.specs.Stands.{sorted_stands}

-- the runs of both sides' vertices and the sorted records of the hits tell the prescribed copies
abbrev pub PrescribedHaveLists : Type 0
PrescribedHaveLists = (op : Op) (p q : Side) (n : Numbers) → IsSide p → IsSide q → length n.w03 ≡ length p.corners → length n.w30 ≡ length q.corners →
    AreHits (all_edges p.triples) (length q.triples) n.x12 → AreHits (all_edges q.triples) (length p.triples) n.x21 →
    HaveLists p q (prescribed op p q n) (p_kept op n + q_kept op n) (runs_from 0 (map (p_number op) n.w03))
    (runs_from (p_kept op n) (map (q_number op) n.w30))
    (sorted_stands op p q n.x12 n.x21 (p_kept op n + q_kept op n))

-- the segments that runs and records give a face are its segments
abbrev pub ListsGiveSegments : Type 0
ListsGiveSegments =
    (p q : Side) (cs : List Copy) (k : ℕ) (p_runs q_runs : List CopyRange) (stands : List Stand) → HaveLists p q cs k p_runs q_runs stands →
    ((f : ℕ) → f < length p.triples → segments_by p p_runs (map (λ c. c.point) cs) f (records_of stands f) ≡ segments_of p q cs (place_of cs) f)
    × ((g : ℕ) → g < length q.triples →
    segments_by q q_runs (map (λ c. c.point) cs) g (records_of stands (length p.triples + g)) ≡
    segments_of p q cs (place_of cs) (length p.triples + g))

-- and where each list has as many starts as ends, they can be paired
abbrev pub ListsCanBeSegments : Type 0
ListsCanBeSegments =
    (p q : Side) (cs : List Copy) (k : ℕ) (p_runs q_runs : List CopyRange) (stands : List Stand) → HaveLists p q cs k p_runs q_runs stands →
    IsBalanced p q cs →
    ((f : ℕ) → f < length p.triples → CanBeSegments p p_runs (map (λ c. c.point) cs) f (records_of stands f))
    × ((g : ℕ) → g < length q.triples → CanBeSegments q q_runs (map (λ c. c.point) cs) g (records_of stands (length p.triples + g)))
