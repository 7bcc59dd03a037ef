-- The laws of the segments of source faces, as statements.
use Rattle.std.specs.Prelude.{◌≡◌, ℕ, ◌<◌, ◌≤◌, ℤ, List, [], true, length}
use Rattle.std.specs.List.{All, concat, flat_map}
use Rattle.chain_terms.specs.Chains.{IsClosed, all_edges}
use Rattle.chain_terms.specs.Cycles.{cycles, out}
use Rattle.chain_terms.specs.Odd.{SameChain}
use Rattle.chain_terms.specs.Sums.{upto}
use Rattle.mb_base.specs.declared.op.Op.{Op}
use Rattle.mesh_check.specs.Reduced.{NoOpposite}
use Rattle.mesh_terms.specs.Meshes.{Triple, is_used}
use Rattle.side_terms.specs.Hits.{AreHits}
use Rattle.side_terms.specs.Sides.{Side, IsSide}
use Rattle.side_terms.specs.Lists.{Copy}
use Rattle.side_terms.specs.Prescribed.{Numbers, prescribed}
use Rattle.side_terms.specs.Standing.{IsBalanced, StandInLists}
use Rattle.face_loops.specs.Segments.{IsOneToOne}
use Rattle.source_face_terms.specs.Naming.{AreNamed}
use Rattle.source_face_terms.specs.Segments.{all_segments, segments_of, source_count}

-- where each copy stands in none or two of the lists of each face, and each list has as many starts as ends, each vertex that
-- occurs in the segments of a face starts one and ends one
abbrev pub SegmentsAreOneToOne : Type 0
SegmentsAreOneToOne =
    (p q : Side) (cs : List Copy) (place : ℕ → List ℤ) → StandInLists p q cs → IsBalanced p q cs → (x : ℕ) → x < source_count p q → IsOneToOne (segments_of p q cs place x)

-- a segment runs from a copy to a copy
abbrev pub SegmentsJoinCopies : Type 0
SegmentsJoinCopies = (p q : Side) (cs : List Copy) (place : ℕ → List ℤ) (x : ℕ) → All (λ e. (e.0 < length cs) × (e.1 < length cs)) (segments_of p q cs place x)

-- so the vertices of a face's loops are copies
abbrev pub LoopsHaveCopies : Type 0
LoopsHaveCopies =
    (p q : Side) (cs : List Copy) (place : ℕ → List ℤ) → StandInLists p q cs → IsBalanced p q cs → (x : ℕ) → x < source_count p q →
    All (λ v. v < length cs) (concat (cycles (segments_of p q cs place x)))

-- every odd function adds up to nothing over the segments of all faces, so these are closed
abbrev pub FacesCancel : Type 0
FacesCancel = (p q : Side) (cs : List Copy) (place : ℕ → List ℤ) → IsSide p → IsSide q → SameChain (all_segments p q cs place) [] × IsClosed (all_segments p q cs place)

-- triples that have the boundary of the segments, face by face, are closed all together
abbrev pub TriplesAreClosed : Type 0
TriplesAreClosed = (p q : Side) (cs : List Copy) (place : ℕ → List ℤ) → IsSide p → IsSide q →
    (parts : ℕ → List Triple) → ((x : ℕ) → x < source_count p q →
    SameChain (all_edges (parts x)) (segments_of p q cs place x)) → IsClosed (all_edges (flat_map parts (upto (source_count p q))))

-- where no two triples of a side are opposite, each loop of a face has at least three vertices
abbrev pub LoopsAreLong : Type 0
LoopsAreLong =
    (p q : Side) (cs : List Copy) (place : ℕ → List ℤ) → IsSide p → IsSide q → NoOpposite p.triples → NoOpposite q.triples → StandInLists p q cs →
    IsBalanced p q cs → AreNamed p q cs →
    (x : ℕ) → x < source_count p q → All (λ loop. 3 ≤ length loop) (cycles (segments_of p q cs place x))

-- prescribed copies name edges by their lower half-edges, and those of one origin have one sign
abbrev pub PrescribedAreNamed : Type 0
PrescribedAreNamed =
    (op : Op) (p q : Side) (n : Numbers) → AreHits (all_edges p.triples) (length q.triples) n.x12 → AreHits (all_edges q.triples) (length p.triples) n.x21 →
    AreNamed p q (prescribed op p q n)

-- each copy starts a segment of some face
abbrev pub CopiesOccur : Type 0
CopiesOccur = (p q : Side) (cs : List Copy) (place : ℕ → List ℤ) → StandInLists p q cs → IsBalanced p q cs → (v : ℕ) → v < length cs →
    (x : ℕ) × (x < source_count p q) × (out (segments_of p q cs place x) v ≡ 1)

-- and triples with the boundary of a face's segments have each vertex that starts one
abbrev pub VerticesStay : Type 0
VerticesStay =
    (p q : Side) (cs : List Copy) (place : ℕ → List ℤ) → IsSide p → IsSide q → NoOpposite p.triples → NoOpposite q.triples → AreNamed p q cs → (x : ℕ) →
    x < source_count p q →
    (ts : List Triple) → SameChain (all_edges ts) (segments_of p q cs place x) → (v : ℕ) → 0 < out (segments_of p q cs place x) v → is_used ts v ≡ true
