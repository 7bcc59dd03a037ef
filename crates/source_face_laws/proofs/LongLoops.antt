-- Each loop of a face has at least three vertices, all of them copies.
use Rattle.std.proofs.Common.{ℕ, ◌<◌, ◌≤◌, ℤ, List, length, sym, subst}
use Rattle.std.specs.List.{All, concat}
use Rattle.chain_terms.specs.Cycles.{cycles}
use Rattle.mesh_check.specs.Reduced.{NoOpposite}
use Rattle.side_terms.specs.Sides.{Side, IsSide}
use Rattle.side_terms.specs.Lists.{Copy}
use Rattle.side_terms.specs.Standing.{IsBalanced, StandInLists}
use Rattle.source_face_terms.specs.Naming.{AreNamed}
use Rattle.source_face_terms.specs.Segments.{lists_of, segments_of, source_count}
use Rattle.face_loops.proofs.LongLoops as lists
use Rattle.source_face_laws.proofs.OneToOne.{are_even, stand_once}
use Rattle.source_face_laws.proofs.Returning.{none_exchanged}
use Rattle.source_face_laws.proofs.Standing.{face_same, key_of, stand_of}

pub loops_are_long : (p q : Side) (cs : List Copy) (place : ℕ → List ℤ) → IsSide p → IsSide q → NoOpposite p.triples → NoOpposite q.triples →
    StandInLists p q cs → IsBalanced p q cs → AreNamed p q cs →
    (x : ℕ) → x < source_count p q → All (λ loop. 3 ≤ length loop) (cycles (segments_of p q cs place x))
loops_are_long p q cs place p_known q_known p_none q_none stand balance named x below =
    subst (λ es. All (λ loop. 3 ≤ length loop) (cycles es)) (sym (face_same p q cs place x))
    (lists.loops_are_long (stand_of p q cs) (key_of p q cs place) (length cs) (lists_of p q x) (are_even p q cs balance x below) (stand_once p q cs stand x below)
    (none_exchanged p q cs p_known q_known p_none q_none named x below))

pub loops_have_copies : (p q : Side) (cs : List Copy) (place : ℕ → List ℤ) → StandInLists p q cs → IsBalanced p q cs → (x : ℕ) → x < source_count p q →
    All (λ v. v < length cs) (concat (cycles (segments_of p q cs place x)))
loops_have_copies p q cs place stand balance x below =
    subst (λ es. All (λ v. v < length cs) (concat (cycles es))) (sym (face_same p q cs place x))
    (lists.loops_below (stand_of p q cs) (key_of p q cs place) (length cs) (lists_of p q x) (are_even p q cs balance x below) (stand_once p q cs stand x below))
