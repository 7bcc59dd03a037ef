-- In the segments of a source face each vertex that occurs starts one and ends one.
use Rattle.std.proofs.Common.{◌≡◌, ℕ, ◌-◌, ◌<◌, ◌≤◌, ◌⊎◌, inl, inr, ℤ, List, length, get_or, arith, ap, sym, subst, ◌∙◌}
use Rattle.std.proofs.lemmas.List.Elements.{All-weaker}
use Rattle.chain_terms.specs.Chains.{all_edges}
use Rattle.chain_terms.specs.Cycles.{out}
use Rattle.side_terms.specs.Sides.{Side}
use Rattle.side_terms.specs.Lists.{Copy, IsListOf, ListName, ends, lists_of_p, lists_of_q, no_copy, starts}
use Rattle.side_terms.specs.Standing.{IsBalanced, StandInLists, StandsInNone, StandsInTwo, end_count, start_count}
use Rattle.face_loops.specs.Segments.{IsOneToOne}
use Rattle.source_face_terms.specs.Segments.{lists_of, segments_of, source_count}
use Rattle.face_loops.specs.Standings.{AreEven, StandOnce}
use Rattle.face_loops.proofs.OneToOne as lists
use Rattle.source_face_laws.proofs.FaceLists.{face_case, lists_known}
use Rattle.source_face_laws.proofs.Standing.{face_same, key_of, stand_of}

-- each list of a face has as many starts as ends
pub are_even : (p q : Side) (cs : List Copy) → IsBalanced p q cs → (x : ℕ) → x < source_count p q → AreEven (stand_of p q cs) (length cs) (lists_of p q x)
are_even p q cs balance x below =
    let es = all_edges p.triples in
    let ds = all_edges q.triples in
    All-weaker (IsListOf (length p.triples) (length q.triples)) (λ name. length (starts es ds cs name) ≡ length (ends es ds cs name)) (λ name known. balance.even name known)
    (lists_of p q x) (lists_known p q x below)

-- how often a copy starts a segment of a face
pub occurs : (p q : Side) (cs : List Copy) (place : ℕ → List ℤ) → IsBalanced p q cs → (x : ℕ) → x < source_count p q → (v : ℕ) → v < length cs →
    out (segments_of p q cs place x) v ≡ start_count p q (lists_of p q x) (get_or cs v no_copy)
occurs p q cs place balance x below v inside =
    ap (λ es. out es v) (face_same p q cs place x)
    ∙ (lists.occurs (stand_of p q cs) (key_of p q cs place) (length cs) (lists_of p q x) (are_even p q cs balance x below) v inside).outs

-- a copy is a start of as many lists of a face as it is an end of, and of one at most
record StandsEvenly (p q : Side) (c : Copy) (names : List ListName) : Type 0 where
  even : start_count p q names c ≡ end_count p q names c
  few : start_count p q names c ≤ 1

evenly : (p q : Side) (names : List ListName) (c : Copy) → StandsInNone p q names c ⊎ StandsInTwo p q names c → StandsEvenly p q c names
evenly p q names c (inl n) = record { even = omega (arith, n.no_start, n.no_end); few = omega (arith, n.no_start) }
evenly p q names c (inr t) = record { even = omega (arith, t.one_start, t.one_end); few = omega (arith, t.one_start) }

stands_evenly : (p q : Side) (cs : List Copy) → StandInLists p q cs → (x : ℕ) → x < source_count p q →
    (v : ℕ) → v < length cs → StandsEvenly p q (get_or cs v no_copy) (lists_of p q x)
stands_evenly p q cs stand x below v inside =
    let c = get_or cs v no_copy in
    let m = length p.triples in
    face_case p q (StandsEvenly p q c) x
    (λ l. let names = lists_of_p (length q.triples) x in evenly p q names c (stand.p_faces x l v no_copy inside))
    (λ l. let names = lists_of_q m (x - m) in evenly p q names c (stand.q_faces (x - m) (omega (arith, below, l)) v no_copy inside))

pub stand_once : (p q : Side) (cs : List Copy) → StandInLists p q cs → (x : ℕ) → x < source_count p q → StandOnce (stand_of p q cs) (length cs) (lists_of p q x)
stand_once p q cs stand x below = record {
  even = λ v inside. (stands_evenly p q cs stand x below v inside).even;
  few = λ v inside. (stands_evenly p q cs stand x below v inside).few;
}

-- so the segments of a face are one to one
pub one_to_one : (p q : Side) (cs : List Copy) (place : ℕ → List ℤ) → StandInLists p q cs → IsBalanced p q cs → (x : ℕ) → x < source_count p q →
    IsOneToOne (segments_of p q cs place x)
one_to_one p q cs place stand balance x below =
    subst IsOneToOne (sym (face_same p q cs place x))
    (lists.one_to_one (stand_of p q cs) (key_of p q cs place) (length cs) (lists_of p q x) (are_even p q cs balance x below) (stand_once p q cs stand x below))
