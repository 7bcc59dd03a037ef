-- Triples with the boundary of each face's segments: all together they are closed, and have every copy as a vertex.
use Rattle.std.proofs.Common.{◌≡◌, ℕ, zero, suc, ◌+◌, ◌-◌, ◌<◌, inl, inr, true, ◌==◌, ◌||◌, ℤ, List, length, get_or, refl, arith, ap, sym, ◌∙◌}
use Rattle.std.specs.Prelude.{nat_lt}
use Rattle.std.specs.List.{Contains, flat_map}
use Rattle.std.proofs.lemmas.Int.{ints}
use Rattle.std.proofs.lemmas.Bool.{cases_lt, cond-false, cond-true, eq-eqb, eqb-true, le-ltb, lt-ltb, or_left, or_right}
use Rattle.std.proofs.lemmas.List.Folds.{list_any_at}
use Rattle.chain_terms.specs.Chains.{IsClosed, all_edges, dir, edges}
use Rattle.chain_terms.specs.Cycles.{out}
use Rattle.chain_terms.specs.Odd.{SameChain}
use Rattle.chain_terms.specs.Sums.{up_from, upto}
use Rattle.chain_laws.specs.Chains.{boundary_same, closed_same, dir_contains, dir_some, same_chain-append}
use Rattle.chain_laws.specs.Firsts.{passing}
use Rattle.chain_laws.specs.Triples.{all_edges-append}
use Rattle.mesh_check.specs.Reduced.{NoOpposite}
use Rattle.mesh_terms.specs.Meshes.{Triple, has, is_used}
use Rattle.side_terms.specs.Sides.{Side, IsSide}
use Rattle.side_terms.specs.Lists.{Copy, ListName, lists_of_p, lists_of_q, no_copy}
use Rattle.side_terms.specs.Standing.{IsBalanced, StandInLists, StandsInTwo, start_count}
use Rattle.source_face_terms.specs.Naming.{AreNamed}
use Rattle.source_face_terms.specs.Segments.{all_segments, lists_of, segments_of, source_count}
use Rattle.face_loops.proofs.Members.{in_some}
use Rattle.source_face_laws.proofs.Cancelling.{closed}
use Rattle.source_face_laws.proofs.OneToOne.{occurs}
use Rattle.source_face_laws.proofs.Returning.{no_return}

-- a source face on which a copy starts one segment
pub record StartsOn (p q : Side) (cs : List Copy) (place : ℕ → List ℤ) (v : ℕ) : Type 0 where
  pub face : ℕ
  pub known : face < source_count p q
  pub once : out (segments_of p q cs place face) v ≡ 1

starts_on : (p q : Side) (cs : List Copy) (place : ℕ → List ℤ) → IsBalanced p q cs → (v : ℕ) → v < length cs → (x : ℕ) → x < source_count p q →
    (names : List ListName) → lists_of p q x ≡ names →
    StandsInTwo p q names (get_or cs v no_copy) → StartsOn p q cs place v
starts_on p q cs place balance v inside x below names are two =
    record { face = x; known = below; once = occurs p q cs place balance x below v inside ∙ ap (λ l. start_count p q l (get_or cs v no_copy)) are ∙ two.one_start }

pub starts_somewhere : (p q : Side) (cs : List Copy) (place : ℕ → List ℤ) → StandInLists p q cs → IsBalanced p q cs → (v : ℕ) → v < length cs → StartsOn p q cs place v
starts_somewhere p q cs place stand balance v inside =
    let m = length p.triples in
    let n = length q.triples in
    elim (stand.somewhere v no_copy inside) as (λ _. StartsOn p q cs place v) [
      | inl r ↦ starts_on p q cs place balance v inside r.0 (omega (arith, r.1)) (lists_of_p n r.0)
          (cond-true (nat_lt r.0 m) (lists_of_p n r.0) (lists_of_q m (r.0 - m)) (lt-ltb r.0 m r.1)) r.2
      | inr r ↦
          let x = m + r.0 in
          let back : x - m ≡ r.0 = omega arith in
          starts_on p q cs place balance v inside x (omega (arith, r.1)) (lists_of_q m r.0)
          (cond-false (nat_lt x m) (lists_of_p n x) (lists_of_q m (x - m)) (le-ltb x m (omega arith)) ∙ ap (lists_of_q m) back) r.2
    ]

-- a triple has the start of each of its edges
has_start : (t : Triple) (e : ℕ × ℕ) → Contains (edges t) e → has t e.0 ≡ true
has_start t e (zero, l, q) = or_left ((t.0 == e.0) || (t.1 == e.0)) (t.2 == e.0) (or_left (t.0 == e.0) (t.1 == e.0) (eq-eqb t.0 e.0 (ap (λ (d : ℕ × ℕ). d.0) q)))
has_start t e (suc zero, l, q) = or_left ((t.0 == e.0) || (t.1 == e.0)) (t.2 == e.0) (or_right (t.0 == e.0) (t.1 == e.0) (eq-eqb t.1 e.0 (ap (λ (d : ℕ × ℕ). d.0) q)))
has_start t e (suc (suc zero), l, q) = or_right ((t.0 == e.0) || (t.1 == e.0)) (t.2 == e.0) (eq-eqb t.2 e.0 (ap (λ (d : ℕ × ℕ). d.0) q))
has_start t e (suc (suc (suc k)), l, q) = absurd (omega (arith, l))

-- so the start of an edge of triples is used
used_start : (ts : List Triple) (e : ℕ × ℕ) → Contains (all_edges ts) e → is_used ts e.0 ≡ true
used_start ts e inside =
    let r = in_some edges ts e inside in
    let k = r.listed.0 in
    list_any_at (λ t. has t e.0) ts k r.from r.listed.1 (ap (λ t. has t e.0) r.listed.2 ∙ has_start r.from e r.inside)

-- a vertex that starts a segment of a face is used by all triples with the boundary of the segments
pub vertices_stay : (p q : Side) (cs : List Copy) (place : ℕ → List ℤ) → IsSide p → IsSide q → NoOpposite p.triples → NoOpposite q.triples → AreNamed p q cs →
    (x : ℕ) → x < source_count p q →
    (ts : List Triple) → SameChain (all_edges ts) (segments_of p q cs place x) → (v : ℕ) → 0 < out (segments_of p q cs place x) v → is_used ts v ≡ true
vertices_stay p q cs place p_known q_known p_none q_none named x below ts same v some =
    let es = segments_of p q cs place x in
    let found = passing (λ e. e.0 == v) es some in
    let a = found.member.0 in
    let w = found.member.1 in
    let here = dir_some es a w found.inside in
    let none : dir es w a ≡ 0 = elim (cases_lt 0 (dir es w a)) as (λ _. dir es w a ≡ 0) [
      | inl l ↦ absurd (no_return p q cs place p_known q_known p_none q_none named x below a w found.inside (dir_contains es w a l))
      | inr m ↦ omega (arith, m)
    ] in
    let level = boundary_same (all_edges ts) es same a w in
    let runs : 0 < dir (all_edges ts) a w = omega (arith, ints, level, here, none) in
    ap (is_used ts) (sym (eqb-true a v found.passes)) ∙ used_start ts (a, w) (dir_contains (all_edges ts) a w runs)

-- the edges of triples that are made face by face
parts_same : (parts : ℕ → List Triple) (segments : ℕ → List (ℕ × ℕ)) (k n : ℕ) → ((x : ℕ) → x < k + n → SameChain (all_edges (parts x)) (segments x)) →
    SameChain (all_edges (flat_map parts (up_from k n))) (flat_map segments (up_from k n))
parts_same parts segments k zero same = λ f odd. refl
parts_same parts segments k (suc n) same =
    let rest = parts_same parts segments (suc k) n (λ x l. same x (omega (arith, l))) in
    let joined = same_chain-append (all_edges (parts k)) (segments k) (all_edges (flat_map parts (up_from (suc k) n))) (flat_map segments (up_from (suc k) n))
    (same k (omega arith)) rest in
    rw (all_edges-append (parts k) (flat_map parts (up_from (suc k) n))) joined

-- all together they are closed
pub parts_closed : (p q : Side) (cs : List Copy) (place : ℕ → List ℤ) → IsSide p → IsSide q → (parts : ℕ → List Triple) →
    ((x : ℕ) → x < source_count p q → SameChain (all_edges (parts x)) (segments_of p q cs place x)) →
    IsClosed (all_edges (flat_map parts (upto (source_count p q))))
parts_closed p q cs place p_known q_known parts same =
    closed_same (all_edges (flat_map parts (upto (source_count p q)))) (all_segments p q cs place)
    (parts_same parts (segments_of p q cs place) 0 (source_count p q) (λ x l. same x (omega (arith, l)))) (closed p q cs place p_known q_known)
