-- The condition of the loops, tested on segments.
use Rattle.std.proofs.Common.{◌≡◌, ◌≤◌, ◌<◌, ◌==◌, ◌&&◌, ℕ, true, List, subst, arith, inl, inr}
use Rattle.std.specs.Prelude.{count_by}
use Rattle.std.specs.List.{All, list_all}
use Rattle.std.proofs.lemmas.Bool.{cases_eq, and_parts, eqb-true}
use Rattle.std.proofs.lemmas.List.Elements.{All-contains}
use Rattle.std.proofs.lemmas.List.Sums.{AllPass-from_list_all}
use Rattle.chain_laws.specs.Counts.{count_by-map}
use Rattle.chain_laws.specs.Firsts.{passing}
use Rattle.mb_base.specs.declared.results.Segment.{Segment}
use Rattle.face_loops.specs.Segments.{edge_of, edges_of, is_once, IsOneToOne}

-- how many segments start at a vertex, and how many end there
abbrev starts : List Segment → ℕ → ℕ
starts ss v = count_by (λ s. s.from == v) ss

abbrev ends : List Segment → ℕ → ℕ
ends ss v = count_by (λ s. s.to == v) ss

-- what the test of a vertex says
counted_once : (ss : List Segment) (v : ℕ) → is_once ss v ≡ true → (starts ss v ≡ 1) × (ends ss v ≡ 1)
counted_once ss v h = let p = and_parts (starts ss v == 1) (ends ss v == 1) h in (eqb-true (starts ss v) 1 p.0, eqb-true (ends ss v) 1 p.1)

-- a segment passes
abbrev BothOnce : List Segment → Segment → Type 0
BothOnce ss s = (is_once ss s.from && is_once ss s.to) ≡ true

-- where all do, a vertex that starts or ends a segment passes
once_from : (ss : List Segment) → All (BothOnce ss) ss → (v : ℕ) → 0 < starts ss v → (starts ss v ≡ 1) × (ends ss v ≡ 1)
once_from ss all v some =
    let found = passing (λ s. s.from == v) ss some in
    let s = found.member in
    let both = and_parts (is_once ss s.from) (is_once ss s.to) (All-contains (BothOnce ss) ss s all found.inside) in
    counted_once ss v (subst (λ u. is_once ss u ≡ true) (eqb-true s.from v found.passes) both.0)

once_to : (ss : List Segment) → All (BothOnce ss) ss → (v : ℕ) → 0 < ends ss v → (starts ss v ≡ 1) × (ends ss v ≡ 1)
once_to ss all v some =
    let found = passing (λ s. s.to == v) ss some in
    let s = found.member in
    let both = and_parts (is_once ss s.from) (is_once ss s.to) (All-contains (BothOnce ss) ss s all found.inside) in
    counted_once ss v (subst (λ u. is_once ss u ≡ true) (eqb-true s.to v found.passes) both.1)

-- so each vertex starts as many as it ends, one at most
each : (ss : List Segment) → All (BothOnce ss) ss → (v : ℕ) → (starts ss v ≡ ends ss v) × (starts ss v ≤ 1)
each ss all v = elim (cases_eq (starts ss v) 0) as (λ _. (starts ss v ≡ ends ss v) × (starts ss v ≤ 1)) [
  | inr n ↦ let p = once_from ss all v (omega (arith, n)) in (omega (arith, p.0, p.1), omega (arith, p.0))
  | inl z ↦ elim (cases_eq (ends ss v) 0) as (λ _. (starts ss v ≡ ends ss v) × (starts ss v ≤ 1)) [
    | inl y ↦ (omega (arith, z, y), omega (arith, z))
    | inr n ↦ let p = once_to ss all v (omega (arith, n)) in (omega (arith, p.0, p.1), omega (arith, p.0))
  ]
]

-- the condition, from the test
pub one_to_one : (ss : List Segment) → list_all (λ s. is_once ss s.from && is_once ss s.to) ss ≡ true → IsOneToOne (edges_of ss)
one_to_one ss h =
    let all = AllPass-from_list_all (λ s. is_once ss s.from && is_once ss s.to) ss h in
    record {
      balanced = λ v. omega (arith, count_by-map (λ (e : ℕ × ℕ). e.0 == v) edge_of ss, count_by-map (λ (e : ℕ × ℕ). e.1 == v) edge_of ss, (each ss all v).0);
      once = λ v. omega (arith, count_by-map (λ (e : ℕ × ℕ). e.0 == v) edge_of ss, (each ss all v).1);
    }
