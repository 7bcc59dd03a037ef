-- The half-edges in doubt: at the start, and after a collapse.
use Rattle.std.proofs.Common.{◌≡◌, ℕ, zero, suc, ◌+◌, ◌*◌, ◌/◌, ◌<◌, ◌≤◌, ◌⊎◌, inl, inr, Bool, true, false, ℤ, List, [], ◌∷◌, length, get_or, refl, sym, ap, subst, ◌∙◌, arith}
use Rattle.std.specs.Prelude.{min}
use Rattle.std.specs.BTreeSet.{insert_key}
use Rattle.std.specs.List.{All, Contains}
use Rattle.std.specs.Ordering.{nat_cmp}
use Rattle.std.proofs.lemmas.Bool.{cases_eq, cases_order}
use Rattle.std.proofs.lemmas.List.Elements.{All-head, All-tail}
use Rattle.chain_terms.specs.Chains.{all_edges, one_if, IsClosed}
use Rattle.chain_terms.specs.Ranks.{rank, start, finish, twin, RunsBack}
use Rattle.chain_laws.proofs.Twins.{twin_runs_back, twin_twin}
use Rattle.halfedge.proofs.Edges.{length-all_edges, not_back}
use Rattle.mesh_check.specs.Opposites.{third_vertex}
use Rattle.mesh_terms.specs.Meshes.{HasThree, Triple}
use Rattle.tidy_terms.specs.Collapsible.{is_collapsible}
use Rattle.tidy_terms.specs.PointTriples.{same_point}
use Rattle.tidy_laws.proofs.Tidying.{are_met}
use Rattle.tidy_laws.proofs.Turned.{same_turned}
use Rattle.mesh_tidy.specs.Doubts.{AreDoubted, HasLesserAtOne, lies_at_one}
use Rattle.mesh_tidy.specs.TidySurface.{TidySurface, Has, IsTwin, left_of, number_of}
use Rattle.mesh_tidy.proofs.DoubtSet.{added_there, others_there}

-- where each has a mark, ranks are places
all_rank : (ms : List Bool) → All (λ m. m ≡ true) ms → (k : ℕ) → k ≤ length ms → rank (λ m. m) ms k ≡ k
all_rank [] all k low = omega (arith, low)
all_rank (m ∷ ms) all zero low = refl
all_rank (m ∷ ms) all (suc k) low =
    omega (arith, ap one_if (All-head (λ n. n ≡ true) m ms all), all_rank ms (All-tail (λ n. n ≡ true) m ms all) k (omega (arith, low)))

-- and the numbers of half-edges are their own
pub whole_number : (s : TidySurface) → length s.left ≡ length s.triples → All (λ m. m ≡ true) s.left → (h : ℕ) → h < 3 * length s.triples → number_of s h ≡ h
whole_number s marks all h low = omega (arith, all_rank s.left all (h / 3) (omega (arith, low, marks)))

-- at the start: of each half-edge of zero length and its twin the lesser
pub first_doubted : (points : List (List ℤ)) (s : TidySurface) (doubts : List ℕ) → length s.left ≡ length s.triples → All (λ m. m ≡ true) s.left →
    left_of s ≡ s.triples → IsClosed (all_edges s.triples) →
    HasLesserAtOne points s.triples doubts → AreDoubted points s doubts
first_doubted points s doubts marks all whole closed listed h has can =
    let es = all_edges s.triples in
    let low : h < length es = omega (arith, has.0, length-all_edges s.triples) in
    let g = twin es h in
    let back = twin_runs_back es closed h low in
    let number = whole_number s marks all h has.0 in
    let at_h : is_collapsible points s.triples h ≡ true = (λ i. is_collapsible points (sym whole i) (sym number i)) ∙ can in
    let met = are_met points es (start es h) (finish es h) (third_vertex s.triples h) (third_vertex s.triples g) at_h in
    let g_low : g < 3 * length s.triples = omega (arith, back.within, length-all_edges s.triples) in
    let g_has : Has s g = (g_low, all (g / 3) false (omega (arith, g_low, marks))) in
    let inside = listed h has.0 met.at_one in
    let twin_is : IsTwin s h g = record { there = g_has; is = (λ i. twin (all_edges (whole i)) (number i)) ∙ sym (whole_number s marks all g g_low) } in
    record { other = g; pair = twin_is; among = inside }

-- of the half-edges below n that run before their twins, those whose ends lie at one point are in doubt
abbrev pub AreListedTo : List (List ℤ) → List Triple → ℕ → List ℕ → Type 0
AreListedTo points ts n doubts = (h : ℕ) → h < n → h < twin (all_edges ts) h → lies_at_one points ts h ≡ true → Contains doubts h

-- one more is, or it is none of these
pub listed_added : (points : List (List ℤ)) (ts : List Triple) (n : ℕ) (doubts : List ℕ) → AreListedTo points ts n doubts →
    AreListedTo points ts (n + 1) (insert_key nat_cmp doubts n)
listed_added points ts n doubts so_far h low less at_one = elim (cases_eq h n) as (λ _. Contains (insert_key nat_cmp doubts n) h) [
  | inl e ↦ subst (Contains (insert_key nat_cmp doubts n)) (sym e) (added_there doubts n)
  | inr apart ↦ others_there doubts n h (so_far h (omega (arith, low, apart)) less at_one)
]

pub listed_passed : (points : List (List ℤ)) (ts : List Triple) (n : ℕ) (doubts : List ℕ) → AreListedTo points ts n doubts →
    (n < twin (all_edges ts) n → lies_at_one points ts n ≡ true → ⊥) → AreListedTo points ts (n + 1) doubts
listed_passed points ts n doubts so_far none h low less at_one = elim (cases_eq h n) as (λ _. Contains doubts h) [
  | inl e ↦ absurd (none (subst (λ x. x < twin (all_edges ts) x) e less) (ap (lies_at_one points ts) (sym e) ∙ at_one))
  | inr apart ↦ so_far h (omega (arith, low, apart)) less at_one
]

-- all together: of each and its twin the lesser
pub listed_all : (points : List (List ℤ)) (ts : List Triple) (doubts : List ℕ) → All HasThree ts → IsClosed (all_edges ts) →
    AreListedTo points ts (3 * length ts) doubts → HasLesserAtOne points ts doubts
listed_all points ts doubts three closed listed h low at_one = by (cases_order h g) where
  es : List (ℕ × ℕ)
  es = all_edges ts

  g : ℕ
  g = twin es h

  inside : h < length es
  inside = omega (arith, low, length-all_edges ts)

  back : RunsBack es h g
  back = twin_runs_back es closed h inside

  turned : lies_at_one points ts g ≡ true
  turned = (λ i. same_point (get_or points (back.from i) []) (get_or points (back.to i) [])) ∙ same_turned (get_or points (start es h) []) (get_or points (finish es h) []) at_one

  by : (h ≡ g) ⊎ ((h < g) ⊎ (g < h)) → Contains doubts (min h g)
  by (inl e) = absurd (not_back ts three h g inside (ap (λ x. x / 3) e) (back.from, back.to))
  by (inr (inl less)) = let first : h ≡ min h g = omega (arith, less) in subst (Contains doubts) first (listed h low less at_one)
  by (inr (inr more)) =
      let again = twin_twin es closed h inside in
      let first : g ≡ min h g = omega (arith, more) in
      subst (Contains doubts) first (listed g (omega (arith, back.within, length-all_edges ts)) (omega (arith, more, again)) turned)
