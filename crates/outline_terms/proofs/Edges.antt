-- The edges of an outline: as many as points, each between two of them, and one from each.
use Rattle.std.proofs.Common.{◌≡◌, ◌≢◌, ℕ, ◌<◌, ◌==◌, inl, inr, List, [], ◌∷◌, ◌++◌, length, get_or, refl, sym, ap, subst, arith}
use Rattle.std.specs.List.{All, Contains, concat, flat_map}
use Rattle.std.proofs.lemmas.Bool.{cases_Bool, eqb-true}
use Rattle.std.proofs.lemmas.List.{get_or_default, length-append}
use Rattle.std.proofs.lemmas.List.Sorted.{length_permutation}
use Rattle.chain_terms.specs.Chains.{one_if}
use Rattle.chain_terms.specs.Cycles.{out}
use Rattle.chain_terms.specs.Paths.{round_edges}
use Rattle.chain_terms.specs.Sums.{upto}
use Rattle.chain_laws.specs.Counts.{count_by-cons}
use Rattle.chain_laws.proofs.Ascending.{contains_later}
use Rattle.chain_laws.proofs.Paths.{length-round_edges}
use Rattle.chain_laws.proofs.Places.{length-up_from}
use Rattle.outline_terms.specs.Outlines.{IsBetween, IsOutline, Outline, outline_edges}
use Rattle.outline_terms.proofs.Once.{edge_ends, ends_differ, member_below, outline_once}

-- each edge runs between two points
pub edges_between : (o : Outline) → IsOutline o → All (IsBetween (length o.points)) (outline_edges o)
edges_between o is k d low = subst (IsBetween (length o.points)) (sym (get_or_default (outline_edges o) k d (0, 0) low)) (edge_ends o is k low)

-- and these differ
pub edges_proper : (o : Outline) → IsOutline o → All (λ e. (e.0 < length o.points) × (e.1 < length o.points) × (e.0 ≢ e.1)) (outline_edges o)
edges_proper o is k d low = let e = edges_between o is k d low in (e.0, e.1, ends_differ (outline_edges o) (outline_once o is).none k d low)

-- loops have as many edges as vertices
rounds_long : (loops : List (List ℕ)) → length (flat_map round_edges loops) ≡ length (concat loops)
rounds_long [] = refl
rounds_long (l ∷ ls) = omega (arith, length-append (round_edges l) (flat_map round_edges ls), length-append l (concat ls), length-round_edges l, rounds_long ls)

-- and as many vertices as points
pub loops_long : (o : Outline) → IsOutline o → length (concat o.loops) ≡ length o.points
loops_long o is = omega (arith, length_permutation (upto (length o.points)) (concat o.loops) is.each, length-up_from 0 (length o.points))

pub edges_long : (o : Outline) → IsOutline o → length (outline_edges o) ≡ length o.points
edges_long o is = omega (arith, rounds_long o.loops, loops_long o is)

-- each vertex of the loops is that of a point
pub loops_below : (o : Outline) → IsOutline o → All (λ v. v < length o.points) (concat o.loops)
loops_below o is k d low = member_below (length o.points) o.loops is.each k (get_or (concat o.loops) k d) (record { low = low; is = get_or_default (concat o.loops) k 0 d low })

-- a vertex that starts some edge stands first in one
starts_some : (es : List (ℕ × ℕ)) (v : ℕ) → 0 < out es v → (w : ℕ) × Contains es (v, w)
starts_some [] v some = absurd (omega (arith, some))
starts_some (e ∷ es) v some = elim (cases_Bool (e.0 == v)) as (λ _. (w : ℕ) × Contains (e ∷ es) (v, w)) [
  | inl y ↦ (e.1, (0, omega arith, ap (λ u. (u, e.1)) (eqb-true e.0 v y)))
  | inr m ↦ let r = starts_some es v (omega (arith, some, count_by-cons (λ f. f.0 == v) e es, ap one_if m)) in (r.0, contains_later (v, r.0) e es r.1)
]

-- each point starts an edge
pub edge_from : (o : Outline) → IsOutline o → (v : ℕ) → v < length o.points → (w : ℕ) × Contains (outline_edges o) (v, w)
edge_from o is v low = starts_some (outline_edges o) v (omega (arith, (outline_once o is).starts v low))
