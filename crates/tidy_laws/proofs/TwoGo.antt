-- In a collapse exactly two triangles go.
use Rattle.std.proofs.Common.{◌≡◌, ◌≢◌, ℕ, ◌+◌, ◌*◌, ◌/◌, ◌<◌, ◌⊎◌, inl, inr, true, false, pos, List, length, get_or, sym, ap, ◌∙◌, arith}
use Rattle.std.specs.Prelude.{◌+ℤ◌, ◌-ℤ◌, filter}
use Rattle.std.proofs.lemmas.Int.{ints}
use Rattle.std.proofs.lemmas.Bool.{both_ways, cases_Bool}
use Rattle.std.proofs.lemmas.List.{length-map}
use Rattle.std.proofs.lemmas.List.Sums.{length-filter}
use Rattle.chain_terms.specs.Chains.{all_edges, one_if}
use Rattle.chain_terms.specs.Ranks.{twin}
use Rattle.chain_terms.specs.Sums.{upto}
use Rattle.chain_laws.specs.Counts.{total-count_by}
use Rattle.chain_laws.specs.Sums.{total-add, total-sub}
use Rattle.chain_laws.specs.Triples.{renamed_triple}
use Rattle.chain_laws.proofs.Places.{one_hit, total-places, total-upto_ones, total-upto_same, where_same, where_same-apart, where_same-at}
use Rattle.halfedge.proofs.Around.{pair_up}
use Rattle.halfedge.proofs.Edges.{length-all_edges}
use Rattle.mesh_terms.specs.Meshes.{Triple}
use Rattle.tidy_terms.specs.Collapse.{collapsed, merged, stays}
use Rattle.tidy_laws.specs.Conditions.{CanCollapse}
use Rattle.tidy_laws.proofs.Six.{between, goes_near, the_six}

pub two_go : (ts : List Triple) (h a b c d : ℕ) → CanCollapse ts h a b c d → length (collapsed a b ts) + 2 ≡ length ts
two_go ts h a b c d can =
    let m = length ts in
    let sum = total-upto_same (λ k. pos (one_if (stays a b (get_or ts k (0, 0, 0))))) (λ k. pos 1 -ℤ (where_same k (h / 3) (pos 1) +ℤ where_same k (g / 3) (pos 1))) m each in
    omega (
      arith,
      ints,
      length-map (filter (stays a b) ts) (renamed_triple (merged a b)),
      length-filter (stays a b) ts,
      total-count_by (stays a b) ts,
      total-places (λ t. pos (one_if (stays a b t))) (0, 0, 0) ts,
      sum,
      total-sub (λ k. pos 1) (λ k. where_same k (h / 3) (pos 1) +ℤ where_same k (g / 3) (pos 1)) (upto m),
      total-add (λ k. where_same k (h / 3) (pos 1)) (λ k. where_same k (g / 3) (pos 1)) (upto m),
      total-upto_ones m,
      one_hit (pos 1) (h / 3) m (omega (arith, can.below, length-all_edges ts)),
      one_hit (pos 1) (g / 3) m (omega (arith, (the_six ts h a b c d can).g_runs.low, length-all_edges ts)),
    )
  where
    g : ℕ
    g = twin (all_edges ts) h

    apart : h / 3 ≢ g / 3
    apart e = (pair_up ts can.three can.closed).other h can.below (sym e)

    third : (k : ℕ) → 3 * k / 3 ≡ k
    third k = omega arith

    goes : (k : ℕ) → (k ≡ h / 3) ⊎ (k ≡ g / 3) → stays a b (get_or ts k (0, 0, 0)) ≡ false
    goes k (inl e) = ap (λ i. stays a b (get_or ts i (0, 0, 0))) (sym (third k)) ∙ goes_near ts h a b c d (3 * k) can (inl (third k ∙ e))
    goes k (inr e) = ap (λ i. stays a b (get_or ts i (0, 0, 0))) (sym (third k)) ∙ goes_near ts h a b c d (3 * k) can (inr (third k ∙ e))

    each : (k : ℕ) → k < length ts → pos (one_if (stays a b (get_or ts k (0, 0, 0)))) ≡ pos 1 -ℤ (where_same k (h / 3) (pos 1) +ℤ where_same k (g / 3) (pos 1))
    each k low = by (cases_Bool (stays a b (get_or ts k (0, 0, 0)))) where
      by : (stays a b (get_or ts k (0, 0, 0)) ≡ true) ⊎ (stays a b (get_or ts k (0, 0, 0)) ≡ false) →
          pos (one_if (stays a b (get_or ts k (0, 0, 0)))) ≡ pos 1 -ℤ (where_same k (h / 3) (pos 1) +ℤ where_same k (g / 3) (pos 1))
      by (inl y) =
          omega (
            arith,
            ints,
            ap one_if y,
            where_same-apart k (h / 3) (pos 1) (λ e. both_ways (stays a b (get_or ts k (0, 0, 0))) (goes k (inl e)) y),
            where_same-apart k (g / 3) (pos 1) (λ e. both_ways (stays a b (get_or ts k (0, 0, 0))) (goes k (inr e)) y),
          )
      by (inr n) = elim (between ts h a b c d k can low n) as (λ _. pos (one_if (stays a b (get_or ts k (0, 0, 0))))
          ≡ pos 1 -ℤ (where_same k (h / 3) (pos 1) +ℤ where_same k (g / 3) (pos 1))) [
            | inl e ↦ omega (arith, ints, ap one_if n, where_same-at k (h / 3) (pos 1) e, where_same-apart k (g / 3) (pos 1) (λ f. apart (sym e ∙ f)))
            | inr e ↦ omega (arith, ints, ap one_if n, where_same-at k (g / 3) (pos 1) e, where_same-apart k (h / 3) (pos 1) (λ f. apart (sym f ∙ e)))
          ]
