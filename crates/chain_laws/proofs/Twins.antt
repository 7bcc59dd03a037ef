-- The twin rule: on a closed chain the twin runs back, is paired with its own twin, and keeps the order.
use Rattle.std.specs.Prelude.{◌≡◌, ℕ, ◌<◌, List, true, length, get_or}
use Rattle.std.proofs.Common.{arith, refl, sym, ap, ◌∙◌, inl, inr}
use Rattle.std.proofs.lemmas.Bool.{cases_lt}
use Rattle.std.proofs.lemmas.List.{get_or_default}
use Rattle.chain_terms.specs.Chains.{is_edge, IsClosed}
use Rattle.chain_laws.specs.Chains.{edge_is, is_self, dir-count_by}
use Rattle.chain_terms.specs.Permutations.{AreInverse}
use Rattle.chain_terms.specs.Ranks.{rank, IsPlace, start, finish, runs_as, runs_against, twin, RunsBack}
use Rattle.chain_laws.proofs.Ranks.{nth_is, rank_ascends, rank_lower, rank_below, same_place}

-- the edge at a place runs as itself, whatever stands past the end
pub runs_as_itself : (es : List (ℕ × ℕ)) (h : ℕ) → h < length es → (d : ℕ × ℕ) → runs_as es h (get_or es h d) ≡ true
runs_as_itself es h below d = ap (runs_as es h) (get_or_default es h d (0, 0) below) ∙ is_self (start es h) (finish es h)

-- the twin is a place of its rank among the edges that run back
pub twin_place : (es : List (ℕ × ℕ)) → IsClosed es → (h : ℕ) → h < length es → IsPlace (runs_against es h) es (rank (runs_as es h) es h) (twin es h)
twin_place es closed h below =
    nth_is (runs_against es h) es (rank (runs_as es h) es h)
    (omega (
      arith,
      rank_below (runs_as es h) es h below (runs_as_itself es h below),
      closed (start es h) (finish es h),
      dir-count_by es (start es h) (finish es h),
      dir-count_by es (finish es h) (start es h),
    ))

-- the twin runs back
pub twin_runs_back : (es : List (ℕ × ℕ)) → IsClosed es → (h : ℕ) → h < length es → RunsBack es h (twin es h)
twin_runs_back es closed h below =
    let p = twin_place es closed h below in
    let e = edge_is (get_or es (twin es h) (0, 0)) (finish es h) (start es h) (p.holds (0, 0)) in
    record {
      within = p.within;
      from = e.0;
      to = e.1;
      same = ap (λ a. rank (λ d. is_edge d a (finish es (twin es h))) es (twin es h)) e.0 ∙ ap (λ b. rank (λ d. is_edge d (finish es h) b) es (twin es h)) e.1 ∙ p.earlier;
    }

-- what runs back to a place that runs back runs as the first
pub twin_twin : (es : List (ℕ × ℕ)) → IsClosed es → (h : ℕ) → h < length es → twin es (twin es h) ≡ h
twin_twin es closed h below =
    let back = twin_runs_back es closed h below in
    let again = twin_runs_back es closed (twin es h) back.within in
    same_place (runs_as es h) es (rank (runs_as es h) es h) (twin es (twin es h)) h
    (place_of es h (twin es (twin es h)) again.within (again.from ∙ back.to) (again.to ∙ back.from) (again.same ∙ back.same))
    (record { within = below; holds = runs_as_itself es h below; earlier = refl })
  where
    place_of : (es : List (ℕ × ℕ)) (h t : ℕ) → t < length es → start es t ≡ start es h → finish es t ≡ finish es h →
        rank (runs_as es t) es t ≡ rank (runs_as es h) es h → IsPlace (runs_as es h) es (rank (runs_as es h) es h) t
    place_of es h t w a b r = record {
      within = w;
      holds = λ d. ap (λ x. is_edge (get_or es t d) x (finish es h)) (sym a) ∙ ap (λ y. is_edge (get_or es t d) (start es t) y) (sym b) ∙ runs_as_itself es t w d;
      earlier = ap (λ x. rank (λ d. is_edge d x (finish es h)) es t) (sym a) ∙ ap (λ y. rank (λ d. is_edge d (start es t) y) es t) (sym b) ∙ r;
    }

-- twins of edges with the same ends stand in the order of the edges
pub twin_keeps_order : (es : List (ℕ × ℕ)) → IsClosed es → (h g : ℕ) → h < g → g < length es → start es h ≡ start es g → finish es h ≡ finish es g → twin es h < twin es g
twin_keeps_order es closed h g less below a b = elim (cases_lt (twin es h) (twin es g)) as (λ _. twin es h < twin es g) [
  | inl l ↦ l
  | inr m ↦ absurd (omega (arith, lower, high, low, rank_ascends (runs_against es h) es (twin es g) (twin es h) m))
]
  where
    hn : h < length es
    hn = omega (arith, less, below)

    lower : rank (runs_as es h) es h < rank (runs_as es h) es g
    lower = rank_lower (runs_as es h) es h g less (omega (arith, below)) (runs_as_itself es h hn)

    low : rank (runs_against es h) es (twin es h) ≡ rank (runs_as es h) es h
    low = (twin_place es closed h hn).earlier

    high : rank (runs_against es h) es (twin es g) ≡ rank (runs_as es h) es g
    high =
        ap (λ x. rank (λ e. is_edge e (finish es h) x) es (twin es g)) a ∙ ap (λ y. rank (λ e. is_edge e y (start es g)) es (twin es g)) b ∙ (twin_place es closed g below).earlier
        ∙ ap (λ x. rank (λ e. is_edge e x (finish es g)) es g) (sym a) ∙ ap (λ y. rank (λ e. is_edge e (start es h) y) es g) (sym b)

-- on a closed chain the twin is its own inverse
pub twins_inverse : (es : List (ℕ × ℕ)) → IsClosed es → AreInverse (twin es) (twin es) (length es)
twins_inverse es closed = record {
  below = λ h b. (twin_runs_back es closed h b).within;
  above = λ h b. (twin_runs_back es closed h b).within;
  back = twin_twin es closed;
  forth = twin_twin es closed;
}
