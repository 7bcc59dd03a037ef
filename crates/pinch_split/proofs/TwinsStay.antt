-- The new triangles have the twins that the triangles had.
use Rattle.std.proofs.Common.{◌≡◌, ◌<◌, inl, inr, ℕ, Bool, true, false, List, length, get_or, refl, sym, ◌∙◌, ap, arith}
use Rattle.std.specs.Prelude.{◌&&◌, ◌==◌, nat_lt, pos}
use Rattle.std.proofs.lemmas.Bool.{cases_order, lt-ltb, le-ltb}
use Rattle.std.proofs.lemmas.Int.{ints}
use Rattle.std.proofs.lemmas.List.{same_lists, length-map}
use Rattle.chain_terms.specs.Chains.{is_edge, one_if}
use Rattle.chain_terms.specs.Ranks.{rank, start, finish, runs_as, runs_against, twin}
use Rattle.chain_terms.specs.Sums.{total, upto}
use Rattle.chain_laws.specs.Chains.{edge_is, and_turned}
use Rattle.chain_laws.proofs.Inverses.{inverse_sum}
use Rattle.chain_laws.proofs.Places.{total-upto_same, length-up_from}
use Rattle.chain_laws.proofs.Ranks.{same_place}
use Rattle.chain_laws.proofs.Twins.{runs_as_itself, twin_place, twin_runs_back, twin_keeps_order, twins_inverse}
use Rattle.mesh_terms.specs.Meshes.{Triple}
use Rattle.mesh_terms.specs.Twins.{twins_of}
use Rattle.halfedge.proofs.Listed.{listed}
use Rattle.pinch_split.specs.Given.{corners}
use Rattle.pinch_split.proofs.Anew.{HasFans, old, anew, fan, length-anew, same_start, start_anew, finish_anew, twin_start, twin_finish, closed_anew}
use Rattle.pinch_split.proofs.RankSums.{counts, rank_sum}

-- half-edges that run the same way anew ran the same way
ran_alike : (ts : List Triple) (of first : List ℕ) → HasFans ts of first → (k h : ℕ) → k < length (old ts) → h < length (old ts) →
    start (anew ts of) k ≡ start (anew ts of) h → finish (anew ts of) k ≡ finish (anew ts of) h →
    (start (old ts) k ≡ start (old ts) h) × (finish (old ts) k ≡ finish (old ts) h)
ran_alike ts of first known k h k_below h_below starts ends =
    let back_k = twin_runs_back (old ts) known.closed k k_below in
    let back_h = twin_runs_back (old ts) known.closed h h_below in
    let fans : fan of k ≡ fan of h = sym (start_anew ts of k k_below) ∙ starts ∙ start_anew ts of h h_below in
    let twins : fan of (twin (old ts) k) ≡ fan of (twin (old ts) h) = sym (finish_anew ts of first known k k_below) ∙ ends ∙ finish_anew ts of first known h h_below in (
      same_start ts of first known k h k_below h_below fans,
      sym back_k.from ∙ same_start ts of first known (twin (old ts) k) (twin (old ts) h) back_k.within
          back_h.within twins ∙ back_h.from,
    )

-- twins of half-edges that run the same way stand in their order
same_order : (es : List (ℕ × ℕ)) → ((h g : ℕ) → h < g → g < length es → start es h ≡ start es g → finish es h ≡ finish es g → twin es h < twin es g) →
    (k h : ℕ) → k < length es → h < length es → start es k ≡ start es h → finish es k ≡ finish es h → nat_lt (twin es k) (twin es h) ≡ nat_lt k h
same_order es order k h k_below h_below starts ends = elim (cases_order k h) as (λ _. nat_lt (twin es k) (twin es h) ≡ nat_lt k h) [
  | inl e ↦ le-ltb (twin es k) (twin es h) (omega (arith, ap (twin es) e)) ∙ sym (le-ltb k h (omega (arith, e)))
  | inr (inl less) ↦ lt-ltb (twin es k) (twin es h) (order k h less h_below starts ends) ∙ sym (lt-ltb k h less)
  | inr (inr more) ↦
      let up = order h k more k_below (sym starts) (sym ends) in
      le-ltb (twin es k) (twin es h) (omega (arith, up)) ∙ sym (le-ltb k h (omega (arith, more)))
]

-- the twin of k counts for the twin of h as k counts for h
same_count : (ts : List Triple) (of first : List ℕ) → HasFans ts of first → (h k : ℕ) → h < length (old ts) → k < length (old ts) →
    counts (runs_against (anew ts of) h) (anew ts of) (0, 0) (twin (old ts) h) (twin (old ts) k) ≡ counts (runs_as (anew ts of) h) (anew ts of) (0, 0) h k
same_count ts of first known h k h_below k_below =
    ap (λ b. pos (one_if (b && nat_lt (twin (old ts) k) (twin (old ts) h)))) turned ∙ by (runs_as (anew ts of) h (get_or (anew ts of) k (0, 0))) refl
  where
    es : List (ℕ × ℕ)
    es = anew ts of

    turned : runs_against es h (get_or es (twin (old ts) k) (0, 0)) ≡ runs_as es h (get_or es k (0, 0))
    turned =
        (λ i. (twin_start ts of first known k k_below i == finish es h) && (twin_finish ts of first known k k_below i == start es h))
        ∙ and_turned (finish es k == finish es h) (start es k == start es h)

    by : (b : Bool) → runs_as es h (get_or es k (0, 0)) ≡ b → pos (one_if (b && nat_lt (twin (old ts) k) (twin (old ts) h))) ≡ pos (one_if (b && nat_lt k h))
    by false is = refl
    by true is =
        let ends = edge_is (get_or es k (0, 0)) (start es h) (finish es h) is in
        let was = ran_alike ts of first known k h k_below h_below ends.0 ends.1 in
        ap (λ c. pos (one_if c)) (same_order (old ts) (twin_keeps_order (old ts) known.closed) k h k_below h_below was.0 was.1)

-- the twin has the rank of the half-edge
same_rank : (ts : List Triple) (of first : List ℕ) → HasFans ts of first → (h : ℕ) → h < length (old ts) →
    rank (runs_against (anew ts of) h) (anew ts of) (twin (old ts) h) ≡ rank (runs_as (anew ts of) h) (anew ts of) h
same_rank ts of first known h below =
    let es = anew ts of in
    let m = length (old ts) in
    let t = twin (old ts) in
    let full = length-anew ts of in
    let back = (twin_runs_back (old ts) known.closed h below).within in
    let left = rank_sum (runs_against es h) es (0, 0) (t h) (omega (arith, back, full)) ∙ ap (λ n. total (counts (runs_against es h) es (0, 0) (t h)) (upto n)) full in
    let right = rank_sum (runs_as es h) es (0, 0) h (omega (arith, below, full)) ∙ ap (λ n. total (counts (runs_as es h) es (0, 0) h) (upto n)) full in
    let turn = inverse_sum (counts (runs_against es h) es (0, 0) (t h)) t t m (twins_inverse (old ts) known.closed) in
    let each = total-upto_same (λ k. counts (runs_against es h) es (0, 0) (t h) (t k)) (counts (runs_as es h) es (0, 0) h) m (λ k b. same_count ts of first known h k below b) in
    omega (arith, ints, left, right, turn, each)

-- so it is the twin
pub twin_stays : (ts : List Triple) (of first : List ℕ) → HasFans ts of first → (h : ℕ) → h < length (old ts) → twin (anew ts of) h ≡ twin (old ts) h
twin_stays ts of first known h below =
    let es = anew ts of in
    let t = twin (old ts) h in
    let full = length-anew ts of in
    let back = (twin_runs_back (old ts) known.closed h below).within in
    let within : t < length es = omega (arith, back, full) in
    let starts = twin_start ts of first known h below in
    let ends = twin_finish ts of first known h below in
    same_place (runs_against es h) es (rank (runs_as es h) es h) (twin es h) t (twin_place es (closed_anew ts of first known) h (omega (arith, below, full)))
    (record {
      within = within;
      holds = λ d. (λ i. is_edge (get_or es t d) (sym starts i) (sym ends i)) ∙ runs_as_itself es t within d;
      earlier = same_rank ts of first known h below;
    })

-- all twins are as they were
pub twins_stay : (ts : List Triple) (of first : List ℕ) → HasFans ts of first → twins_of (corners of (length ts)) ≡ twins_of ts
twins_stay ts of first known =
    let full = length-anew ts of in
    let count : length (twins_of (corners of (length ts))) ≡ length (anew ts of) = length-map (upto (length (anew ts of))) (twin (anew ts of))
    ∙ length-up_from 0 (length (anew ts of)) in
    let count_old : length (twins_of ts) ≡ length (old ts) = length-map (upto (length (old ts))) (twin (old ts)) ∙ length-up_from 0 (length (old ts)) in
    same_lists (twins_of (corners of (length ts))) (twins_of ts) (count ∙ full ∙ sym count_old)
    (λ h d low.
    let below : h < length (anew ts of) = omega (arith, low, count) in
    let before : h < length (old ts) = omega (arith, below, full) in
    listed (twin (anew ts of)) (length (anew ts of)) h d below ∙ twin_stays ts of first known h before ∙ sym (listed (twin (old ts)) (length (old ts)) h d before))
