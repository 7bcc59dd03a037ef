-- Where no two half-edges run the same way, a triangle's opposite lies across its first edge, with the same third vertex.
use Rattle.std.proofs.Common.{◌≡◌, ◌≢◌, ◌<◌, ◌+◌, ◌*◌, inl, inr, ℕ, zero, suc, Bool, true, false, cond, List, [], ◌∷◌, ◌++◌, length, get_or, refl, sym, ◌∙◌, ap, subst, arith}
use Rattle.std.specs.Prelude.{◌||◌, nat_le, take, count_by}
use Rattle.std.specs.List.{All, Contains}
use Rattle.std.proofs.lemmas.Bool.{cases_order, false≢true}
use Rattle.std.proofs.lemmas.Bool.Decides.{nat_tests}
use Rattle.std.proofs.lemmas.List.{get_or_default}
use Rattle.std.proofs.lemmas.List.Elements.{All-contains_itself, All-head, All-tail, All-weaker}
use Rattle.chain_terms.specs.Chains.{is_edge, all_edges, IsClosed}
use Rattle.chain_laws.specs.Chains.{same_edge, is_self, dir-count_by}
use Rattle.chain_laws.specs.Firsts.{passing}
use Rattle.chain_terms.specs.Ranks.{start, finish, twin}
use Rattle.chain_laws.proofs.Ranks.{rank_lower, rank_below}
use Rattle.chain_laws.proofs.Twins.{twin_runs_back}
use Rattle.mesh_terms.specs.Meshes.{Triple}
use Rattle.mesh_terms.specs.Halves.{next_half}
use Rattle.halfedge.specs.Laws.{AreSingle}
use Rattle.halfedge.proofs.Edges.{length-all_edges}
use Rattle.mesh_check.specs.Opposites.{third_vertex}
use Rattle.mesh_check.specs.Reduced.{same_triple, same_way, opposite, kept_from, kept_triples, NoOpposite}

-- two half-edges that run the same way, of which the first is earlier
not_earlier : (es : List (ℕ × ℕ)) → AreSingle es → (g h : ℕ) → g < h → h < length es → start es g ≡ start es h → finish es g ≡ finish es h → ⊥
not_earlier es single g h low high starts ends =
    let a = start es g in
    let b = finish es g in
    let p : ℕ × ℕ → Bool = same_edge (a, b) in
    let first : (d : ℕ × ℕ) → p (get_or es g d) ≡ true = λ d. ap p (get_or_default es g d (0, 0) (omega (arith, low, high))) ∙ is_self a b in
    let second : (d : ℕ × ℕ) → p (get_or es h d) ≡ true =
    λ d. ap p (get_or_default es h d (0, 0) high) ∙ (λ i. is_edge (get_or es h (0, 0)) (starts i) (ends i)) ∙ is_self (start es h) (finish es h) in
    omega (arith, single a b, dir-count_by es a b, rank_lower p es g h low (omega (arith, high)) first, rank_below p es h high second)

-- are one, where no two run the same way
single_is : (es : List (ℕ × ℕ)) → AreSingle es → (g h : ℕ) → g < length es → h < length es → start es g ≡ start es h → finish es g ≡ finish es h → g ≡ h
single_is es single g h low high starts ends = elim (cases_order g h) as (λ _. g ≡ h) [
  | inl e ↦ e
  | inr (inl before) ↦ absurd (not_earlier es single g h before high starts ends)
  | inr (inr after) ↦ absurd (not_earlier es single h g after low (sym starts) (sym ends))
]

-- what the half-edges of the triangle at a place are
record HasHalves (ts : List Triple) (i : ℕ) (t : Triple) : Type 0 where
  within : 3 * i + 2 < length (all_edges ts)
  start_0 : start (all_edges ts) (3 * i) ≡ t.0
  start_1 : start (all_edges ts) (3 * i + 1) ≡ t.1
  start_2 : start (all_edges ts) (3 * i + 2) ≡ t.2
  finish_0 : finish (all_edges ts) (3 * i) ≡ t.1
  finish_1 : finish (all_edges ts) (3 * i + 1) ≡ t.2
  finish_2 : finish (all_edges ts) (3 * i + 2) ≡ t.0

halves_at : (ts : List Triple) (i : ℕ) (d : Triple) → i < length ts → HasHalves ts i (get_or ts i d)
halves_at [] i d low = absurd (omega (arith, low))
halves_at (t ∷ ts) zero d low = record { within = omega arith; start_0 = refl; start_1 = refl; start_2 = refl; finish_0 = refl; finish_1 = refl; finish_2 = refl }
halves_at (t ∷ ts) (suc i) d low =
    let r = halves_at ts i d (omega (arith, low)) in
    let zeroth : 3 * suc i ≡ suc (suc (suc (3 * i))) = omega arith in
    let first : 3 * suc i + 1 ≡ suc (suc (suc (3 * i + 1))) = omega arith in
    let second : 3 * suc i + 2 ≡ suc (suc (suc (3 * i + 2))) = omega arith in
    record {
      within = omega (arith, r.within);
      start_0 = ap (start (all_edges (t ∷ ts))) zeroth ∙ r.start_0;
      start_1 = ap (start (all_edges (t ∷ ts))) first ∙ r.start_1;
      start_2 = ap (start (all_edges (t ∷ ts))) second ∙ r.start_2;
      finish_0 = ap (finish (all_edges (t ∷ ts))) zeroth ∙ r.finish_0;
      finish_1 = ap (finish (all_edges (t ∷ ts))) first ∙ r.finish_1;
      finish_2 = ap (finish (all_edges (t ∷ ts))) second ∙ r.finish_2;
    }

-- across the first edge of each triangle lies another third vertex
abbrev pub AreOthersAcross : List Triple → Type 0
AreOthersAcross ts = (i : ℕ) → i < length ts → third_vertex ts (twin (all_edges ts) (3 * i)) ≢ third_vertex ts (3 * i)

-- a half-edge that runs back along the first edge of the triangle at a place is its twin
back_is_twin : (ts : List Triple) → IsClosed (all_edges ts) → AreSingle (all_edges ts) → (i g : ℕ) → i < length ts → g < length (all_edges ts) →
    start (all_edges ts) g ≡ finish (all_edges ts) (3 * i) → finish (all_edges ts) g ≡ start (all_edges ts) (3 * i) → g ≡ twin (all_edges ts) (3 * i)
back_is_twin ts closed single i g low within starts ends =
    let back = twin_runs_back (all_edges ts) closed (3 * i) (omega (arith, low, length-all_edges ts)) in
    single_is (all_edges ts) single g (twin (all_edges ts) (3 * i)) within back.within (starts ∙ sym back.from) (ends ∙ sym back.to)

-- the third vertices
third_0 : (ts : List Triple) (i : ℕ) (t : Triple) → HasHalves ts i t → third_vertex ts (3 * i) ≡ t.2
third_0 ts i t halves = let on : next_half (next_half (3 * i)) ≡ 3 * i + 2 = omega arith in ap (start (all_edges ts)) on ∙ halves.start_2

third_1 : (ts : List Triple) (i : ℕ) (t : Triple) → HasHalves ts i t → third_vertex ts (3 * i + 1) ≡ t.0
third_1 ts i t halves = let on : next_half (next_half (3 * i + 1)) ≡ 3 * i = omega arith in ap (start (all_edges ts)) on ∙ halves.start_0

third_2 : (ts : List Triple) (i : ℕ) (t : Triple) → HasHalves ts i t → third_vertex ts (3 * i + 2) ≡ t.1
third_2 ts i t halves = let on : next_half (next_half (3 * i + 2)) ≡ 3 * i + 1 = omega arith in ap (start (all_edges ts)) on ∙ halves.start_1

-- how two triples may be opposite
data IsOppositeCase (s t : Triple) : Type 0 where
  First : s.0 ≡ t.0 → s.1 ≡ t.2 → s.2 ≡ t.1 → IsOppositeCase s t
  Second : s.0 ≡ t.2 → s.1 ≡ t.1 → s.2 ≡ t.0 → IsOppositeCase s t
  Third : s.0 ≡ t.1 → s.1 ≡ t.0 → s.2 ≡ t.2 → IsOppositeCase s t

-- the same vertices in the same places
same_parts : (s t : Triple) → same_triple s t ≡ true → (s.0 ≡ t.0) × (s.1 ≡ t.1) × (s.2 ≡ t.2)
same_parts s t is = (grind (arith, nat_tests, is), grind (arith, nat_tests, is), grind (arith, nat_tests, is))

opposite_case : (s t : Triple) → opposite s t ≡ true → IsOppositeCase s t
opposite_case s t is = by (same_triple s (t.0, t.2, t.1)) (same_triple s (t.2, t.1, t.0)) (same_triple s (t.1, t.0, t.2)) refl refl refl is
  where
    by : (x y z : Bool) → same_triple s (t.0, t.2, t.1) ≡ x → same_triple s (t.2, t.1, t.0) ≡ y → same_triple s (t.1, t.0, t.2) ≡ z → (x || y || z) ≡ true → IsOppositeCase s t
    by true y z p q r some = let e = same_parts s (t.0, t.2, t.1) p in First e.0 e.1 e.2
    by false true z p q r some = let e = same_parts s (t.2, t.1, t.0) q in Second e.0 e.1 e.2
    by false false true p q r some = let e = same_parts s (t.1, t.0, t.2) r in Third e.0 e.1 e.2
    by false false false p q r some = absurd (cc)

-- so no triangle has an opposite one
pub none_opposite : (ts : List Triple) → IsClosed (all_edges ts) → AreSingle (all_edges ts) → AreOthersAcross ts → NoOpposite ts
none_opposite ts closed single others s t (i, low, is) (j, below, at) = by (opposite s t) refl
  where
    halves : HasHalves ts i s
    halves = subst (HasHalves ts i) is (halves_at ts i s low)

    across : HasHalves ts j t
    across = subst (HasHalves ts j) at (halves_at ts j t below)

    not_back : (g : ℕ) → g < length (all_edges ts) → start (all_edges ts) g ≡ s.1 → finish (all_edges ts) g ≡ s.0 → third_vertex ts g ≡ s.2 → ⊥
    not_back g within starts ends third =
        let is_twin = back_is_twin ts closed single i g low within (starts ∙ sym halves.finish_0) (ends ∙ sym halves.start_0) in
        others i low (ap (third_vertex ts) (sym is_twin) ∙ third ∙ sym (third_0 ts i s halves))

    no_case : IsOppositeCase s t → ⊥
    no_case (First a b c) = not_back (3 * j + 2) (omega (arith, across.within)) (across.start_2 ∙ sym b) (across.finish_2 ∙ sym a) (third_2 ts j t across ∙ sym c)
    no_case (Second a b c) = not_back (3 * j + 1) (omega (arith, across.within)) (across.start_1 ∙ sym b) (across.finish_1 ∙ sym a) (third_1 ts j t across ∙ sym c)
    no_case (Third a b c) = not_back (3 * j) (omega (arith, across.within)) (across.start_0 ∙ sym b) (across.finish_0 ∙ sym a) (third_0 ts j t across ∙ sym c)

    by : (b : Bool) → opposite s t ≡ b → opposite s t ≡ false
    by false none = none
    by true some = absurd (no_case (opposite_case s t some))

-- triples that have no opposite ones are kept
kept_all_of : (all : List Triple) (i : ℕ) (ts : List Triple) → All (λ t. count_by (opposite t) all ≡ 0) ts → kept_from all i ts ≡ ts
kept_all_of all i [] none = refl
kept_all_of all i (t ∷ ts) none =
    let here : count_by (opposite t) all ≡ 0 = All-head (λ u. count_by (opposite u) all ≡ 0) t ts none in
    ap (λ b. cond b (t ∷ []) [] ++ kept_from all (suc i) ts) (not_fewer (count_by (opposite t) all) (count_by (same_way t) (take i all)) here)
    ∙ ap (λ l. t ∷ l) (kept_all_of all (suc i) ts (All-tail (λ u. count_by (opposite u) all ≡ 0) t ts none))
  where
    not_fewer : (m n : ℕ) → m ≡ 0 → nat_le m n ≡ true
    not_fewer m n h = grind (arith, nat_tests, h)

-- so all are where no two are opposite
pub kept_none_opposite : (ts : List Triple) → NoOpposite ts → kept_triples ts ≡ ts
kept_none_opposite ts none = kept_all_of ts 0 ts (All-weaker (Contains ts) (λ t. count_by (opposite t) ts ≡ 0) no_count ts (All-contains_itself ts))
  where
    no_count : (t : Triple) → Contains ts t → count_by (opposite t) ts ≡ 0
    no_count t inside = by (count_by (opposite t) ts) refl
      where
        by : (n : ℕ) → count_by (opposite t) ts ≡ n → count_by (opposite t) ts ≡ 0
        by zero is = is
        by (suc n) is =
            let found = passing (opposite t) ts (omega (arith, is)) in
            absurd (false≢true (sym (none t found.member inside found.inside) ∙ found.passes))
