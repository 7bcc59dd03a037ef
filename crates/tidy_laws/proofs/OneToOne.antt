-- Edges whose vertices get other names, one to one: ranks, twins and fans stay.
use Rattle.std.proofs.Common.{◌≡◌, ℕ, zero, suc, ◌<◌, Bool, List, [], ◌∷◌, inl, inr, map, length, get_or, refl, sym, ap, subst, ◌∙◌, arith}
use Rattle.std.specs.Prelude.{◌==◌, ◌&&◌, cond}
use Rattle.std.specs.List.{All}
use Rattle.std.proofs.lemmas.Bool.{both_ways, cases_Bool, eqb-true, eq-eqb}
use Rattle.std.proofs.lemmas.List.{get_or-map, length-map}
use Rattle.std.proofs.lemmas.List.Elements.{All-head, All-tail}
use Rattle.chain_terms.specs.Chains.{all_edges, dir, is_edge, one_if, IsClosed}
use Rattle.chain_terms.specs.Permutations.{times}
use Rattle.chain_terms.specs.Ranks.{rank, nth, start, finish, twin, runs_as}
use Rattle.chain_laws.specs.Chains.{renamed}
use Rattle.chain_laws.specs.Triples.{renamed_triple, all_edges-renamed}
use Rattle.halfedge.specs.Clean.{IsClean}
use Rattle.halfedge.proofs.Around.{around_inverse}
use Rattle.mesh_terms.specs.Halves.{around, next_half}
use Rattle.mesh_terms.specs.Meshes.{Triple}

-- tests that agree on the edges before and after
abbrev Agree : (ℕ → ℕ) → ((ℕ × ℕ) → Bool) → ((ℕ × ℕ) → Bool) → (ℕ × ℕ) → Type 0
Agree r f g e = f (renamed r e) ≡ g e

rank-renamed : (r : ℕ → ℕ) (f g : (ℕ × ℕ) → Bool) (es : List (ℕ × ℕ)) → All (Agree r f g) es → (i : ℕ) → rank f (map (renamed r) es) i ≡ rank g es i
rank-renamed r f g [] same i = refl
rank-renamed r f g (e ∷ es) same zero = refl
rank-renamed r f g (e ∷ es) same (suc i) =
    omega (arith, ap one_if (All-head (Agree r f g) e es same), rank-renamed r f g es (All-tail (Agree r f g) e es same) i)

nth-renamed : (r : ℕ → ℕ) (f g : (ℕ × ℕ) → Bool) (es : List (ℕ × ℕ)) → All (Agree r f g) es → (k : ℕ) → nth f (map (renamed r) es) k ≡ nth g es k
nth-renamed r f g [] same k = refl
nth-renamed r f g (e ∷ es) same zero =
    let here = All-head (Agree r f g) e es same in
    let rest = nth-renamed r f g es (All-tail (Agree r f g) e es same) zero in
    λ j. cond (here j) 0 (suc (rest j))
nth-renamed r f g (e ∷ es) same (suc k) =
    let here = All-head (Agree r f g) e es same in
    let rest = nth-renamed r f g es (All-tail (Agree r f g) e es same) (cond (g e) k (suc k)) in
    ap suc (ap (λ b. nth f (map (renamed r) es) (cond b k (suc k))) here ∙ rest)

-- names that differ where two vertices of U do
module _ (U : ℕ → Type 0) (r : ℕ → ℕ) (one : (u v : ℕ) → U u → U v → r u ≡ r v → u ≡ v) where
  same_test : (u v : ℕ) → U u → U v → (r u == r v) ≡ (u == v)
  same_test u v p q = elim (cases_Bool (u == v)) as (λ _. (r u == r v) ≡ (u == v)) [
    | inl y ↦ eq-eqb (r u) (r v) (ap r (eqb-true u v y)) ∙ sym y
    | inr n ↦ elim (cases_Bool (r u == r v)) as (λ _. (r u == r v) ≡ (u == v)) [
      | inl y ↦ absurd (both_ways (u == v) n (eq-eqb u v (one u v p q (eqb-true (r u) (r v) y))))
      | inr m ↦ m ∙ sym n
    ]
  ]

  -- both ends are of U
  abbrev pub BothIn : (ℕ × ℕ) → Type 0
  BothIn e = U e.0 × U e.1

  edge_test : (e : ℕ × ℕ) (x y : ℕ) → BothIn e → U x → U y → is_edge (renamed r e) (r x) (r y) ≡ is_edge e x y
  edge_test e x y both p q = let s = same_test e.0 x both.0 p in let t = same_test e.1 y both.1 q in λ i. s i && t i

  -- as many run from one to the other
  pub dir-renamed : (es : List (ℕ × ℕ)) → All BothIn es → (x y : ℕ) → U x → U y → dir (map (renamed r) es) (r x) (r y) ≡ dir es x y
  dir-renamed [] all x y p q = refl
  dir-renamed (e ∷ es) all x y p q =
      omega (arith, ap one_if (edge_test e x y (All-head BothIn e es all) p q), dir-renamed es (All-tail BothIn e es all) x y p q)

  pub start-renamed : (es : List (ℕ × ℕ)) (h : ℕ) → h < length es → start (map (renamed r) es) h ≡ r (start es h)
  start-renamed es h low = ap (λ (e : ℕ × ℕ). e.0) (get_or-map (renamed r) es h (0, 0) (0, 0) low)

  pub finish-renamed : (es : List (ℕ × ℕ)) (h : ℕ) → h < length es → finish (map (renamed r) es) h ≡ r (finish es h)
  finish-renamed es h low = ap (λ (e : ℕ × ℕ). e.1) (get_or-map (renamed r) es h (0, 0) (0, 0) low)

  -- twins are at the same places
  pub twin-renamed : (es : List (ℕ × ℕ)) → All BothIn es → (h : ℕ) → h < length es → twin (map (renamed r) es) h ≡ twin es h
  twin-renamed es all h low =
      let new = map (renamed r) es in
      let x = start es h in
      let y = finish es h in
      let s = start-renamed es h low in
      let f = finish-renamed es h low in
      let both = all h (0, 0) low in
      let forth : All (Agree r (λ e. is_edge e (r x) (r y)) (λ e. is_edge e x y)) es = λ k d l. edge_test (get_or es k d) x y (all k d l) both.0 both.1 in
      let back : All (Agree r (λ e. is_edge e (r y) (r x)) (λ e. is_edge e y x)) es = λ k d l. edge_test (get_or es k d) y x (all k d l) both.1 both.0 in
      let own : rank (runs_as new h) new h ≡ rank (runs_as es h) es h =
      (λ i. rank (λ e. is_edge e (s i) (f i)) new h) ∙ rank-renamed r (λ e. is_edge e (r x) (r y)) (λ e. is_edge e x y) es forth h in
      (λ i. nth (λ e. is_edge e (f i) (s i)) new (own i)) ∙ nth-renamed r (λ e. is_edge e (r y) (r x)) (λ e. is_edge e y x) es back (rank (runs_as es h) es h)

  -- closed triangles over U
  module _ (ts : List Triple) (closed : IsClosed (all_edges ts)) (all : All BothIn (all_edges ts)) where
    abbrev pub es : List (ℕ × ℕ)
    es = all_edges ts

    below : (n h : ℕ) → h < length es → times (around es) n h < length es
    below zero h low = low
    below (suc n) h low = (around_inverse ts closed).below (times (around es) n h) (below n h low)

    -- going around is the same
    around-renamed : (n h : ℕ) → h < length es → times (around (map (renamed r) es)) n h ≡ times (around es) n h
    around-renamed zero h low = refl
    around-renamed (suc n) h low =
        ap (around (map (renamed r) es)) (around-renamed n h low) ∙ ap next_half (twin-renamed es all (times (around es) n h) (below n h low))

    -- so one fan stays one fan
    pub clean-renamed : IsClean es → IsClean (all_edges (map (renamed_triple r) ts))
    clean-renamed clean = subst IsClean (sym (all_edges-renamed r ts)) by where
      by : IsClean (map (renamed r) es)
      by h g h_low g_low same =
          let size = length-map es (renamed r) in
          let h_in : h < length es = omega (arith, h_low, size) in
          let g_in : g < length es = omega (arith, g_low, size) in
          let hu = all h (0, 0) h_in in
          let gu = all g (0, 0) g_in in
          let starts = one (start es h) (start es g) hu.0 gu.0 (sym (start-renamed es h h_in) ∙ same ∙ start-renamed es g g_in) in
          let way = clean h g h_in g_in starts in
          (way.0, around-renamed way.0 h h_in ∙ way.1)
