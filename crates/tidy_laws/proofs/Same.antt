-- Half-edges that stay run as they ran: two of them run the same way after the collapse just where they did before.
use Rattle.std.proofs.Common.{◌≡◌, ℕ, ◌+◌, ◌*◌, ◌/◌, ◌<◌, false, List, [], ◌∷◌, ◌⊎◌, inl, inr, length, get_or, refl, sym, ap, ◌∙◌, arith}
use Rattle.std.specs.Prelude.{◌==◌}
use Rattle.std.specs.List.{All}
use Rattle.std.proofs.lemmas.Bool.{eqb-true, eq-eqb, cases_Bool, both_ways}
use Rattle.std.proofs.lemmas.List.{get_or_default}
use Rattle.std.proofs.lemmas.List.Elements.{All-cons, All-nil}
use Rattle.chain_terms.specs.Chains.{all_edges, dir, is_edge}
use Rattle.chain_terms.specs.Ranks.{rank, start, finish, twin}
use Rattle.chain_laws.specs.Chains.{dir-count_by, renamed, edge_is, is_self}
use Rattle.halfedge.proofs.Edges.{length-all_edges, not_back}
use Rattle.mesh_terms.specs.Halves.{next_half}
use Rattle.mesh_terms.specs.Meshes.{Triple}
use Rattle.tidy_terms.specs.Collapse.{merged, stays}
use Rattle.tidy_laws.specs.Conditions.{CanCollapse}
use Rattle.tidy_laws.proofs.Closed.{merged_second, merged_other}
use Rattle.tidy_laws.proofs.Kept.{Alike, Stays, count_left, down, left, rank_down}
use Rattle.tidy_laws.proofs.Six.{NoneStays, Runs, Six, between, corners, none_stays, same_third, some_edge, the_six}

-- two vertices that become one are one, or the two
pub merged_cases : (a b u v : ℕ) → merged a b u ≡ merged a b v → (u ≡ v) ⊎ ((u ≡ a) × (v ≡ b) ⊎ (u ≡ b) × (v ≡ a))
merged_cases a b u v e = elim (cases_Bool (u == b)) as (λ _. (u ≡ v) ⊎ ((u ≡ a) × (v ≡ b) ⊎ (u ≡ b) × (v ≡ a))) [
  | inl i ↦ elim (cases_Bool (v == b)) as (λ _. (u ≡ v) ⊎ ((u ≡ a) × (v ≡ b) ⊎ (u ≡ b) × (v ≡ a))) [
    | inl j ↦ inl (eqb-true u b i ∙ sym (eqb-true v b j))
    | inr j ↦ inr (inr (eqb-true u b i, sym (merged_other a b v (λ q. let z = eq-eqb v b q in absurd (cc))) ∙ sym e ∙ merged_second a b u (eqb-true u b i)))
  ]
  | inr i ↦
      let u_is = merged_other a b u (λ q. let z = eq-eqb u b q in absurd (cc)) in
      elim (cases_Bool (v == b)) as (λ _. (u ≡ v) ⊎ ((u ≡ a) × (v ≡ b) ⊎ (u ≡ b) × (v ≡ a))) [
        | inl j ↦ inr (inl (sym u_is ∙ e ∙ merged_second a b v (eqb-true v b j), eqb-true v b j))
        | inr j ↦ inl (sym u_is ∙ e ∙ merged_other a b v (λ q. let z = eq-eqb v b q in absurd (cc)))
      ]
]

-- two half-edges that stay
module _ (ts : List Triple) (h a b c d : ℕ) (can : CanCollapse ts h a b c d) where
  abbrev es : List (ℕ × ℕ)
  es = all_edges ts

  none : NoneStays ts a b c d
  none = none_stays ts h a b c d can

  -- x is joined to both: it is c or d
  pub joined_from : (w z x : ℕ) → Runs es w x a → Runs es z x b → (x ≡ c) ⊎ (x ≡ d)
  joined_from w z x r q =
      let there : 0 < dir es x a = omega (arith, some_edge es w r.low, ap (λ s. dir es s (finish es w)) r.from, ap (dir es x) r.to) in
      let here : 0 < dir es x b = omega (arith, some_edge es z q.low, ap (λ s. dir es s (finish es z)) q.from, ap (dir es x) q.to) in
      can.only x (omega (arith, there, can.closed x a)) (omega (arith, here, can.closed x b))

  pub joined_to : (w z x : ℕ) → Runs es w a x → Runs es z b x → (x ≡ c) ⊎ (x ≡ d)
  joined_to w z x r q =
      let there : 0 < dir es a x = omega (arith, some_edge es w r.low, ap (λ s. dir es s (finish es w)) r.from, ap (dir es a) r.to) in
      let here : 0 < dir es b x = omega (arith, some_edge es z q.low, ap (λ s. dir es s (finish es z)) q.from, ap (dir es b) q.to) in
      can.only x there here

  at : (w x y u v : ℕ) → Runs es w x y → x ≡ u → y ≡ v → Runs es w u v
  at w x y u v r e f = record { low = r.low; from = r.from ∙ e; to = r.to ∙ f }

  -- of two from one vertex to a and to b, one does not stay
  not_to_both : (w z x : ℕ) → Stays (stays a b) ts w → Stays (stays a b) ts z → Runs es w x a → Runs es z x b → ⊥
  not_to_both w z x s u r q = elim (joined_from w z x r q) as (λ _. ⊥) [
    | inl e ↦ none.ca w s (at w x a c a r e refl)
    | inr e ↦ none.db z u (at z x b d b q e refl)
  ]

  not_from_both : (w z x : ℕ) → Stays (stays a b) ts w → Stays (stays a b) ts z → Runs es w a x → Runs es z b x → ⊥
  not_from_both w z x s u r q = elim (joined_to w z x r q) as (λ _. ⊥) [
    | inl e ↦ none.bc z u (at z b x b c q refl e)
    | inr e ↦ none.ad w s (at w a x a d r refl e)
  ]

  pub not_round : (w x : ℕ) → Runs es w x x → ⊥
  not_round w x r = let e : start es w ≡ finish es w = r.from ∙ sym r.to in not_back ts can.three w w r.low refl (e, sym e)

  -- what runs the same way afterwards ran so before
  pub same_way : (w z x y u v : ℕ) → Stays (stays a b) ts w → Stays (stays a b) ts z → Runs es w x y → Runs es z u v → merged a b x ≡ merged a b u →
      merged a b y ≡ merged a b v → (x ≡ u) × (y ≡ v)
  same_way w z x y u v s t r q e f = by (merged_cases a b x u e) (merged_cases a b y v f) where
    by : (x ≡ u) ⊎ ((x ≡ a) × (u ≡ b) ⊎ (x ≡ b) × (u ≡ a)) → (y ≡ v) ⊎ ((y ≡ a) × (v ≡ b) ⊎ (y ≡ b) × (v ≡ a)) → (x ≡ u) × (y ≡ v)
    by (inl i) (inl j) = (i, j)
    by (inl i) (inr (inl j)) = absurd (not_to_both w z x s t (at w x y x a r refl j.0) (at z u v x b q (sym i) j.1))
    by (inl i) (inr (inr j)) = absurd (not_to_both z w x t s (at z u v x a q (sym i) j.1) (at w x y x b r refl j.0))
    by (inr (inl i)) (inl j) = absurd (not_from_both w z y s t (at w x y a y r i.0 refl) (at z u v b y q i.1 (sym j)))
    by (inr (inr i)) (inl j) = absurd (not_from_both z w y t s (at z u v a y q i.1 (sym j)) (at w x y b y r i.0 refl))
    by (inr (inl i)) (inr (inl j)) = absurd (not_round w a (at w x y a a r i.0 j.0))
    by (inr (inl i)) (inr (inr j)) = absurd (none.ab w s (at w x y a b r i.0 j.0))
    by (inr (inr i)) (inr (inl j)) = absurd (none.ba w s (at w x y b a r i.0 j.0))
    by (inr (inr i)) (inr (inr j)) = absurd (not_round w b (at w x y b b r i.0 j.0))

  -- a half-edge of a triple that goes runs as none that stays
  goes_apart : (w z x y : ℕ) → stays a b (get_or ts (w / 3) (0, 0, 0)) ≡ false → Stays (stays a b) ts z → Runs es w x y → Runs es z x y → ⊥
  goes_apart w z x y gone s r q = by (between ts h a b c d (w / 3) can (omega (arith, r.low, length-all_edges ts)) gone) where
    g : ℕ
    g = twin es h

    six : Six ts h a b c d
    six = the_six ts h a b c d can

    -- as one of the six
    like : (i u v : ℕ) → w ≡ i → Runs es i u v → Runs es z u v
    like i u v e p = at z x y u v q (sym r.from ∙ ap (start es) e ∙ p.from) (sym r.to ∙ ap (finish es) e ∙ p.to)

    of_h : (w ≡ h) ⊎ ((w ≡ next_half h) ⊎ (w ≡ next_half (next_half h))) → ⊥
    of_h (inl e) = none.ab z s (like h a b e six.h_runs)
    of_h (inr (inl e)) = none.bc z s (like (next_half h) b c e six.bc_runs)
    of_h (inr (inr e)) = none.ca z s (like (next_half (next_half h)) c a e six.ca_runs)

    of_g : (w ≡ g) ⊎ ((w ≡ next_half g) ⊎ (w ≡ next_half (next_half g))) → ⊥
    of_g (inl e) = none.ba z s (like g b a e six.g_runs)
    of_g (inr (inl e)) = none.ad z s (like (next_half g) a d e six.ad_runs)
    of_g (inr (inr e)) = none.db z s (like (next_half (next_half g)) d b e six.db_runs)

    by : (w / 3 ≡ h / 3) ⊎ (w / 3 ≡ g / 3) → ⊥
    by (inl e) = of_h (same_third h w e)
    by (inr e) = of_g (same_third g w e)

  -- the test whether an edge runs as one that stays, afterwards and before
  module _ (z x y : ℕ) (s : Stays (stays a b) ts z) (q : Runs es z x y) where
    tested : (w u v : ℕ) → Stays (stays a b) ts w → Runs es w u v → is_edge (merged a b u, merged a b v) (merged a b x) (merged a b y) ≡ is_edge (u, v) x y
    tested w u v t r = elim (cases_Bool (is_edge (u, v) x y)) as (λ _. is_edge (merged a b u, merged a b v) (merged a b x) (merged a b y) ≡ is_edge (u, v) x y) [
      | inl on ↦
          let e = edge_is (u, v) x y on in
          ap (λ i. is_edge (merged a b i, merged a b v) (merged a b x) (merged a b y)) e.0
          ∙ ap (λ j. is_edge (merged a b x, merged a b j) (merged a b x) (merged a b y)) e.1 ∙ is_self (merged a b x) (merged a b y) ∙ sym on
      | inr off ↦ elim (cases_Bool (is_edge (merged a b u, merged a b v) (merged a b x) (merged a b y)))
          as (λ _. is_edge (merged a b u, merged a b v) (merged a b x) (merged a b y) ≡ is_edge (u, v) x y) [
            | inl on ↦
                let m = edge_is (merged a b u, merged a b v) (merged a b x) (merged a b y) on in
                let e = same_way w z u v x y t s r q m.0 m.1 in
                absurd (both_ways (is_edge (u, v) x y) off (ap (λ i. is_edge (i, v) x y) e.0 ∙ ap (λ j. is_edge (x, j) x y) e.1 ∙ is_self x y))
            | inr also ↦ also ∙ sym off
          ]
    ]

    never : (w u v : ℕ) → stays a b (get_or ts (w / 3) (0, 0, 0)) ≡ false → Runs es w u v → is_edge (u, v) x y ≡ false
    never w u v gone r = elim (cases_Bool (is_edge (u, v) x y)) as (λ _. is_edge (u, v) x y ≡ false) [
      | inl on ↦ let e = edge_is (u, v) x y on in absurd (goes_apart w z x y gone s (at w u v x y r e.0 e.1) q)
      | inr off ↦ off
    ]

    alike : All (Alike (λ e. is_edge e (merged a b x) (merged a b y)) (λ e. is_edge e x y) (stays a b) (merged a b)) ts
    alike k dd low =
        let t = get_or ts k dd in
        let sides = corners ts k dd low in
        let P : (ℕ × ℕ) → Type 0 = λ e. is_edge (renamed (merged a b) e) (merged a b x) (merged a b y) ≡ is_edge e x y in
        let N : (ℕ × ℕ) → Type 0 = λ e. is_edge e x y ≡ false in
        let here : t ≡ get_or ts k (0, 0, 0) = get_or_default ts k dd (0, 0, 0) low in
        let d0 : (3 * k) / 3 ≡ k = omega arith in
        let d1 : (3 * k + 1) / 3 ≡ k = omega arith in
        let d2 : (3 * k + 2) / 3 ≡ k = omega arith in
        let of : (w : ℕ) → w / 3 ≡ k → get_or ts (w / 3) (0, 0, 0) ≡ t = λ w e. ap (λ i. get_or ts i (0, 0, 0)) e ∙ sym here in
        record {
          stay = λ on.
              let st : (w : ℕ) → w < length es → w / 3 ≡ k → Stays (stays a b) ts w = λ w l e. (omega (arith, l, length-all_edges ts), ap (stays a b) (of w e) ∙ on) in
              All-cons P (t.0, t.1) ((t.1, t.2) ∷ (t.2, t.0) ∷ []) (tested (3 * k) t.0 t.1 (st (3 * k) sides.zeroth.low d0) sides.zeroth)
              (All-cons P (t.1, t.2) ((t.2, t.0) ∷ []) (tested (3 * k + 1) t.1 t.2 (st (3 * k + 1) sides.first.low d1) sides.first)
              (All-cons P (t.2, t.0) [] (tested (3 * k + 2) t.2 t.0 (st (3 * k + 2) sides.second.low d2) sides.second) (All-nil P)));
          go = λ off.
              All-cons N (t.0, t.1) ((t.1, t.2) ∷ (t.2, t.0) ∷ []) (never (3 * k) t.0 t.1 (ap (stays a b) (of (3 * k) d0) ∙ off) sides.zeroth)
              (All-cons N (t.1, t.2) ((t.2, t.0) ∷ []) (never (3 * k + 1) t.1 t.2 (ap (stays a b) (of (3 * k + 1) d1) ∙ off) sides.first)
              (All-cons N (t.2, t.0) [] (never (3 * k + 2) t.2 t.0 (ap (stays a b) (of (3 * k + 2) d2) ∙ off) sides.second) (All-nil N)));
        }

    -- so it has the rank that it had
    pub rank_stays : rank (λ e. is_edge e (merged a b x) (merged a b y)) (all_edges (left (stays a b) (merged a b) ts)) (down (stays a b) ts z) ≡ rank (λ e. is_edge e x y) es z
    rank_stays = rank_down (λ e. is_edge e (merged a b x) (merged a b y)) (λ e. is_edge e x y) (stays a b) (merged a b) ts alike z s

    -- and as many run as it
    pub dir_stays : dir (all_edges (left (stays a b) (merged a b) ts)) (merged a b x) (merged a b y) ≡ dir es x y
    dir_stays =
        dir-count_by (all_edges (left (stays a b) (merged a b) ts)) (merged a b x) (merged a b y)
        ∙ count_left (λ e. is_edge e (merged a b x) (merged a b y)) (λ e. is_edge e x y) (stays a b) (merged a b) ts alike ∙ sym (dir-count_by es x y)
