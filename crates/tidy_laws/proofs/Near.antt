-- Only the edges from a to c and d, and that from c to d, can be collapsed after a collapse though they could not before.
use Rattle.std.proofs.Common.{◌≡◌, ◌≢◌, ℕ, ◌/◌, ◌<◌, true, false, List, ◌⊎◌, inl, inr, get_or, refl, sym, ap, ◌∙◌, arith}
use Rattle.std.proofs.lemmas.Bool.{cases_Bool}
use Rattle.std.proofs.lemmas.List.{get_or_default}
use Rattle.chain_terms.specs.Chains.{all_edges, dir}
use Rattle.chain_terms.specs.Ranks.{start, finish, twin}
use Rattle.chain_laws.specs.Chains.{dir_contains}
use Rattle.chain_laws.proofs.Twins.{twin_runs_back}
use Rattle.halfedge.proofs.Edges.{length-all_edges}
use Rattle.mesh_terms.specs.Halves.{next_half}
use Rattle.mesh_terms.specs.Meshes.{Triple}
use Rattle.mesh_check.specs.Opposites.{third_vertex}
use Rattle.tidy_terms.specs.Collapse.{collapsed, merged, stays}
use Rattle.tidy_laws.specs.Conditions.{CanCollapse}
use Rattle.tidy_laws.proofs.Around.{OneOfSix, ac, at, bd, cb, da, gone_six, six, twin_other, ac_runs, bd_runs, cb_runs, da_runs, ac_stays, bd_stays, cb_stays, da_stays}
use Rattle.tidy_laws.proofs.Closed.{merged_first, merged_second}
use Rattle.tidy_laws.proofs.Kept.{Stays, down, left, next_stays}
use Rattle.tidy_laws.proofs.Same.{dir_stays, merged_cases, not_round}
use Rattle.tidy_laws.proofs.Six.{NoneStays, Runs, next_thrice, none_stays, next_runs, only_one, some_edge}
use Rattle.tidy_laws.proofs.Twins.{runs_down}

-- a half-edge that runs so, where there is an edge
pub record Found (es : List (ℕ × ℕ)) (x y : ℕ) : Type 0 where
  pub place : ℕ
  pub runs : Runs es place x y

pub found : (es : List (ℕ × ℕ)) (x y : ℕ) → 0 < dir es x y → Found es x y
found es x y some =
    let r = dir_contains es x y some in
    let is : get_or es r.0 (0, 0) ≡ (x, y) = get_or_default es r.0 (0, 0) (x, y) r.1 ∙ r.2 in
    record { place = r.0; runs = record { low = r.1; from = ap (λ (e : ℕ × ℕ). e.0) is; to = ap (λ (e : ℕ × ℕ). e.1) is } }

module _ (ts : List Triple) (h a b c d : ℕ) (can : CanCollapse ts h a b c d) where
  abbrev es : List (ℕ × ℕ)
  es = all_edges ts

  abbrev after : List (ℕ × ℕ)
  after = all_edges (left (stays a b) (merged a b) ts)

  -- a and b themselves
  abbrev TheTwo : ℕ → ℕ → Type 0
  TheTwo u w = (u ≡ a) × (w ≡ b) ⊎ (u ≡ b) × (w ≡ a)

  there : (z u w x y : ℕ) → Stays (stays a b) ts z → Runs es z u w → merged a b u ≡ x → merged a b w ≡ y → 0 < dir after x y
  there z u w x y s r e f =
      let q = runs_down ts h a b c d can z u w s r in
      omega (arith, some_edge after (down (stays a b) ts z) q.low, ap (λ i. dir after i (finish after (down (stays a b) ts z))) (q.from ∙ e), ap (dir after x) (q.to ∙ f))

  -- what was joined is joined, but for the two
  still_joined : (u w : ℕ) → 0 < dir es u w → (0 < dir after (merged a b u) (merged a b w)) ⊎ TheTwo u w
  still_joined u w some = by (cases_Bool (stays a b (get_or ts (z / 3) (0, 0, 0)))) where
    z : ℕ
    z = (found es u w some).place

    r : Runs es z u w
    r = (found es u w some).runs

    -- where z is one of the six
    as_one : (i x y : ℕ) → z ≡ i → Runs es i x y → (u ≡ x) × (w ≡ y)
    as_one i x y e q = (sym r.from ∙ ap (start es) e ∙ q.from, sym r.to ∙ ap (finish es) e ∙ q.to)

    by_six : OneOfSix ts h a b c d can z → (0 < dir after (merged a b u) (merged a b w)) ⊎ TheTwo u w
    by_six (inl e) = inr (inl (as_one h a b e (six ts h a b c d can).h_runs))
    by_six (inr (inl e)) =
        let k = as_one (next_half h) b c e (six ts h a b c d can).bc_runs in
        inl (there (ac ts h a b c d can) a c (merged a b u) (merged a b w) (ac_stays ts h a b c d can) (ac_runs ts h a b c d can)
        (merged_first a b a refl ∙ sym (merged_second a b u k.0)) (ap (merged a b) (sym k.1)))
    by_six (inr (inr (inl e))) =
        let k = as_one (next_half (next_half h)) c a e (six ts h a b c d can).ca_runs in
        inl (there (cb ts h a b c d can) c b (merged a b u) (merged a b w) (cb_stays ts h a b c d can) (cb_runs ts h a b c d can) (ap (merged a b) (sym k.0))
        (merged_second a b b refl ∙ sym (merged_first a b w k.1)))
    by_six (inr (inr (inr (inl e)))) = inr (inr (as_one (twin es h) b a e (six ts h a b c d can).g_runs))
    by_six (inr (inr (inr (inr (inl e))))) =
        let k = as_one (next_half (twin es h)) a d e (six ts h a b c d can).ad_runs in
        inl (there (bd ts h a b c d can) b d (merged a b u) (merged a b w) (bd_stays ts h a b c d can) (bd_runs ts h a b c d can)
        (merged_second a b b refl ∙ sym (merged_first a b u k.0)) (ap (merged a b) (sym k.1)))
    by_six (inr (inr (inr (inr (inr e))))) =
        let k = as_one (next_half (next_half (twin es h))) d b e (six ts h a b c d can).db_runs in
        inl (there (da ts h a b c d can) d a (merged a b u) (merged a b w) (da_stays ts h a b c d can) (da_runs ts h a b c d can) (ap (merged a b) (sym k.0))
        (merged_first a b a refl ∙ sym (merged_second a b w k.1)))

    by : (stays a b (get_or ts (z / 3) (0, 0, 0)) ≡ true) ⊎ (stays a b (get_or ts (z / 3) (0, 0, 0)) ≡ false) → (0 < dir after (merged a b u) (merged a b w)) ⊎ TheTwo u w
    by (inl y) = inl (there z u w (merged a b u) (merged a b w) (omega (arith, r.low, length-all_edges ts), y) r refl refl)
    by (inr m) = by_six (gone_six ts h a b c d can z r.low m)

  -- neither end of the edge is one of c and d together with the other
  abbrev FarFrom : ℕ → ℕ → Type 0
  FarFrom u v = ((u ≡ c) × (v ≡ d) → ⊥) × ((u ≡ d) × (v ≡ c) → ⊥)

  -- a half-edge that stays, is none of the four across the two triangles, and does not run between c and d: if it can be
  -- collapsed afterwards, it could before
  module _ (x u v : ℕ) (s : Stays (stays a b) ts x) (r : Runs es x u v) (n_ac : x ≢ ac ts h a b c d can) (n_bd : x ≢ bd ts h a b c d can)
      (n_cb : x ≢ cb ts h a b c d can) (n_da : x ≢ da ts h a b c d can) (far : FarFrom u v) where
    some : (y p q : ℕ) → Runs es y p q → 0 < dir es p q
    some y p q k = omega (arith, some_edge es y k.low, ap (λ i. dir es i (finish es y)) k.from, ap (dir es p) k.to)

    -- not both ends are joined to both of the two
    not_corner : 0 < dir es a u → 0 < dir es b u → 0 < dir es a v → 0 < dir es b v → ⊥
    not_corner p q i j = by (can.only u p q) (can.only v i j) where
      same : u ≡ v → ⊥
      same e = not_round ts h a b c d can x u (record { low = r.low; from = r.from; to = r.to ∙ sym e })

      by : (u ≡ c) ⊎ (u ≡ d) → (v ≡ c) ⊎ (v ≡ d) → ⊥
      by (inl m) (inl n) = same (m ∙ sym n)
      by (inl m) (inr n) = far.0 (m, n)
      by (inr m) (inl n) = far.1 (m, n)
      by (inr m) (inr n) = same (m ∙ sym n)

    turn : (p q : ℕ) → 0 < dir es p q → 0 < dir es q p
    turn p q i = omega (arith, i, can.closed p q)

    put : (p q p' q' : ℕ) → p ≡ p' → q ≡ q' → 0 < dir es p q → 0 < dir es p' q'
    put p q p' q' e f i = omega (arith, i, ap (λ k. dir es k q) e, ap (dir es p') f)

    runs_so : (p q : ℕ) → u ≡ p → v ≡ q → Runs es x p q
    runs_so p q e f = record { low = r.low; from = r.from ∙ e; to = r.to ∙ f }

    none : NoneStays ts a b c d
    none = none_stays ts h a b c d can

    same_as : (y p q : ℕ) → dir es p q ≡ 1 → Runs es y p q → u ≡ p → v ≡ q → x ≡ y
    same_as y p q one k e f = only_one es p q x y one r.low k.low (r.from ∙ e) (r.to ∙ f) k.from k.to

    -- the two are not joined through an end of the edge
    not_start : (w : ℕ) → TheTwo u w → 0 < dir es v w → ⊥
    not_start w (inl e) q = by (can.only v (put u v a v e.0 refl (some x u v r)) (turn v b (put v w v b refl e.1 q))) where
      by : (v ≡ c) ⊎ (v ≡ d) → ⊥
      by (inl f) = n_ac (same_as (ac ts h a b c d can) a c can.ac (ac_runs ts h a b c d can) e.0 f)
      by (inr f) = none.ad x s (runs_so a d e.0 f)
    not_start w (inr e) q = by (can.only v (turn v a (put v w v a refl e.1 q)) (put u v b v e.0 refl (some x u v r))) where
      by : (v ≡ c) ⊎ (v ≡ d) → ⊥
      by (inl f) = none.bc x s (runs_so b c e.0 f)
      by (inr f) = n_bd (same_as (bd ts h a b c d can) b d can.bd (bd_runs ts h a b c d can) e.0 f)

    not_end : (w : ℕ) → TheTwo v w → 0 < dir es u w → ⊥
    not_end w (inl e) q = by (can.only u (turn u a (put u v u a refl e.0 (some x u v r))) (turn u b (put u w u b refl e.1 q))) where
      by : (u ≡ c) ⊎ (u ≡ d) → ⊥
      by (inl f) = none.ca x s (runs_so c a f e.0)
      by (inr f) = n_da (same_as (da ts h a b c d can) d a (sym (can.closed a d) ∙ can.ad) (da_runs ts h a b c d can) f e.0)
    not_end w (inr e) q = by (can.only u (turn u a (put u w u a refl e.1 q)) (turn u b (put u v u b refl e.0 (some x u v r)))) where
      by : (u ≡ c) ⊎ (u ≡ d) → ⊥
      by (inl f) = n_cb (same_as (cb ts h a b c d can) c b (sym (can.closed b c) ∙ can.bc) (cb_runs ts h a b c d can) f e.0)
      by (inr f) = none.db x s (runs_so d b f e.0)

    pub was_collapsible : (CanCollapse (collapsed a b ts) (at ts h a b c d can x) (merged a b u) (merged a b v) (merged a b (third_vertex ts x))
        (merged a b (third_vertex ts (twin es x)))) →
        CanCollapse ts x u v (third_vertex ts x) (third_vertex ts (twin es x))
    was_collapsible k = record {
      three = can.three;
      closed = can.closed;
      below = r.low;
      starts = r.from;
      ends = r.to;
      third = refl;
      across = refl;
      distinct = λ e. not_round ts h a b c d can x u (record { low = r.low; from = r.from; to = r.to ∙ sym e });
      differ = λ e. k.differ (ap (merged a b) e);
      ab = sym (dir_stays ts h a b c d can x u v s r) ∙ k.ab;
      ac = can.closed u (third_vertex ts x) ∙ sym (dir_stays ts h a b c d can (next_half (next_half x)) (third_vertex ts x) u s2 r2)
          ∙ k.closed (merged a b (third_vertex ts x)) (merged a b u) ∙ k.ac;
      ad = sym (dir_stays ts h a b c d can (next_half t) u (third_vertex ts t) t1s t1) ∙ k.ad;
      bc = sym (dir_stays ts h a b c d can (next_half x) v (third_vertex ts x) s1 r1) ∙ k.bc;
      bd = can.closed v (third_vertex ts t) ∙ sym (dir_stays ts h a b c d can (next_half (next_half t)) (third_vertex ts t) v t2s t2)
          ∙ k.closed (merged a b (third_vertex ts t)) (merged a b v) ∙ k.bd;
      only = λ w p q. by w (still_joined u w p) (still_joined v w q) p q;
    }
      where
        t : ℕ
        t = twin es x

        t_stays : Stays (stays a b) ts t
        t_stays = (twin_other ts h a b c d can x s n_ac n_bd n_cb n_da).stays

        t0 : Runs es t v u
        t0 = let back = twin_runs_back es can.closed x r.low in record { low = back.within; from = back.from ∙ r.to; to = back.to ∙ r.from }

        t1 : Runs es (next_half t) u (third_vertex ts t)
        t1 = next_runs ts t v u (third_vertex ts t) t0 refl

        t2 : Runs es (next_half (next_half t)) (third_vertex ts t) v
        t2 = next_runs ts (next_half t) u (third_vertex ts t) v t1 (ap (start es) (next_thrice t) ∙ t0.from)

        t1s : Stays (stays a b) ts (next_half t)
        t1s = next_stays (stays a b) ts t t_stays

        t2s : Stays (stays a b) ts (next_half (next_half t))
        t2s = next_stays (stays a b) ts (next_half t) t1s

        r1 : Runs es (next_half x) v (third_vertex ts x)
        r1 = next_runs ts x u v (third_vertex ts x) r refl

        r2 : Runs es (next_half (next_half x)) (third_vertex ts x) u
        r2 = next_runs ts (next_half x) v (third_vertex ts x) u r1 (ap (start es) (next_thrice x) ∙ r.from)

        s1 : Stays (stays a b) ts (next_half x)
        s1 = next_stays (stays a b) ts x s

        s2 : Stays (stays a b) ts (next_half (next_half x))
        s2 = next_stays (stays a b) ts (next_half x) s1

        -- what is joined to both ends and is one with a third vertex is that
        one_with : (w z : ℕ) → 0 < dir es u w → 0 < dir es v w → 0 < dir es u z → 0 < dir es v z → merged a b w ≡ merged a b z → w ≡ z
        one_with w z p q i j e = of (merged_cases a b w z e) where
          of : (w ≡ z) ⊎ ((w ≡ a) × (z ≡ b) ⊎ (w ≡ b) × (z ≡ a)) → w ≡ z
          of (inl f) = f
          of (inr (inl f)) = absurd (not_corner (turn u a (put u w u a refl f.0 p)) (turn u b (put u z u b refl f.1 i)) (turn v a (put v w v a refl f.0 q))
              (turn v b (put v z v b refl f.1 j)))
          of (inr (inr f)) = absurd (not_corner (turn u a (put u z u a refl f.1 i)) (turn u b (put u w u b refl f.0 p)) (turn v a (put v z v a refl f.1 j))
              (turn v b (put v w v b refl f.0 q)))

        by : (w : ℕ) → (0 < dir after (merged a b u) (merged a b w)) ⊎ TheTwo u w → (0 < dir after (merged a b v) (merged a b w)) ⊎ TheTwo v w →
            0 < dir es u w → 0 < dir es v w → (w ≡ third_vertex ts x) ⊎ (w ≡ third_vertex ts t)
        by w (inr e) either_way p q = absurd (not_start w e q)
        by w (inl i) (inr e) p q = absurd (not_end w e p)
        by w (inl i) (inl j) p q = elim (k.only (merged a b w) i j) as (λ _. (w ≡ third_vertex ts x) ⊎ (w ≡ third_vertex ts t)) [
          | inl e ↦ inl (one_with w (third_vertex ts x) p q (turn (third_vertex ts x) u (some (next_half (next_half x)) (third_vertex ts x) u r2))
              (some (next_half x) v (third_vertex ts x) r1) e)
          | inr e ↦ inr (one_with w (third_vertex ts t) p q (some (next_half t) u (third_vertex ts t) t1)
              (turn (third_vertex ts t) v (some (next_half (next_half t)) (third_vertex ts t) v t2)) e)
        ]
