-- Which edges can open by a collapse: three, each found from a half-edge across the two triangles that go.
use Rattle.std.proofs.Common.{◌≡◌, ◌≢◌, ℕ, ◌/◌, ◌<◌, ◌⊎◌, inl, inr, Bool, true, false, List, length, refl, sym, ap, subst, ◌∙◌, arith}
use Rattle.std.specs.Prelude.{◌==◌}
use Rattle.std.proofs.lemmas.Bool.{both_ways, cases_Bool, eqb-true, eq-eqb}
use Rattle.std.proofs.lemmas.List.{get_or_default}
use Rattle.chain_terms.specs.Chains.{all_edges, dir}
use Rattle.chain_terms.specs.Ranks.{rank, start, finish, twin, IsPlace}
use Rattle.chain_laws.proofs.Ranks.{same_place}
use Rattle.chain_laws.proofs.Twins.{twin_twin}
use Rattle.mesh_check.specs.Opposites.{third_vertex}
use Rattle.mesh_terms.specs.Halves.{next_half}
use Rattle.mesh_terms.specs.Meshes.{Triple}
use Rattle.tidy_terms.specs.Collapse.{collapsed, merged, stays}
use Rattle.tidy_laws.specs.Conditions.{CanCollapse}
use Rattle.tidy_laws.proofs.Around.{b_not_c, b_not_d, ac, ac_runs, ac_stays, at, bd, cb, cb_runs, cb_stays, da, da_runs, da_stays, new, twin_bd, twin_cb, twin_other}
use Rattle.tidy_laws.proofs.Closed.{merged_first, merged_other, merged_second}
use Rattle.tidy_laws.proofs.Kept.{Stays, down, next_down, next_stays, start_down}
use Rattle.tidy_laws.proofs.Near.{was_collapsible}
use Rattle.tidy_laws.proofs.Same.{dir_stays}
use Rattle.tidy_laws.proofs.Six.{Runs, next_runs, next_thrice, only_one}
use Rattle.tidy_laws.proofs.Turned.{can_turned}
use Rattle.tidy_laws.proofs.Twins.{runs_down}

-- two half-edges that stay have two numbers afterwards
place_of : (p : Triple → Bool) (ts : List Triple) (x k : ℕ) → Stays p ts x → rank p ts (x / 3) ≡ k → IsPlace p ts k (x / 3)
place_of p ts x k s e =
    let low : x / 3 < length ts = omega (arith, s.0) in
    record { within = low; holds = λ d. ap p (get_or_default ts (x / 3) d (0, 0, 0) low) ∙ s.1; earlier = e }

pub down_one : (p : Triple → Bool) (ts : List Triple) (x y : ℕ) → Stays p ts x → Stays p ts y → down p ts x ≡ down p ts y → x ≡ y
down_one p ts x y s t e =
    let ranks : rank p ts (x / 3) ≡ rank p ts (y / 3) = omega (arith, e) in
    let thirds = same_place p ts (rank p ts (y / 3)) (x / 3) (y / 3) (place_of p ts x (rank p ts (y / 3)) s ranks) (place_of p ts y (rank p ts (y / 3)) t refl) in
    omega (arith, e, ranks, thirds)

module _ (ts : List Triple) (h a b c d : ℕ) (can : CanCollapse ts h a b c d) where
  -- the triangles afterwards
  abbrev pub us : List Triple
  us = collapsed a b ts

  abbrev pub after : List (ℕ × ℕ)
  after = new ts h a b c d can

  abbrev pub number : ℕ → ℕ
  number = at ts h a b c d can

  -- the half-edges across
  abbrev pub from_a : ℕ
  from_a = ac ts h a b c d can

  abbrev pub to_b : ℕ
  to_b = cb ts h a b c d can

  abbrev pub to_a : ℕ
  to_a = da ts h a b c d can

  a_name : merged a b a ≡ a
  a_name = merged_first a b a refl

  b_name : merged a b b ≡ a
  b_name = merged_second a b b refl

  c_name : merged a b c ≡ c
  c_name = merged_other a b c (λ e. b_not_c ts h a b c d can (sym e))

  d_name : merged a b d ≡ d
  d_name = merged_other a b d (λ e. b_not_d ts h a b c d can (sym e))

  -- afterwards the edges from a to c and back, and from d, are the only ones
  ac_one : dir after a c ≡ 1
  ac_one = sym (λ i. dir after (a_name i) (c_name i)) ∙ dir_stays ts h a b c d can from_a a c (ac_stays ts h a b c d can) (ac_runs ts h a b c d can) ∙ can.ac

  ca_one : dir after c a ≡ 1
  ca_one = sym (λ i. dir after (c_name i) (b_name i)) ∙ dir_stays ts h a b c d can to_b c b (cb_stays ts h a b c d can) (cb_runs ts h a b c d can) ∙ can.closed c b ∙ can.bc

  da_one : dir after d a ≡ 1
  da_one = sym (λ i. dir after (d_name i) (a_name i)) ∙ dir_stays ts h a b c d can to_a d a (da_stays ts h a b c d can) (da_runs ts h a b c d can) ∙ can.closed d a ∙ can.ad

  -- where they run
  ac_after : Runs after (number from_a) a c
  ac_after =
      let r = runs_down ts h a b c d can from_a a c (ac_stays ts h a b c d can) (ac_runs ts h a b c d can) in
      record { low = r.low; from = r.from ∙ a_name; to = r.to ∙ c_name }

  cb_after : Runs after (number to_b) c a
  cb_after =
      let r = runs_down ts h a b c d can to_b c b (cb_stays ts h a b c d can) (cb_runs ts h a b c d can) in
      record { low = r.low; from = r.from ∙ c_name; to = r.to ∙ b_name }

  -- a half-edge from c to d that can be collapsed afterwards follows the one from a to c, or its twin comes before the one back
  pub between_thirds : (x p q : ℕ) → Stays (stays a b) ts x → CanCollapse us (number x) c d p q →
      (x ≡ next_half from_a) ⊎ (twin after (number x) ≡ number (next_half (next_half to_b)))
  between_thirds x p q s k = by (k.only a (omega (arith, ca_one)) (omega (arith, da_one))) where
    k_runs : Runs after (number x) c d
    k_runs = record { low = k.below; from = k.starts; to = k.ends }

    by : (a ≡ p) ⊎ (a ≡ q) → (x ≡ next_half from_a) ⊎ (twin after (number x) ≡ number (next_half (next_half to_b)))
    by (inl e) =
        let n1 = next_runs us (number x) c d p k_runs k.third in
        let n2 = next_runs us (next_half (number x)) d p c n1 (ap (start after) (next_thrice (number x)) ∙ k.starts) in
        let same = only_one after a c (next_half (next_half (number x))) (number from_a) ac_one n2.low ac_after.low (n2.from ∙ sym e) n2.to ac_after.from ac_after.to in
        let numbers : number x ≡ number (next_half from_a) = sym (next_thrice (number x)) ∙ ap next_half same ∙ sym (next_down (stays a b) ts from_a) in
        inl (down_one (stays a b) ts x (next_half from_a) s (next_stays (stays a b) ts from_a (ac_stays ts h a b c d can)) numbers)
    by (inr e) =
        let t = twin after (number x) in
        let turned = can_turned us (number x) c d p q k in
        let t_runs : Runs after t d c = record { low = turned.below; from = turned.starts; to = turned.ends } in
        let n1 = next_runs us t d c q t_runs turned.third in
        let same = only_one after c a (next_half t) (number to_b) ca_one n1.low cb_after.low n1.from (n1.to ∙ sym e) cb_after.from cb_after.to in
        inr (sym (next_thrice t) ∙ ap (λ w. next_half (next_half w)) same ∙ ap next_half (sym (next_down (stays a b) ts to_b)) ∙ sym (next_down (stays a b) ts (next_half to_b)))

  -- one of the four that are asked again
  abbrev pub Near : ℕ → Type 0
  Near k = (k ≡ number from_a) ⊎ ((k ≡ number to_a) ⊎ ((k ≡ number (next_half from_a)) ⊎ (k ≡ number (next_half (next_half to_b)))))

  with_ends : (k u v p q u' v' p' q' : ℕ) → u ≡ u' → v ≡ v' → p ≡ p' → q ≡ q' → CanCollapse us k u v p q → CanCollapse us k u' v' p' q'
  with_ends k u v p q u' v' p' q' e f i j can_k =
      subst (λ w. CanCollapse us k u' v' p' w) j
      (subst (λ w. CanCollapse us k u' v' w q) i (subst (λ w. CanCollapse us k u' w p q) f (subst (λ w. CanCollapse us k w v p q) e can_k)))

  -- a half-edge that stays
  module _ (x u v : ℕ) (s : Stays (stays a b) ts x) (r : Runs (all_edges ts) x u v) where
    -- by its ends afterwards
    abbrev pub CanAfter : Type 0
    CanAfter = CanCollapse us (number x) (start after (number x)) (finish after (number x)) (third_vertex us (number x)) (third_vertex us (twin after (number x)))

    -- it could be collapsed before, and keeps its twin
    pub record CouldBefore : Type 0 where
      pub could : CanCollapse ts x u v (third_vertex ts x) (third_vertex ts (twin (all_edges ts) x))
      pub twin_stays : Stays (stays a b) ts (twin (all_edges ts) x)
      pub twin_is : twin after (number x) ≡ number (twin (all_edges ts) x)

    -- what is to be shown
    abbrev pub Opens : Type 0
    Opens = CouldBefore ⊎ (Near (number x) ⊎ Near (twin after (number x)))

    down_runs : Runs after (number x) (merged a b u) (merged a b v)
    down_runs = runs_down ts h a b c d can x u v s r

    third_after : (y : ℕ) → Stays (stays a b) ts y → third_vertex us (number y) ≡ merged a b (third_vertex ts y)
    third_after y t =
        let n1 = next_stays (stays a b) ts y t in
        let n2 = next_stays (stays a b) ts (next_half y) n1 in
        sym (ap (start after) (next_down (stays a b) ts (next_half y) ∙ ap next_half (next_down (stays a b) ts y)))
        ∙ start_down (stays a b) (merged a b) ts (next_half (next_half y)) n2

    -- x is none of the four across
    module _ (k : CanAfter) (n_ac : x ≢ ac ts h a b c d can) (n_bd : x ≢ bd ts h a b c d can) (n_cb : x ≢ cb ts h a b c d can) (n_da : x ≢ da ts h a b c d can) where
      abbrev pub y : ℕ
      y = twin (all_edges ts) x

      y_stays : Stays (stays a b) ts y
      y_stays = (twin_other ts h a b c d can x s n_ac n_bd n_cb n_da).stays

      y_is : twin after (number x) ≡ number y
      y_is = (twin_other ts h a b c d can x s n_ac n_bd n_cb n_da).is

      -- from c to d
      forth : u ≡ c → v ≡ d → Opens
      forth e f = elim (between_thirds x (third_vertex us (number x)) (third_vertex us (twin after (number x))) s
          (with_ends (number x) (start after (number x)) (finish after (number x)) (third_vertex us (number x)) (third_vertex us (twin after (number x))) c d
          (third_vertex us (number x)) (third_vertex us (twin after (number x)))
          (down_runs.from ∙ ap (merged a b) e ∙ c_name) (down_runs.to ∙ ap (merged a b) f ∙ d_name) refl refl k)) as (λ _. Opens) [
            | inl q ↦ inr (inl (inr (inr (inl (ap number q)))))
            | inr q ↦ inr (inr (inr (inr (inr q))))
          ]

      -- from d to c
      back : u ≡ d → v ≡ c → Opens
      back e f =
          let turned = can_turned us (number x) (start after (number x)) (finish after (number x)) (third_vertex us (number x)) (third_vertex us (twin after (number x))) k in
          let at_y : CanCollapse us (number y) (finish after (number x)) (start after (number x)) (third_vertex us (twin after (number x))) (third_vertex us (number x)) =
          subst (λ w. CanCollapse us w (finish after (number x)) (start after (number x)) (third_vertex us (twin after (number x))) (third_vertex us (number x))) y_is turned in
          let again : twin after (number y) ≡ number x = ap (twin after) (sym y_is) ∙ twin_twin after k.closed (number x) k.below in
          elim (between_thirds y (third_vertex us (twin after (number x))) (third_vertex us (number x)) y_stays
          (with_ends (number y) (finish after (number x)) (start after (number x)) (third_vertex us (twin after (number x))) (third_vertex us (number x)) c d
          (third_vertex us (twin after (number x))) (third_vertex us (number x))
          (down_runs.to ∙ ap (merged a b) f ∙ c_name) (down_runs.from ∙ ap (merged a b) e ∙ d_name) refl refl at_y)) as (λ _. Opens) [
            | inl q ↦ inr (inr (inr (inr (inl (y_is ∙ ap number q)))))
            | inr q ↦ inr (inl (inr (inr (inr (sym again ∙ q)))))
          ]

      -- between others
      other : ((u ≡ c) × (v ≡ d) → ⊥) → ((u ≡ d) × (v ≡ c) → ⊥) → Opens
      other cd dc =
          inl (record {
            could = was_collapsible ts h a b c d can x u v s r n_ac n_bd n_cb n_da (cd, dc)
                (with_ends (number x) (start after (number x)) (finish after (number x)) (third_vertex us (number x)) (third_vertex us (twin after (number x)))
                (merged a b u) (merged a b v) (merged a b (third_vertex ts x)) (merged a b (third_vertex ts y))
                down_runs.from down_runs.to (third_after x s) (ap (third_vertex us) y_is ∙ third_after y y_stays) k);
            twin_stays = y_stays;
            twin_is = y_is;
          })

      decided : Opens
      decided = by (cases_Bool (u == c)) (cases_Bool (v == d)) (cases_Bool (u == d)) (cases_Bool (v == c)) where
        off : (p q : ℕ) → (p == q) ≡ false → p ≢ q
        off p q n e = both_ways (p == q) n (eq-eqb p q e)

        turned : ((u == d) ≡ true) ⊎ ((u == d) ≡ false) → ((v == c) ≡ true) ⊎ ((v == c) ≡ false) → ((u ≡ c) × (v ≡ d) → ⊥) → Opens
        turned (inl i) (inl j) cd = back (eqb-true u d i) (eqb-true v c j)
        turned (inl i) (inr m) cd = other cd (λ q. off v c m q.1)
        turned (inr n) j cd = other cd (λ q. off u d n q.0)

        by : ((u == c) ≡ true) ⊎ ((u == c) ≡ false) → ((v == d) ≡ true) ⊎ ((v == d) ≡ false) → ((u == d) ≡ true) ⊎ ((u == d) ≡ false) →
            ((v == c) ≡ true) ⊎ ((v == c) ≡ false) → Opens
        by (inl i) (inl j) k l = forth (eqb-true u c i) (eqb-true v d j)
        by (inl i) (inr m) k l = turned k l (λ q. off v d m q.1)
        by (inr n) j k l = turned k l (λ q. off u c n q.0)

    -- a half-edge that can be collapsed afterwards could be before, or it or its twin is one of the four
    pub opens_near : CanAfter → Opens
    opens_near k =
        by (cases_Bool (x == ac ts h a b c d can)) (cases_Bool (x == bd ts h a b c d can)) (cases_Bool (x == cb ts h a b c d can))
        (cases_Bool (x == da ts h a b c d can)) where
          off : (p : ℕ) → (x == p) ≡ false → x ≢ p
          off p n e = both_ways (x == p) n (eq-eqb x p e)

          by : ((x == ac ts h a b c d can) ≡ true) ⊎ ((x == ac ts h a b c d can) ≡ false) →
              ((x == bd ts h a b c d can) ≡ true) ⊎ ((x == bd ts h a b c d can) ≡ false) →
              ((x == cb ts h a b c d can) ≡ true) ⊎ ((x == cb ts h a b c d can) ≡ false) →
              ((x == da ts h a b c d can) ≡ true) ⊎ ((x == da ts h a b c d can) ≡ false) → Opens
          by (inl e) i j l = inr (inl (inl (ap number (eqb-true x (ac ts h a b c d can) e))))
          by (inr m) (inl e) j l = inr (inr (inr (inl (ap (λ w. twin after (number w)) (eqb-true x (bd ts h a b c d can) e) ∙ twin_bd ts h a b c d can))))
          by (inr m) (inr n) (inl e) l = inr (inr (inl (ap (λ w. twin after (number w)) (eqb-true x (cb ts h a b c d can) e) ∙ twin_cb ts h a b c d can)))
          by (inr m) (inr n) (inr o) (inl e) = inr (inl (inr (inl (ap number (eqb-true x (da ts h a b c d can) e)))))
          by (inr m) (inr n) (inr o) (inr q) = decided k (off (ac ts h a b c d can) m) (off (bd ts h a b c d can) n) (off (cb ts h a b c d can) o) (off (da ts h a b c d can) q)
