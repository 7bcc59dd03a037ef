-- Which vertices are in use after a collapse: those before, but for b.
use Rattle.std.proofs.Common.{◌≡◌, ◌≢◌, ℕ, zero, suc, ◌/◌, ◌<◌, ◌⊎◌, inl, inr, Bool, true, false, cond, List, [], ◌∷◌, length, map, get_or, refl, sym, ap, ◌∙◌, arith}
use Rattle.std.specs.Prelude.{◌==◌, ◌||◌, filter}
use Rattle.std.proofs.lemmas.Bool.{both_ways, cases_Bool, cond_both, eqb-true, eq-eqb, or_from, or_left, or_right}
use Rattle.chain_terms.specs.Chains.{all_edges}
use Rattle.chain_terms.specs.Ranks.{start, twin}
use Rattle.chain_laws.specs.Triples.{renamed_triple}
use Rattle.halfedge.proofs.Edges.{length-all_edges, next_starts}
use Rattle.mesh_terms.specs.Halves.{next_half}
use Rattle.mesh_terms.specs.Meshes.{Triple, has, is_used}
use Rattle.tidy_terms.specs.Collapse.{collapsed, merged, stays}
use Rattle.tidy_laws.specs.Conditions.{CanCollapse}
use Rattle.tidy_laws.proofs.Around.{OneOfSix, ac, ac_runs, ac_stays, bd, bd_runs, bd_stays, gone_six, six}
use Rattle.tidy_laws.proofs.Closed.{merged_other, merged_second}
use Rattle.tidy_laws.proofs.Kept.{Stays, down, down_below, left, next_stays, start_down}
use Rattle.tidy_laws.proofs.Six.{Runs}

-- a triangle with a vertex uses it
pub used_start : (ts : List Triple) (w : ℕ) → w < length (all_edges ts) → is_used ts (start (all_edges ts) w) ≡ true
used_start [] w low = absurd (omega (arith, low))
used_start (t ∷ ts) zero low = or_left (has t t.0) (is_used ts t.0) (or_left ((t.0 == t.0) || (t.1 == t.0)) (t.2 == t.0) (or_left (t.0 == t.0) (t.1 == t.0) (eq-eqb t.0 t.0 refl)))
used_start (t ∷ ts) (suc zero) low =
    or_left (has t t.1) (is_used ts t.1) (or_left ((t.0 == t.1) || (t.1 == t.1)) (t.2 == t.1) (or_right (t.0 == t.1) (t.1 == t.1) (eq-eqb t.1 t.1 refl)))
used_start (t ∷ ts) (suc (suc zero)) low = or_left (has t t.2) (is_used ts t.2) (or_right ((t.0 == t.2) || (t.1 == t.2)) (t.2 == t.2) (eq-eqb t.2 t.2 refl))
used_start (t ∷ ts) (suc (suc (suc w))) low = or_right (has t (start (all_edges ts) w)) (is_used ts (start (all_edges ts) w)) (used_start ts w (omega (arith, low)))

-- and a vertex in use starts a half-edge
record Starts (ts : List Triple) (v : ℕ) : Type 0 where
  half : ℕ
  low : half < length (all_edges ts)
  is : start (all_edges ts) half ≡ v

starts : (ts : List Triple) (v : ℕ) → is_used ts v ≡ true → Starts ts v
starts [] v used = absurd (both_ways false refl used)
starts (t ∷ ts) v used = by (t.0 == v) (t.1 == v) (t.2 == v) refl refl refl used (starts ts v) where
  by : (x y z : Bool) → (t.0 == v) ≡ x → (t.1 == v) ≡ y → (t.2 == v) ≡ z → (((x || y) || z) || is_used ts v) ≡ true → (is_used ts v ≡ true → Starts ts v) → Starts (t ∷ ts) v
  by true y z ex ey ez h rest = record { half = 0; low = omega arith; is = eqb-true t.0 v ex }
  by false true z ex ey ez h rest = record { half = 1; low = omega arith; is = eqb-true t.1 v ey }
  by false false true ex ey ez h rest = record { half = 2; low = omega arith; is = eqb-true t.2 v ez }
  by false false false ex ey ez h rest = let r = rest h in record { half = suc (suc (suc r.half)); low = omega (arith, r.low); is = r.is }

-- nothing is called b any more
merged_never : (a b v : ℕ) → a ≢ b → (merged a b v == b) ≡ false
merged_never a b v apart = elim (cases_Bool (merged a b v == b)) as (λ _. (merged a b v == b) ≡ false) [
  | inl y ↦ absurd (by (cases_Bool (v == b)) (eqb-true (merged a b v) b y))
  | inr n ↦ n
]
  where
    by : ((v == b) ≡ true) ⊎ ((v == b) ≡ false) → merged a b v ≡ b → ⊥
    by (inl y) e = apart (sym (merged_second a b v (eqb-true v b y)) ∙ e)
    by (inr n) e = both_ways (v == b) n (eq-eqb v b (sym (ap (λ c. cond c a v) n) ∙ e))

pub gone_unused : (a b : ℕ) → a ≢ b → (ts : List Triple) → is_used (collapsed a b ts) b ≡ false
gone_unused a b apart [] = refl
gone_unused a b apart (t ∷ ts) =
    let rest = gone_unused a b apart ts in
    cond_both (stays a b t) (t ∷ filter (stays a b) ts) (filter (stays a b) ts) (λ l. is_used (map (renamed_triple (merged a b)) l) b ≡ false)
    (λ y. or_from (has (renamed_triple (merged a b) t) b) (is_used (collapsed a b ts) b)
    (or_from ((merged a b t.0 == b) || (merged a b t.1 == b)) (merged a b t.2 == b)
    (or_from (merged a b t.0 == b) (merged a b t.1 == b) (merged_never a b t.0 apart) (merged_never a b t.1 apart)) (merged_never a b t.2 apart)) rest)
    (λ m. rest)

module _ (ts : List Triple) (h a b c d : ℕ) (can : CanCollapse ts h a b c d) where
  -- what starts a half-edge that stays is in use, under the name that it has then
  stays_used : (w : ℕ) → Stays (stays a b) ts w → is_used (collapsed a b ts) (merged a b (start (all_edges ts) w)) ≡ true
  stays_used w s =
      let new = left (stays a b) (merged a b) ts in
      let k = down (stays a b) ts w in
      ap (is_used new) (sym (start_down (stays a b) (merged a b) ts w s)) ∙ used_start new k (down_below (stays a b) (merged a b) ts w s)

  named : (w v : ℕ) → Stays (stays a b) ts w → start (all_edges ts) w ≡ v → v ≢ b → is_used (collapsed a b ts) v ≡ true
  named w v s e n = ap (is_used (collapsed a b ts)) (sym (ap (merged a b) e ∙ merged_other a b v n)) ∙ stays_used w s

  a_used : is_used (collapsed a b ts) a ≡ true
  a_used = named (ac ts h a b c d can) a (ac_stays ts h a b c d can) (ac_runs ts h a b c d can).from can.distinct

  c_used : c ≢ b → is_used (collapsed a b ts) c ≡ true
  c_used n =
      let r = ac_runs ts h a b c d can in
      named (next_half (ac ts h a b c d can)) c (next_stays (stays a b) ts (ac ts h a b c d can) (ac_stays ts h a b c d can)) (next_starts ts (ac ts h a b c d can) r.low ∙ r.to) n

  d_used : d ≢ b → is_used (collapsed a b ts) d ≡ true
  d_used n =
      let r = bd_runs ts h a b c d can in
      named (next_half (bd ts h a b c d can)) d (next_stays (stays a b) ts (bd ts h a b c d can) (bd_stays ts h a b c d can)) (next_starts ts (bd ts h a b c d can) r.low ∙ r.to) n

  -- every other vertex in use stays so
  pub others_used : (v : ℕ) → is_used ts v ≡ true → v ≢ b → is_used (collapsed a b ts) v ≡ true
  others_used v used n = by (cases_Bool (stays a b (get_or ts (w / 3) (0, 0, 0)))) where
    w : ℕ
    w = (starts ts v used).half

    low : w < length (all_edges ts)
    low = (starts ts v used).low

    is : start (all_edges ts) w ≡ v
    is = (starts ts v used).is

    -- w is one of the six, from x
    at : (i x y : ℕ) → w ≡ i → Runs (all_edges ts) i x y → v ≡ x
    at i x y e r = sym is ∙ ap (start (all_edges ts)) e ∙ r.from

    on_a : v ≡ a → is_used (collapsed a b ts) v ≡ true
    on_a e = ap (is_used (collapsed a b ts)) e ∙ a_used

    on_c : v ≡ c → is_used (collapsed a b ts) v ≡ true
    on_c e = ap (is_used (collapsed a b ts)) e ∙ c_used (λ q. n (e ∙ q))

    on_d : v ≡ d → is_used (collapsed a b ts) v ≡ true
    on_d e = ap (is_used (collapsed a b ts)) e ∙ d_used (λ q. n (e ∙ q))

    by_six : OneOfSix ts h a b c d can w → is_used (collapsed a b ts) v ≡ true
    by_six (inl e) = on_a (at h a b e (six ts h a b c d can).h_runs)
    by_six (inr (inl e)) = absurd (n (at (next_half h) b c e (six ts h a b c d can).bc_runs))
    by_six (inr (inr (inl e))) = on_c (at (next_half (next_half h)) c a e (six ts h a b c d can).ca_runs)
    by_six (inr (inr (inr (inl e)))) = absurd (n (at (twin (all_edges ts) h) b a e (six ts h a b c d can).g_runs))
    by_six (inr (inr (inr (inr (inl e))))) = on_a (at (next_half (twin (all_edges ts) h)) a d e (six ts h a b c d can).ad_runs)
    by_six (inr (inr (inr (inr (inr e))))) = on_d (at (next_half (next_half (twin (all_edges ts) h))) d b e (six ts h a b c d can).db_runs)

    by : (stays a b (get_or ts (w / 3) (0, 0, 0)) ≡ true) ⊎ (stays a b (get_or ts (w / 3) (0, 0, 0)) ≡ false) → is_used (collapsed a b ts) v ≡ true
    by (inl y) = named w v (omega (arith, low, length-all_edges ts), y) is n
    by (inr m) = by_six (gone_six ts h a b c d can w low m)
