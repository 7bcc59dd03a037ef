-- The list of twins after a collapse: of the four half-edges across, those of one triangle become twins of each other.
use Rattle.std.proofs.Common.{◌≡◌, ◌≢◌, ℕ, ◌+◌, ◌*◌, ◌/◌, ◌%◌, ◌<◌, ◌≤◌, ◌⊎◌, inl, inr, Bool, true, false, List, [], ◌∷◌, length, get_or, set, refl, sym, ap, subst, ◌∙◌, arith, get_or-set_same, get_or-set_other}
use Rattle.std.specs.Prelude.{◌==◌}
use Rattle.std.proofs.lemmas.Bool.{both_ways, cases_Bool, eqb-true, eq-eqb}
use Rattle.std.proofs.lemmas.List.{length-set}
use Rattle.chain_terms.specs.Chains.{all_edges}
use Rattle.chain_terms.specs.Ranks.{rank, start, finish, twin}
use Rattle.mesh_check.specs.Reduced.{picked}
use Rattle.mesh_terms.specs.Halves.{next_half}
use Rattle.mesh_terms.specs.Meshes.{Triple}
use Rattle.tidy_terms.specs.Collapse.{collapsed, stays}
use Rattle.tidy_laws.specs.Conditions.{CanCollapse, number_after}
use Rattle.tidy_laws.proofs.Around.{a_not_c, a_not_d, b_not_c, ac, ac_runs, ac_stays, bd, bd_runs, bd_stays, cb, cb_runs, cb_stays, da, da_runs, da_stays, twin_ac, twin_bd, twin_cb, twin_da, twin_other}
use Rattle.tidy_laws.proofs.Kept.{Stays}
use Rattle.tidy_laws.proofs.Six.{Runs, goes_near}
use Rattle.mesh_tidy.specs.Pairs.{paired}
use Rattle.mesh_tidy.proofs.Left.{Marked, next_marked, next_number, number, number_one}

pub length-paired : (tw : List ℕ) (x y : ℕ) → length (paired tw x y) ≡ length tw
length-paired tw x y = length-set (set tw x y) y x ∙ length-set tw x y

pub at_second : (tw : List ℕ) (x y : ℕ) → y < length tw → get_or (paired tw x y) y 0 ≡ x
at_second tw x y low = get_or-set_same (set tw x y) y x 0 (omega (arith, low, length-set tw x y))

pub at_first : (tw : List ℕ) (x y : ℕ) → x < length tw → x ≢ y → get_or (paired tw x y) x 0 ≡ y
at_first tw x y low apart = get_or-set_other (set tw x y) y x x 0 apart ∙ get_or-set_same tw x y 0 low

pub at_other : (tw : List ℕ) (x y z : ℕ) → z ≢ x → z ≢ y → get_or (paired tw x y) z 0 ≡ get_or tw z 0
at_other tw x y z n m = get_or-set_other (set tw x y) y z x 0 m ∙ get_or-set_other tw x z y 0 n

-- a half-edge of a triangle with a mark, and its twin among those
pub record IsTwinIn (ms : List Bool) (ts : List Triple) (x y : ℕ) : Type 0 where
  pub there : Marked ms ts y
  pub is : twin (all_edges (picked ms ts)) (number ms x) ≡ number ms y

-- before: marks, triangles, twins and a half-edge that can be collapsed; after: marks and triangles that follow the definition
module _ (ms ns : List Bool) (ts us : List Triple) (full : length ms ≡ length ts) (tw : List ℕ) (long : length tw ≡ 3 * length ts)
    (each : (x : ℕ) → Marked ms ts x → IsTwinIn ms ts x (get_or tw x 0)) (h : ℕ) (h_has : Marked ms ts h) (a b c d : ℕ)
    (can : CanCollapse (picked ms ts) (number ms h) a b c d) (left_is : picked ns us ≡ collapsed a b (picked ms ts)) (numbers : (x : ℕ) →
    number ns x ≡ number_after a b (picked ms ts) (number ms x))
    (had : (x : ℕ) → Marked ns us x → Marked ms ts x) (stay : (x : ℕ) → Marked ns us x → Stays (stays a b) (picked ms ts) (number ms x)) (has : (x : ℕ) →
    Marked ms ts x → stays a b (get_or (picked ms ts) (number ms x / 3) (0, 0, 0)) ≡ true → Marked ns us x) where
  abbrev pub left : List Triple
  left = picked ms ts

  abbrev pub k : ℕ
  k = number ms h

  abbrev pub g : ℕ
  g = get_or tw h 0

  g_twin : IsTwinIn ms ts h g
  g_twin = each h h_has

  -- the half-edges across, as the list has them
  abbrev pub y_cb : ℕ
  y_cb = get_or tw (next_half h) 0

  abbrev pub y_ac : ℕ
  y_ac = get_or tw (next_half (next_half h)) 0

  abbrev pub y_da : ℕ
  y_da = get_or tw (next_half g) 0

  abbrev pub y_bd : ℕ
  y_bd = get_or tw (next_half (next_half g)) 0

  next_twin : (x : ℕ) → Marked ms ts x → IsTwinIn ms ts (next_half x) (get_or tw (next_half x) 0)
  next_twin x s = each (next_half x) (next_marked ms ts x s)

  n1 : (x : ℕ) → number ms (next_half x) ≡ next_half (number ms x)
  n1 x = next_number ms x

  n2 : (x : ℕ) → number ms (next_half (next_half x)) ≡ next_half (next_half (number ms x))
  n2 x = next_number ms (next_half x) ∙ ap next_half (next_number ms x)

  cb_is : number ms y_cb ≡ cb left k a b c d can
  cb_is = sym (next_twin h h_has).is ∙ ap (twin (all_edges left)) (n1 h)

  ac_is : number ms y_ac ≡ ac left k a b c d can
  ac_is = sym (next_twin (next_half h) (next_marked ms ts h h_has)).is ∙ ap (twin (all_edges left)) (n2 h)

  da_is : number ms y_da ≡ da left k a b c d can
  da_is = sym (next_twin g g_twin.there).is ∙ ap (twin (all_edges left)) (n1 g ∙ ap next_half (sym g_twin.is))

  bd_is : number ms y_bd ≡ bd left k a b c d can
  bd_is = sym (next_twin (next_half g) (next_marked ms ts g g_twin.there)).is ∙ ap (twin (all_edges left)) (n2 g ∙ ap (λ w. next_half (next_half w)) (sym g_twin.is))

  -- they are left
  left_with : (y m : ℕ) → Marked ms ts y → number ms y ≡ m → Stays (stays a b) left m → Marked ns us y
  left_with y m y_has e s = has y y_has (ap (λ n. stays a b (get_or left (n / 3) (0, 0, 0))) e ∙ s.1)

  cb_has : Marked ns us y_cb
  cb_has = left_with y_cb (cb left k a b c d can) (next_twin h h_has).there cb_is (cb_stays left k a b c d can)

  ac_has : Marked ns us y_ac
  ac_has = left_with y_ac (ac left k a b c d can) (next_twin (next_half h) (next_marked ms ts h h_has)).there ac_is (ac_stays left k a b c d can)

  da_has : Marked ns us y_da
  da_has = left_with y_da (da left k a b c d can) (next_twin g g_twin.there).there da_is (da_stays left k a b c d can)

  bd_has : Marked ns us y_bd
  bd_has = left_with y_bd (bd left k a b c d can) (next_twin (next_half g) (next_marked ms ts g g_twin.there)).there bd_is (bd_stays left k a b c d can)

  -- twins afterwards, by the definition
  twin_by : (x y m n : ℕ) → Marked ns us y → number ms x ≡ m → number ms y ≡ n →
      twin (all_edges (collapsed a b left)) (number_after a b left m) ≡ number_after a b left n → IsTwinIn ns us x y
  twin_by x y m n y_has e f is = record {
    there = y_has;
    is = (λ i. twin (all_edges (left_is i)) (numbers x i)) ∙ ap (λ w. twin (all_edges (collapsed a b left)) (number_after a b left w)) e ∙ is
        ∙ sym (numbers y ∙ ap (number_after a b left) f);
  }

  -- different starts or ends, different half-edges
  apart_by : (x y m n : ℕ) → number ms x ≡ m → number ms y ≡ n → (m ≡ n → ⊥) → x ≢ y
  apart_by x y m n e f never q = never (sym e ∙ ap (number ms) q ∙ f)

  abbrev pub tw1 : List ℕ
  tw1 = paired tw y_cb y_ac

  abbrev pub tw2 : List ℕ
  tw2 = paired tw1 y_da y_bd

  low_of : (y : ℕ) → Marked ms ts y → y < length tw
  low_of y s = omega (arith, s.0, long)

  run_apart : (x y u v p q : ℕ) → Runs (all_edges left) x u v → Runs (all_edges left) y p q → ((u ≡ p) × (v ≡ q) → ⊥) → x ≡ y → ⊥
  run_apart x y u v p q r s never e = never (sym r.from ∙ ap (start (all_edges left)) e ∙ s.from, sym r.to ∙ ap (finish (all_edges left)) e ∙ s.to)

  da_not_bd : y_da ≢ y_bd
  da_not_bd =
      apart_by y_da y_bd (da left k a b c d can) (bd left k a b c d can) da_is bd_is
      (run_apart (da left k a b c d can) (bd left k a b c d can) d a b d (da_runs left k a b c d can) (bd_runs left k a b c d can) (λ q. a_not_d left k a b c d can q.1))

  cb_not_ac : y_cb ≢ y_ac
  cb_not_ac =
      apart_by y_cb y_ac (cb left k a b c d can) (ac left k a b c d can) cb_is ac_is
      (run_apart (cb left k a b c d can) (ac left k a b c d can) c b a c (cb_runs left k a b c d can) (ac_runs left k a b c d can)
      (λ q. a_not_c left k a b c d can (sym q.0)))

  cb_not_da : y_cb ≢ y_da
  cb_not_da =
      apart_by y_cb y_da (cb left k a b c d can) (da left k a b c d can) cb_is da_is
      (run_apart (cb left k a b c d can) (da left k a b c d can) c b d a (cb_runs left k a b c d can) (da_runs left k a b c d can) (λ q. can.differ q.0))

  cb_not_bd : y_cb ≢ y_bd
  cb_not_bd =
      apart_by y_cb y_bd (cb left k a b c d can) (bd left k a b c d can) cb_is bd_is
      (run_apart (cb left k a b c d can) (bd left k a b c d can) c b b d (cb_runs left k a b c d can) (bd_runs left k a b c d can)
      (λ q. b_not_c left k a b c d can (sym q.0)))

  ac_not_da : y_ac ≢ y_da
  ac_not_da =
      apart_by y_ac y_da (ac left k a b c d can) (da left k a b c d can) ac_is da_is
      (run_apart (ac left k a b c d can) (da left k a b c d can) a c d a (ac_runs left k a b c d can) (da_runs left k a b c d can) (λ q. a_not_d left k a b c d can q.0))

  ac_not_bd : y_ac ≢ y_bd
  ac_not_bd =
      apart_by y_ac y_bd (ac left k a b c d can) (bd left k a b c d can) ac_is bd_is
      (run_apart (ac left k a b c d can) (bd left k a b c d can) a c b d (ac_runs left k a b c d can) (bd_runs left k a b c d can) (λ q. can.distinct q.0))

  -- so each that is left has its twin in the new list
  pub new_twins : (x : ℕ) → Marked ns us x → IsTwinIn ns us x (get_or tw2 x 0)
  new_twins x x_has = by (cases_Bool (x == y_bd)) (cases_Bool (x == y_da)) (cases_Bool (x == y_ac)) (cases_Bool (x == y_cb)) where
    off : (y : ℕ) → (x == y) ≡ false → x ≢ y
    off y n e = both_ways (x == y) n (eq-eqb x y e)

    put : (y z : ℕ) → x ≡ y → get_or tw2 y 0 ≡ z → IsTwinIn ns us y z → IsTwinIn ns us x (get_or tw2 x 0)
    put y z e f t = subst (λ v. IsTwinIn ns us v (get_or tw2 v 0)) (sym e) (subst (IsTwinIn ns us y) (sym f) t)

    other : x ≢ y_bd → x ≢ y_da → x ≢ y_ac → x ≢ y_cb → IsTwinIn ns us x (get_or tw2 x 0)
    other n_bd n_da n_ac n_cb =
        let x_had = had x x_has in
        let old = each x x_had in
        let value : get_or tw2 x 0 ≡ get_or tw x 0 = at_other tw1 y_da y_bd x n_da n_bd ∙ at_other tw y_cb y_ac x n_cb n_ac in
        let differs : (y m : ℕ) → Marked ms ts y → number ms y ≡ m → x ≢ y → number ms x ≢ m = λ y m y_has e n q. n (number_one ms ts full x y x_had y_has (q ∙ sym e)) in
        let keeps = twin_other left k a b c d can (number ms x) (stay x x_has) (differs y_ac (ac left k a b c d can) (had y_ac ac_has) ac_is n_ac)
        (differs y_bd (bd left k a b c d can) (had y_bd bd_has) bd_is n_bd)
        (differs y_cb (cb left k a b c d can) (had y_cb cb_has) cb_is n_cb) (differs y_da (da left k a b c d can) (had y_da da_has) da_is n_da) in
        let y_has : Marked ns us (get_or tw x 0) = left_with (get_or tw x 0) (twin (all_edges left) (number ms x)) old.there (sym old.is) keeps.stays in
        subst (IsTwinIn ns us x) (sym value) (twin_by x (get_or tw x 0) (number ms x) (twin (all_edges left) (number ms x)) y_has refl (sym old.is) keeps.is)

    by : ((x == y_bd) ≡ true) ⊎ ((x == y_bd) ≡ false) → ((x == y_da) ≡ true) ⊎ ((x == y_da) ≡ false) → ((x == y_ac) ≡ true) ⊎ ((x == y_ac) ≡ false) →
        ((x == y_cb) ≡ true) ⊎ ((x == y_cb) ≡ false) → IsTwinIn ns us x (get_or tw2 x 0)
    by (inl e) i j l =
        put y_bd y_da (eqb-true x y_bd e) (at_second tw1 y_da y_bd (omega (arith, low_of y_bd (had y_bd bd_has), length-paired tw y_cb y_ac)))
        (twin_by y_bd y_da (bd left k a b c d can) (da left k a b c d can) da_has bd_is da_is (twin_bd left k a b c d can))
    by (inr m) (inl e) j l =
        put y_da y_bd (eqb-true x y_da e) (at_first tw1 y_da y_bd (omega (arith, low_of y_da (had y_da da_has), length-paired tw y_cb y_ac)) da_not_bd)
        (twin_by y_da y_bd (da left k a b c d can) (bd left k a b c d can) bd_has da_is bd_is (twin_da left k a b c d can))
    by (inr m) (inr n) (inl e) l =
        put y_ac y_cb (eqb-true x y_ac e) (at_other tw1 y_da y_bd y_ac ac_not_da ac_not_bd ∙ at_second tw y_cb y_ac (low_of y_ac (had y_ac ac_has)))
        (twin_by y_ac y_cb (ac left k a b c d can) (cb left k a b c d can) cb_has ac_is cb_is (twin_ac left k a b c d can))
    by (inr m) (inr n) (inr o) (inl e) =
        put y_cb y_ac (eqb-true x y_cb e) (at_other tw1 y_da y_bd y_cb cb_not_da cb_not_bd ∙ at_first tw y_cb y_ac (low_of y_cb (had y_cb cb_has)) cb_not_ac)
        (twin_by y_cb y_ac (cb left k a b c d can) (ac left k a b c d can) ac_has cb_is ac_is (twin_cb left k a b c d can))
    by (inr m) (inr n) (inr o) (inr q) = other (off y_bd m) (off y_da n) (off y_ac o) (off y_cb q)

  -- they are in the list
  pub cb_low : y_cb < length tw
  cb_low = low_of y_cb (had y_cb cb_has)

  pub ac_low : y_ac < length tw
  ac_low = low_of y_ac (had y_ac ac_has)

  pub da_low : y_da < length tw
  da_low = low_of y_da (had y_da da_has)

  pub bd_low : y_bd < length tw
  bd_low = low_of y_bd (had y_bd bd_has)

  -- none of them is one of the twin's triangle, which goes
  goes_with : (y : ℕ) → Marked ns us y → (w : ℕ) → w / 3 ≡ g / 3 → w ≢ y
  goes_with y y_has w near e =
      let same : y / 3 ≡ g / 3 = omega (arith, ap (λ v. v / 3) e, near) in
      let there : number ms y / 3 ≡ number ms g / 3 = omega (arith, ap (rank (λ m. m) ms) same) in
      both_ways (stays a b (get_or left (number ms y / 3) (0, 0, 0))) (goes_near left k a b c d (number ms y) can (inr (there ∙ ap (λ v. v / 3) (sym g_twin.is)))) (stay y y_has).1

  -- so the second pair is read as it stood
  pub second_read : (w : ℕ) → w / 3 ≡ g / 3 → get_or tw1 w 0 ≡ get_or tw w 0
  second_read w near = at_other tw y_cb y_ac w (goes_with y_cb cb_has w near) (goes_with y_ac ac_has w near)
