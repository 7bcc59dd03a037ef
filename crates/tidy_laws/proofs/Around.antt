-- Going around after a collapse, and why a clean mesh stays clean.
use Rattle.std.proofs.Common.{◌≡◌, ◌≢◌, ℕ, suc, ◌/◌, ◌<◌, Bool, true, false, List, ◌⊎◌, inl, inr, length, get_or, refl, sym, ap, subst, ◌∙◌, arith}
use Rattle.std.specs.Prelude.{◌==◌, cond}
use Rattle.std.proofs.lemmas.Bool.{eqb-true, eq-eqb, cases_Bool, both_ways}
use Rattle.chain_terms.specs.Chains.{all_edges}
use Rattle.chain_terms.specs.Ranks.{start, finish, twin}
use Rattle.chain_laws.proofs.Twins.{twin_runs_back, twin_twin}
use Rattle.halfedge.specs.Clean.{IsClean}
use Rattle.halfedge.proofs.Around.{go_around}
use Rattle.halfedge.proofs.Edges.{length-all_edges, next_below, next_starts}
use Rattle.mesh_terms.specs.Halves.{next_half, around, SameFan}
use Rattle.mesh_terms.specs.Meshes.{Triple}
use Rattle.tidy_terms.specs.Collapse.{merged, stays}
use Rattle.tidy_laws.specs.Conditions.{CanCollapse}
use Rattle.tidy_laws.proofs.Closed.{merged_first, merged_second}
use Rattle.tidy_laws.proofs.Gluing.{AreGlued, glued}
use Rattle.tidy_laws.proofs.Kept.{Stays, down, left, next_down, next_stays, start_down, up}
use Rattle.tidy_laws.proofs.Same.{not_round}
use Rattle.tidy_laws.proofs.Six.{Runs, Six, between, goes_near, next_thrice, only_rank, same_third, the_six}
use Rattle.tidy_laws.proofs.Twins.{twins_down}

module _ (ts : List Triple) (h a b c d : ℕ) (can : CanCollapse ts h a b c d) where
  abbrev pub es : List (ℕ × ℕ)
  es = all_edges ts

  abbrev pub new : List (ℕ × ℕ)
  new = all_edges (left (stays a b) (merged a b) ts)

  abbrev pub at : ℕ → ℕ
  at w = down (stays a b) ts w

  abbrev pub stays_at : ℕ → Bool
  stays_at w = stays a b (get_or ts (w / 3) (0, 0, 0))

  -- the six that go
  abbrev pub g : ℕ
  g = twin es h

  abbrev pub bc : ℕ
  bc = next_half h

  abbrev pub ca : ℕ
  ca = next_half (next_half h)

  abbrev pub ad : ℕ
  ad = next_half g

  abbrev pub db : ℕ
  db = next_half (next_half g)

  -- the four across them
  abbrev pub cb : ℕ
  cb = twin es bc

  abbrev pub ac : ℕ
  ac = twin es ca

  abbrev pub da : ℕ
  da = twin es ad

  abbrev pub bd : ℕ
  bd = twin es db

  pub six : Six ts h a b c d
  six = the_six ts h a b c d can

  -- the twin runs back
  back : (w x y : ℕ) → Runs es w x y → Runs es (twin es w) y x
  back w x y r = let t = twin_runs_back es can.closed w r.low in record { low = t.within; from = t.from ∙ r.to; to = t.to ∙ r.from }

  pub ac_runs : Runs es ac a c
  ac_runs = back ca c a six.ca_runs

  pub cb_runs : Runs es cb c b
  cb_runs = back bc b c six.bc_runs

  pub da_runs : Runs es da d a
  da_runs = back ad a d six.ad_runs

  pub bd_runs : Runs es bd b d
  bd_runs = back db d b six.db_runs

  -- the ends of an edge differ
  pub b_not_c : b ≢ c
  b_not_c e = not_round ts h a b c d can bc c (record { low = six.bc_runs.low; from = six.bc_runs.from ∙ e; to = six.bc_runs.to })

  pub a_not_c : a ≢ c
  a_not_c e = not_round ts h a b c d can ca c (record { low = six.ca_runs.low; from = six.ca_runs.from; to = six.ca_runs.to ∙ e })

  pub a_not_d : a ≢ d
  a_not_d e = not_round ts h a b c d can ad d (record { low = six.ad_runs.low; from = six.ad_runs.from ∙ e; to = six.ad_runs.to })

  pub b_not_d : b ≢ d
  b_not_d e = not_round ts h a b c d can db d (record { low = six.db_runs.low; from = six.db_runs.from; to = six.db_runs.to ∙ e })

  -- one of the six
  abbrev pub OneOfSix : ℕ → Type 0
  OneOfSix w = (w ≡ h) ⊎ ((w ≡ bc) ⊎ ((w ≡ ca) ⊎ ((w ≡ g) ⊎ ((w ≡ ad) ⊎ (w ≡ db)))))

  -- what goes is one of the six
  pub gone_six : (w : ℕ) → w < length es → stays_at w ≡ false → OneOfSix w
  gone_six w low gone = by (between ts h a b c d (w / 3) can (omega (arith, low, length-all_edges ts)) gone) where
    of_h : (w ≡ h) ⊎ ((w ≡ bc) ⊎ (w ≡ ca)) → OneOfSix w
    of_h (inl e) = inl e
    of_h (inr (inl e)) = inr (inl e)
    of_h (inr (inr e)) = inr (inr (inl e))

    of_g : (w ≡ g) ⊎ ((w ≡ ad) ⊎ (w ≡ db)) → OneOfSix w
    of_g (inl e) = inr (inr (inr (inl e)))
    of_g (inr (inl e)) = inr (inr (inr (inr (inl e))))
    of_g (inr (inr e)) = inr (inr (inr (inr (inr e))))

    by : (w / 3 ≡ h / 3) ⊎ (w / 3 ≡ g / 3) → OneOfSix w
    by (inl e) = of_h (same_third h w e)
    by (inr e) = of_g (same_third g w e)

  third_same : (w : ℕ) → next_half w / 3 ≡ w / 3
  third_same w = omega arith

  h_goes : stays_at h ≡ false
  h_goes = goes_near ts h a b c d h can (inl refl)

  bc_goes : stays_at bc ≡ false
  bc_goes = goes_near ts h a b c d bc can (inl (third_same h))

  ca_goes : stays_at ca ≡ false
  ca_goes = goes_near ts h a b c d ca can (inl (third_same bc ∙ third_same h))

  g_goes : stays_at g ≡ false
  g_goes = goes_near ts h a b c d g can (inr refl)

  ad_goes : stays_at ad ≡ false
  ad_goes = goes_near ts h a b c d ad can (inr (third_same g))

  db_goes : stays_at db ≡ false
  db_goes = goes_near ts h a b c d db can (inr (third_same ad ∙ third_same g))

  -- what is none of the six stays
  pub must_stay : (w : ℕ) → w < length es → (OneOfSix w → ⊥) → Stays (stays a b) ts w
  must_stay w low none = elim (cases_Bool (stays_at w)) as (λ _. Stays (stays a b) ts w) [
    | inl y ↦ (omega (arith, low, length-all_edges ts), y)
    | inr m ↦ absurd (none (gone_six w low m))
  ]

  -- so a half-edge that starts and ends elsewhere
  elsewhere : (w x y : ℕ) → Runs es w x y → ((x ≡ a) × (y ≡ b) → ⊥) → ((x ≡ b) × (y ≡ c) → ⊥) → ((x ≡ c) × (y ≡ a) → ⊥) → ((x ≡ b) × (y ≡ a) → ⊥) →
      ((x ≡ a) × (y ≡ d) → ⊥) → ((x ≡ d) × (y ≡ b) → ⊥) → Stays (stays a b) ts w
  elsewhere w x y r nh nbc nca ng nad ndb = must_stay w r.low by where
    same : (z u v : ℕ) → w ≡ z → Runs es z u v → (x ≡ u) × (y ≡ v)
    same z u v e q = (sym r.from ∙ ap (start es) e ∙ q.from, sym r.to ∙ ap (finish es) e ∙ q.to)

    by : OneOfSix w → ⊥
    by (inl e) = nh (same h a b e six.h_runs)
    by (inr (inl e)) = nbc (same bc b c e six.bc_runs)
    by (inr (inr (inl e))) = nca (same ca c a e six.ca_runs)
    by (inr (inr (inr (inl e)))) = ng (same g b a e six.g_runs)
    by (inr (inr (inr (inr (inl e))))) = nad (same ad a d e six.ad_runs)
    by (inr (inr (inr (inr (inr e))))) = ndb (same db d b e six.db_runs)

  pub ac_stays : Stays (stays a b) ts ac
  ac_stays = elsewhere ac a c ac_runs (λ q. b_not_c (sym q.1)) (λ q. can.distinct q.0) (λ q. a_not_c q.0) (λ q. can.distinct q.0) (λ q. can.differ q.1) (λ q. a_not_d q.0)

  pub cb_stays : Stays (stays a b) ts cb
  cb_stays =
      elsewhere cb c b cb_runs (λ q. a_not_c (sym q.0)) (λ q. b_not_c q.1) (λ q. can.distinct (sym q.1)) (λ q. b_not_c (sym q.0)) (λ q. a_not_c (sym q.0))
      (λ q. can.differ q.0)

  pub da_stays : Stays (stays a b) ts da
  da_stays =
      elsewhere da d a da_runs (λ q. a_not_d (sym q.0)) (λ q. b_not_d (sym q.0)) (λ q. can.differ (sym q.0)) (λ q. b_not_d (sym q.0)) (λ q. a_not_d (sym q.0))
      (λ q. can.distinct q.1)

  pub bd_stays : Stays (stays a b) ts bd
  bd_stays =
      elsewhere bd b d bd_runs (λ q. can.distinct (sym q.0)) (λ q. can.differ (sym q.1)) (λ q. b_not_c q.0) (λ q. a_not_d (sym q.1))
      (λ q. can.distinct (sym q.0)) (λ q. b_not_d q.0)

  -- the first half-edge that stays, going around from one
  abbrev to : ℕ → ℕ
  to x = cond (stays_at x) x (cond (stays_at (around es x)) (around es x) (around es (around es x)))

  to_itself : (x : ℕ) → stays_at x ≡ true → to x ≡ x
  to_itself x y = ap (λ i. cond i x (cond (stays_at (around es x)) (around es x) (around es (around es x)))) y

  to_first : (x : ℕ) → stays_at x ≡ false → stays_at (around es x) ≡ true → to x ≡ around es x
  to_first x m y = ap (λ i. cond i x (cond (stays_at (around es x)) (around es x) (around es (around es x)))) m ∙ ap (λ i. cond i (around es x) (around es (around es x))) y

  to_second : (x : ℕ) → stays_at x ≡ false → stays_at (around es x) ≡ false → to x ≡ around es (around es x)
  to_second x m n = ap (λ i. cond i x (cond (stays_at (around es x)) (around es x) (around es (around es x)))) m ∙ ap (λ i. cond i (around es x) (around es (around es x))) n

  -- where one goes from the ten
  around_h : around es h ≡ ad
  around_h = refl

  around_ac : around es ac ≡ h
  around_ac = ap next_half (twin_twin es can.closed ca six.ca_runs.low) ∙ next_thrice h

  around_g : around es g ≡ bc
  around_g = ap next_half (twin_twin es can.closed h can.below)

  around_bd : around es bd ≡ g
  around_bd = ap next_half (twin_twin es can.closed db six.db_runs.low) ∙ next_thrice g

  around_cb : around es cb ≡ ca
  around_cb = ap next_half (twin_twin es can.closed bc six.bc_runs.low)

  around_da : around es da ≡ db
  around_da = ap next_half (twin_twin es can.closed ad six.ad_runs.low)

  abbrev in_a : ℕ
  in_a = next_half da

  abbrev in_b : ℕ
  in_b = next_half cb

  in_a_stays : Stays (stays a b) ts in_a
  in_a_stays = next_stays (stays a b) ts da da_stays

  in_b_stays : Stays (stays a b) ts in_b
  in_b_stays = next_stays (stays a b) ts cb cb_stays

  to_h : to h ≡ in_a
  to_h = to_second h h_goes ad_goes

  to_g : to g ≡ in_b
  to_g = to_second g g_goes (ap stays_at around_g ∙ bc_goes) ∙ ap (around es) around_g

  to_ca : to ca ≡ next_half ac
  to_ca = to_first ca ca_goes (next_stays (stays a b) ts ac ac_stays).1

  to_db : to db ≡ next_half bd
  to_db = to_first db db_goes (next_stays (stays a b) ts bd bd_stays).1

  -- after two that go comes one that stays
  two_steps : (x : ℕ) → x < length es → stays_at x ≡ false → stays_at (around es x) ≡ false → stays_at (around es (around es x)) ≡ true
  two_steps x low m n = by (gone_six x low m) where
    moved : (z : ℕ) → x ≡ z → stays_at (around es z) ≡ true → stays_at (around es (around es x)) ≡ true
    moved z e y = absurd (both_ways (stays_at (around es x)) n (ap (λ i. stays_at (around es i)) e ∙ y))

    by : OneOfSix x → stays_at (around es (around es x)) ≡ true
    by (inl e) = ap (λ i. stays_at (around es (around es i))) e ∙ in_a_stays.1
    by (inr (inl e)) = moved bc e in_b_stays.1
    by (inr (inr (inl e))) = moved ca e (next_stays (stays a b) ts ac ac_stays).1
    by (inr (inr (inr (inl e)))) = ap (λ i. stays_at (around es (around es i))) e ∙ ap (λ i. stays_at (around es i)) around_g ∙ in_b_stays.1
    by (inr (inr (inr (inr (inl e))))) = moved ad e in_a_stays.1
    by (inr (inr (inr (inr (inr e))))) = moved db e (next_stays (stays a b) ts bd bd_stays).1

  -- going around afterwards, by the old numbers
  abbrev around_after : ℕ → ℕ
  around_after x = cond (x == ac) in_b (cond (x == bd) in_a (to (around es x)))

  after_ac : around_after ac ≡ in_b
  after_ac = ap (λ i. cond i in_b (cond (ac == bd) in_a (to (around es ac)))) (eq-eqb ac ac refl)

  bd_not_ac : bd ≢ ac
  bd_not_ac e = can.distinct (sym ac_runs.from ∙ ap (start es) (sym e) ∙ bd_runs.from)

  not_equal : (x y : ℕ) → x ≢ y → (x == y) ≡ false
  not_equal x y n = elim (cases_Bool (x == y)) as (λ _. (x == y) ≡ false) [
    | inl e ↦ absurd (n (eqb-true x y e))
    | inr m ↦ m
  ]

  after_bd : around_after bd ≡ in_a
  after_bd = ap (λ i. cond i in_b (cond (bd == bd) in_a (to (around es bd)))) (not_equal bd ac bd_not_ac) ∙ ap (λ i. cond i in_a (to (around es bd))) (eq-eqb bd bd refl)

  after_other : (x : ℕ) → x ≢ ac → x ≢ bd → around_after x ≡ to (around es x)
  after_other x n m = ap (λ i. cond i in_b (cond (x == bd) in_a (to (around es x)))) (not_equal x ac n) ∙ ap (λ i. cond i in_a (to (around es x))) (not_equal x bd m)

  -- of a clean mesh the cycles at a and at b are glued
  are_glued : IsClean es → AreGlued (length es) (around es) around_after to (start es) a b ac in_a bd in_b
  are_glued clean =
      let goes = go_around ts can.three can.closed in
      record {
        below = goes.inverse.below;
        same_start = goes.start_stays;
        one_fan = clean;
        apart = can.distinct;
        step = λ x low n m. elim (cases_Bool (stays_at x)) as (λ _. (to (around es x) ≡ to x) ⊎ (to (around es x) ≡ around_after (to x))) [
          | inl y ↦ inr (sym (ap around_after (to_itself x y) ∙ after_other x n m))
          | inr k ↦ elim (cases_Bool (stays_at (around es x))) as (λ _. (to (around es x) ≡ to x) ⊎ (to (around es x) ≡ around_after (to x))) [
            | inl y ↦ inl (to_itself (around es x) y ∙ sym (to_first x k y))
            | inr j ↦ inl (to_first (around es x) j (two_steps x low k j) ∙ sym (to_second x k j))
          ]
        ];
        out_a_below = ac_runs.low;
        out_a_start = ac_runs.from;
        out_a_stays = to_itself ac ac_stays.1;
        out_a_old = ap to around_ac ∙ to_h;
        out_a_new = after_ac;
        in_a_below = next_below ts da da_runs.low;
        in_a_start = next_starts ts da da_runs.low ∙ da_runs.to;
        in_a_stays = to_itself in_a in_a_stays.1;
        out_b_below = bd_runs.low;
        out_b_start = bd_runs.from;
        out_b_stays = to_itself bd bd_stays.1;
        out_b_old = ap to around_bd ∙ to_g;
        out_b_new = after_bd;
        in_b_below = next_below ts cb cb_runs.low;
        in_b_start = next_starts ts cb cb_runs.low ∙ cb_runs.to;
        in_b_stays = to_itself in_b in_b_stays.1;
      }

  -- one step afterwards: it stays among those that stay, and is that of the list
  record Steps (x : ℕ) : Type 0 where
    inside : Stays (stays a b) ts (around_after x)
    is : around new (at x) ≡ at (around_after x)

  -- from its twin
  from_twin : (x z : ℕ) → Stays (stays a b) ts z → twin new (at x) ≡ at z → around_after x ≡ next_half z → Steps x
  from_twin x z s e f = record {
    inside = subst (λ i. Stays (stays a b) ts i) (sym f) (next_stays (stays a b) ts z s);
    is = ap next_half e ∙ sym (next_down (stays a b) ts z) ∙ ap at (sym f);
  }

  a_is_b : merged a b a ≡ merged a b b
  a_is_b = merged_first a b a refl ∙ sym (merged_second a b b refl)

  -- of the half-edges across, those of one triangle become twins of each other
  pub twin_ac : twin new (at ac) ≡ at cb
  twin_ac =
      twins_down ts h a b c d can ac cb a c c b ac_stays cb_stays ac_runs cb_runs refl (sym a_is_b)
      (only_rank es a c ac can.ac ac_runs.low ac_runs.from ac_runs.to ∙ sym (only_rank es c b cb (sym (can.closed b c) ∙ can.bc) cb_runs.low cb_runs.from cb_runs.to))

  step_ac : Steps ac
  step_ac = from_twin ac cb cb_stays twin_ac after_ac

  pub twin_bd : twin new (at bd) ≡ at da
  twin_bd =
      twins_down ts h a b c d can bd da b d d a bd_stays da_stays bd_runs da_runs refl a_is_b
      (only_rank es b d bd can.bd bd_runs.low bd_runs.from bd_runs.to ∙ sym (only_rank es d a da (sym (can.closed a d) ∙ can.ad) da_runs.low da_runs.from da_runs.to))

  step_bd : Steps bd
  step_bd = from_twin bd da da_stays twin_bd after_bd

  cb_not_ac : cb ≢ ac
  cb_not_ac e = a_not_c (sym ac_runs.from ∙ ap (start es) (sym e) ∙ cb_runs.from)

  cb_not_bd : cb ≢ bd
  cb_not_bd e = b_not_c (sym bd_runs.from ∙ ap (start es) (sym e) ∙ cb_runs.from)

  pub twin_cb : twin new (at cb) ≡ at ac
  twin_cb =
      twins_down ts h a b c d can cb ac c b a c cb_stays ac_stays cb_runs ac_runs a_is_b refl
      (only_rank es c b cb (sym (can.closed b c) ∙ can.bc) cb_runs.low cb_runs.from cb_runs.to ∙ sym (only_rank es a c ac can.ac ac_runs.low ac_runs.from ac_runs.to))

  step_cb : Steps cb
  step_cb = from_twin cb ac ac_stays twin_cb (after_other cb cb_not_ac cb_not_bd ∙ ap to around_cb ∙ to_ca)

  da_not_ac : da ≢ ac
  da_not_ac e = a_not_d (sym ac_runs.from ∙ ap (start es) (sym e) ∙ da_runs.from)

  da_not_bd : da ≢ bd
  da_not_bd e = b_not_d (sym bd_runs.from ∙ ap (start es) (sym e) ∙ da_runs.from)

  pub twin_da : twin new (at da) ≡ at bd
  twin_da =
      twins_down ts h a b c d can da bd d a b d da_stays bd_stays da_runs bd_runs (sym a_is_b) refl
      (only_rank es d a da (sym (can.closed a d) ∙ can.ad) da_runs.low da_runs.from da_runs.to ∙ sym (only_rank es b d bd can.bd bd_runs.low bd_runs.from bd_runs.to))

  step_da : Steps da
  step_da = from_twin da bd bd_stays twin_da (after_other da da_not_ac da_not_bd ∙ ap to around_da ∙ to_db)

  -- all others have the twins that they had
  pub record KeepsTwin (x : ℕ) : Type 0 where
    pub stays : Stays (stays a b) ts (twin es x)
    pub is : twin new (at x) ≡ at (twin es x)

  pub twin_other : (x : ℕ) → Stays (stays a b) ts x → x ≢ ac → x ≢ bd → x ≢ cb → x ≢ da → KeepsTwin x
  twin_other x s n_ac n_bd n_cb n_da =
      let low : x < length es = omega (arith, s.0, length-all_edges ts) in
      let t = twin_runs_back es can.closed x low in
      let z_stays = must_stay (twin es x) t.within (twin_six low) in
      let xr : Runs es x (start es x) (finish es x) = record { low = low; from = refl; to = refl } in
      let zr : Runs es (twin es x) (start es (twin es x)) (finish es (twin es x)) = record { low = t.within; from = refl; to = refl } in
      record {
        stays = z_stays;
        is = twins_down ts h a b c d can x (twin es x) (start es x) (finish es x) (start es (twin es x)) (finish es (twin es x)) s z_stays xr zr
            (ap (merged a b) t.from) (ap (merged a b) t.to) (sym t.same);
      }
    where
      -- x would be the twin of one of the six
      of : x < length es → (z : ℕ) → twin es x ≡ z → x ≡ twin es z
      of low z e = sym (twin_twin es can.closed x low) ∙ ap (twin es) e

      twin_six : x < length es → OneOfSix (twin es x) → ⊥
      twin_six low (inl e) = both_ways (stays_at g) g_goes (ap stays_at (sym (of low h e)) ∙ s.1)
      twin_six low (inr (inl e)) = n_cb (of low bc e)
      twin_six low (inr (inr (inl e))) = n_ac (of low ca e)
      twin_six low (inr (inr (inr (inl e)))) = both_ways (stays_at h) h_goes (ap stays_at (sym (of low g e ∙ twin_twin es can.closed h can.below)) ∙ s.1)
      twin_six low (inr (inr (inr (inr (inl e))))) = n_da (of low ad e)
      twin_six low (inr (inr (inr (inr (inr e))))) = n_bd (of low db e)

  step_other : (x : ℕ) → Stays (stays a b) ts x → x ≢ ac → x ≢ bd → x ≢ cb → x ≢ da → Steps x
  step_other x s n_ac n_bd n_cb n_da =
      let k = twin_other x s n_ac n_bd n_cb n_da in
      from_twin x (twin es x) k.stays k.is (after_other x n_ac n_bd ∙ to_itself (around es x) (next_stays (stays a b) ts (twin es x) k.stays).1)

  each_step : (x : ℕ) → Stays (stays a b) ts x → Steps x
  each_step x s = elim (cases_Bool (x == ac)) as (λ _. Steps x) [
    | inl e ↦ subst Steps (sym (eqb-true x ac e)) step_ac
    | inr i ↦ elim (cases_Bool (x == bd)) as (λ _. Steps x) [
      | inl e ↦ subst Steps (sym (eqb-true x bd e)) step_bd
      | inr j ↦ elim (cases_Bool (x == cb)) as (λ _. Steps x) [
        | inl e ↦ subst Steps (sym (eqb-true x cb e)) step_cb
        | inr k ↦ elim (cases_Bool (x == da)) as (λ _. Steps x) [
          | inl e ↦ subst Steps (sym (eqb-true x da e)) step_da
          | inr l ↦ step_other x s (apart x ac i) (apart x bd j) (apart x cb k) (apart x da l)
        ]
      ]
    ]
  ]
    where
      apart : (x y : ℕ) → (x == y) ≡ false → x ≢ y
      apart x y n e = let z = eq-eqb x y e in absurd (cc)

  -- reached afterwards from one that stays
  record Reached (from x : ℕ) : Type 0 where
    inside : Stays (stays a b) ts x
    leads : SameFan new (at from) (at x)

  reach_on : (from x : ℕ) → Reached from x → Reached from (around_after x)
  reach_on from x r =
      let s = each_step x r.inside in
      record { inside = s.inside; leads = (suc r.leads.0, ap (around new) r.leads.1 ∙ s.is) }

  -- so one fan stays one fan
  pub stays_clean : IsClean es → IsClean new
  stays_clean clean x y x_low y_low same =
      let u = up (stays a b) (merged a b) ts x x_low in
      let v = up (stays a b) (merged a b) ts y y_low in
      let size = length-all_edges ts in
      let starts_same : merged a b (start es u.old) ≡ merged a b (start es v.old) =
      sym (start_down (stays a b) (merged a b) ts u.old u.stays) ∙ ap (start new) u.is ∙ same ∙ sym (ap (start new) v.is) ∙ start_down (stays a b) (merged a b) ts v.old v.stays in
      let first : Reached u.old u.old = record { inside = u.stays; leads = (0, refl) } in
      let last : Reached u.old (to v.old) =
      glued (length es) (around es) around_after to (start es) a b ac in_a bd in_b (are_glued clean) (Reached u.old) (reach_on u.old) u.old v.old
      (omega (arith, u.stays.0, size)) (omega (arith, v.stays.0, size)) starts_same
      (subst (Reached u.old) (sym (to_itself u.old u.stays.1)) first) in
      let there = subst (Reached u.old) (to_itself v.old v.stays.1) last in
      subst (λ i. SameFan new i y) u.is (subst (λ i. SameFan new (at u.old) i) v.is there.leads)
