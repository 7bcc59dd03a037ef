-- The six half-edges of the two triangles at an edge that can be collapsed, and no others, go.
use Rattle.std.proofs.Common.{◌≡◌, ◌≢◌, ℕ, zero, suc, ◌+◌, ◌*◌, ◌/◌, ◌<◌, true, false, List, [], ◌∷◌, ◌⊎◌, inl, inr, length, get_or, refl, sym, ap, ◌∙◌, arith}
use Rattle.std.specs.Prelude.{◌==◌, ◌||◌, ◌&&◌, not}
use Rattle.std.proofs.lemmas.Bool.{eqb-true, eq-eqb, cases_Bool, both_ways, or_right}
use Rattle.chain_terms.specs.Chains.{all_edges, dir, is_edge}
use Rattle.chain_terms.specs.Ranks.{rank, start, finish, twin}
use Rattle.chain_laws.specs.Chains.{dir-count_by}
use Rattle.chain_laws.proofs.Ranks.{rank_below, same_place}
use Rattle.chain_laws.proofs.Twins.{runs_as_itself, twin_runs_back}
use Rattle.halfedge.proofs.Edges.{length-all_edges, next_below, next_starts}
use Rattle.mesh_terms.specs.Halves.{next_half}
use Rattle.mesh_terms.specs.Meshes.{Triple, has}
use Rattle.tidy_terms.specs.Collapse.{stays}
use Rattle.tidy_laws.specs.Conditions.{CanCollapse}
use Rattle.tidy_laws.proofs.Closed.{HasBoth, goes_both, vertex_of, IsVertexOf}
use Rattle.tidy_laws.proofs.Kept.{Stays}

-- an edge at a place runs from its start to its end
pub runs : (es : List (ℕ × ℕ)) (x y w : ℕ) → w < length es → start es w ≡ x → finish es w ≡ y → (e : ℕ × ℕ) → is_edge (get_or es w e) x y ≡ true
runs es x y w l s f e = ap (λ u. is_edge (get_or es w e) u y) (sym s) ∙ ap (λ v. is_edge (get_or es w e) (start es w) v) (sym f) ∙ runs_as_itself es w l e

-- the only edge between two vertices has rank 0 among those
pub only_rank : (es : List (ℕ × ℕ)) (x y w : ℕ) → dir es x y ≡ 1 → w < length es → start es w ≡ x → finish es w ≡ y → rank (λ e. is_edge e x y) es w ≡ 0
only_rank es x y w one l s f = omega (arith, rank_below (λ e. is_edge e x y) es w l (runs es x y w l s f), dir-count_by es x y, one)

-- and is known by them
pub only_one : (es : List (ℕ × ℕ)) (x y w z : ℕ) → dir es x y ≡ 1 → w < length es → z < length es → start es w ≡ x → finish es w ≡ y → start es z ≡ x → finish es z ≡ y → w ≡ z
only_one es x y w z one wl zl ws wf zs zf =
    same_place (λ e. is_edge e x y) es 0 w z (record { within = wl; holds = runs es x y w wl ws wf; earlier = only_rank es x y w one wl ws wf })
    (record { within = zl; holds = runs es x y z zl zs zf; earlier = only_rank es x y z one zl zs zf })

-- there is an edge where one stands
pub some_edge : (es : List (ℕ × ℕ)) (w : ℕ) → w < length es → 0 < dir es (start es w) (finish es w)
some_edge es w l = omega (arith, rank_below (λ e. is_edge e (start es w) (finish es w)) es w l (runs_as_itself es w l), dir-count_by es (start es w) (finish es w))

-- a half-edge from x to y
pub record Runs (es : List (ℕ × ℕ)) (w x y : ℕ) : Type 0 where
  pub low : w < length es
  pub from : start es w ≡ x
  pub to : finish es w ≡ y

-- three times on round a triangle
pub next_thrice : (h : ℕ) → next_half (next_half (next_half h)) ≡ h
next_thrice h = omega arith

pub next_runs : (ts : List Triple) (w x y z : ℕ) → Runs (all_edges ts) w x y → start (all_edges ts) (next_half (next_half w)) ≡ z → Runs (all_edges ts) (next_half w) y z
next_runs ts w x y z r e =
    let low = next_below ts w r.low in
    record { low = low; from = next_starts ts w r.low ∙ r.to; to = sym (next_starts ts (next_half w) low) ∙ e }

-- the six
pub record Six (ts : List Triple) (h a b c d : ℕ) : Type 0 where
  pub h_runs : Runs (all_edges ts) h a b
  pub bc_runs : Runs (all_edges ts) (next_half h) b c
  pub ca_runs : Runs (all_edges ts) (next_half (next_half h)) c a
  pub g_runs : Runs (all_edges ts) (twin (all_edges ts) h) b a
  pub ad_runs : Runs (all_edges ts) (next_half (twin (all_edges ts) h)) a d
  pub db_runs : Runs (all_edges ts) (next_half (next_half (twin (all_edges ts) h))) d b

pub the_six : (ts : List Triple) (h a b c d : ℕ) → CanCollapse ts h a b c d → Six ts h a b c d
the_six ts h a b c d k =
    let es = all_edges ts in
    let g = twin es h in
    let back = twin_runs_back es k.closed h k.below in
    let hr : Runs es h a b = record { low = k.below; from = k.starts; to = k.ends } in
    let gr : Runs es g b a = record { low = back.within; from = back.from ∙ k.ends; to = back.to ∙ k.starts } in
    let bcr = next_runs ts h a b c hr k.third in
    let adr = next_runs ts g b a d gr k.across in
    record {
      h_runs = hr;
      bc_runs = bcr;
      ca_runs = next_runs ts (next_half h) b c a bcr (ap (start es) (next_thrice h) ∙ k.starts);
      g_runs = gr;
      ad_runs = adr;
      db_runs = next_runs ts (next_half g) a d b adr (ap (start es) (next_thrice g) ∙ gr.from);
    }

-- half-edges of one triangle
pub same_third : (h w : ℕ) → w / 3 ≡ h / 3 → (w ≡ h) ⊎ ((w ≡ next_half h) ⊎ (w ≡ next_half (next_half h)))
same_third h w e = elim (cases_Bool (w == h)) as (λ _. (w ≡ h) ⊎ ((w ≡ next_half h) ⊎ (w ≡ next_half (next_half h)))) [
  | inl y ↦ inl (eqb-true w h y)
  | inr m ↦ elim (cases_Bool (w == next_half h)) as (λ _. (w ≡ h) ⊎ ((w ≡ next_half h) ⊎ (w ≡ next_half (next_half h)))) [
    | inl y ↦ inr (inl (eqb-true w (next_half h) y))
    | inr n ↦
        let p : w ≢ h = λ q. let z = eq-eqb w h q in absurd (cc) in
        let q : w ≢ next_half h = λ q. let z = eq-eqb w (next_half h) q in absurd (cc) in
        inr (inr (omega (arith, e, p, q)))
  ]
]

-- a triple has the starts of its half-edges
pub triple_starts : (ts : List Triple) (i : ℕ) (d : Triple) → i < length ts →
    get_or ts i d ≡ (start (all_edges ts) (3 * i), start (all_edges ts) (3 * i + 1), start (all_edges ts) (3 * i + 2))
triple_starts [] i d low = absurd (omega (arith, low))
triple_starts (t ∷ ts) zero d low = refl
triple_starts (t ∷ ts) (suc i) d low =
    let es = all_edges (t ∷ ts) in
    let zeroth : suc (suc (suc (3 * i))) ≡ 3 * suc i = omega arith in
    let first : suc (suc (suc (3 * i + 1))) ≡ 3 * suc i + 1 = omega arith in
    let second : suc (suc (suc (3 * i + 2))) ≡ 3 * suc i + 2 = omega arith in
    triple_starts ts i d (omega (arith, low)) ∙ (λ j. (start es (zeroth j), start es (first j), start es (second j)))

-- its three half-edges
pub record Corners (ts : List Triple) (k : ℕ) (t : Triple) : Type 0 where
  pub zeroth : Runs (all_edges ts) (3 * k) t.0 t.1
  pub first : Runs (all_edges ts) (3 * k + 1) t.1 t.2
  pub second : Runs (all_edges ts) (3 * k + 2) t.2 t.0

pub corners : (ts : List Triple) (k : ℕ) (d : Triple) → k < length ts → Corners ts k (get_or ts k d)
corners ts k d low =
    let es = all_edges ts in
    let t = get_or ts k d in
    let is = triple_starts ts k d low in
    let s0 : start es (3 * k) ≡ t.0 = sym (ap (λ (u : Triple). u.0) is) in
    let s1 : start es (3 * k + 1) ≡ t.1 = sym (ap (λ (u : Triple). u.1) is) in
    let s2 : start es (3 * k + 2) ≡ t.2 = sym (ap (λ (u : Triple). u.2) is) in
    let size = length-all_edges ts in
    let l0 : 3 * k < length es = omega (arith, size, low) in
    let l1 : 3 * k + 1 < length es = omega (arith, size, low) in
    let l2 : 3 * k + 2 < length es = omega (arith, size, low) in
    let n0 : next_half (3 * k) ≡ 3 * k + 1 = omega arith in
    let n1 : next_half (3 * k + 1) ≡ 3 * k + 2 = omega arith in
    let n2 : next_half (3 * k + 2) ≡ 3 * k = omega arith in
    record {
      zeroth = record { low = l0; from = s0; to = sym (next_starts ts (3 * k) l0) ∙ ap (start es) n0 ∙ s1 };
      first = record { low = l1; from = s1; to = sym (next_starts ts (3 * k + 1) l1) ∙ ap (start es) n1 ∙ s2 };
      second = record { low = l2; from = s2; to = sym (next_starts ts (3 * k + 2) l2) ∙ ap (start es) n2 ∙ s0 };
    }

-- a half-edge that runs as the one that goes, or back, is it or its twin
is_h : (ts : List Triple) (h a b c d k w : ℕ) → CanCollapse ts h a b c d → Runs (all_edges ts) w a b → w / 3 ≡ k → k ≡ h / 3
is_h ts h a b c d k w can r at = sym at ∙ ap (λ v. v / 3) (only_one (all_edges ts) a b w h can.ab r.low can.below r.from r.to can.starts can.ends)

is_g : (ts : List Triple) (h a b c d k w : ℕ) → CanCollapse ts h a b c d → Runs (all_edges ts) w b a → w / 3 ≡ k → k ≡ twin (all_edges ts) h / 3
is_g ts h a b c d k w can r at =
    let es = all_edges ts in
    let g = (the_six ts h a b c d can).g_runs in
    sym at ∙ ap (λ v. v / 3) (only_one es b a w (twin es h) (sym (can.closed a b) ∙ can.ab) r.low g.low r.from r.to g.from g.to)

-- so a triple that goes is one of the two
pub between : (ts : List Triple) (h a b c d k : ℕ) → CanCollapse ts h a b c d → k < length ts → stays a b (get_or ts k (0, 0, 0)) ≡ false →
    (k ≡ h / 3) ⊎ (k ≡ twin (all_edges ts) h / 3)
between ts h a b c d k can low gone = by (vertex_of t a both.first) (vertex_of t b both.second)
  where
    t : Triple
    t = get_or ts k (0, 0, 0)

    es : List (ℕ × ℕ)
    es = all_edges ts

    both : HasBoth a b t
    both = goes_both a b t gone

    sides : Corners ts k t
    sides = corners ts k (0, 0, 0) low

    run : (w x y u v : ℕ) → Runs es w x y → x ≡ u → y ≡ v → Runs es w u v
    run w x y u v r e f = record { low = r.low; from = r.from ∙ e; to = r.to ∙ f }

    by : IsVertexOf t a → IsVertexOf t b → (k ≡ h / 3) ⊎ (k ≡ twin es h / 3)
    by (inl x) (inl y) = absurd (can.distinct (sym x ∙ y))
    by (inl x) (inr (inl y)) = inl (is_h ts h a b c d k (3 * k) can (run (3 * k) t.0 t.1 a b sides.zeroth x y) (omega arith))
    by (inl x) (inr (inr y)) = inr (is_g ts h a b c d k (3 * k + 2) can (run (3 * k + 2) t.2 t.0 b a sides.second y x) (omega arith))
    by (inr (inl x)) (inl y) = inr (is_g ts h a b c d k (3 * k) can (run (3 * k) t.0 t.1 b a sides.zeroth y x) (omega arith))
    by (inr (inl x)) (inr (inl y)) = absurd (can.distinct (sym x ∙ y))
    by (inr (inl x)) (inr (inr y)) = inl (is_h ts h a b c d k (3 * k + 1) can (run (3 * k + 1) t.1 t.2 a b sides.first x y) (omega arith))
    by (inr (inr x)) (inl y) = inl (is_h ts h a b c d k (3 * k + 2) can (run (3 * k + 2) t.2 t.0 a b sides.second x y) (omega arith))
    by (inr (inr x)) (inr (inl y)) = inr (is_g ts h a b c d k (3 * k + 1) can (run (3 * k + 1) t.1 t.2 b a sides.first y x) (omega arith))
    by (inr (inr x)) (inr (inr y)) = absurd (can.distinct (sym x ∙ y))

-- a triple has the start of its half-edge
pub has_start : (ts : List Triple) (w : ℕ) → w < length (all_edges ts) → has (get_or ts (w / 3) (0, 0, 0)) (start (all_edges ts) w) ≡ true
has_start [] w low = absurd (omega (arith, low))
has_start (t ∷ ts) zero low = ap (λ x. (x || (t.1 == t.0)) || (t.2 == t.0)) (eq-eqb t.0 t.0 refl)
has_start (t ∷ ts) (suc zero) low = ap (λ x. ((t.0 == t.1) || x) || (t.2 == t.1)) (eq-eqb t.1 t.1 refl) ∙ ap (λ x. x || (t.2 == t.1)) (or_right (t.0 == t.1) true refl)
has_start (t ∷ ts) (suc (suc zero)) low = ap (λ x. ((t.0 == t.2) || (t.1 == t.2)) || x) (eq-eqb t.2 t.2 refl) ∙ or_right ((t.0 == t.2) || (t.1 == t.2)) true refl
has_start (t ∷ ts) (suc (suc (suc w))) low =
    let later : suc (suc (suc w)) / 3 ≡ suc (w / 3) = omega arith in
    ap (λ i. has (get_or (t ∷ ts) i (0, 0, 0)) (start (all_edges ts) w)) later ∙ has_start ts w (omega (arith, low))

-- the triple of a half-edge from the one to the other, or back, goes
goes_with : (ts : List Triple) (a b w x y : ℕ) → Runs (all_edges ts) w x y → (x ≡ a) × (y ≡ b) ⊎ (x ≡ b) × (y ≡ a) → stays a b (get_or ts (w / 3) (0, 0, 0)) ≡ false
goes_with ts a b w x y r e =
    by e
  where
    t : Triple
    t = get_or ts (w / 3) (0, 0, 0)

    has_x : has t x ≡ true
    has_x = ap (has t) (sym r.from) ∙ has_start ts w r.low

    same : next_half w / 3 ≡ w / 3
    same = omega arith

    has_y : has t y ≡ true
    has_y =
        ap (has t) (sym r.to ∙ sym (next_starts ts w r.low)) ∙ ap (λ i. has (get_or ts i (0, 0, 0)) (start (all_edges ts) (next_half w))) (sym same)
        ∙ has_start ts (next_half w) (next_below ts w r.low)

    has_both : has t a ≡ true → has t b ≡ true → stays a b t ≡ false
    has_both p q = ap (λ z. not (z && has t b)) p ∙ ap (λ z. not (true && z)) q

    by : (x ≡ a) × (y ≡ b) ⊎ (x ≡ b) × (y ≡ a) → stays a b t ≡ false
    by (inl q) = has_both (ap (has t) (sym q.0) ∙ has_x) (ap (has t) (sym q.1) ∙ has_y)
    by (inr q) = has_both (ap (has t) (sym q.1) ∙ has_y) (ap (has t) (sym q.0) ∙ has_x)

-- so the six go
pub goes_near : (ts : List Triple) (h a b c d w : ℕ) → CanCollapse ts h a b c d → (w / 3 ≡ h / 3) ⊎ (w / 3 ≡ twin (all_edges ts) h / 3) →
    stays a b (get_or ts (w / 3) (0, 0, 0)) ≡ false
goes_near ts h a b c d w can (inl e) =
    ap (λ i. stays a b (get_or ts i (0, 0, 0))) e ∙ goes_with ts a b h a b (the_six ts h a b c d can).h_runs (inl (refl, refl))
goes_near ts h a b c d w can (inr e) =
    ap (λ i. stays a b (get_or ts i (0, 0, 0))) e ∙ goes_with ts a b (twin (all_edges ts) h) b a (the_six ts h a b c d can).g_runs (inr (refl, refl))

-- none of the six stays: nor does any half-edge that runs as one of them
pub record NoneStays (ts : List Triple) (a b c d : ℕ) : Type 0 where
  pub ab : (w : ℕ) → Stays (stays a b) ts w → Runs (all_edges ts) w a b → ⊥
  pub bc : (w : ℕ) → Stays (stays a b) ts w → Runs (all_edges ts) w b c → ⊥
  pub ca : (w : ℕ) → Stays (stays a b) ts w → Runs (all_edges ts) w c a → ⊥
  pub ba : (w : ℕ) → Stays (stays a b) ts w → Runs (all_edges ts) w b a → ⊥
  pub ad : (w : ℕ) → Stays (stays a b) ts w → Runs (all_edges ts) w a d → ⊥
  pub db : (w : ℕ) → Stays (stays a b) ts w → Runs (all_edges ts) w d b → ⊥

pub none_stays : (ts : List Triple) (h a b c d : ℕ) → CanCollapse ts h a b c d → NoneStays ts a b c d
none_stays ts h a b c d can = record {
  ab = λ w s r. no w h a b s r six.h_runs can.ab (inl refl);
  bc = λ w s r. no w (next_half h) b c s r six.bc_runs can.bc (inl (omega arith));
  ca = λ w s r. no w (next_half (next_half h)) c a s r six.ca_runs (sym (can.closed a c) ∙ can.ac) (inl (omega arith));
  ba = λ w s r. no w g b a s r six.g_runs (sym (can.closed a b) ∙ can.ab) (inr refl);
  ad = λ w s r. no w (next_half g) a d s r six.ad_runs can.ad (inr (third_same g));
  db = λ w s r. no w (next_half (next_half g)) d b s r six.db_runs (sym (can.closed b d) ∙ can.bd) (inr (third_same (next_half g) ∙ third_same g));
}
  where
    es : List (ℕ × ℕ)
    es = all_edges ts

    g : ℕ
    g = twin es h

    third_same : (w : ℕ) → next_half w / 3 ≡ w / 3
    third_same w = omega arith

    six : Six ts h a b c d
    six = the_six ts h a b c d can

    no : (w z x y : ℕ) → Stays (stays a b) ts w → Runs es w x y → Runs es z x y → dir es x y ≡ 1 → (z / 3 ≡ h / 3) ⊎ (z / 3 ≡ g / 3) → ⊥
    no w z x y s r q one near =
        let e = only_one es x y w z one r.low q.low r.from r.to q.from q.to in
        both_ways (stays a b (get_or ts (z / 3) (0, 0, 0))) (goes_near ts h a b c d z can near) (ap (λ i. stays a b (get_or ts (i / 3) (0, 0, 0))) (sym e) ∙ s.1)
