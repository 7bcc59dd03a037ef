-- The lists of a surface after a collapse follow the definition: two triangles lose their marks, and one vertex is put for another.
use Rattle.std.proofs.Common.{◌≡◌, ◌≢◌, ℕ, zero, suc, ◌+◌, ◌*◌, ◌/◌, ◌%◌, ◌<◌, ◌≤◌, ◌⊎◌, inl, inr, Bool, true, false, List, [], ◌∷◌, ◌++◌, length, get_or, set, refl, sym, ap, subst, ◌∙◌, arith, get_or-set_same, get_or-set_other}
use Rattle.std.specs.Prelude.{cond, count_by, ◌&&◌, ◌==◌}
use Rattle.std.specs.List.{All, Contains}
use Rattle.std.proofs.lemmas.Bool.{both_ways, cases_Bool, cases_lt, eqb-true, eq-eqb}
use Rattle.std.proofs.lemmas.List.{get_or_default, get_or_past, length-set}
use Rattle.chain_terms.specs.Chains.{all_edges, one_if}
use Rattle.chain_terms.specs.Ranks.{rank, start, finish, twin}
use Rattle.chain_laws.specs.Triples.{renamed_triple}
use Rattle.halfedge.proofs.Edges.{length-all_edges}
use Rattle.mesh_check.specs.Reduced.{picked}
use Rattle.mesh_check.specs.Opposites.{third_vertex}
use Rattle.mesh_terms.specs.Meshes.{Triple}
use Rattle.tidy_terms.specs.Collapse.{collapsed, merged, stays}
use Rattle.tidy_laws.specs.Conditions.{CanCollapse, number_after}
use Rattle.tidy_laws.proofs.Closed.{merged_other}
use Rattle.tidy_laws.proofs.Six.{between, goes_near, the_six, triple_starts}
use Rattle.mesh_tidy.specs.TidySurface.{IsRenamed}
use Rattle.mesh_tidy.proofs.Left.{AllFollow, Follows, Marked, number, number_below, number_one, picked_follows, rank_follows, start_number}

-- the marks after two triangles lost theirs
abbrev pub without : List Bool → ℕ → ℕ → List Bool
without ms i j = set (set ms i false) j false

pub length-without : (ms : List Bool) (i j : ℕ) → length (without ms i j) ≡ length ms
length-without ms i j = length-set (set ms i false) j false ∙ length-set ms i false

cleared : (ms : List Bool) (i k : ℕ) → k ≡ i → get_or (set ms i false) k false ≡ false
cleared ms i k e = by (cases_lt i (length ms)) where
  by : (i < length ms) ⊎ (length ms ≤ i) → get_or (set ms i false) k false ≡ false
  by (inl low) = ap (λ w. get_or (set ms i false) w false) e ∙ get_or-set_same ms i false false low
  by (inr high) = get_or_past (set ms i false) k false (omega (arith, e, high, length-set ms i false))

-- where it is another they stay
stays_marked : (ms : List Bool) (i j k : ℕ) → k ≢ i → k ≢ j → get_or (without ms i j) k false ≡ get_or ms k false
stays_marked ms i j k n m = get_or-set_other (set ms i false) j k false false m ∙ get_or-set_other ms i k false false n

-- before: marks, triangles and a half-edge of one with a mark that can be collapsed; after: the triangles renamed at the halves, in
-- which each half-edge with a mark that starts at b is
module _ (ms : List Bool) (ts us : List Triple) (full : length ms ≡ length ts) (count : length us ≡ length ts) (h g : ℕ) (h_has : Marked ms ts h)
    (g_has : Marked ms ts g) (a b c d : ℕ)
    (can : CanCollapse (picked ms ts) (number ms h) a b c d) (twin_is : twin (all_edges (picked ms ts)) (number ms h) ≡ number ms g)
    (halves : List ℕ) (renames : IsRenamed ts us halves b a) (all_b : (x : ℕ) → Marked ms ts x → start (all_edges ts) x ≡ b → Contains halves x) where
  abbrev pub left : List Triple
  left = picked ms ts

  abbrev pub ns : List Bool
  ns = without ms (h / 3) (g / 3)

  third : (k : ℕ) → 3 * k / 3 ≡ k
  third k = omega arith

  -- a triangle with a mark stands among those left at its rank
  pub stands : (i : ℕ) → i < length ts → get_or ms i false ≡ true → get_or left (rank (λ m. m) ms i) (0, 0, 0) ≡ get_or ts i (0, 0, 0)
  stands i low on = by where
    marked : (r : ℕ) → r < 3 → Marked ms ts (3 * i + r)
    marked r small = let same : i ≡ (3 * i + r) / 3 = omega (arith, small) in (omega (arith, low, small), ap (λ w. get_or ms w false) (sym same) ∙ on)

    at : (r : ℕ) → r < 3 → number ms (3 * i + r) ≡ 3 * rank (λ m. m) ms i + r
    at r small = let same : (3 * i + r) / 3 ≡ i = omega (arith, small) in omega (arith, small, ap (rank (λ m. m) ms) same)

    rank_low : rank (λ m. m) ms i < length left
    rank_low = omega (arith, number_below ms ts (3 * i + 0) (marked 0 (omega arith)), at 0 (omega arith), length-all_edges left)

    s : (r : ℕ) → r < 3 → start (all_edges left) (3 * rank (λ m. m) ms i + r) ≡ start (all_edges ts) (3 * i + r)
    s r small = ap (start (all_edges left)) (sym (at r small)) ∙ start_number ms ts (3 * i + r) (marked r small)

    zeroth : start (all_edges left) (3 * rank (λ m. m) ms i) ≡ start (all_edges ts) (3 * i)
    zeroth =
        let p : 3 * rank (λ m. m) ms i ≡ 3 * rank (λ m. m) ms i + 0 = omega arith in
        let q : 3 * i + 0 ≡ 3 * i = omega arith in
        ap (start (all_edges left)) p ∙ s 0 (omega arith) ∙ ap (start (all_edges ts)) q

    by : get_or left (rank (λ m. m) ms i) (0, 0, 0) ≡ get_or ts i (0, 0, 0)
    by =
        let s1 = s 1 (omega arith) in
        let s2 = s 2 (omega arith) in
        triple_starts left (rank (λ m. m) ms i) (0, 0, 0) rank_low ∙ (λ j. (zeroth j, s1 j, s2 j)) ∙ sym (triple_starts ts i (0, 0, 0) low)

  -- so those with both vertices are the two
  one_of_two : (i : ℕ) → i < length ts → get_or ms i false ≡ true → stays a b (get_or ts i (0, 0, 0)) ≡ false → (i ≡ h / 3) ⊎ (i ≡ g / 3)
  one_of_two i low on gone =
      let r = rank (λ m. m) ms i in
      let marked : Marked ms ts (3 * i) = (omega (arith, low), ap (λ w. get_or ms w false) (third i) ∙ on) in
      let at : number ms (3 * i) ≡ 3 * r = omega (arith, ap (rank (λ m. m) ms) (third i)) in
      let r_low : r < length left = omega (arith, number_below ms ts (3 * i) marked, at, length-all_edges left) in
      elim (between left (number ms h) a b c d r can r_low (ap (stays a b) (stands i low on) ∙ gone)) as (λ _. (i ≡ h / 3) ⊎ (i ≡ g / 3)) [
        | inl e ↦ inl (same_third h h_has (omega (arith, e)))
        | inr e ↦ inr (same_third g g_has (omega (arith, e, twin_is)))
      ]
    where
      -- of one rank
      same_third : (x : ℕ) → Marked ms ts x → rank (λ m. m) ms i ≡ rank (λ m. m) ms (x / 3) → i ≡ x / 3
      same_third x x_has e =
          let marked : Marked ms ts (3 * i + x % 3) = let same : (3 * i + x % 3) / 3 ≡ i = omega arith in (omega (arith, low), ap (λ w. get_or ms w false) same ∙ on) in
          let same : (3 * i + x % 3) / 3 ≡ i = omega arith in
          let numbers : number ms (3 * i + x % 3) ≡ number ms x = omega (arith, e, ap (rank (λ m. m) ms) same) in
          omega (arith, number_one ms ts full (3 * i + x % 3) x marked x_has numbers)

  -- the two have both vertices
  gone_at : (x : ℕ) → Marked ms ts x → (number ms x / 3 ≡ number ms h / 3) ⊎ (number ms x / 3 ≡ twin (all_edges left) (number ms h) / 3) →
      stays a b (get_or ts (x / 3) (0, 0, 0)) ≡ false
  gone_at x x_has near =
      let at : number ms x / 3 ≡ rank (λ m. m) ms (x / 3) = omega arith in
      ap (stays a b) (sym (stands (x / 3) (omega (arith, x_has.0)) x_has.1)) ∙ ap (λ w. stays a b (get_or left w (0, 0, 0))) (sym at)
      ∙ goes_near left (number ms h) a b c d (number ms x) can near

  gone_h : stays a b (get_or ts (h / 3) (0, 0, 0)) ≡ false
  gone_h = gone_at h h_has (inl refl)

  gone_g : stays a b (get_or ts (g / 3) (0, 0, 0)) ≡ false
  gone_g = gone_at g g_has (inr (ap (λ w. w / 3) (sym twin_is)))

  -- a triangle without a mark gets none
  none_comes : (i : ℕ) → get_or ms i false ≡ false → get_or ns i false ≡ false
  none_comes i off = by (cases_Bool (i == h / 3)) (cases_Bool (i == g / 3)) where
    apart : (x y : ℕ) → (x == y) ≡ false → x ≢ y
    apart x y n e = both_ways (x == y) n (eq-eqb x y e)

    by : ((i == h / 3) ≡ true) ⊎ ((i == h / 3) ≡ false) → ((i == g / 3) ≡ true) ⊎ ((i == g / 3) ≡ false) → get_or ns i false ≡ false
    by p (inl e) = cleared (set ms (h / 3) false) (g / 3) i (eqb-true i (g / 3) e)
    by (inl e) (inr m) = get_or-set_other (set ms (h / 3) false) (g / 3) i false false (apart i (g / 3) m) ∙ cleared ms (h / 3) i (eqb-true i (h / 3) e)
    by (inr n) (inr m) = stays_marked ms (h / 3) (g / 3) i (apart i (h / 3) n) (apart i (g / 3) m) ∙ off

  pub mark_follows : (i : ℕ) → i < length ts → get_or ns i false ≡ (get_or ms i false && stays a b (get_or ts i (0, 0, 0)))
  mark_follows i low = by (get_or ms i false) (stays a b (get_or ts i (0, 0, 0))) refl refl where
    by : (x y : Bool) → get_or ms i false ≡ x → stays a b (get_or ts i (0, 0, 0)) ≡ y → get_or ns i false ≡ (x && y)
    by false y off e = none_comes i off
    by true true on e =
        stays_marked ms (h / 3) (g / 3) i (λ q. both_ways (stays a b (get_or ts i (0, 0, 0))) (ap (λ w. stays a b (get_or ts w (0, 0, 0))) q ∙ gone_h) e)
        (λ q. both_ways (stays a b (get_or ts i (0, 0, 0))) (ap (λ w. stays a b (get_or ts w (0, 0, 0))) q ∙ gone_g) e)
        ∙ on
    by true false on e = elim (one_of_two i low on e) as (λ _. get_or ns i false ≡ false) [
      | inl q ↦ by_two (inl q)
      | inr q ↦ cleared (set ms (h / 3) false) (g / 3) i q
    ]
      where
        by_two : (i ≡ h / 3) ⊎ (i ≡ g / 3) → get_or ns i false ≡ false
        by_two (inr q) = cleared (set ms (h / 3) false) (g / 3) i q
        by_two (inl q) = elim (cases_Bool (i == g / 3)) as (λ _. get_or ns i false ≡ false) [
          | inl y ↦ cleared (set ms (h / 3) false) (g / 3) i (eqb-true i (g / 3) y)
          | inr n ↦ get_or-set_other (set ms (h / 3) false) (g / 3) i false false (λ e2. both_ways (i == g / 3) n (eq-eqb i (g / 3) e2)) ∙ cleared ms (h / 3) i q
        ]

  -- a half-edge with a mark starts where the definition says
  pub start_follows : (x : ℕ) → Marked ms ts x → start (all_edges us) x ≡ merged a b (start (all_edges ts) x)
  start_follows x x_has = by (cases_Bool (start (all_edges ts) x == b)) where
    by : ((start (all_edges ts) x == b) ≡ true) ⊎ ((start (all_edges ts) x == b) ≡ false) → start (all_edges us) x ≡ merged a b (start (all_edges ts) x)
    by (inl e) = renames.listed x (all_b x x_has (eqb-true (start (all_edges ts) x) b e))
    by (inr n) =
        let same = merged_other a b (start (all_edges ts) x) (λ e. both_ways (start (all_edges ts) x == b) n (eq-eqb (start (all_edges ts) x) b e)) in
        elim (renames.either x) as (λ _. start (all_edges us) x ≡ merged a b (start (all_edges ts) x)) [
          | inl e ↦ e ∙ sym same
          | inr e ↦ e
        ]

  triple_follows : (i : ℕ) → i < length ts → get_or ns i false ≡ true → get_or us i (0, 0, 0) ≡ renamed_triple (merged a b) (get_or ts i (0, 0, 0))
  triple_follows i low on =
      let was : get_or ms i false ≡ true = had (get_or ms i false) refl in
      let z = start_follows (3 * i) (marked 0 (3 * i) was (omega arith) (omega arith)) in
      let o = start_follows (3 * i + 1) (marked 1 (3 * i + 1) was refl (omega arith)) in
      let t = start_follows (3 * i + 2) (marked 2 (3 * i + 2) was refl (omega arith)) in
      triple_starts us i (0, 0, 0) (omega (arith, low, count)) ∙ (λ j. (z j, o j, t j)) ∙ sym (ap (renamed_triple (merged a b)) (triple_starts ts i (0, 0, 0) low))
    where
      had : (x : Bool) → get_or ms i false ≡ x → get_or ms i false ≡ true
      had true e = e
      had false e = absurd (both_ways (get_or ns i false) (none_comes i e) on)

      marked : (r x : ℕ) → get_or ms i false ≡ true → x ≡ 3 * i + r → r < 3 → Marked ms ts x
      marked r x was e small = let same : x / 3 ≡ i = omega (arith, e, small) in (omega (arith, e, small, low), ap (λ w. get_or ms w false) same ∙ was)

  follows : AllFollow (stays a b) (merged a b) ms ns ts us
  follows i low = record { mark = mark_follows i low; triple = triple_follows i low }

  -- so what is left is what the definition says
  pub left_follows : picked ns us ≡ collapsed a b left
  left_follows = picked_follows (stays a b) (merged a b) ms ns ts us full (length-without ms (h / 3) (g / 3) ∙ full) count follows

  -- and so are the numbers
  pub number_follows : (x : ℕ) → number ns x ≡ number_after a b left (number ms x)
  number_follows x =
      let ranks = rank_follows (stays a b) (merged a b) ms ns ts us full (length-without ms (h / 3) (g / 3) ∙ full) follows (x / 3) in
      let at : number ms x / 3 ≡ rank (λ m. m) ms (x / 3) = omega arith in
      let within : number ms x % 3 ≡ x % 3 = omega arith in
      omega (arith, ranks, within, ap (rank (stays a b) left) at)
