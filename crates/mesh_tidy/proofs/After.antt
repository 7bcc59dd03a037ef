-- The half-edges in doubt after a collapse: those that were, and the four that are asked again.
use Rattle.std.proofs.Common.{◌≡◌, ◌≢◌, ℕ, ◌+◌, ◌*◌, ◌/◌, ◌%◌, ◌<◌, ◌⊎◌, inl, inr, Bool, true, false, ℤ, List, [], ◌∷◌, zero, suc, length, get_or, refl, sym, ap, subst, ◌∙◌, arith}
use Rattle.std.specs.Prelude.{min}
use Rattle.std.specs.List.{All, Contains}
use Rattle.std.proofs.lemmas.Bool.{both_ways}
use Rattle.chain_terms.specs.Chains.{all_edges}
use Rattle.chain_terms.specs.Ranks.{start, finish, twin}
use Rattle.chain_laws.proofs.Twins.{twin_runs_back, twin_twin}
use Rattle.halfedge.proofs.Edges.{length-all_edges}
use Rattle.mesh_check.specs.Opposites.{third_vertex}
use Rattle.mesh_terms.specs.Halves.{next_half}
use Rattle.mesh_terms.specs.Meshes.{Triple}
use Rattle.tidy_terms.specs.Collapse.{collapsed, merged, stays}
use Rattle.tidy_terms.specs.Collapsible.{is_collapsible}
use Rattle.tidy_terms.specs.PointTriples.{same_point}
use Rattle.tidy_laws.specs.Conditions.{CanCollapse, number_after}
use Rattle.tidy_laws.proofs.Back.{can_back}
use Rattle.tidy_laws.proofs.Kept.{start_down}
use Rattle.tidy_laws.proofs.Opens.{CanAfter, CouldBefore, Near, from_a, number, opens_near, to_a, to_b}
use Rattle.tidy_laws.proofs.Points.{point_stays}
use Rattle.tidy_laws.proofs.Six.{Runs, goes_near}
use Rattle.tidy_laws.proofs.Tidying.{AreGood, are_met, can_of, finish_below, same_list, start_below}
use Rattle.tidy_laws.proofs.Turned.{same_turned}
use Rattle.tidy_laws.proofs.Twins.{runs_down}
use Rattle.mesh_tidy.specs.Doubts.{AreDoubted, HasLesser, lies_at_one}
use Rattle.mesh_tidy.specs.TidySurface.{TidySurface, Has, HasCollapsed, IsTwin, left_of, number_of}
use Rattle.mesh_tidy.proofs.Left.{finish_number, number_below, number_one, start_number}
use Rattle.mesh_tidy.proofs.Queue.{lesser_is}

-- a surface before and after the collapse of half-edge h
module _ (points : List (List ℤ)) (each : All (λ p. length p ≡ 3) points) (old new : TidySurface) (h : ℕ) (marks : length new.left ≡ length new.triples)
    (good : AreGood (length points) (left_of old)) (good_new : AreGood (length points) (left_of new)) (has_h : Has old h)
    (can_h : is_collapsible points (left_of old) (number_of old h) ≡ true) (c : HasCollapsed old new h) (doubts more : List ℕ)
    (all : AreDoubted points old (h ∷ doubts)) (stay : (x : ℕ) →
    Contains doubts x → Contains more x) where
  abbrev pub ts : List Triple
  ts = left_of old

  abbrev pub k : ℕ
  k = number_of old h

  abbrev pub a : ℕ
  a = start (all_edges ts) k

  abbrev pub b : ℕ
  b = finish (all_edges ts) k

  k_low : k < 3 * length ts
  k_low = omega (arith, number_below old.left old.triples h has_h, length-all_edges ts)

  k_in : k < length (all_edges ts)
  k_in = omega (arith, k_low, length-all_edges ts)

  one_point : get_or points a [] ≡ get_or points b []
  one_point =
      same_list (get_or points a []) (get_or points b []) (each a [] (start_below (length points) ts good.below k k_in))
      (each b [] (finish_below (length points) ts good.below k k_in))
      (are_met points (all_edges ts) a b (third_vertex ts k) (third_vertex ts (twin (all_edges ts) k)) can_h).at_one

  pub can : CanCollapse ts k a b (third_vertex ts k) (third_vertex ts (twin (all_edges ts) k))
  can = can_of points ts good k k_low can_h

  -- a half-edge that is left, and can be collapsed
  module _ (x : ℕ) (has : Has new x) (can_x : is_collapsible points (left_of new) (number_of new x) ≡ true) where
    abbrev pub before : ℕ
    before = number_of old x

    abbrev pub after : List (ℕ × ℕ)
    after = all_edges (left_of new)

    low : number_of new x < 3 * length (left_of new)
    low = omega (arith, number_below new.left new.triples x has, length-all_edges (left_of new))

    runs : Runs (all_edges ts) before (start (all_edges ts) before) (finish (all_edges ts) before)
    runs = record { low = omega (arith, (c.stay x has).0, length-all_edges ts); from = refl; to = refl }

    -- its twin
    pub twin_of : (y : ℕ) → Has new y → twin after (number_of new x) ≡ number_of new y → HasLesser new more y → HasLesser new more x
    twin_of y y_has e l = record { other = y; pair = record { there = y_has; is = e }; among = subst (Contains more) turned l.among } where
      back : twin after (number_of new y) ≡ number_of new x
      back = ap (twin after) (sym e) ∙ twin_twin after good_new.closed (number_of new x) (omega (arith, low, length-all_edges (left_of new)))

      other_is : l.other ≡ x
      other_is = number_one new.left new.triples marks l.other x l.pair.there has (sym l.pair.is ∙ back)

      turned : min y l.other ≡ min x y
      turned = ap (min y) other_is ∙ omega arith

    -- asked again itself
    pub same_half : (y : ℕ) → Has new y → number_of new x ≡ number_of new y → HasLesser new more y → HasLesser new more x
    same_half y y_has e l = subst (HasLesser new more) (sym (number_one new.left new.triples marks x y has y_has e)) l

    -- the ends, afterwards
    start_is : start after (number_of new x) ≡ merged a b (start (all_edges ts) before)
    start_is = (λ i. start (all_edges (c.left i)) (c.numbers x has i)) ∙ start_down (stays a b) (merged a b) ts before (c.stay x has)

    finish_is : finish after (number_of new x) ≡ merged a b (finish (all_edges ts) before)
    finish_is =
        (λ i. finish (all_edges (c.left i)) (c.numbers x has i))
        ∙ (runs_down ts k a b (third_vertex ts k) (third_vertex ts (twin (all_edges ts) k)) can before (start (all_edges ts) before)
        (finish (all_edges ts) before) (c.stay x has) runs).to

    at_one : same_point (get_or points (start (all_edges ts) before) []) (get_or points (finish (all_edges ts) before) []) ≡ true
    at_one =
        let met = are_met points after (start after (number_of new x)) (finish after (number_of new x)) (third_vertex (left_of new) (number_of new x))
        (third_vertex (left_of new) (twin after (number_of new x))) can_x in
        let p = ap (λ v. get_or points v []) start_is ∙ point_stays points a b can.distinct one_point (start (all_edges ts) before) in
        let q = ap (λ v. get_or points v []) finish_is ∙ point_stays points a b can.distinct one_point (finish (all_edges ts) before) in
        sym (λ i. same_point (p i) (q i)) ∙ met.at_one

    -- as it can be collapsed by the definition of what is left
    can_after : CanAfter ts k a b (third_vertex ts k) (third_vertex ts (twin (all_edges ts) k)) can before (start (all_edges ts) before)
        (finish (all_edges ts) before) (c.stay x has) runs
    can_after =
        let own = can_of points (left_of new) good_new (number_of new x) low can_x in
        let P : List Triple → ℕ → Type 0 = λ us n. CanCollapse us n (start (all_edges us) n) (finish (all_edges us) n) (third_vertex us n)
        (third_vertex us (twin (all_edges us) n)) in
        subst (P (collapsed a b ts)) (c.numbers x has) (subst (λ us. P us (number_of new x)) c.left own)

    -- it could be collapsed before: its lesser was in doubt, and is none of the six that go
    was_doubted : CouldBefore ts k a b (third_vertex ts k) (third_vertex ts (twin (all_edges ts) k)) can before (start (all_edges ts) before)
        (finish (all_edges ts) before) (c.stay x has) runs → HasLesser new more x
    was_doubted w = inside l.among where
      l : HasLesser old (h ∷ doubts) x
      l = all x (c.had x has) (can_back points ts before (start (all_edges ts) before) (finish (all_edges ts) before) (third_vertex ts before)
          (third_vertex ts (twin (all_edges ts) before)) w.could at_one)

      o : ℕ
      o = l.other

      o_stays : stays a b (get_or ts (number_of old o / 3) (0, 0, 0)) ≡ true
      o_stays = ap (λ n. stays a b (get_or ts (n / 3) (0, 0, 0))) (sym l.pair.is) ∙ w.twin_stays.1

      o_has : Has new o
      o_has = c.has o l.pair.there o_stays

      o_is : twin after (number_of new x) ≡ number_of new o
      o_is = (λ i. twin (all_edges (c.left i)) (c.numbers x has i)) ∙ w.twin_is ∙ ap (number_after a b ts) l.pair.is ∙ sym (c.numbers o o_has)

      not_h : (y : ℕ) → Has new y → h ≢ y
      not_h y y_has e =
          both_ways (stays a b (get_or ts (k / 3) (0, 0, 0)))
          (goes_near ts k a b (third_vertex ts k) (third_vertex ts (twin (all_edges ts) k)) k can (inl refl))
          (ap (λ z. stays a b (get_or ts (number_of old z / 3) (0, 0, 0))) e ∙ (c.stay y y_has).1)

      inside : Contains (h ∷ doubts) (min x o) → HasLesser new more x
      inside (zero, low, is) = elim (lesser_is x o) as (λ _. HasLesser new more x) [
        | inl m ↦ absurd (not_h x has (is ∙ m))
        | inr m ↦ absurd (not_h o o_has (is ∙ m))
      ]
      inside (suc i, low, is) = record { other = o; pair = record { there = o_has; is = o_is }; among = stay (min x o) (i, omega (arith, low), is) }

    -- its ends lie at one point
    met_one : same_point (get_or points (start after (number_of new x)) []) (get_or points (finish after (number_of new x)) []) ≡ true
    met_one =
        (are_met points after (start after (number_of new x)) (finish after (number_of new x)) (third_vertex (left_of new) (number_of new x))
        (third_vertex (left_of new) (twin after (number_of new x))) can_x).at_one

    lies_so : (y : ℕ) → Has new y → same_point (get_or points (start after (number_of new y)) []) (get_or points (finish after (number_of new y)) []) ≡ true →
        lies_at_one points new.triples y ≡ true
    lies_so y y_has e =
        let p = start_number new.left new.triples y y_has in
        let q = finish_number new.left new.triples y y_has in
        sym (λ i. same_point (get_or points (p i) []) (get_or points (q i) [])) ∙ e

    lies_same : (y : ℕ) → Has new y → number_of new x ≡ number_of new y → lies_at_one points new.triples y ≡ true
    lies_same y y_has e = lies_so y y_has (sym (λ i. same_point (get_or points (start after (e i)) []) (get_or points (finish after (e i)) [])) ∙ met_one)

    lies_turned : (y : ℕ) → Has new y → twin after (number_of new x) ≡ number_of new y → lies_at_one points new.triples y ≡ true
    lies_turned y y_has e =
        let back = twin_runs_back after good_new.closed (number_of new x) (omega (arith, low, length-all_edges (left_of new))) in
        let s : start after (number_of new y) ≡ finish after (number_of new x) = ap (start after) (sym e) ∙ back.from in
        let f : finish after (number_of new y) ≡ start after (number_of new x) = ap (finish after) (sym e) ∙ back.to in
        lies_so y y_has ((λ i. same_point (get_or points (s i) []) (get_or points (f i) [])) ∙ same_turned (get_or points (start after (number_of new x)) [])
        (get_or points (finish after (number_of new x)) []) met_one)

  -- one that is asked again, by its number
  pub record AskedAgain (n : ℕ) : Type 0 where
    pub half : ℕ
    pub there : Has new half
    pub is : number_of new half ≡ n
    pub doubted : lies_at_one points new.triples half ≡ true → HasLesser new more half

  -- the half-edges across, in the triangles before
  abbrev pub across_a : ℕ
  across_a = from_a ts k a b (third_vertex ts k) (third_vertex ts (twin (all_edges ts) k)) can

  abbrev pub across_d : ℕ
  across_d = to_a ts k a b (third_vertex ts k) (third_vertex ts (twin (all_edges ts) k)) can

  abbrev pub across_b : ℕ
  across_b = to_b ts k a b (third_vertex ts k) (third_vertex ts (twin (all_edges ts) k)) can

  -- where those four are asked again, all that can be collapsed are in doubt
  pub after_doubted : AskedAgain (number_after a b ts across_a) → AskedAgain (number_after a b ts across_d) →
      AskedAgain (number_after a b ts (next_half across_a)) → AskedAgain (number_after a b ts (next_half (next_half across_b))) →
      AreDoubted points new more
  after_doubted ya yd yc yb x has can_x =
      elim (opens_near ts k a b (third_vertex ts k) (third_vertex ts (twin (all_edges ts) k)) can (before x has can_x)
      (start (all_edges ts) (before x has can_x)) (finish (all_edges ts) (before x has can_x)) (c.stay x has) (runs x has can_x) (can_after x has can_x))
      as (λ _. HasLesser new more x) [
        | inl w ↦ was_doubted x has can_x w
        | inr (inl near) ↦ itself near
        | inr (inr near) ↦ of_twin near
      ]
    where
      n : ℕ
      n = number_after a b ts (number_of old x)

      as_itself : (m : ℕ) → AskedAgain m → n ≡ m → HasLesser new more x
      as_itself m y e = let is = c.numbers x has ∙ e ∙ sym y.is in same_half x has can_x y.half y.there is (y.doubted (lies_same x has can_x y.half y.there is))

      as_twin : (m : ℕ) → AskedAgain m → twin (all_edges (collapsed a b ts)) n ≡ m → HasLesser new more x
      as_twin m y e =
          let is = (λ i. twin (all_edges (c.left i)) (c.numbers x has i)) ∙ e ∙ sym y.is in
          twin_of x has can_x y.half y.there is (y.doubted (lies_turned x has can_x y.half y.there is))

      itself : (n ≡ number_after a b ts across_a) ⊎
          ((n ≡ number_after a b ts across_d) ⊎ ((n ≡ number_after a b ts (next_half across_a)) ⊎ (n ≡ number_after a b ts (next_half (next_half across_b))))) →
          HasLesser new more x
      itself (inl e) = as_itself (number_after a b ts across_a) ya e
      itself (inr (inl e)) = as_itself (number_after a b ts across_d) yd e
      itself (inr (inr (inl e))) = as_itself (number_after a b ts (next_half across_a)) yc e
      itself (inr (inr (inr e))) = as_itself (number_after a b ts (next_half (next_half across_b))) yb e

      m : ℕ
      m = twin (all_edges (collapsed a b ts)) n

      of_twin : (m ≡ number_after a b ts across_a) ⊎
          ((m ≡ number_after a b ts across_d) ⊎ ((m ≡ number_after a b ts (next_half across_a)) ⊎ (m ≡ number_after a b ts (next_half (next_half across_b))))) →
          HasLesser new more x
      of_twin (inl e) = as_twin (number_after a b ts across_a) ya e
      of_twin (inr (inl e)) = as_twin (number_after a b ts across_d) yd e
      of_twin (inr (inr (inl e))) = as_twin (number_after a b ts (next_half across_a)) yc e
      of_twin (inr (inr (inr e))) = as_twin (number_after a b ts (next_half (next_half across_b))) yb e
