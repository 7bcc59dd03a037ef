-- What tidying keeps, and that it leaves nothing that can be collapsed.
use Rattle.std.proofs.Common.{◌≡◌, ℕ, zero, suc, ◌+◌, ◌*◌, ◌/◌, ◌<◌, ◌≤◌, ◌⊎◌, inl, inr, Bool, true, false, ℤ, List, [], ◌∷◌, length, map, get_or, refl, sym, ap, ◌∙◌, arith}
use Rattle.std.specs.Prelude.{◌==◌, ◌&&◌, ◌||◌, not, nat_lt, filter, if◌then◌else◌}
use Rattle.std.specs.List.{All, list_all}
use Rattle.std.proofs.lemmas.Bool.{and_from, and_parts, both_ways, cases_Bool, cases_lt, cond_both, eqb-true, eq-eqb}
use Rattle.std.proofs.lemmas.List.{length-map}
use Rattle.std.proofs.lemmas.Bool.Decides.{Decides-int_eq, Decides-ltb}
use Rattle.std.proofs.lemmas.List.Elements.{All-cons, All-head, All-nil, All-tail}
use Rattle.std.proofs.lemmas.List.Sums.{fails_before_first, passes_at_first}
use Rattle.chain_terms.specs.Chains.{all_edges, dir, IsClosed}
use Rattle.chain_terms.specs.Ranks.{start, finish, twin}
use Rattle.chain_terms.specs.Sums.{upto}
use Rattle.chain_laws.specs.Triples.{renamed_triple}
use Rattle.chain_laws.proofs.Places.{get_or-up_from, length-up_from}
use Rattle.halfedge.specs.Clean.{IsClean}
use Rattle.halfedge.proofs.Edges.{length-all_edges, next_starts, next_below, not_back}
use Rattle.mesh_check.specs.Opposites.{third_vertex}
use Rattle.mesh_terms.specs.Halves.{next_half}
use Rattle.mesh_terms.specs.Meshes.{HasThree, IsBelow, Triple}
use Rattle.mesh_terms.specs.Points.{coordinate_of}
use Rattle.mesh_terms.specs.Volume.{volume6_of}
use Rattle.std.specs.Ordering.{int_eq}
use Rattle.tidy_terms.specs.Collapse.{collapsed, collapsed_at, labels_left_at, merged, stays}
use Rattle.tidy_terms.specs.Collapsible.{are_joined, can_collapse, is_collapsible, join_only, least_collapsible}
use Rattle.tidy_terms.specs.PointTriples.{count_at, same_point}
use Rattle.tidy_terms.specs.Tidy.{Tidied, one_more, tidied, tidied_within}
use Rattle.tidy_laws.specs.Conditions.{CanCollapse}
use Rattle.tidy_laws.proofs.Around.{stays_clean}
use Rattle.tidy_laws.proofs.Closed.{merged_other, merged_second, stays_closed}
use Rattle.tidy_laws.proofs.Near.{found}
use Rattle.tidy_laws.proofs.Points.{count_stays, three_stay, volume_stays}
use Rattle.tidy_laws.proofs.Six.{goes_near}

-- what stands at a place where all pass
all_at : {X : Type 0} (p : X → Bool) (xs : List X) (i : ℕ) (d : X) → list_all p xs ≡ true → i < length xs → p (get_or xs i d) ≡ true
all_at p [] i d all low = absurd (omega (arith, low))
all_at p (x ∷ xs) zero d all low = (and_parts (p x) (list_all p xs) all).0
all_at p (x ∷ xs) (suc i) d all low = all_at p xs i d (and_parts (p x) (list_all p xs) all).1 (omega (arith, low))

pub at_upto : (n i d : ℕ) → i < n → get_or (upto n) i d ≡ i
at_upto n i d low = omega (arith, get_or-up_from 0 n i d low)

-- ends of half-edges are below the number of points
pub start_below : (n : ℕ) (ts : List Triple) → All (IsBelow n) ts → (w : ℕ) → w < length (all_edges ts) → start (all_edges ts) w < n
start_below n [] below w low = absurd (omega (arith, low))
start_below n (t ∷ ts) below zero low = (All-head (IsBelow n) t ts below).a
start_below n (t ∷ ts) below (suc zero) low = (All-head (IsBelow n) t ts below).b
start_below n (t ∷ ts) below (suc (suc zero)) low = (All-head (IsBelow n) t ts below).c
start_below n (t ∷ ts) below (suc (suc (suc w))) low = start_below n ts (All-tail (IsBelow n) t ts below) w (omega (arith, low))

pub finish_below : (n : ℕ) (ts : List Triple) → All (IsBelow n) ts → (w : ℕ) → w < length (all_edges ts) → finish (all_edges ts) w < n
finish_below n ts below w low = omega (arith, start_below n ts below (next_half w) (next_below ts w low), next_starts ts w low)

-- what triangles keep while they are tidied
pub record AreGood (n : ℕ) (ts : List Triple) : Type 0 where
  pub three : All HasThree ts
  pub closed : IsClosed (all_edges ts)
  pub below : All (IsBelow n) ts

-- the conditions, as they are proved with
pub record AreMet (points : List (List ℤ)) (es : List (ℕ × ℕ)) (a b c d : ℕ) : Type 0 where
  pub at_one : same_point (get_or points a []) (get_or points b []) ≡ true
  pub ab : (dir es a b == 1) ≡ true
  pub differ : not (c == d) ≡ true
  pub only : join_only es (length points) a b c d ≡ true
  pub ac : (dir es a c == 1) ≡ true
  pub ad : (dir es a d == 1) ≡ true
  pub bc : (dir es b c == 1) ≡ true
  pub bd : (dir es b d == 1) ≡ true

pub are_met : (points : List (List ℤ)) (es : List (ℕ × ℕ)) (a b c d : ℕ) → can_collapse points es a b c d ≡ true → AreMet points es a b c d
are_met points es a b c d all =
    let s = same_point (get_or points a []) (get_or points b []) in
    let ab = dir es a b == 1 in
    let n = not (c == d) in
    let o = join_only es (length points) a b c d in
    let ac = dir es a c == 1 in
    let ad = dir es a d == 1 in
    let bc = dir es b c == 1 in
    let bd = dir es b d == 1 in
    let p8 = and_parts (s && ab && n && o && ac && ad && bc) bd all in
    let p7 = and_parts (s && ab && n && o && ac && ad) bc p8.0 in
    let p6 = and_parts (s && ab && n && o && ac) ad p7.0 in
    let p5 = and_parts (s && ab && n && o) ac p6.0 in
    let p4 = and_parts (s && ab && n) o p5.0 in
    let p3 = and_parts (s && ab) n p4.0 in
    let p2 = and_parts s ab p3.0 in
    record { at_one = p2.0; ab = p2.1; differ = p3.1; only = p4.1; ac = p5.1; ad = p6.1; bc = p7.1; bd = p8.1 }

-- a half-edge of the definition can be collapsed
pub can_of : (points : List (List ℤ)) (ts : List Triple) → AreGood (length points) ts → (h : ℕ) → h < 3 * length ts → is_collapsible points ts h ≡ true →
    CanCollapse ts h (start (all_edges ts) h) (finish (all_edges ts) h) (third_vertex ts h) (third_vertex ts (twin (all_edges ts) h))
can_of points ts good h low yes_can =
    let es = all_edges ts in
    let a = start es h in
    let b = finish es h in
    let c = third_vertex ts h in
    let d = third_vertex ts (twin es h) in
    let m = are_met points es a b c d yes_can in
    let inside : h < length es = omega (arith, low, length-all_edges ts) in
    record {
      three = good.three;
      closed = good.closed;
      below = inside;
      starts = refl;
      ends = refl;
      third = refl;
      across = refl;
      distinct = λ e. not_back ts good.three h h inside refl (e, sym e);
      differ = λ e. both_ways (c == d) (off (c == d) m.differ) (eq-eqb c d e);
      ab = eqb-true (dir es a b) 1 m.ab;
      ac = eqb-true (dir es a c) 1 m.ac;
      ad = eqb-true (dir es a d) 1 m.ad;
      bc = eqb-true (dir es b c) 1 m.bc;
      bd = eqb-true (dir es b d) 1 m.bd;
      only = λ v p q.
          let r = (found es a v p).runs in
          let v_low : v < length points = omega (arith, finish_below (length points) ts good.below (found es a v p).place r.low, r.to) in
          let test : ℕ → Bool = λ u. if are_joined es a u && are_joined es b u then (u == c) || (u == d) else not ((u == c) || (u == d)) in
          let here : test v ≡ true = ap test (sym (at_upto (length points) v 0 v_low))
          ∙ all_at test (upto (length points)) v 0 m.only (omega (arith, v_low, length-up_from 0 (length points))) in
          let both : (are_joined es a v && are_joined es b v) ≡ true = and_from (are_joined es a v) (are_joined es b v) (joined es a v p) (joined es b v q) in
          told v c d (sym (ap (λ k. if k then (v == c) || (v == d) else not ((v == c) || (v == d))) both) ∙ here);
    }
  where
    off : (x : Bool) → not x ≡ true → x ≡ false
    off true e = absurd (both_ways false refl e)
    off false e = refl

    joined : (es : List (ℕ × ℕ)) (u v : ℕ) → 0 < dir es u v → are_joined es u v ≡ true
    joined es u v p = (Decides-ltb 0 (dir es u v + dir es v u)).1 (omega (arith, p))

    told : (v c d : ℕ) → ((v == c) || (v == d)) ≡ true → (v ≡ c) ⊎ (v ≡ d)
    told v c d e = by (v == c) (v == d) refl refl e where
      by : (x y : Bool) → (v == c) ≡ x → (v == d) ≡ y → (x || y) ≡ true → (v ≡ c) ⊎ (v ≡ d)
      by true y ex ey k = inl (eqb-true v c ex)
      by false true ex ey k = inr (eqb-true v d ey)
      by false false ex ey k = absurd (both_ways false refl k)

-- a filter that refuses one leaves fewer
filter_most : {X : Type 0} (p : X → Bool) (xs : List X) → length (filter p xs) ≤ length xs
filter_most p [] = omega arith
filter_most p (x ∷ xs) =
    cond_both (p x) (x ∷ filter p xs) (filter p xs) (λ l. length l ≤ suc (length xs)) (λ y. omega (arith, filter_most p xs)) (λ n. omega (arith, filter_most p xs))

filter_fewer : {X : Type 0} (p : X → Bool) (xs : List X) (i : ℕ) (d : X) → i < length xs → p (get_or xs i d) ≡ false → length (filter p xs) < length xs
filter_fewer p [] i d low off = absurd (omega (arith, low))
filter_fewer p (x ∷ xs) zero d low off =
    cond_both (p x) (x ∷ filter p xs) (filter p xs) (λ l. length l < suc (length xs)) (λ y. absurd (both_ways (p x) off y)) (λ n. omega (arith, filter_most p xs))
filter_fewer p (x ∷ xs) (suc i) d low off =
    let rest = filter_fewer p xs i d (omega (arith, low)) off in
    cond_both (p x) (x ∷ filter p xs) (filter p xs) (λ l. length l < suc (length xs)) (λ y. omega (arith, rest)) (λ n. omega (arith, rest))

-- so a collapse takes triangles away
pub fewer : (ts : List Triple) (h a b c d : ℕ) → CanCollapse ts h a b c d → length (collapsed a b ts) < length ts
fewer ts h a b c d can =
    let low : h / 3 < length ts = omega (arith, can.below, length-all_edges ts) in
    omega (arith, length-map (filter (stays a b) ts) (renamed_triple (merged a b)), filter_fewer (stays a b) ts (h / 3) (0, 0, 0) low (goes_near ts h a b c d h can (inl refl)))

-- and keeps vertices below the number of points
merged_below : (n a b v : ℕ) → a < n → v < n → merged a b v < n
merged_below n a b v low here = elim (cases_Bool (v == b)) as (λ _. merged a b v < n) [
  | inl y ↦ omega (arith, low, merged_second a b v (eqb-true v b y))
  | inr m ↦ omega (arith, here, merged_other a b v (λ e. let z = eq-eqb v b e in absurd (cc)))
]

below_stay : (n a b : ℕ) → a < n → (ts : List Triple) → All (IsBelow n) ts → All (IsBelow n) (collapsed a b ts)
below_stay n a b low [] below = All-nil (IsBelow n)
below_stay n a b low (t ∷ ts) below =
    let r = renamed_triple (merged a b) in
    let rest = below_stay n a b low ts (All-tail (IsBelow n) t ts below) in
    let here = All-head (IsBelow n) t ts below in
    cond_both (stays a b t) (t ∷ filter (stays a b) ts) (filter (stays a b) ts) (λ l. All (IsBelow n) (map r l))
    (λ y. All-cons (IsBelow n) (r t) (collapsed a b ts)
    (record { a = merged_below n a b t.0 low here.a; b = merged_below n a b t.1 low here.b; c = merged_below n a b t.2 low here.c }) rest)
    (λ m. rest)

pub good_stay : (n : ℕ) (ts : List Triple) (h a b c d : ℕ) → CanCollapse ts h a b c d → a < n → AreGood n ts → AreGood n (collapsed a b ts)
good_stay n ts h a b c d can low good = record {
  three = three_stay a b ts good.three;
  closed = stays_closed a b can.distinct ts good.closed;
  below = below_stay n a b low ts good.below;
}

-- a list of three by its coordinates
by_coordinates : (p : List ℤ) → length p ≡ 3 → coordinate_of p 0 ∷ coordinate_of p 1 ∷ coordinate_of p 2 ∷ [] ≡ p
by_coordinates [] h = absurd (omega (arith, h))
by_coordinates (x ∷ []) h = absurd (omega (arith, h))
by_coordinates (x ∷ (y ∷ [])) h = absurd (omega (arith, h))
by_coordinates (x ∷ (y ∷ (z ∷ []))) h = refl
by_coordinates (x ∷ (y ∷ (z ∷ (w ∷ r)))) h = absurd (omega (arith, h))

-- so it is known by them
pub same_list : (p q : List ℤ) → length p ≡ 3 → length q ≡ 3 → same_point p q ≡ true → p ≡ q
same_list p q e f same =
    let s1 = and_parts (int_eq (coordinate_of p 0) (coordinate_of q 0) && int_eq (coordinate_of p 1) (coordinate_of q 1)) (int_eq (coordinate_of p 2) (coordinate_of q 2)) same in
    let s0 = and_parts (int_eq (coordinate_of p 0) (coordinate_of q 0)) (int_eq (coordinate_of p 1) (coordinate_of q 1)) s1.0 in
    let x = (Decides-int_eq (coordinate_of p 0) (coordinate_of q 0)).0 s0.0 in
    let y = (Decides-int_eq (coordinate_of p 1) (coordinate_of q 1)).0 s0.1 in
    let z = (Decides-int_eq (coordinate_of p 2) (coordinate_of q 2)).0 s1.1 in
    sym (by_coordinates p e) ∙ (λ i. x i ∷ y i ∷ z i ∷ []) ∙ by_coordinates q f

-- points of three coordinates
module _ (points : List (List ℤ)) (each : All (λ p. length p ≡ 3) points) where
  -- what is told of the tidied triangles
  pub record IsTidied (ts us : List Triple) : Type 0 where
    pub good : AreGood (length points) us
    pub few : length us ≤ length ts
    pub clean : IsClean (all_edges ts) → IsClean (all_edges us)
    pub none : (h : ℕ) → h < 3 * length us → is_collapsible points us h ≡ false
    pub volume : volume6_of points us ≡ volume6_of points ts
    pub at_points : (p q r : List ℤ) → same_point p q ≡ false → same_point q r ≡ false → same_point r p ≡ false → count_at points (p, q, r) us ≡ count_at points (p, q, r) ts

  -- where nothing can be collapsed, the triangles are tidied
  stop : (ts : List Triple) → AreGood (length points) ts → ((h : ℕ) → h < 3 * length ts → is_collapsible points ts h ≡ false) → IsTidied ts ts
  stop ts good none = record { good = good; few = omega arith; clean = λ k. k; none = none; volume = refl; at_points = λ p q r pq qr rp. refl }

  pub none_least : (ts : List Triple) → nat_lt (least_collapsible points ts) (3 * length ts) ≡ false → (h : ℕ) → h < 3 * length ts → is_collapsible points ts h ≡ false
  none_least ts past h low = elim (cases_Bool (is_collapsible points ts h)) as (λ _. is_collapsible points ts h ≡ false) [
    | inl y ↦ absurd (both_ways (nat_lt (least_collapsible points ts) (3 * length ts)) past ((Decides-ltb (least_collapsible points ts) (3 * length ts)).1 (least_low y)))
    | inr n ↦ n
  ]
    where
      least_low : is_collapsible points ts h ≡ true → least_collapsible points ts < 3 * length ts
      least_low y = elim (cases_lt h (least_collapsible points ts)) as (λ _. least_collapsible points ts < 3 * length ts) [
        | inl l ↦ absurd
            (both_ways (is_collapsible points ts h)
            (ap (is_collapsible points ts) (sym (at_upto (3 * length ts) h 0 low)) ∙ fails_before_first (is_collapsible points ts) (upto (3 * length ts)) h 0 l) y)
        | inr l ↦ omega (arith, l, low)
      ]

  pub least_can : (ts : List Triple) → nat_lt (least_collapsible points ts) (3 * length ts) ≡ true →
      (least_collapsible points ts < 3 * length ts) × (is_collapsible points ts (least_collapsible points ts) ≡ true)
  least_can ts there =
      let h = least_collapsible points ts in
      let low : h < 3 * length ts = (Decides-ltb h (3 * length ts)).0 there in (
        low,
        ap (is_collapsible points ts) (sym (at_upto (3 * length ts) h 0 low)) ∙ passes_at_first (is_collapsible points ts) (upto (3 * length ts)) 0
            (omega (arith, low, length-up_from 0 (3 * length ts))),
      )

  -- one collapse, and then the rest
  then_rest : (ts us : List Triple) (h a b c d : ℕ) → CanCollapse ts h a b c d → get_or points a [] ≡ get_or points b [] → IsTidied (collapsed a b ts) us → IsTidied ts us
  then_rest ts us h a b c d can same rest = record {
    good = rest.good;
    few = omega (arith, rest.few, fewer ts h a b c d can);
    clean = λ k. rest.clean (stays_clean ts h a b c d can k);
    none = rest.none;
    volume = rest.volume ∙ volume_stays points a b can.distinct same ts;
    at_points = λ p q r pq qr rp. rest.at_points p q r pq qr rp ∙ count_stays points a b can.distinct same p q r pq qr rp ts;
  }

  -- so within as many collapses as there are triangles
  tidy_within : (n : ℕ) (ts : List Triple) (labels : List (List ℕ)) → length ts ≤ n → AreGood (length points) ts → IsTidied ts (tidied_within n points ts labels).triples
  tidy_within zero ts labels few good = stop ts good (λ h low. absurd (omega (arith, low, few)))
  tidy_within (suc n) ts labels few good =
      let es = all_edges ts in
      let h = least_collapsible points ts in
      let a = start es h in
      let b = finish es h in
      let left = labels_left_at ts h labels in
      cond_both (nat_lt h (3 * length ts)) (one_more (tidied_within n points (collapsed_at ts h) left))
      (record { triples = ts; labels = labels; collapses = 0 }) (λ (t : Tidied). IsTidied ts t.triples)
      (λ there.
      let l = least_can ts there in
      let inside : h < length es = omega (arith, l.0, length-all_edges ts) in
      let can = can_of points ts good h l.0 l.1 in
      let a_low = start_below (length points) ts good.below h inside in
      let b_low = finish_below (length points) ts good.below h inside in
      let met = are_met points es a b (third_vertex ts h) (third_vertex ts (twin es h)) l.1 in
      let same = same_list (get_or points a []) (get_or points b []) (each a [] a_low) (each b [] b_low) met.at_one in
      let less = fewer ts h a b (third_vertex ts h) (third_vertex ts (twin es h)) can in
      then_rest ts (tidied_within n points (collapsed_at ts h) left).triples h a b (third_vertex ts h) (third_vertex ts (twin es h)) can same
      (tidy_within n (collapsed_at ts h) left (omega (arith, few, less)) (good_stay (length points) ts h a b (third_vertex ts h) (third_vertex ts (twin es h)) can a_low good)))
      (λ past. stop ts good (none_least ts past))

  pub tidying : (ts : List Triple) (labels : List (List ℕ)) → AreGood (length points) ts → IsTidied ts (tidied points ts labels).triples
  tidying ts labels good = tidy_within (length ts) ts labels (omega arith) good
