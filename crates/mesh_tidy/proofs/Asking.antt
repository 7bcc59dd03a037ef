-- Whether a half-edge can be collapsed, as it is asked: by the stars of its ends, and by marks of their neighbours.
use Rattle.std.proofs.Common.{◌≡◌, ◌≢◌, ℕ, ◌+◌, ◌*◌, ◌<◌, ◌≤◌, ◌⊎◌, inl, inr, Bool, true, false, ℤ, List, [], take, length, get_or, set, refl, sym, ap, subst, ◌∙◌, arith, get_or-set_same, get_or-set_other}
use Rattle.std.specs.Prelude.{cond, count_by, nat_lt, ◌&&◌, ◌==◌}
use Rattle.std.specs.List.{All}
use Rattle.std.proofs.lemmas.Bool.{and_from, both_ways, cases_Bool, eqb-true, eq-eqb, ne_eqb}
use Rattle.std.proofs.lemmas.Bool.Decides.{Decides-ltb}
use Rattle.std.proofs.lemmas.List.{ext_get_or, length-set, take_all}
use Rattle.std.proofs.lemmas.List.Elements.{All-get_or}
use Rattle.std.proofs.lemmas.List.Sums.{count_by_more_no, count_by_more_yes}
use Rattle.chain_terms.specs.Chains.{all_edges, dir}
use Rattle.chain_terms.specs.Ranks.{start, finish, twin}
use Rattle.mesh_check.specs.Opposites.{third_vertex}
use Rattle.mesh_terms.specs.Halves.{next_half}
use Rattle.mesh_terms.specs.Meshes.{Triple}
use Rattle.tidy_terms.specs.Collapsible.{is_collapsible}
use Rattle.tidy_terms.specs.PointTriples.{same_point}
use Rattle.tidy_laws.specs.Conditions.{CanCollapse}
use Rattle.tidy_laws.proofs.Back.{can_back}
use Rattle.tidy_laws.proofs.Tidying.{AreGood, are_met, can_of}
use Rattle.halfedge.proofs.Edges.{length-all_edges, not_back}
use Rattle.mesh_tidy.specs.Neighbours.{AreNeighboursMarked, MeetOnly, ends_at}
use Rattle.mesh_tidy.specs.Stars.{is_left}
use Rattle.mesh_tidy.specs.TidySurface.{TidySurface, Has, IsKept, IsTwin, left_of, number_of}
use Rattle.mesh_tidy.proofs.Counting.{dir_star}
use Rattle.mesh_tidy.proofs.Left.{finish_number, next_marked, next_number, number_below, start_number}

-- an edge runs as often as the star of its start has such half-edges
pub dir_counts : (s : TidySurface) (tw : List ℕ) (stars : List (List ℕ)) → IsKept s tw stars → length stars ≡ s.vertices → (v w : ℕ) → v < s.vertices →
    dir (all_edges (left_of s)) v w ≡ count_by (ends_at s w) (get_or stars v [])
dir_counts s tw stars kept size v w low =
    dir_star s.left s.triples (get_or stars v []) v w kept.marks (All-get_or (All (λ h. h < 3 * length s.triples)) stars v [] (omega (arith, low, size)) kept.within)
    (λ h h_low on. kept.stand h (h_low, on) v low)

-- what a half-edge of a star adds to the count for a vertex
ends_yes : (s : TidySurface) (w h : ℕ) → is_left s.left h ≡ true → finish (all_edges s.triples) h ≡ w → ends_at s w h ≡ true
ends_yes s w h on e = and_from (is_left s.left h) (finish (all_edges s.triples) h == w) on (eq-eqb (finish (all_edges s.triples) h) w e)

ends_off : (s : TidySurface) (w h : ℕ) → is_left s.left h ≡ false → ends_at s w h ≡ false
ends_off s w h off = ap (λ b. b && (finish (all_edges s.triples) h == w)) off

ends_other : (s : TidySurface) (w h : ℕ) → is_left s.left h ≡ true → finish (all_edges s.triples) h ≢ w → ends_at s w h ≡ false
ends_other s w h on n = (λ i. on i && ne_eqb (finish (all_edges s.triples) h) w n i)

-- counts over the first half-edges of a star
pub edges_yes : (s : TidySurface) (w : ℕ) (star : List ℕ) (i : ℕ) → i < length star → is_left s.left (get_or star i 0) ≡ true →
    finish (all_edges s.triples) (get_or star i 0) ≡ w → count_by (ends_at s w) (take (i + 1) star) ≡ count_by (ends_at s w) (take i star) + 1
edges_yes s w star i low on e = count_by_more_yes (ends_at s w) star i 0 low (ends_yes s w (get_or star i 0) on e)

pub edges_off : (s : TidySurface) (w : ℕ) (star : List ℕ) (i : ℕ) → i < length star → is_left s.left (get_or star i 0) ≡ false →
    count_by (ends_at s w) (take (i + 1) star) ≡ count_by (ends_at s w) (take i star)
edges_off s w star i low off = count_by_more_no (ends_at s w) star i 0 low (ends_off s w (get_or star i 0) off)

pub edges_other : (s : TidySurface) (w : ℕ) (star : List ℕ) (i : ℕ) → i < length star → is_left s.left (get_or star i 0) ≡ true →
    finish (all_edges s.triples) (get_or star i 0) ≢ w → count_by (ends_at s w) (take (i + 1) star) ≡ count_by (ends_at s w) (take i star)
edges_other s w star i low on n = count_by_more_no (ends_at s w) star i 0 low (ends_other s w (get_or star i 0) on n)

-- the ends of the first half-edges of a star have the mark, the others that which they had
pub record AreMarkedTo (s : TidySurface) (star : List ℕ) (mark : Bool) (i : ℕ) (old new : List Bool) : Type 0 where
  pub count : length new ≡ length old
  pub each : (v : ℕ) → v < length old → get_or new v false ≡ cond (nat_lt 0 (count_by (ends_at s v) (take i star))) mark (get_or old v false)

above : (n : ℕ) → 0 < n → nat_lt 0 n ≡ true
above n some = (Decides-ltb 0 n).1 some

pub none_marked : (s : TidySurface) (star : List ℕ) (mark : Bool) (old : List Bool) → AreMarkedTo s star mark 0 old old
none_marked s star mark old = record { count = refl; each = λ v low. refl }

module _ (s : TidySurface) (star : List ℕ) (mark : Bool) (i : ℕ) (old new : List Bool) (low : i < length star) (so_far : AreMarkedTo s star mark i old new) where
  -- one that is gone changes nothing
  pub passed_over : is_left s.left (get_or star i 0) ≡ false → AreMarkedTo s star mark (i + 1) old new
  passed_over off =
      record { count = so_far.count; each = λ v v_low. so_far.each v v_low ∙ ap (λ n. cond (nat_lt 0 n) mark (get_or old v false)) (sym (edges_off s v star i low off)) }

  -- the end of another gets the mark
  pub one_marked : (w : ℕ) → is_left s.left (get_or star i 0) ≡ true → finish (all_edges s.triples) (get_or star i 0) ≡ w → w < length old →
      AreMarkedTo s star mark (i + 1) old (set new w mark)
  one_marked w on is w_low = record { count = length-set new w mark ∙ so_far.count; each = each } where
    each : (v : ℕ) → v < length old → get_or (set new w mark) v false ≡ cond (nat_lt 0 (count_by (ends_at s v) (take (i + 1) star))) mark (get_or old v false)
    each v v_low = by (cases_Bool (v == w)) where
      by : ((v == w) ≡ true) ⊎ ((v == w) ≡ false) → get_or (set new w mark) v false ≡ cond (nat_lt 0 (count_by (ends_at s v) (take (i + 1) star))) mark (get_or old v false)
      by (inl e) =
          let same = eqb-true v w e in
          let some : 0 < count_by (ends_at s v) (take (i + 1) star) = omega (arith, edges_yes s v star i low on (is ∙ sym same)) in
          ap (λ u. get_or (set new w mark) u false) same ∙ get_or-set_same new w mark false (omega (arith, w_low, so_far.count))
          ∙ ap (λ b. cond b mark (get_or old v false)) (sym (above (count_by (ends_at s v) (take (i + 1) star)) some))
      by (inr n) =
          let apart : v ≢ w = λ q. both_ways (v == w) n (eq-eqb v w q) in
          get_or-set_other new w v mark false apart ∙ so_far.each v v_low
          ∙ ap (λ n. cond (nat_lt 0 n) mark (get_or old v false)) (sym (edges_other s v star i low on (λ q. apart (sym q ∙ is))))

-- after the whole star: the neighbours of its vertex
pub all_marked : (s : TidySurface) (star : List ℕ) (v : ℕ) → ((w : ℕ) → dir (all_edges (left_of s)) v w ≡ count_by (ends_at s w) star) →
    (i : ℕ) (mark : Bool) (old new : List Bool) → length star ≤ i → AreMarkedTo s star mark i old new →
    AreNeighboursMarked (all_edges (left_of s)) v mark old new
all_marked s star v counts i mark old new past marked = record {
  count = marked.count;
  each = λ w w_low. marked.each w w_low ∙ ap (λ n. cond (nat_lt 0 n) mark (get_or old w false)) (ap (count_by (ends_at s w)) (take_all i star past) ∙ sym (counts w));
}

-- marks that were set are taken away again
pub marks_go : (es : List (ℕ × ℕ)) (v : ℕ) (old between new : List Bool) → All (λ mark. mark ≡ false) old → AreNeighboursMarked es v true old between →
    AreNeighboursMarked es v false between new → new ≡ old
marks_go es v old between new none set_them taken = ext_get_or false new old (taken.count ∙ set_them.count) each where
  each : (w : ℕ) → w < length new → get_or new w false ≡ get_or old w false
  each w low = by (nat_lt 0 (dir es v w)) (taken.each w (omega (arith, low, taken.count))) (set_them.each w w_low) where
    w_low : w < length old
    w_low = omega (arith, low, taken.count, set_them.count)

    by : (b : Bool) → get_or new w false ≡ cond b false (get_or between w false) → get_or between w false ≡ cond b true (get_or old w false) →
        get_or new w false ≡ get_or old w false
    by true p q = p ∙ sym (none w false w_low)
    by false p q = p ∙ q

-- where just the neighbours of a have a mark, those of b with one are the common neighbours
module _ (es : List (ℕ × ℕ)) (a b c d : ℕ) (old met : List Bool) (none : All (λ mark. mark ≡ false) old) (marked : AreNeighboursMarked es a true old met) where
  on_mark : (v : ℕ) → v < length old → 0 < dir es a v → get_or met v false ≡ true
  on_mark v low some = marked.each v low ∙ ap (λ k. cond k true (get_or old v false)) (above (dir es a v) some)

  off_mark : (v : ℕ) → v < length old → get_or met v false ≡ true → 0 < dir es a v
  off_mark v low on = by (nat_lt 0 (dir es a v)) refl (sym (marked.each v low) ∙ on) where
    by : (k : Bool) → nat_lt 0 (dir es a v) ≡ k → cond k true (get_or old v false) ≡ true → 0 < dir es a v
    by true e q = (Decides-ltb 0 (dir es a v)).0 e
    by false e q = absurd (both_ways (get_or old v false) (none v false low) q)

  pub met_only : ((v : ℕ) → 0 < dir es a v → v < length old) → ((v : ℕ) → 0 < dir es b v → get_or met v false ≡ true → (v ≡ c) ⊎ (v ≡ d)) → MeetOnly es a b c d
  met_only inside told v p q = told v q (on_mark v (inside v p) p)

  pub only_met : ((v : ℕ) → 0 < dir es b v → v < length old) → MeetOnly es a b c d → (v : ℕ) → 0 < dir es b v → get_or met v false ≡ true → (v ≡ c) ⊎ (v ≡ d)
  only_met inside only v q on = only v (off_mark v (inside v q) on) q

-- the conditions as they are asked
pub record AreAsked (s : TidySurface) (points : List (List ℤ)) (a b c d : ℕ) : Type 0 where
  pub at_one : same_point (get_or points a []) (get_or points b []) ≡ true
  pub differ : c ≢ d
  pub ab : dir (all_edges (left_of s)) a b ≡ 1
  pub ac : dir (all_edges (left_of s)) a c ≡ 1
  pub ad : dir (all_edges (left_of s)) a d ≡ 1
  pub bc : dir (all_edges (left_of s)) b c ≡ 1
  pub bd : dir (all_edges (left_of s)) b d ≡ 1
  pub only : MeetOnly (all_edges (left_of s)) a b c d

-- the third vertex of a half-edge among those that are left
pub third_number : (s : TidySurface) (h : ℕ) → Has s h → third_vertex (left_of s) (number_of s h) ≡ third_vertex s.triples h
third_number s h has =
    let one = next_marked s.left s.triples h has in
    let two = next_marked s.left s.triples (next_half h) one in
    ap (start (all_edges (left_of s))) (sym (next_number s.left (next_half h) ∙ ap next_half (next_number s.left h))) ∙ start_number s.left s.triples (next_half (next_half h)) two

-- a half-edge that is left, and its twin
module _ (points : List (List ℤ)) (s : TidySurface) (good : AreGood (length points) (left_of s)) (h g : ℕ) (has : Has s h) (pair : IsTwin s h g) where
  abbrev pub ts : List Triple
  ts = left_of s

  abbrev pub k : ℕ
  k = number_of s h

  abbrev pub Asked : Type 0
  Asked = AreAsked s points (start (all_edges s.triples) h) (finish (all_edges s.triples) h) (third_vertex s.triples h) (third_vertex s.triples g)

  k_low : k < 3 * length ts
  k_low = omega (arith, number_below s.left s.triples h has, length-all_edges ts)

  from : start (all_edges ts) k ≡ start (all_edges s.triples) h
  from = start_number s.left s.triples h has

  to : finish (all_edges ts) k ≡ finish (all_edges s.triples) h
  to = finish_number s.left s.triples h has

  third : third_vertex ts k ≡ third_vertex s.triples h
  third = third_number s h has

  across : third_vertex ts (twin (all_edges ts) k) ≡ third_vertex s.triples g
  across = ap (third_vertex ts) pair.is ∙ third_number s g pair.there

  pub asked_yes : Asked → is_collapsible points ts k ≡ true
  asked_yes m =
      can_back points ts k (start (all_edges ts) k) (finish (all_edges ts) k) (third_vertex ts k) (third_vertex ts (twin (all_edges ts) k)) can
      ((λ i. same_point (get_or points (from i) []) (get_or points (to i) [])) ∙ m.at_one) where
        can : CanCollapse ts k (start (all_edges ts) k) (finish (all_edges ts) k) (third_vertex ts k) (third_vertex ts (twin (all_edges ts) k))
        can = record {
          three = good.three;
          closed = good.closed;
          below = omega (arith, k_low, length-all_edges ts);
          starts = refl;
          ends = refl;
          third = refl;
          across = refl;
          distinct = λ e. not_back ts good.three k k (omega (arith, k_low, length-all_edges ts)) refl (e, sym e);
          differ = λ e. m.differ (sym third ∙ e ∙ across);
          ab = (λ i. dir (all_edges ts) (from i) (to i)) ∙ m.ab;
          ac = (λ i. dir (all_edges ts) (from i) (third i)) ∙ m.ac;
          ad = (λ i. dir (all_edges ts) (from i) (across i)) ∙ m.ad;
          bc = (λ i. dir (all_edges ts) (to i) (third i)) ∙ m.bc;
          bd = (λ i. dir (all_edges ts) (to i) (across i)) ∙ m.bd;
          only = λ v p q. named v (m.only v (subst (λ u. 0 < dir (all_edges ts) u v) from p) (subst (λ u. 0 < dir (all_edges ts) u v) to q));
        }
          where
            named : (v : ℕ) → (v ≡ third_vertex s.triples h) ⊎ (v ≡ third_vertex s.triples g) → (v ≡ third_vertex ts k) ⊎ (v ≡ third_vertex ts (twin (all_edges ts) k))
            named v (inl e) = inl (e ∙ sym third)
            named v (inr e) = inr (e ∙ sym across)

  yes_asked : is_collapsible points ts k ≡ true → Asked
  yes_asked y =
      let met = are_met points (all_edges ts) (start (all_edges ts) k) (finish (all_edges ts) k) (third_vertex ts k) (third_vertex ts (twin (all_edges ts) k)) y in
      let can = can_of points ts good k k_low y in
      record {
        at_one = sym (λ i. same_point (get_or points (from i) []) (get_or points (to i) [])) ∙ met.at_one;
        differ = λ e. can.differ (third ∙ e ∙ sym across);
        ab = sym (λ i. dir (all_edges ts) (from i) (to i)) ∙ can.ab;
        ac = sym (λ i. dir (all_edges ts) (from i) (third i)) ∙ can.ac;
        ad = sym (λ i. dir (all_edges ts) (from i) (across i)) ∙ can.ad;
        bc = sym (λ i. dir (all_edges ts) (to i) (third i)) ∙ can.bc;
        bd = sym (λ i. dir (all_edges ts) (to i) (across i)) ∙ can.bd;
        only = λ v p q. named v (can.only v (subst (λ u. 0 < dir (all_edges ts) u v) (sym from) p) (subst (λ u. 0 < dir (all_edges ts) u v) (sym to) q));
      }
    where
      named : (v : ℕ) → (v ≡ third_vertex ts k) ⊎ (v ≡ third_vertex ts (twin (all_edges ts) k)) → (v ≡ third_vertex s.triples h) ⊎ (v ≡ third_vertex s.triples g)
      named v (inl e) = inl (e ∙ third)
      named v (inr e) = inr (e ∙ across)

  pub asked_no : (Asked → ⊥) → is_collapsible points ts k ≡ false
  asked_no not_asked = elim (cases_Bool (is_collapsible points ts k)) as (λ _. is_collapsible points ts k ≡ false) [
    | inl y ↦ absurd (not_asked (yes_asked y))
    | inr n ↦ n
  ]
