-- The loops so far, and those of the edges that have no mark.
use Rattle.std.proofs.Common.{◌≡◌, ◌+◌, ◌<◌, ◌≤◌, ℕ, zero, suc, List, [], ◌∷◌, ◌++◌, Bool, true, false, length, get_or, set, replicate, refl, sym, ap, subst, inl, inr, ◌∙◌, arith, append_assoc, append-nil, below_more}
use Rattle.std.specs.List.{concat, Contains}
use Rattle.std.proofs.Math.Seq.{get_or-append_seam, take-append_seam}
use Rattle.std.proofs.lemmas.Bool.{both_ways, cases_lt}
use Rattle.std.proofs.lemmas.List.{length-replicate, length-append, get_or_append_left, take-append-le}
use Rattle.std.proofs.lemmas.List.Elements.{Contains-append_left, Contains-append_right}
use Rattle.std.proofs.lemmas.List.Folds.{concat-append}
use Rattle.chain_terms.specs.Cycles.{cycles}
use Rattle.chain_terms.specs.Ranks.{start, finish}
use Rattle.face_loops.specs.Segments.{BeginsNext, BeginInOrder}
use Rattle.face_loops.specs.Trails.{left, followed, IsLoopFrom}
use Rattle.face_loops.proofs.Following.{cycles-cons}
use Rattle.face_loops.proofs.Marks.{left-none, left-all, left-first}

-- the loops so far and the cycles of what has no mark are the cycles, and all edges before a place have marks
pub record AreLoopsSoFar (es : List (ℕ × ℕ)) (place : ℕ) (used : List Bool) (loops : List (List ℕ)) : Type 0 where
  pub full : length used ≡ length es
  pub value : loops ++ cycles (left es used) ≡ cycles es
  pub before : (k : ℕ) → k < place → get_or used k false ≡ true
  pub order : BeginInOrder es loops
  pub seen : (k : ℕ) → get_or used k false ≡ true → Contains (concat loops) (start es k)

-- a list of no marks has none
none_in : (n k : ℕ) → get_or (replicate n false) k false ≡ false
none_in zero k = refl
none_in (suc n) zero = refl
none_in (suc n) (suc k) = none_in n k

-- no mark at first
unmarked : (used : List Bool) (n k : ℕ) → used ≡ replicate n false → get_or used k false ≡ true → ⊥
unmarked used n k e h = both_ways (get_or used k false) (ap (λ l. get_or l k false) e ∙ none_in n k) h

-- at first
pub loops_begin : (es : List (ℕ × ℕ)) (used : List Bool) (n : ℕ) → used ≡ replicate n false → length es ≡ n → AreLoopsSoFar es 0 used []
loops_begin es used n e full = record {
  full = ap (λ l. length l) e ∙ length-replicate n false ∙ sym full;
  value = ap (λ l. cycles (left es l)) e ∙ ap cycles (left-none es n full);
  before = λ k h. absurd (omega (arith, h));
  order = λ k h. absurd (omega (arith, h));
  seen = λ k h. absurd (unmarked used n k e h);
}

-- a marked edge is passed
pub loops_pass : (es : List (ℕ × ℕ)) (place : ℕ) (used : List Bool) (loops : List (List ℕ)) → AreLoopsSoFar es place used loops →
    get_or used place false ≡ true → AreLoopsSoFar es (place + 1) used loops
loops_pass es place used loops so here =
    record { full = so.full; value = so.value; before = below_more (λ k. get_or used k false ≡ true) place so.before here; order = so.order; seen = so.seen }

-- the cycle from the first edge without a mark
next_cycle : (es : List (ℕ × ℕ)) (place : ℕ) (old new : List Bool) (vertices : List ℕ) → length old ≡ length es → place < length es →
    ((k : ℕ) → k < place → get_or old k false ≡ true) →
    get_or old place false ≡ false → IsLoopFrom es place old new vertices → cycles (left es old) ≡ vertices ∷ cycles (left es new)
next_cycle es place old new vertices full within before free loop =
    let rest = left es (set old place true) in
    ap cycles (left-first es old place full within before free) ∙ cycles-cons (get_or es place (0, 0)) rest
    ∙ ap (λ l. l ∷ cycles (followed (finish es place) rest).1) (sym loop.value) ∙ ap (λ r. vertices ∷ cycles r) (sym loop.rest)

-- one loop more among all vertices
more_vertices : (loops : List (List ℕ)) (vertices : List ℕ) → concat (loops ++ vertices ∷ []) ≡ concat loops ++ vertices
more_vertices loops vertices = concat-append loops (vertices ∷ []) ∙ ap (λ l. concat loops ++ l) (append-nil vertices)

-- the loop that begins at the first edge without a mark is the next in order
next_begins : (es : List (ℕ × ℕ)) (place : ℕ) (old new : List Bool) (loops : List (List ℕ)) (vertices : List ℕ) → AreLoopsSoFar es place old loops → place < length es →
    IsLoopFrom es place old new vertices → BeginsNext es (loops ++ vertices ∷ []) (length loops)
next_begins es place old new loops vertices so within loop =
    record {
      place = place;
      within = within;
      begins = ap (λ l. get_or l 0 0) (get_or-append_seam loops vertices [] []) ∙ ap (λ l. get_or l 0 0) loop.value;
      before = λ j h. subst (λ l. Contains (concat l) (start es j)) (sym (take-append_seam loops (vertices ∷ []))) (so.seen j (so.before j h));
    }

-- the loops before it stay in order
order_stays : (es : List (ℕ × ℕ)) (loops : List (List ℕ)) (vertices : List ℕ) (k : ℕ) → k < length loops → BeginsNext es loops k → BeginsNext es (loops ++ vertices ∷ []) k
order_stays es loops vertices k below next =
    record {
      place = next.place;
      within = next.within;
      begins = ap (λ l. get_or l 0 0) (get_or_append_left loops (vertices ∷ []) [] k below) ∙ next.begins;
      before = λ j h. subst (λ l. Contains (concat l) (start es j)) (sym (take-append-le k loops (vertices ∷ []) (omega (arith, below)))) (next.before j h);
    }

-- so all are in order
order_more : (es : List (ℕ × ℕ)) (place : ℕ) (old new : List Bool) (loops : List (List ℕ)) (vertices : List ℕ) → AreLoopsSoFar es place old loops → place < length es →
    IsLoopFrom es place old new vertices → BeginInOrder es (loops ++ vertices ∷ [])
order_more es place old new loops vertices so within loop k h = elim (cases_lt k (length loops)) as (λ _. BeginsNext es (loops ++ vertices ∷ []) k) [
  | inl below ↦ order_stays es loops vertices k below (so.order k below)
  | inr past ↦
      let last : length loops ≡ k = omega (arith, past, h, length-append loops (vertices ∷ [])) in
      subst (BeginsNext es (loops ++ vertices ∷ [])) last (next_begins es place old new loops vertices so within loop)
]

-- and each edge with a mark starts in a loop
seen_more : (es : List (ℕ × ℕ)) (place : ℕ) (old new : List Bool) (loops : List (List ℕ)) (vertices : List ℕ) → AreLoopsSoFar es place old loops →
    IsLoopFrom es place old new vertices →
    (k : ℕ) → get_or new k false ≡ true → Contains (concat (loops ++ vertices ∷ [])) (start es k)
seen_more es place old new loops vertices so loop k h =
    subst (λ l. Contains l (start es k)) (sym (more_vertices loops vertices))
    (elim (loop.marked k h) as (λ _. Contains (concat loops ++ vertices) (start es k)) [
      | inl before ↦ Contains-append_left (concat loops) vertices (start es k) (so.seen k before)
      | inr inside ↦ Contains-append_right (concat loops) vertices (start es k) inside
    ])

-- it is one loop more
pub loops_more : (es : List (ℕ × ℕ)) (place : ℕ) (old new : List Bool) (loops : List (List ℕ)) (vertices : List ℕ) → AreLoopsSoFar es place old loops →
    place < length es → get_or old place false ≡ false →
    IsLoopFrom es place old new vertices → length new ≡ length es → AreLoopsSoFar es (place + 1) new (loops ++ vertices ∷ [])
loops_more es place old new loops vertices so within free loop full =
    record {
      full = full;
      value = append_assoc loops (vertices ∷ []) (cycles (left es new))
          ∙ ap (λ l. loops ++ l) (sym (next_cycle es place old new vertices so.full within so.before free loop)) ∙ so.value;
      before = below_more (λ k. get_or new k false ≡ true) place (λ k h. loop.others k (so.before k h)) loop.here;
      order = order_more es place old new loops vertices so within loop;
      seen = seen_more es place old new loops vertices so loop;
    }

-- with all edges marked the loops are whole
pub loops_end : (es : List (ℕ × ℕ)) (place : ℕ) (used : List Bool) (loops : List (List ℕ)) → AreLoopsSoFar es place used loops → length es ≤ place → loops ≡ cycles es
loops_end es place used loops so all =
    let none = left-all es used (λ k h. so.before k (omega (arith, h, all))) in
    sym (append-nil loops) ∙ ap (λ l. loops ++ cycles l) (sym none) ∙ so.value
