-- A loop that is followed so far.
use Rattle.std.proofs.Common.{◌≡◌, ◌⊎◌, ◌<◌, ℕ, zero, suc, List, [], ◌∷◌, ◌++◌, Bool, true, false, length, get_or, set, refl, sym, ap, subst, inl, inr, ◌∙◌, arith, append_assoc, append-nil, None}
use Rattle.std.specs.List.{Contains}
use Rattle.std.proofs.lemmas.Bool.{cases_eq}
use Rattle.std.proofs.lemmas.List.{get_or-set_same, get_or-set_other}
use Rattle.std.proofs.lemmas.List.Elements.{Contains-push, Contains-append_left}
use Rattle.chain_terms.specs.Cycles.{end_from, put_first}
use Rattle.chain_terms.specs.Ranks.{start, finish}
use Rattle.face_loops.specs.Trails.{left, followed, GoesOn, IsLoopFrom}
use Rattle.face_loops.proofs.Following.{shorter, followed-on, followed-end}

-- the rest of the loop from the edge at a place, and what it leaves
abbrev pub way_from : List (ℕ × ℕ) → ℕ → List Bool → List ℕ × List (ℕ × ℕ)
way_from es first old = followed (finish es first) (left es (set old first true))

-- the vertices so far and those that are followed from v are the loop from an edge
pub record IsOnTrail (es : List (ℕ × ℕ)) (first : ℕ) (old used : List Bool) (v : ℕ) (vertices : List ℕ) : Type 0 where
  pub value : vertices ++ (followed v (left es used)).0 ≡ start es first ∷ (way_from es first old).0
  pub rest : (followed v (left es used)).1 ≡ (way_from es first old).1
  pub here : get_or used first false ≡ true
  pub others : (k : ℕ) → get_or old k false ≡ true → get_or used k false ≡ true
  pub marked : (k : ℕ) → get_or used k false ≡ true → (get_or old k false ≡ true) ⊎ Contains vertices (start es k)

-- a mark stays where another is set
pub mark_stays : (used : List Bool) (i k : ℕ) → get_or used k false ≡ true → get_or (set used i true) k false ≡ true
mark_stays [] i k h = absurd (cc)
mark_stays (u ∷ used) zero zero h = refl
mark_stays (u ∷ used) zero (suc k) h = h
mark_stays (u ∷ used) (suc i) zero h = h
mark_stays (u ∷ used) (suc i) (suc k) h = mark_stays used i k h

-- a mark was there before another was set, or is that one
mark_was : (used : List Bool) (i k : ℕ) → get_or (set used i true) k false ≡ true → (get_or used k false ≡ true) ⊎ (k ≡ i)
mark_was used i k h = elim (cases_eq k i) as (λ _. (get_or used k false ≡ true) ⊎ (k ≡ i)) [
  | inl same ↦ inr same
  | inr other ↦ inl (sym (get_or-set_other used i k true false other) ∙ h)
]

-- where one more edge is marked
marked_more : (es : List (ℕ × ℕ)) (old used : List Bool) (vertices : List ℕ) (v next : ℕ) → start es next ≡ v →
    ((k : ℕ) → get_or used k false ≡ true → (get_or old k false ≡ true) ⊎ Contains vertices (start es k)) →
    (k : ℕ) → get_or (set used next true) k false ≡ true → (get_or old k false ≡ true) ⊎ Contains (vertices ++ v ∷ []) (start es k)
marked_more es old used vertices v next from marked k h = elim (mark_was used next k h) as (λ _. (get_or old k false ≡ true) ⊎ Contains (vertices ++ v ∷ []) (start es k)) [
  | inr same ↦ inr (subst (Contains (vertices ++ v ∷ [])) (sym (ap (start es) same ∙ from)) (Contains-push vertices v))
  | inl was ↦ elim (marked k was) as (λ _. (get_or old k false ≡ true) ⊎ Contains (vertices ++ v ∷ []) (start es k)) [
    | inl before ↦ inl before
    | inr inside ↦ inr (Contains-append_left vertices (v ∷ []) (start es k) inside)
  ]
]

-- at first
pub trail_begins : (es : List (ℕ × ℕ)) (first : ℕ) (old : List Bool) → first < length old → IsOnTrail es first old (set old first true) (finish es first) (start es first ∷ [])
trail_begins es first old within =
    record {
      value = refl;
      rest = refl;
      here = get_or-set_same old first true false within;
      others = λ k h. mark_stays old first k h;
      marked = marked_more es old old [] (start es first) first refl (λ k h. inl h);
    }

-- one edge more
pub trail_goes_on : (es : List (ℕ × ℕ)) (first : ℕ) (old used : List Bool) (v : ℕ) (vertices : List ℕ) (next : ℕ) → IsOnTrail es first old used v vertices → GoesOn es used v next →
    IsOnTrail es first old (set used next true) (finish es next) (vertices ++ v ∷ [])
trail_goes_on es first old used v vertices next t g =
    let step : followed v (left es used) ≡ put_first v (followed (finish es next) (left es (set used next true))) =
    followed-on v (finish es next) (left es used) g.goes ∙ ap (λ l. put_first v (followed (finish es next) l)) g.rest in
    record {
      value = append_assoc vertices (v ∷ []) (followed (finish es next) (left es (set used next true))).0 ∙ ap (λ r. vertices ++ r.0) (sym step) ∙ t.value;
      rest = ap (λ r. r.1) (sym step) ∙ t.rest;
      here = mark_stays used next first t.here;
      others = λ k h. mark_stays used next k (t.others k h);
      marked = marked_more es old used vertices v next g.from t.marked;
    }

-- and fewer are left
pub fewer_left : (es : List (ℕ × ℕ)) (used : List Bool) (v next : ℕ) → GoesOn es used v next → length (left es (set used next true)) < length (left es used)
fewer_left es used v next g = omega (arith, shorter v (finish es next) (left es used) g.goes, ap (λ l. length l) g.rest)

-- where none goes on, the loop is whole
pub trail_ends : (es : List (ℕ × ℕ)) (first : ℕ) (old used : List Bool) (v : ℕ) (vertices : List ℕ) → IsOnTrail es first old used v vertices → end_from v (left es used) ≡ None →
    IsLoopFrom es first old used vertices
trail_ends es first old used v vertices t none =
    let stop = followed-end v (left es used) none in
    record {
      value = sym (append-nil vertices) ∙ ap (λ r. vertices ++ r.0) (sym stop) ∙ t.value;
      rest = ap (λ r. r.1) (sym stop) ∙ t.rest;
      here = t.here;
      others = t.others;
      marked = t.marked;
    }
