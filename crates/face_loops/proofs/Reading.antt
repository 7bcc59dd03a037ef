-- Edges read from segments.
use Rattle.std.proofs.Common.{◌≡◌, ◌<◌, ◌+◌, ℕ, zero, suc, List, [], ◌∷◌, ◌++◌, Bool, false, cond, not, ◌==◌, Option, Some, None, length, get_or, take, sym, ap, ◌∙◌, arith, inl, inr}
use Rattle.std.specs.List.{position, position_or_len}
use Rattle.std.proofs.lemmas.Bool.{cases_Bool, cases_lt, both_ways, eq-eqb, eqb-true, lt-ltb}
use Rattle.std.proofs.lemmas.List.Quantifiers.{position-Some}
use Rattle.std.proofs.lemmas.List.{get_or-map, length-map, map-append, take_more}
use Rattle.chain_terms.specs.Ranks.{start, finish}
use Rattle.mb_base.specs.declared.results.Segment.{Segment}
use Rattle.face_loops.specs.Segments.{edge_of, edges_of}
use Rattle.face_loops.specs.Starts.{IsStartOf}

-- the segment that is read where there is none
abbrev pub no_segment : Segment
no_segment = record { from = 0; to = 0 }

-- as many edges as segments
pub length-edges_of : (ss : List Segment) → length (edges_of ss) ≡ length ss
length-edges_of ss = length-map ss edge_of

-- the edge at a place is that of the segment there
pub edge_at : (ss : List Segment) (i : ℕ) → i < length ss → get_or (edges_of ss) i (0, 0) ≡ edge_of (get_or ss i no_segment)
edge_at ss i below = get_or-map edge_of ss i no_segment (0, 0) below

pub start_at : (ss : List Segment) (i : ℕ) → i < length ss → start (edges_of ss) i ≡ (get_or ss i no_segment).from
start_at ss i below = ap (λ e. e.0) (edge_at ss i below)

pub finish_at : (ss : List Segment) (i : ℕ) → i < length ss → finish (edges_of ss) i ≡ (get_or ss i no_segment).to
finish_at ss i below = ap (λ e. e.1) (edge_at ss i below)

-- one segment more
pub edges_of-more : (ss : List Segment) (i : ℕ) → i < length ss → edges_of (take (i + 1) ss) ≡ edges_of (take i ss) ++ edge_of (get_or ss i no_segment) ∷ []
edges_of-more ss i below = ap edges_of (take_more ss i no_segment below) ∙ map-append edge_of (take i ss) (get_or ss i no_segment ∷ [])

-- no segment before the first that passes does
fails_before : (p : Segment → Bool) (ss : List Segment) (k : ℕ) → k < position_or_len p ss → k < length ss → p (get_or ss k no_segment) ≡ false
fails_before p [] k before below = absurd (omega (arith, below))
fails_before p (s ∷ ss) zero before below = elim (cases_Bool (p s)) as (λ _. p s ≡ false) [
  | inl y ↦ let h : 0 < cond (not (p s)) (1 + position_or_len p ss) 0 = before in absurd (omega (arith, rw y at h))
  | inr n ↦ n
]
fails_before p (s ∷ ss) (suc k) before below = elim (cases_Bool (p s)) as (λ _. p (get_or ss k no_segment) ≡ false) [
  | inl y ↦ let h : suc k < cond (not (p s)) (1 + position_or_len p ss) 0 = before in absurd (omega (arith, rw y at h))
  | inr n ↦ let h : suc k < cond (not (p s)) (1 + position_or_len p ss) 0 = before in fails_before p ss k (omega (arith, rw n at h)) (omega (arith, below))
]

-- where none is found, none passes
fails_all : (p : Segment → Bool) (ss : List Segment) → None ≡ position p ss → (k : ℕ) → k < length ss → p (get_or ss k no_segment) ≡ false
fails_all p ss none k below = elim (cases_lt (position_or_len p ss) (length ss)) as (λ _. p (get_or ss k no_segment) ≡ false) [
  | inl found ↦
      let t = lt-ltb (position_or_len p ss) (length ss) found in
      let e : None ≡ Some (position_or_len p ss) = none ∙ ap (λ b. cond b (Some (position_or_len p ss)) None) t in
      absurd (cc)
  | inr past ↦ fails_before p ss k (omega (arith, below, past)) below
]

-- what a look at each segment finds
pub looked_up : (ss : List Segment) (v : ℕ) (r : Option ℕ) → r ≡ position (λ s. s.from == v) ss → IsStartOf (edges_of ss) v r
looked_up ss v None e = λ k below here.
    let within : k < length ss = omega (arith, below, length-edges_of ss) in
    both_ways ((get_or ss k no_segment).from == v) (fails_all (λ s. s.from == v) ss e k within) (eq-eqb (get_or ss k no_segment).from v (sym (start_at ss k within) ∙ here))
looked_up ss v (Some i) e =
    let found = position-Some (λ s. s.from == v) ss i no_segment (sym e) in
    (omega (arith, found.0, length-edges_of ss), start_at ss i found.0 ∙ eqb-true (get_or ss i no_segment).from v found.1)
