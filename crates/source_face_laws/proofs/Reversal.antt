-- Seen from the twin of a half-edge, or from the other face of a pair, each segment runs the other way.
use Rattle.std.proofs.Common.{◌≡◌, ◌/◌, ℕ, zero, suc, ◌<◌, ◌≤◌, inl, inr, Bool, true, false, cond, ℤ, pos, neg_ℤ, List, [], ◌∷◌, ◌++◌, map, length, get_or, int_lt, count_by, refl, arith, ap, sym, ◌∙◌}
use Rattle.std.specs.List.{All}
use Rattle.std.proofs.lemmas.Int.{ints}
use Rattle.std.proofs.lemmas.Bool.{cases_eq, cases_lt, eq-eqb, ne_eqb, false_from_ne_true}
use Rattle.std.proofs.lemmas.List.{get_or_default}
use Rattle.std.proofs.lemmas.List.Elements.{filter_agree}
use Rattle.std.proofs.lemmas.List.Sorted.{IsPermutation-append_comm, IsPermutation-map}
use Rattle.chain_terms.specs.Chains.{IsClosed, all_edges, is_edge}
use Rattle.chain_terms.specs.Odd.{backward}
use Rattle.chain_terms.specs.Ranks.{finish, nth, rank, runs_against, runs_as, start, twin, RunsBack}
use Rattle.chain_terms.specs.Sums.{upto}
use Rattle.chain_laws.specs.Chains.{edge_is}
use Rattle.chain_laws.specs.Counts.{count_by-cons, one_if-true}
use Rattle.chain_laws.specs.Firsts.{Passing, passing}
use Rattle.chain_laws.specs.Sorting.{sorted_by}
use Rattle.halfedge.proofs.Around.{pair_up as twins_pair_up}
use Rattle.halfedge.proofs.Edges.{not_back}
use Rattle.mesh_terms.specs.Meshes.{Triple, HasThree}
use Rattle.mesh_terms.specs.Points.{coordinate_of}
use Rattle.mb_base.specs.declared.results.Origin.{Origin}
use Rattle.mb_base.specs.declared.results.Origin.TheVariants.{PVertex, QVertex, PEdge, QEdge}
use Rattle.side_terms.specs.Sides.{Side, IsSide}
use Rattle.side_terms.specs.Lists.{Copy, ListName, HalfP, HalfQ, PairP, PairQ, at_end, at_same, ends, incidence, no_copy, standing, starts, way}
use Rattle.edge_pairing.specs.Pairing.{comes_before, pair_up, paired_across, paired_along, scalar_product, spread_axis, step}
use Rattle.edge_pairing.proofs.Spreads.{spread_axis-permutation}
use Rattle.edge_pairing.proofs.Zips.{zip-exchanged}
use Rattle.retained_verts.proofs.Units.{above_neg, below_neg}
use Rattle.source_face_terms.specs.Segments.{lower_half, paired_on_edge, segments_in, vertex_point}

-- past the end of a list its value is the default
past_end : {X : Type 0} (xs : List X) (i : ℕ) (d : X) → length xs ≤ i → get_or xs i d ≡ d
past_end [] i d h = refl
past_end (x ∷ xs) zero d h = absurd (omega (arith, h))
past_end (x ∷ xs) (suc i) d h = past_end xs i d (omega (arith, h))

-- where no member passes, each place is past the end
nth_none : {X : Type 0} (p : X → Bool) (xs : List X) (k : ℕ) → count_by p xs ≡ 0 → nth p xs k ≡ length xs
nth_none p [] k h = refl
nth_none p (x ∷ xs) zero h =
    let no : p x ≡ false = false_from_ne_true (p x) (λ y. omega (arith, h, count_by-cons p x xs, one_if-true (p x) y)) in
    ap (λ b. cond b 0 (suc (nth p xs 0))) no ∙ ap suc (nth_none p xs 0 (omega (arith, h, count_by-cons p x xs)))
nth_none p (x ∷ xs) (suc k) h = ap suc (nth_none p xs (cond (p x) k (suc k)) (omega (arith, h, count_by-cons p x xs)))

-- no edge of triangles with three different vertices runs from a vertex to itself
no_stand : (ts : List Triple) → All HasThree ts → (a : ℕ) → Passing (λ e. is_edge e a a) (all_edges ts) → ⊥
no_stand ts three a found =
    let k = found.inside.0 in
    let at = found.inside.2 in
    let e = edge_is found.member a a found.passes in
    let within : k < length (all_edges ts) = found.inside.1 in
    let same : get_or (all_edges ts) k (0, 0) ≡ found.member = get_or_default (all_edges ts) k (0, 0) found.member within ∙ at in
    let level : start (all_edges ts) k ≡ finish (all_edges ts) k = ap (λ (d : ℕ × ℕ). d.0) same ∙ e.0 ∙ sym e.1 ∙ sym (ap (λ (d : ℕ × ℕ). d.1) same) in
    not_back ts three k k within refl (level, sym level)

-- what half-edges of closed triangles keep, also where a number is none of theirs
pub record HasTwins (es : List (ℕ × ℕ)) : Type 0 where
  pub run_back : (h : ℕ) → h < length es → RunsBack es h (twin es h)
  pub pairs : (h : ℕ) → h < length es → twin es (twin es h) ≡ h
  pub apart : (h : ℕ) → h < length es → twin es h / 3 ≡ h / 3 → ⊥
  pub past : (h : ℕ) → length es ≤ h → length es ≤ twin es h

pub has_twins : (ts : List Triple) → All HasThree ts → IsClosed (all_edges ts) → HasTwins (all_edges ts)
has_twins ts three closed = let both = twins_pair_up ts three closed in record { run_back = both.run_back; pairs = both.pairs; apart = both.other; past = past }
  where
    es : List (ℕ × ℕ)
    es = all_edges ts

    none : (h : ℕ) → length es ≤ h → count_by (runs_against es h) es ≡ 0
    none h off = elim (cases_lt 0 (count_by (runs_against es h) es)) as (λ _. count_by (runs_against es h) es ≡ 0) [
      | inl l ↦
          let e : finish es h ≡ start es h = ap (λ (d : ℕ × ℕ). d.1) (past_end es h (0, 0) off) ∙ sym (ap (λ (d : ℕ × ℕ). d.0) (past_end es h (0, 0) off)) in
          let found = passing (runs_against es h) es l in
          absurd (no_stand ts three (start es h)
          (record { member = found.member; inside = found.inside; passes = ap (λ a. is_edge found.member a (start es h)) (sym e) ∙ found.passes }))
      | inr m ↦ omega (arith, m)
    ]

    past : (h : ℕ) → length es ≤ h → length es ≤ twin es h
    past h off = omega (arith, nth_none (runs_against es h) es (rank (runs_as es h) es h) (none h off))

pub side_twins : (side : Side) → IsSide side → HasTwins (all_edges side.triples)
side_twins side known = has_twins side.triples known.accepted.mesh.three known.accepted.closed

-- two pairs that are the same together
same_together : (a b c d : ℕ) → (a ≡ b → c ≡ d) → (c ≡ d → a ≡ b) → at_same a b ≡ at_same c d
same_together a b c d f g = elim (cases_eq a b) as (λ _. at_same a b ≡ at_same c d) [
  | inl e ↦ ap (λ t. cond t (pos 1) (pos 0)) (eq-eqb a b e ∙ sym (eq-eqb c d (f e)))
  | inr n ↦ ap (λ t. cond t (pos 1) (pos 0)) (ne_eqb a b n ∙ sym (ne_eqb c d (λ e. n (g e))))
]

-- the twin of a half-edge against a vertex, and against an edge
twin_ends : (es : List (ℕ × ℕ)) → HasTwins es → (h : ℕ) → h < length es → (v : ℕ) → at_end es (twin es h) v ≡ neg_ℤ (at_end es h v)
twin_ends es known h below v =
    let back = known.run_back h below in
    let first = ap (λ s. at_same s v) back.from in
    let last = ap (λ s. at_same s v) back.to in omega (arith, ints, first, last)

twin_way : (es : List (ℕ × ℕ)) → HasTwins es → (h : ℕ) → h < length es → (e : ℕ) → way es (twin es h) e ≡ neg_ℤ (way es h e)
twin_way es known h below e =
    let back : twin es (twin es h) ≡ h = known.pairs h below in
    let inside : twin es h < length es = (known.run_back h below).within in
    let of_twin : (t : ℕ) → t < length es → t ≡ twin es e → e < length es = λ t l same. below_from e (λ off. let p = known.past e off in omega (arith, p, same, l)) in
    let one = same_together (twin es h) e h (twin es e) (λ s. sym back ∙ ap (twin es) s) (λ s. ap (twin es) s ∙ known.pairs e (of_twin h below s)) in
    let two = same_together (twin es h) (twin es e) h e (λ s. sym back ∙ ap (twin es) s ∙ known.pairs e (of_twin (twin es h) inside s)) (λ s. ap (twin es) s) in
    omega (arith, ints, one, two)
  where
    below_from : (e : ℕ) → (length es ≤ e → ⊥) → e < length es
    below_from e never = elim (cases_lt e (length es)) as (λ _. e < length es) [ inl l ↦ l | inr m ↦ absurd (never m) ]

-- what a copy comes from, in the list of the twin
twin_incidence_p : (P Q : List (ℕ × ℕ)) → HasTwins P → (h : ℕ) → h < length P → (x : Origin) → incidence P Q (HalfP (twin P h)) x ≡ neg_ℤ (incidence P Q (HalfP h) x)
twin_incidence_p P Q known h below (PVertex v) = twin_ends P known h below v
twin_incidence_p P Q known h below (QVertex v) = refl
twin_incidence_p P Q known h below (PEdge e face) = ap neg_ℤ (twin_way P known h below e)
twin_incidence_p P Q known h below (QEdge e face) = refl

twin_incidence_q : (P Q : List (ℕ × ℕ)) → HasTwins Q → (h : ℕ) → h < length Q → (x : Origin) → incidence P Q (HalfQ (twin Q h)) x ≡ neg_ℤ (incidence P Q (HalfQ h) x)
twin_incidence_q P Q known h below (PVertex v) = refl
twin_incidence_q P Q known h below (QVertex v) = twin_ends Q known h below v
twin_incidence_q P Q known h below (PEdge e face) = refl
twin_incidence_q P Q known h below (QEdge e face) = ap neg_ℤ (twin_way Q known h below e)

-- one list is another seen the other way
pub record AreReversed (P Q : List (ℕ × ℕ)) (name other : ListName) : Type 0 where
  pub turned : (x : Origin) → incidence P Q other x ≡ neg_ℤ (incidence P Q name x)

-- so each copy stands in it the other way
signed_turned : (b : Bool) (y z : ℤ) → y ≡ neg_ℤ z → cond b (neg_ℤ y) y ≡ neg_ℤ (cond b (neg_ℤ z) z)
signed_turned true y z e = ap neg_ℤ e
signed_turned false y z e = e

stands_turned : (P Q : List (ℕ × ℕ)) (name other : ListName) → AreReversed P Q name other → (c : Copy) → standing P Q other c ≡ neg_ℤ (standing P Q name c)
stands_turned P Q name other known c = signed_turned c.negative (incidence P Q other c.origin) (incidence P Q name c.origin) (known.turned c.origin)

-- its starts are the other's ends
starts_exchanged : (P Q : List (ℕ × ℕ)) (cs : List Copy) (name other : ListName) → AreReversed P Q name other → starts P Q cs other ≡ ends P Q cs name
starts_exchanged P Q cs name other known =
    let z : ℕ → ℤ = λ v. standing P Q name (get_or cs v no_copy) in
    filter_agree (λ v. int_lt (pos 0) (standing P Q other (get_or cs v no_copy))) (λ v. int_lt (z v) (pos 0))
    (λ v. ap (int_lt (pos 0)) (stands_turned P Q name other known (get_or cs v no_copy)) ∙ above_neg (z v)) (upto (length cs))

ends_exchanged : (P Q : List (ℕ × ℕ)) (cs : List Copy) (name other : ListName) → AreReversed P Q name other → ends P Q cs other ≡ starts P Q cs name
ends_exchanged P Q cs name other known =
    let z : ℕ → ℤ = λ v. standing P Q name (get_or cs v no_copy) in
    filter_agree (λ v. int_lt (standing P Q other (get_or cs v no_copy)) (pos 0)) (λ v. int_lt (pos 0) (z v))
    (λ v. ap (λ y. int_lt y (pos 0)) (stands_turned P Q name other known (get_or cs v no_copy)) ∙ below_neg (z v)) (upto (length cs))

-- a pairing with starts and ends exchanged
along_exchanged : (a b : List ℤ) (place : ℕ → List ℤ) (from to : List ℕ) → paired_along a b place to from ≡ backward (paired_along a b place from to)
along_exchanged a b place from to =
    let key : ℕ → ℤ = λ v. scalar_product (step a b) (place v) in zip-exchanged (sorted_by (comes_before key) from) (sorted_by (comes_before key) to)

across_exchanged : (place : ℕ → List ℤ) (from to : List ℕ) → paired_across place to from ≡ backward (paired_across place from to)
across_exchanged place from to =
    let axis = spread_axis (map place (from ++ to)) in
    let key : ℕ → ℤ = λ v. coordinate_of (place v) axis in
    let moved = IsPermutation-map place (to ++ from) (from ++ to) (IsPermutation-append_comm to from) in
    ap (λ i. pair_up (λ v. coordinate_of (place v) i) to from) (spread_axis-permutation (map place (to ++ from)) (map place (from ++ to)) moved)
    ∙ zip-exchanged (sorted_by (comes_before key) from) (sorted_by (comes_before key) to)

-- the edge of a half-edge is that of its twin
same_lower : (es : List (ℕ × ℕ)) → HasTwins es → (h : ℕ) → h < length es → lower_half es (twin es h) ≡ lower_half es h
same_lower es known h below = omega (arith, known.pairs h below)

on_edge_exchanged : (side : Side) → HasTwins (all_edges side.triples) → (h : ℕ) → h < length (all_edges side.triples) → (place : ℕ → List ℤ) (from to : List ℕ) →
    paired_on_edge side (twin (all_edges side.triples) h) place to from ≡ backward (paired_on_edge side h place from to)
on_edge_exchanged side known h below place from to =
    let es = all_edges side.triples in
    let low = lower_half es h in
    ap (λ l. paired_along (vertex_point side (start es l)) (vertex_point side (finish es l)) place to from) (same_lower es known h below)
    ∙ along_exchanged (vertex_point side (start es low)) (vertex_point side (finish es low)) place from to

-- where one list is the reverse of another, and is paired as the other with starts and ends exchanged, its segments run the other way
list_reverses : (P Q : List (ℕ × ℕ)) (cs : List Copy) (one other : ListName) → AreReversed P Q one other → (pair turned : List ℕ → List ℕ → List (ℕ × ℕ)) →
    ((from to : List ℕ) → turned to from ≡ backward (pair from to)) →
    turned (starts P Q cs other) (ends P Q cs other) ≡ backward (pair (starts P Q cs one) (ends P Q cs one))
list_reverses P Q cs one other reversed pair turned exchanged =
    ap (λ from. turned from (ends P Q cs other)) (starts_exchanged P Q cs one other reversed)
    ∙ ap (turned (ends P Q cs one)) (ends_exchanged P Q cs one other reversed)
    ∙ exchanged (starts P Q cs one) (ends P Q cs one)

-- the segments in the list of the twin
pub twin_reverses_p : (p q : Side) → IsSide p → (cs : List Copy) (place : ℕ → List ℤ) (h : ℕ) → h < length (all_edges p.triples) →
    segments_in p q cs place (HalfP (twin (all_edges p.triples) h)) ≡ backward (segments_in p q cs place (HalfP h))
twin_reverses_p p q p_known cs place h below =
    let P = all_edges p.triples in
    let twins = side_twins p p_known in
    let reversed : AreReversed P (all_edges q.triples) (HalfP h) (HalfP (twin P h)) = record { turned = twin_incidence_p P (all_edges q.triples) twins h below } in
    list_reverses P (all_edges q.triples) cs (HalfP h) (HalfP (twin P h)) reversed (paired_on_edge p h place) (paired_on_edge p (twin P h) place)
    (on_edge_exchanged p twins h below place)

pub twin_reverses_q : (p q : Side) → IsSide q → (cs : List Copy) (place : ℕ → List ℤ) (h : ℕ) → h < length (all_edges q.triples) →
    segments_in p q cs place (HalfQ (twin (all_edges q.triples) h)) ≡ backward (segments_in p q cs place (HalfQ h))
twin_reverses_q p q q_known cs place h below =
    let Q = all_edges q.triples in
    let twins = side_twins q q_known in
    let reversed : AreReversed (all_edges p.triples) Q (HalfQ h) (HalfQ (twin Q h)) = record { turned = twin_incidence_q (all_edges p.triples) Q twins h below } in
    list_reverses (all_edges p.triples) Q cs (HalfQ h) (HalfQ (twin Q h)) reversed (paired_on_edge q h place) (paired_on_edge q (twin Q h) place)
    (on_edge_exchanged q twins h below place)

-- and in the list of a pair seen from the face of Q
pub pair_reverses : (p q : Side) (cs : List Copy) (place : ℕ → List ℤ) (f g : ℕ) → segments_in p q cs place (PairQ g f) ≡ backward (segments_in p q cs place (PairP f g))
pair_reverses p q cs place f g =
    let reversed : AreReversed (all_edges p.triples) (all_edges q.triples) (PairP f g) (PairQ g f) = record { turned = λ x. refl } in
    list_reverses (all_edges p.triples) (all_edges q.triples) cs (PairP f g) (PairQ g f) reversed (paired_across place) (paired_across place) (across_exchanged place)
