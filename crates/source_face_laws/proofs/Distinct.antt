-- Two lists of a face in which two copies both stand tell what these are copies of.
use Rattle.std.proofs.Common.{◌≡◌, ℕ, zero, suc, ◌+◌, ◌*◌, ◌/◌, ◌<◌, ◌⊎◌, inl, inr, Bool, true, false, cond, ◌==◌, ◌||◌, ℤ, pos, neg_ℤ, List, [], ◌∷◌, length, get_or, refl, arith, ap, sym, ◌∙◌}
use Rattle.std.specs.List.{All}
use Rattle.std.proofs.lemmas.Int.{ints}
use Rattle.std.proofs.lemmas.Bool.{both_ways, cases_eq, cases_lt, eq-eqb, ne_eqb, or_left, or_right}
use Rattle.std.proofs.lemmas.List.Elements.{Contains-get_or}
use Rattle.chain_terms.specs.Chains.{all_edges}
use Rattle.chain_terms.specs.Ranks.{finish, start, twin}
use Rattle.halfedge.proofs.Edges.{length-all_edges, next_starts, not_back}
use Rattle.mesh_check.specs.Reduced.{NoOpposite, opposite, same_triple}
use Rattle.mesh_terms.specs.Halves.{next_half}
use Rattle.mesh_terms.specs.Meshes.{Triple, HasThree}
use Rattle.mb_base.specs.declared.results.Origin.{Origin}
use Rattle.mb_base.specs.declared.results.Origin.TheVariants.{PVertex, QVertex, PEdge, QEdge}
use Rattle.side_terms.specs.Sides.{Side, IsSide}
use Rattle.side_terms.specs.Lists.{ListName, HalfP, HalfQ, PairP, PairQ, at_end, incidence, way, way_round}
use Rattle.retained_verts.proofs.Ways.{at_same_is, same, same_no, way_is, way_round_is}
use Rattle.source_face_terms.specs.Naming.{NamesLower}
use Rattle.source_face_terms.specs.Segments.{lower_half}
use Rattle.source_face_laws.proofs.Reversal.{HasTwins, side_twins}

-- what stands in two lists
pub record InBoth (P Q : List (ℕ × ℕ)) (one two : ListName) (x : Origin) : Type 0 where
  pub first : incidence P Q one x ≡ pos 0 → ⊥
  pub second : incidence P Q two x ≡ pos 0 → ⊥

-- a half-edge that does not miss an edge is one of its two
half_is : (es : List (ℕ × ℕ)) (h e : ℕ) → (way es h e ≡ pos 0 → ⊥) → (h ≡ e) ⊎ (h ≡ twin es e)
half_is es h e some = elim (cases_eq h e) as (λ _. (h ≡ e) ⊎ (h ≡ twin es e)) [
  | inl a ↦ inl a
  | inr n ↦ elim (cases_eq h (twin es e)) as (λ _. (h ≡ e) ⊎ (h ≡ twin es e)) [
    | inl b ↦ inr b
    | inr m ↦ absurd (some (omega (arith, ints, way_is es h e, same_no h e n, same_no h (twin es e) m)))
  ]
]

-- and a face is that of one of the two
face_is : (es : List (ℕ × ℕ)) (f e : ℕ) → (way_round es f e ≡ pos 0 → ⊥) → (f ≡ e / 3) ⊎ (f ≡ twin es e / 3)
face_is es f e some = elim (cases_eq f (e / 3)) as (λ _. (f ≡ e / 3) ⊎ (f ≡ twin es e / 3)) [
  | inl a ↦ inl a
  | inr n ↦ elim (cases_eq f (twin es e / 3)) as (λ _. (f ≡ e / 3) ⊎ (f ≡ twin es e / 3)) [
    | inl b ↦ inr b
    | inr m ↦ absurd (some (omega (arith, ints, way_round_is es f e, same_no f (e / 3) n, same_no f (twin es e / 3) m)))
  ]
]

-- a number whose twin is a half-edge is one
named_inside : (es : List (ℕ × ℕ)) → HasTwins es → (e : ℕ) → twin es e < length es → e < length es
named_inside es known e below = elim (cases_lt e (length es)) as (λ _. e < length es) [ inl l ↦ l | inr m ↦ absurd (let p = known.past e m in omega (arith, p, below)) ]

-- two half-edges of a face follow one another
consecutive : (g h : ℕ) → g / 3 ≡ h / 3 → (g ≡ h → ⊥) → (h ≡ next_half g) ⊎ (g ≡ next_half h)
consecutive g h same apart = elim (cases_eq h (next_half g)) as (λ _. (h ≡ next_half g) ⊎ (g ≡ next_half h)) [
  | inl e ↦ inl e
  | inr n ↦ inr (omega (arith, same, apart, n))
]

-- an edge has no two half-edges in one face
no_edge : (es : List (ℕ × ℕ)) → HasTwins es → (g h e : ℕ) → g < length es → h < length es → g / 3 ≡ h / 3 → (g ≡ h → ⊥) → (way es g e ≡ pos 0 → ⊥) → (way es h e ≡ pos 0 → ⊥) → ⊥
no_edge es known g h e g_below h_below same apart a b = elim (half_is es g e a) as (λ _. ⊥) [
  | inl p ↦ elim (half_is es h e b) as (λ _. ⊥) [
    | inl q ↦ apart (p ∙ sym q)
    | inr q ↦ known.apart e (omega (arith, p, g_below)) (omega (arith, p, q, same))
  ]
  | inr p ↦ elim (half_is es h e b) as (λ _. ⊥) [
    | inl q ↦ known.apart e (omega (arith, q, h_below)) (omega (arith, p, q, same))
    | inr q ↦ apart (p ∙ sym q)
  ]
]

-- a vertex at which two half-edges that follow one another stand is the one between them
vertex_between : (ts : List Triple) → All HasThree ts → (g h a : ℕ) → g < length (all_edges ts) → h ≡ next_half g → (at_end (all_edges ts) g a ≡ pos 0 → ⊥) →
    (at_end (all_edges ts) h a ≡ pos 0 → ⊥) → a ≡ finish (all_edges ts) g
vertex_between ts three g h a below next first second =
    let es = all_edges ts in
    let s = start es g in
    let y = finish es g in
    let z = finish es h in
    let joined : start es h ≡ y = ap (start es) next ∙ next_starts ts g below in
    let same_face : g / 3 ≡ h / 3 = omega (arith, next) in
    let begins = ap (λ v. same v a) joined in
    elim (cases_eq y a) as (λ _. a ≡ finish es g) [
      | inl e ↦ sym e
      | inr n ↦ elim (cases_eq s a) as (λ _. a ≡ finish es g) [
        | inr m ↦ absurd (first (omega (arith, ints, at_same_is s a, at_same_is y a, same_no y a n, same_no s a m)))
        | inl b ↦ elim (cases_eq z a) as (λ _. a ≡ finish es g) [
          | inr m ↦ absurd (second (omega (arith, ints, at_same_is (start es h) a, at_same_is z a, begins, same_no y a n, same_no z a m)))
          | inl c ↦ absurd (not_back ts three g h below same_face (joined, c ∙ sym b))
        ]
      ]
    ]

-- a minus of what is not 0
not_turned : (z : ℤ) → (neg_ℤ z ≡ pos 0 → ⊥) → z ≡ pos 0 → ⊥
not_turned z some e = some (ap neg_ℤ e)

-- what stands in the lists of two half-edges that follow one another is the vertex between
at_vertex : (P Q : List (ℕ × ℕ)) (ts : List Triple) → P ≡ all_edges ts → All HasThree ts → HasTwins P → (g h : ℕ) → g < length P → h < length P → h ≡ next_half g → (g ≡ h → ⊥) →
    (x : Origin) → InBoth P Q (HalfP g) (HalfP h) x → x ≡ PVertex (finish P g)
at_vertex P Q ts e three known g h g_below h_below next apart (PVertex a) both =
    ap PVertex (rw e (vertex_between ts three g h a (rw e at g_below) next (rw e at both.first) (rw e at both.second)))
at_vertex P Q ts e three known g h g_below h_below next apart (QVertex a) both = absurd (both.first refl)
at_vertex P Q ts e three known g h g_below h_below next apart (PEdge edge face) both =
    absurd (no_edge P known g h edge g_below h_below (omega (arith, next)) apart (not_turned (way P g edge) both.first) (not_turned (way P h edge) both.second))
at_vertex P Q ts e three known g h g_below h_below next apart (QEdge edge face) both = absurd (both.first refl)

-- an edge by one of its half-edges
lower_of : (es : List (ℕ × ℕ)) → HasTwins es → (h e : ℕ) → h < length es → e < twin es e → (way es h e ≡ pos 0 → ⊥) → e ≡ lower_half es h
lower_of es known h e below lower some = elim (half_is es h e some) as (λ _. e ≡ lower_half es h) [
  | inl p ↦ let t : twin es h ≡ twin es e = ap (twin es) p in omega (arith, p, t, lower)
  | inr p ↦
      let inside = named_inside es known e (omega (arith, p, below)) in
      let t : twin es h ≡ e = ap (twin es) p ∙ known.pairs e inside in omega (arith, p, t, lower)
]

-- a value where two are the same
same_where : (a b : ℕ) (z : ℤ) → (cond (a == b) z (pos 0) ≡ pos 0 → ⊥) → a ≡ b
same_where a b z some = elim (cases_eq a b) as (λ _. a ≡ b) [
  | inl e ↦ e
  | inr n ↦ absurd (some (ap (λ t. cond t z (pos 0)) (ne_eqb a b n)))
]

-- what stands in the list of a half-edge and of a pair is that edge with that face
at_edge : (p q : Side) → HasTwins (all_edges p.triples) → (h f g : ℕ) → h < length (all_edges p.triples) → (x : Origin) → NamesLower p q x →
    InBoth (all_edges p.triples) (all_edges q.triples) (HalfP h) (PairP f g) x → x ≡ PEdge (lower_half (all_edges p.triples) h) g
at_edge p q known h f g below (PVertex a) lower both = absurd (both.second refl)
at_edge p q known h f g below (QVertex a) lower both = absurd (both.first refl)
at_edge p q known h f g below (PEdge edge face) lower both =
    let P = all_edges p.triples in
    ap (λ e. PEdge e face) (lower_of P known h edge below lower (not_turned (way P h edge) both.first))
    ∙ ap (PEdge (lower_half P h)) (same_where face g (way_round P f edge) both.second)
at_edge p q known h f g below (QEdge edge face) lower both = absurd (both.first refl)

-- what stands in the lists of two pairs is an edge of both other faces
record CrossesBoth (p q : Side) (k g h : ℕ) (x : Origin) : Type 0 where
  edge : ℕ
  is : x ≡ QEdge edge k
  lower : edge < twin (all_edges q.triples) edge
  one : way_round (all_edges q.triples) g edge ≡ pos 0 → ⊥
  two : way_round (all_edges q.triples) h edge ≡ pos 0 → ⊥

none_either : (t : Bool) → cond t (neg_ℤ (pos 0)) (pos 0) ≡ pos 0
none_either true = refl
none_either false = refl

not_chosen : (t : Bool) (z : ℤ) → (cond t (neg_ℤ z) (pos 0) ≡ pos 0 → ⊥) → z ≡ pos 0 → ⊥
not_chosen t z some e = some (ap (λ w. cond t (neg_ℤ w) (pos 0)) e ∙ none_either t)

crosses_both : (p q : Side) (k l g h : ℕ) → (g ≡ h → ⊥) → (x : Origin) → NamesLower p q x →
    InBoth (all_edges p.triples) (all_edges q.triples) (PairP k g) (PairP l h) x → CrossesBoth p q k g h x
crosses_both p q k l g h apart (PVertex a) lower both = absurd (both.first refl)
crosses_both p q k l g h apart (QVertex a) lower both = absurd (both.first refl)
crosses_both p q k l g h apart (PEdge edge face) lower both =
    let P = all_edges p.triples in absurd (apart (sym (same_where face g (way_round P k edge) both.first) ∙ same_where face h (way_round P l edge) both.second))
crosses_both p q k l g h apart (QEdge edge face) lower both =
    let Q = all_edges q.triples in
    record {
      edge = edge;
      is = ap (QEdge edge) (same_where face k (neg_ℤ (way_round Q g edge)) both.first);
      lower = lower;
      one = not_chosen (face == k) (way_round Q g edge) both.first;
      two = not_chosen (face == l) (way_round Q h edge) both.second;
    }

-- a half-edge in one face whose twin lies in another, and their edge
record SharedEdge (es : List (ℕ × ℕ)) (g h e : ℕ) : Type 0 where
  half : ℕ
  below : half < length es
  here : half / 3 ≡ g
  there : twin es half / 3 ≡ h
  named : e ≡ lower_half es half

shared_edge : (es : List (ℕ × ℕ)) → HasTwins es → (g h e : ℕ) → 3 * g + 2 < length es → 3 * h + 2 < length es → (g ≡ h → ⊥) → e < twin es e →
    (way_round es g e ≡ pos 0 → ⊥) → (way_round es h e ≡ pos 0 → ⊥) → SharedEdge es g h e
shared_edge es known g h e g_below h_below apart lower a b = elim (face_is es g e a) as (λ _. SharedEdge es g h e) [
  | inl p ↦ elim (face_is es h e b) as (λ _. SharedEdge es g h e) [
    | inl q ↦ absurd (apart (p ∙ sym q))
    | inr q ↦ record { half = e; below = omega (arith, p, g_below); here = sym p; there = sym q; named = omega (arith, lower) }
  ]
  | inr p ↦ elim (face_is es h e b) as (λ _. SharedEdge es g h e) [
    | inl q ↦
        let inside : e < length es = omega (arith, q, h_below) in
        let back = known.pairs e inside in
        record { half = twin es e; below = (known.run_back e inside).within; here = sym p; there = ap (λ k. k / 3) back ∙ sym q; named = omega (arith, back, lower) }
    | inr q ↦ absurd (apart (p ∙ sym q))
  ]
]

-- the triple is a, b, c or that turned
abbrev pub IsRound : ℕ → ℕ → ℕ → Triple → Type 0
IsRound a b c t = ((a ≡ t.0) × (b ≡ t.1) × (c ≡ t.2)) ⊎ (((a ≡ t.1) × (b ≡ t.2) × (c ≡ t.0)) ⊎ ((a ≡ t.2) × (b ≡ t.0) × (c ≡ t.1)))

-- a half-edge and the next one go round their triple
round_at : (ts : List Triple) (h : ℕ) → h < length (all_edges ts) →
    IsRound (start (all_edges ts) h) (finish (all_edges ts) h) (finish (all_edges ts) (next_half h)) (get_or ts (h / 3) (0, 0, 0))
round_at [] h below = absurd (omega (arith, below))
round_at (t ∷ ts) zero below = inl (refl, refl, refl)
round_at (t ∷ ts) (suc zero) below = inr (inl (refl, refl, refl))
round_at (t ∷ ts) (suc (suc zero)) below = inr (inr (refl, refl, refl))
round_at (t ∷ ts) (suc (suc (suc h))) below =
    let next : next_half (suc (suc (suc h))) ≡ suc (suc (suc (next_half h))) = omega arith in
    let face : suc (suc (suc h)) / 3 ≡ suc (h / 3) = omega arith in
    rw (next, face) (round_at ts h (omega (arith, below)))

same_true : (t : Triple) (a b c : ℕ) → t.0 ≡ a → t.1 ≡ b → t.2 ≡ c → same_triple t (a, b, c) ≡ true
same_true t a b c p q r =
    let i = eq-eqb t.0 a p in
    let j = eq-eqb t.1 b q in
    let k = eq-eqb t.2 c r in cc

-- one of the three rotations
first_way : (t u : Triple) → t.0 ≡ u.0 → t.1 ≡ u.2 → t.2 ≡ u.1 → opposite t u ≡ true
first_way t u p q r =
    let a = same_triple t (u.0, u.2, u.1) in
    let b = same_triple t (u.2, u.1, u.0) in
    or_left (a || b) (same_triple t (u.1, u.0, u.2)) (or_left a b (same_true t u.0 u.2 u.1 p q r))

second_way : (t u : Triple) → t.0 ≡ u.2 → t.1 ≡ u.1 → t.2 ≡ u.0 → opposite t u ≡ true
second_way t u p q r =
    let a = same_triple t (u.0, u.2, u.1) in
    let b = same_triple t (u.2, u.1, u.0) in
    or_left (a || b) (same_triple t (u.1, u.0, u.2)) (or_right a b (same_true t u.2 u.1 u.0 p q r))

third_way : (t u : Triple) → t.0 ≡ u.1 → t.1 ≡ u.0 → t.2 ≡ u.2 → opposite t u ≡ true
third_way t u p q r =
    let a = same_triple t (u.0, u.2, u.1) in
    let b = same_triple t (u.2, u.1, u.0) in
    or_right (a || b) (same_triple t (u.1, u.0, u.2)) (same_true t u.1 u.0 u.2 p q r)

-- the same three vertices, the other way round
rounds_opposite : (a b c : ℕ) (t u : Triple) → IsRound a b c t → IsRound c b a u → opposite t u ≡ true
rounds_opposite a b c t u (inl p) (inl q) = second_way t u (sym p.0 ∙ q.2) (sym p.1 ∙ q.1) (sym p.2 ∙ q.0)
rounds_opposite a b c t u (inl p) (inr (inl q)) = first_way t u (sym p.0 ∙ q.2) (sym p.1 ∙ q.1) (sym p.2 ∙ q.0)
rounds_opposite a b c t u (inl p) (inr (inr q)) = third_way t u (sym p.0 ∙ q.2) (sym p.1 ∙ q.1) (sym p.2 ∙ q.0)
rounds_opposite a b c t u (inr (inl p)) (inl q) = first_way t u (sym p.2 ∙ q.0) (sym p.0 ∙ q.2) (sym p.1 ∙ q.1)
rounds_opposite a b c t u (inr (inl p)) (inr (inl q)) = third_way t u (sym p.2 ∙ q.0) (sym p.0 ∙ q.2) (sym p.1 ∙ q.1)
rounds_opposite a b c t u (inr (inl p)) (inr (inr q)) = second_way t u (sym p.2 ∙ q.0) (sym p.0 ∙ q.2) (sym p.1 ∙ q.1)
rounds_opposite a b c t u (inr (inr p)) (inl q) = third_way t u (sym p.1 ∙ q.1) (sym p.2 ∙ q.0) (sym p.0 ∙ q.2)
rounds_opposite a b c t u (inr (inr p)) (inr (inl q)) = second_way t u (sym p.1 ∙ q.1) (sym p.2 ∙ q.0) (sym p.0 ∙ q.2)
rounds_opposite a b c t u (inr (inr p)) (inr (inr q)) = first_way t u (sym p.1 ∙ q.1) (sym p.2 ∙ q.0) (sym p.0 ∙ q.2)

-- two half-edges of a face that follow one another, and whose twins lie in one face: the two triples are opposite
faces_opposite : (ts : List Triple) → All HasThree ts → HasTwins (all_edges ts) → (a b : ℕ) → a < length (all_edges ts) → b < length (all_edges ts) → b ≡ next_half a →
    twin (all_edges ts) a / 3 ≡ twin (all_edges ts) b / 3 → opposite (get_or ts (a / 3) (0, 0, 0)) (get_or ts (twin (all_edges ts) b / 3) (0, 0, 0)) ≡ true
faces_opposite ts three known a b a_below b_below next same =
    let es = all_edges ts in
    let s = twin es a in
    let t = twin es b in
    let back_a = known.run_back a a_below in
    let back_b = known.run_back b b_below in
    let joined : start es b ≡ finish es a = ap (start es) next ∙ next_starts ts a a_below in
    let apart : t ≡ s → ⊥ = λ e. (let f : b ≡ a = sym (known.pairs b b_below) ∙ ap (twin es) e ∙ known.pairs a a_below in omega (arith, next, f)) in
    let Goal : Type 0 = opposite (get_or ts (a / 3) (0, 0, 0)) (get_or ts (t / 3) (0, 0, 0)) ≡ true in
    elim (consecutive t s (sym same) apart) as (λ _. Goal) [
      | inl e ↦
          let one : IsRound (start es a) (finish es a) (finish es b) (get_or ts (a / 3) (0, 0, 0)) = rw next (round_at ts a a_below) in
          let last : finish es (next_half t) ≡ start es a = ap (finish es) (sym e) ∙ back_a.to in
          let two : IsRound (finish es b) (finish es a) (start es a) (get_or ts (t / 3) (0, 0, 0)) =
          rounded (start es t) (finish es t) (finish es (next_half t)) (finish es b) (finish es a) (start es a) (get_or ts (t / 3) (0, 0, 0)) back_b.from
          (back_b.to ∙ joined) last (round_at ts t back_b.within) in
          rounds_opposite (start es a) (finish es a) (finish es b) (get_or ts (a / 3) (0, 0, 0)) (get_or ts (t / 3) (0, 0, 0)) one two
      | inr e ↦
          let meets : finish es b ≡ start es a = sym back_b.from ∙ ap (start es) e ∙ next_starts ts s back_a.within ∙ back_a.to in
          absurd (not_back ts three a b a_below (omega (arith, next)) (joined, meets))
    ]
  where
    rounded : (x y z a b c : ℕ) (t : Triple) → x ≡ a → y ≡ b → z ≡ c → IsRound x y z t → IsRound a b c t
    rounded x y z a b c t p q r h = rw (p, q, r) at h

-- so where no two triples are opposite, two faces share one edge at most
one_shared : (ts : List Triple) → All HasThree ts → HasTwins (all_edges ts) → NoOpposite ts → (g h d e : ℕ) → g < length ts → h < length ts →
    SharedEdge (all_edges ts) g h d → SharedEdge (all_edges ts) g h e → d ≡ e
one_shared ts three known none g h d e g_below h_below s t =
    let es = all_edges ts in
    elim (cases_eq s.half t.half) as (λ _. d ≡ e) [
      | inl q ↦ s.named ∙ ap (lower_half es) q ∙ sym t.named
      | inr n ↦ elim (consecutive s.half t.half (s.here ∙ sym t.here) n) as (λ _. d ≡ e) [
        | inl q ↦ absurd (never s.half t.half s.below t.below q s.here s.there t.there)
        | inr q ↦ absurd (never t.half s.half t.below s.below q t.here t.there s.there)
      ]
    ]
  where
    never : (a b : ℕ) → a < length (all_edges ts) → b < length (all_edges ts) → b ≡ next_half a → a / 3 ≡ g → twin (all_edges ts) a / 3 ≡ h → twin (all_edges ts) b / 3 ≡ h → ⊥
    never a b a_below b_below next here there there' =
        let yes = faces_opposite ts three known a b a_below b_below next (there ∙ sym there') in
        let t = get_or ts (a / 3) (0, 0, 0) in
        let u = get_or ts (twin (all_edges ts) b / 3) (0, 0, 0) in
        both_ways (opposite t u) (none t u (Contains-get_or ts (a / 3) (0, 0, 0) (omega (arith, here, g_below)))
        (Contains-get_or ts (twin (all_edges ts) b / 3) (0, 0, 0) (omega (arith, there', h_below)))) yes

-- a list of a face of P
abbrev pub IsOfFaceP : (n f : ℕ) → ListName → Type 0
IsOfFaceP n f (HalfP h) = h / 3 ≡ f
IsOfFaceP n f (HalfQ h) = ⊥
IsOfFaceP n f (PairP k g) = (k ≡ f) × (g < n)
IsOfFaceP n f (PairQ g k) = ⊥

-- what stands in two lists of a face of P is known by them
pub same_origin : (p q : Side) → IsSide p → IsSide q → NoOpposite q.triples → (f : ℕ) → f < length p.triples → (one two : ListName) →
    IsOfFaceP (length q.triples) f one → IsOfFaceP (length q.triples) f two →
    (one ≡ two → ⊥) → (x y : Origin) → NamesLower p q x → NamesLower p q y → InBoth (all_edges p.triples) (all_edges q.triples) one two x →
    InBoth (all_edges p.triples) (all_edges q.triples) one two y → x ≡ y
same_origin p q p_known q_known none f below (HalfP g) (HalfP h) of_one of_two apart x y x_lower y_lower x_in y_in =
    let P = all_edges p.triples in
    let Q = all_edges q.triples in
    let known = side_twins p p_known in
    let three = p_known.accepted.mesh.three in
    let long = length-all_edges p.triples in
    let g_below : g < length P = omega (arith, below, of_one, long) in
    let h_below : h < length P = omega (arith, below, of_two, long) in
    let different : g ≡ h → ⊥ = λ e. apart (ap HalfP e) in
    elim (consecutive g h (of_one ∙ sym of_two) different) as (λ _. x ≡ y) [
      | inl e ↦ at_vertex P Q p.triples refl three known g h g_below h_below e different x x_in
          ∙ sym (at_vertex P Q p.triples refl three known g h g_below h_below e different y y_in)
      | inr e ↦
          let turned : h ≡ g → ⊥ = λ d. different (sym d) in
          at_vertex P Q p.triples refl three known h g h_below g_below e turned x (record { first = x_in.second; second = x_in.first })
          ∙ sym (at_vertex P Q p.triples refl three known h g h_below g_below e turned y (record { first = y_in.second; second = y_in.first }))
    ]
same_origin p q p_known q_known none f below (HalfP h) (PairP k g) of_one of_two apart x y x_lower y_lower x_in y_in =
    let known = side_twins p p_known in
    let h_below : h < length (all_edges p.triples) = omega (arith, below, of_one, length-all_edges p.triples) in
    at_edge p q known h k g h_below x x_lower x_in ∙ sym (at_edge p q known h k g h_below y y_lower y_in)
same_origin p q p_known q_known none f below (PairP k g) (HalfP h) of_one of_two apart x y x_lower y_lower x_in y_in =
    let known = side_twins p p_known in
    let h_below : h < length (all_edges p.triples) = omega (arith, below, of_two, length-all_edges p.triples) in
    at_edge p q known h k g h_below x x_lower (record { first = x_in.second; second = x_in.first })
    ∙ sym (at_edge p q known h k g h_below y y_lower (record { first = y_in.second; second = y_in.first }))
same_origin p q p_known q_known none f below (PairP k g) (PairP l h) of_one of_two apart x y x_lower y_lower x_in y_in =
    let Q = all_edges q.triples in
    let known = side_twins q q_known in
    let long = length-all_edges q.triples in
    let different : g ≡ h → ⊥ = λ e. apart (ap (λ i. PairP i g) (of_one.0 ∙ sym of_two.0) ∙ ap (PairP l) e) in
    let a = crosses_both p q k l g h different x x_lower x_in in
    let b = crosses_both p q k l g h different y y_lower y_in in
    let g_below : 3 * g + 2 < length Q = omega (arith, of_one.1, long) in
    let h_below : 3 * h + 2 < length Q = omega (arith, of_two.1, long) in
    let s = shared_edge Q known g h a.edge g_below h_below different a.lower a.one a.two in
    let t = shared_edge Q known g h b.edge g_below h_below different b.lower b.one b.two in
    a.is ∙ ap (λ e. QEdge e k) (one_shared q.triples q_known.accepted.mesh.three known none g h a.edge b.edge of_one.1 of_two.1 s t) ∙ sym b.is
same_origin p q p_known q_known none f below (HalfQ h) two of_one of_two apart x y x_lower y_lower x_in y_in = absurd of_one
same_origin p q p_known q_known none f below (PairQ g k) two of_one of_two apart x y x_lower y_lower x_in y_in = absurd of_one
same_origin p q p_known q_known none f below (HalfP g) (HalfQ h) of_one of_two apart x y x_lower y_lower x_in y_in = absurd of_two
same_origin p q p_known q_known none f below (HalfP g) (PairQ h k) of_one of_two apart x y x_lower y_lower x_in y_in = absurd of_two
same_origin p q p_known q_known none f below (PairP k g) (HalfQ h) of_one of_two apart x y x_lower y_lower x_in y_in = absurd of_two
same_origin p q p_known q_known none f below (PairP k g) (PairQ h l) of_one of_two apart x y x_lower y_lower x_in y_in = absurd of_two
