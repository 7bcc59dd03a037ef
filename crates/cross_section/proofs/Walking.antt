-- A walk over the starts of edges, and where its numbers come from.
use Rattle.std.proofs.Common.{◌≡◌, ◌<◌, ◌≤◌, ◌+◌, ◌==◌, ℕ, ℤ, pos, neg_ℤ, ◌+ℤ◌, List, [], ◌∷◌, length, get_or, map, set, refl, sym, ap, ◌∙◌, subst, inl, inr, arith}
use Rattle.std.specs.Prelude.{◌-ℤ◌, ◌*◌, nat_abs}
use Rattle.std.specs.List.{All}
use Rattle.std.specs.List.Sorted.{IsPermutation}
use Rattle.std.proofs.lemmas.Bool.{cases_Bool, cases_lt, eqb-true, eqb-false}
use Rattle.std.proofs.lemmas.Int.{ints}
use Rattle.std.proofs.lemmas.List.{get_or-map, get_or-set_other, get_or-set_same, get_or_default, length-map, same_lists}
use Rattle.std.proofs.lemmas.List.Elements.{All-map, Contains-get_or}
use Rattle.std.proofs.lemmas.List.Sorted.{Contains-permutation}
use Rattle.chain_terms.specs.Ranks.{start}
use Rattle.chain_terms.specs.Sums.{total}
use Rattle.chain_laws.specs.Sums.{size_within, total-neg, total_within}
use Rattle.mb_base.specs.declared.point.Corner.{Corner}
use Rattle.side_terms.specs.Corners.{AllFine, IsFineCorner, blank_corner, corner_at}
use Rattle.side_terms.specs.Sides.{edge_of}
use Rattle.shadow_kernels.specs.Counts.{count_of, shadow_of}
use Rattle.shadow_kernels.specs.ShadowLaws.{ShadowTest}
use Rattle.lean.proofs.Corners.{edge_fine}
use Rattle.outline_pair_terms.specs.Numbers.{FlatSide, FlatTests, LiftEdges, ends_of, flat_number, flat_tests}
use Rattle.outline_pair_terms.specs.Laws.{HasLoops}
use Rattle.outline_pair_terms.proofs.Conserved.{edges_conserve, edges_conserve_back}
use Rattle.cross_section.specs.Small.{IsSmall}
use Rattle.cross_section.specs.Walks.{ChangesAlong, IsStartBefore, IsWhole, winding_of}

module _ (number : ℕ → ℤ) (es : List (ℕ × ℕ)) where
  -- the starts of the first k edges have their numbers
  abbrev pub AreKnown : ℕ → List ℤ → Type 0
  AreKnown k numbers = (j : ℕ) → j < k → get_or numbers (start es j) (pos 0) ≡ number (start es j)

  -- one more gets its number
  pub known_more : (k : ℕ) (numbers : List ℤ) (z : ℤ) → AreKnown k numbers → start es k < length numbers → z ≡ number (start es k) → AreKnown (k + 1) (set numbers (start es k) z)
  known_more k numbers z known low is j less =
      let T = get_or (set numbers (start es k) z) (start es j) (pos 0) ≡ number (start es j) in
      elim (cases_Bool (start es j == start es k)) as (λ _. T) [
        | inl y ↦
            let same = eqb-true (start es j) (start es k) y in
            subst (λ v. get_or (set numbers (start es k) z) v (pos 0) ≡ number v) (sym same) (get_or-set_same numbers (start es k) z (pos 0) low ∙ is)
        | inr m ↦
            let other = eqb-false (start es j) (start es k) m in
            elim (cases_lt j k) as (λ _. T) [
              | inl l ↦ get_or-set_other numbers (start es k) (start es j) z (pos 0) other ∙ known j l
              | inr n ↦ let here : j ≡ k = omega (arith, n, less) in absurd (other (ap (start es) here))
            ]
      ]

  -- where one of these starts the number is known
  pub known_before : (k : ℕ) (numbers : List ℤ) (v : ℕ) (d : ℤ) → AreKnown k numbers → v < length numbers → IsStartBefore es k v → get_or numbers v d ≡ number v
  known_before k numbers v d known low is =
      get_or_default numbers v d (pos 0) low ∙ subst (λ u. get_or numbers u (pos 0) ≡ number u) (sym is.2) (known is.0 is.1)

-- where all starts of a list have their numbers, so have those of one with the same edges
pub known_moved : (number : ℕ → ℤ) (es fs : List (ℕ × ℕ)) → IsPermutation es fs →
    (numbers : List ℤ) → AreKnown number fs (length fs) numbers → AreKnown number es (length es) numbers
known_moved number es fs moved numbers known j low =
    let e = get_or es j (0, 0) in
    let found = Contains-permutation es fs e moved (Contains-get_or es j (0, 0) low) in
    let here : start fs found.0 ≡ start es j = ap (λ (d : ℕ × ℕ). d.0) (sym (get_or_default fs found.0 e (0, 0) found.1) ∙ found.2) in
    subst (λ v. get_or numbers v (pos 0) ≡ number v) here (known found.0 found.1)

-- where each corner starts an edge, all have their numbers in the end
pub all_known : (number : Corner → ℤ) (side : FlatSide) → IsWhole side → (numbers : List ℤ) → length numbers ≡ length side.corners →
    AreKnown (λ v. number (corner_at side.corners v)) side.edges (length side.edges) numbers → numbers ≡ map number side.corners
all_known number side whole numbers full known = same_lists numbers (map number side.corners) (full ∙ sym (length-map side.corners number)) (λ v d low.
    let s = whole.starts v (omega (arith, low, full)) in
    let k = s.1.0 in
    let here : start side.edges k ≡ v = ap (λ (e : ℕ × ℕ). e.0) (sym (get_or_default side.edges k (v, s.0) (0, 0) s.1.1) ∙ s.1.2) in
    get_or_default numbers v d (pos 0) low
    ∙ subst (λ u. get_or numbers u (pos 0) ≡ number (corner_at side.corners u)) here (known k s.1.1)
    ∙ sym (get_or-map number side.corners v blank_corner d (omega (arith, low, full))))

-- a winding number is no greater in size than there are edges
pub winding_within : (part : Corner → List Corner → ℤ) (edges : FlatSide) (c : Corner) →
    ((e : ℕ × ℕ) → IsSmall (part c (ends_of edges e))) → nat_abs (winding_of part edges c) ≤ length edges.edges
winding_within part edges c small =
    let w = total_within (λ e. part c (ends_of edges e)) 1 edges.edges
    (λ k d low. let s = small (get_or edges.edges k d) in record { low = omega (arith, ints, s.low); high = s.high }) in
    omega (arith, size_within (winding_of part edges c) (1 * length edges.edges) w)

-- so are those of a list of corners
pub windings_within : (part : Corner → List Corner → ℤ) (edges : FlatSide) (cs : List Corner) → AllFine cs → AllFine edges.corners →
    ((c : Corner) (e : List Corner) → length e ≡ 2 → IsFineCorner c → AllFine e → IsSmall (part c e)) → All (λ n. nat_abs n ≤ length edges.edges) (map (winding_of part edges) cs)
windings_within part edges cs fine others small =
    All-map (λ n. nat_abs n ≤ length edges.edges) (winding_of part edges) cs
    (λ k d low. winding_within part edges (get_or cs k d) (λ e. small (get_or cs k d) (ends_of edges e) refl (fine k d low) (edge_fine edges.corners others e.0 e.1)))

-- from one vertex to the next
pub next_number : (part : Corner → List Corner → ℤ) (change : List Corner → List Corner → ℤ) (vertices edges : FlatSide) →
    ChangesAlong part change vertices edges → (a b : ℕ) (way : List Corner) (here there : ℤ) →
    here ≡ winding_of part edges (corner_at vertices.corners a) → way ≡ edge_of vertices.corners a b →
    there ≡ total (λ e. change way (ends_of edges e)) edges.edges → (here +ℤ there) ≡ winding_of part edges (corner_at vertices.corners b)
next_number part change vertices edges changes a b way here there e w h =
    let along : there ≡ total (λ f. change (edge_of vertices.corners a b) (ends_of edges f)) edges.edges = h ∙ ap (λ u. total (λ f. change u (ends_of edges f)) edges.edges) w in
    (λ i. e i +ℤ along i) ∙ sym (changes.along a b)

-- the law of two edges, at corners of two sides
pub lift_edges : (vertex_edge edge_vertex edge_edge : ShadowTest) →
    ((a b c d : Corner) → AllFine (a ∷ b ∷ []) → AllFine (c ∷ d ∷ []) → count_of (edge_edge (a ∷ b ∷ []) (c ∷ d ∷ []))
    ≡ shadow_of (vertex_edge (b ∷ []) (c ∷ d ∷ [])) -ℤ shadow_of (vertex_edge (a ∷ []) (c ∷ d ∷ [])) +ℤ
    shadow_of (edge_vertex (a ∷ b ∷ []) (d ∷ [])) -ℤ shadow_of (edge_vertex (a ∷ b ∷ []) (c ∷ []))) →
    (ps qs : List Corner) → AllFine ps → AllFine qs → LiftEdges (flat_tests vertex_edge edge_vertex edge_edge) ps qs
lift_edges vertex_edge edge_vertex edge_edge law ps qs p_fine q_fine a b c d =
    law (corner_at ps a) (corner_at ps b) (corner_at qs c) (corner_at qs d) (edge_fine ps p_fine a b) (edge_fine qs q_fine c d)

-- so the winding numbers of P's vertices change by what edges of Q count
pub p_changes : (t : FlatTests) (p q : FlatSide) (loops : List (List ℕ)) → HasLoops q loops → LiftEdges t p.corners q.corners →
    ChangesAlong (λ c e. shadow_of (t.vertex_edge (c ∷ []) e)) (λ way e. count_of (t.edge_edge way e)) p q
p_changes t p q loops h lift = record { along = edges_conserve t p q loops h lift }

-- and those of Q's vertices by minus what edges of P count
pub q_changes : (t : FlatTests) (p q : FlatSide) (loops : List (List ℕ)) → HasLoops p loops → LiftEdges t p.corners q.corners →
    ChangesAlong (λ c e. neg_ℤ (shadow_of (t.edge_vertex e (c ∷ [])))) (λ way e. neg_ℤ (count_of (t.edge_edge e way))) q p
q_changes t p q loops h lift = record {
  along = λ c d.
      let parts : (v : ℕ) → winding_of (λ k e. neg_ℤ (shadow_of (t.edge_vertex e (k ∷ [])))) p (corner_at q.corners v)
      ≡ neg_ℤ (total (λ e. shadow_of (t.edge_vertex (ends_of p e) (corner_at q.corners v ∷ []))) p.edges) =
      λ v. total-neg (λ e. shadow_of (t.edge_vertex (ends_of p e) (corner_at q.corners v ∷ []))) p.edges in
      omega (arith, ints, edges_conserve_back t p q loops h lift c d, parts c, parts d, total-neg (λ e. flat_number t p q e (c, d)) p.edges);
}
