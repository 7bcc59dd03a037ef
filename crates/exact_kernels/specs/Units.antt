-- Of the five boundary pairs of an edge and a face none or exactly two have a count under the exact rule, so every crossing number is -1, 0 or 1.
use Rattle.std.specs.Prelude.{◌≡◌, ◌≢◌, ◌+◌, ◌≤◌, ◌⊎◌, ℤ, pos, negsuc, nat_abs, neg_ℤ, ◌≤ℤ◌, Option, List, [], ◌∷◌, map}
use Rattle.std.specs.List.{sum_by}
use Rattle.std.proofs.Common.{arith, refl, sym, ap, inl, inr, ◌∙◌}
use Rattle.std.proofs.lemmas.Int.{ints}
use Rattle.std.proofs.lemmas.List.Sums.{sum_by-cons}
use Rattle.chain_terms.specs.Sums.{total}
use Rattle.chain_laws.specs.Sums.{size_within}
use Rattle.chain_laws.specs.Signs.{weight, zero_or_not, weight_of_three}
use Rattle.mb_base.specs.declared.point.Corner.{Corner}
use Rattle.side_terms.specs.Corners.{blank_corner, IsFineCorner, AllFine}
use Rattle.shadow_kernels.specs.declared.Edge.TheVariants.{OfP, OfQ}
use Rattle.shadow_kernels.specs.declared.Meet.{Meet}
use Rattle.shadow_kernels.specs.Spots.{Between}
use Rattle.shadow_kernels.specs.Counts.{count_of, shadow_of, turned}
use Rattle.shadow_kernels.specs.ShadowLaws.{ShadowTest}
use Rattle.shadow_kernels.specs.Shadows.{boundary11, boundary02, boundary20, meet02, meet20, meet11, vertex_face, face_vertex, edge_edge}
use Rattle.shadow_kernels.specs.Sizes.{IsSized, sized_bounds, turned_count}
use Rattle.shadow_kernels.specs.Entries.{each_map, entry, whole_is, IsBalanced, balanced_by, balanced_size}
use Rattle.shadow_kernels.specs.Edges.{rim}
use Rattle.shadow_kernels.specs.Hulls.{StaysBetween}
use Rattle.shadow_kernels.specs.Decided.{IsDecided}
use Rattle.shadow_kernels.specs.Lifted.{lifted_is}
use Rattle.edge_face.specs.Crossings.{edge_number, mirror}
use Rattle.edge_face.specs.Boundaries.{AreMet, signed_pairs, number_signed, pairs_decided, pairs_whole, rule_edge_face, rule_face_edge}
use Rattle.plane_laws.specs.Meetings.{IsMeeting}
use Rattle.plane_laws.specs.Excluded.{Inside, no_edge_meets_three, no_three_meet_edge, both_inside, none_met_inside, none_meets_inside}
use Rattle.exact_kernels.specs.Exact.{exact, exact_edges, exact_face}
use Rattle.exact_kernels.specs.Placing.{of_p, of_q, exact_edges_meet, exact_vertex_inside, exact_face_inside}
use Rattle.exact_kernels.specs.ExactRule.{exact_rule}

-- a sized answer has a count of size 1 at most
size_one : (m : Option Meet) → IsSized m → nat_abs (count_of m) ≤ 1
size_one m h = let b = sized_bounds m h in size_within (count_of m) 1 (record { low = omega (arith, ints, b.0); high = omega (arith, ints, b.1) })

-- nothing has no size
size_none : (c : ℤ) → c ≡ pos 0 → nat_abs c ≡ 0
size_none c e = ap nat_abs e

-- a start, an end and three edges with counts: not both ends and an edge, and not all three edges
pub record AreExcluded (start end first second third : ℤ) : Type 0 where
  pub both_first : start ≢ pos 0 → end ≢ pos 0 → first ≢ pos 0 → ⊥
  pub both_second : start ≢ pos 0 → end ≢ pos 0 → second ≢ pos 0 → ⊥
  pub both_third : start ≢ pos 0 → end ≢ pos 0 → third ≢ pos 0 → ⊥
  pub edges : first ≢ pos 0 → second ≢ pos 0 → third ≢ pos 0 → ⊥

-- so at most three have a count
few : (a b c d e : ℤ) → nat_abs a ≤ 1 → nat_abs b ≤ 1 → nat_abs c ≤ 1 → nat_abs d ≤ 1 → nat_abs e ≤ 1 → AreExcluded a b c d e →
    nat_abs a + (nat_abs b + (nat_abs c + (nat_abs d + nat_abs e))) ≤ 3
few a b c d e ha hb hc hd he x = by (zero_or_not a) (zero_or_not b) where
  two : nat_abs c + (nat_abs d + nat_abs e) ≤ 2
  two = three (zero_or_not c) (zero_or_not d) (zero_or_not e) where
    three : (c ≡ pos 0) ⊎ (c ≢ pos 0) → (d ≡ pos 0) ⊎ (d ≢ pos 0) → (e ≡ pos 0) ⊎ (e ≢ pos 0) → nat_abs c + (nat_abs d + nat_abs e) ≤ 2
    three (inl z) y w = let k = size_none c z in omega (arith, k, hd, he)
    three (inr n) (inl z) w = let k = size_none d z in omega (arith, k, hc, he)
    three (inr n) (inr l) (inl z) = let k = size_none e z in omega (arith, k, hc, hd)
    three (inr n) (inr l) (inr m) = absurd (x.edges n l m)

  none : (z : ℤ) → (z ≢ pos 0 → ⊥) → nat_abs z ≡ 0
  none z f = elim (zero_or_not z) as (λ _. nat_abs z ≡ 0) [
    | inl y ↦ size_none z y
    | inr n ↦ absurd (f n)
  ]

  by : (a ≡ pos 0) ⊎ (a ≢ pos 0) → (b ≡ pos 0) ⊎ (b ≢ pos 0) → nat_abs a + (nat_abs b + (nat_abs c + (nat_abs d + nat_abs e))) ≤ 3
  by (inl z) y = let k = size_none a z in let t = two in omega (arith, k, hb, t)
  by (inr n) (inl z) = let k = size_none b z in let t = two in omega (arith, k, ha, t)
  by (inr n) (inr l) = let p = none c (x.both_first n l) in let q = none d (x.both_second n l) in let r = none e (x.both_third n l) in omega (arith, p, q, r, ha, hb)

-- the pairs of an edge and a face are balanced where their counts are so excluded
module _ {P Q : List Corner → List Corner → List Corner} {ends edges one other : ShadowTest} (h : AreMet P Q ends edges one other) (a b u v t : Corner)
    (fe : AllFine (a ∷ b ∷ [])) (ff : AllFine (u ∷ v ∷ t ∷ []))
    (x : AreExcluded (count_of (ends (a ∷ []) (u ∷ v ∷ t ∷ []))) (count_of (ends (b ∷ []) (u ∷ v ∷ t ∷ []))) (count_of (edges (a ∷ b ∷ []) (u ∷ v ∷ [])))
    (count_of (edges (a ∷ b ∷ []) (v ∷ t ∷ []))) (count_of (edges (a ∷ b ∷ []) (t ∷ u ∷ [])))) where
  -- their counts are
  pub pairs_balanced : IsBalanced (signed_pairs ends edges a b u v t)
  pairs_balanced =
      let ms = signed_pairs ends edges a b u v t in
      let e = a ∷ b ∷ [] in
      let f = u ∷ v ∷ t ∷ [] in
      let sized = each_map (IsDecided 2 (P e f) (Q e f)) IsSized (λ m d. d.sized) ms (pairs_decided h a b u v t fe ff) in
      let n : (m : Option Meet) → count_of (turned m) ≢ pos 0 → count_of m ≢ pos 0 = λ m some z. some (turned_count m ∙ ap neg_ℤ z) in
      let start = ends (a ∷ []) f in
      let first = edges e (u ∷ v ∷ []) in
      let second = edges e (v ∷ t ∷ []) in
      let third = edges e (t ∷ u ∷ []) in
      let size = few (count_of (turned start)) (count_of (ends (b ∷ []) f)) (count_of (turned first)) (count_of (turned second)) (count_of (turned third))
      (size_one (turned start) sized.0) (size_one (ends (b ∷ []) f) sized.1.0) (size_one (turned first) sized.1.1.0) (size_one (turned second) sized.1.1.1.0)
      (size_one (turned third) sized.1.1.1.1.0)
      (record {
        both_first = λ s k g. x.both_first (n start s) k (n first g);
        both_second = λ s k g. x.both_second (n start s) k (n second g);
        both_third = λ s k g. x.both_third (n start s) k (n third g);
        edges = λ g k l. x.edges (n first g) (n second k) (n third l);
      }) in
      balanced_by ms (map count_of ms) sized refl (pairs_whole h a b u v t fe ff)
      (by (count_of (turned start)) (count_of (ends (b ∷ []) f)) (count_of (turned first)) (count_of (turned second)) (count_of (turned third)) size)
    where
      by : (c1 c2 c3 c4 c5 : ℤ) → nat_abs c1 + (nat_abs c2 + (nat_abs c3 + (nat_abs c4 + nat_abs c5))) ≤ 3 → sum_by nat_abs (c1 ∷ c2 ∷ c3 ∷ c4 ∷ c5 ∷ []) ≤ 3
      by c1 c2 c3 c4 c5 k =
          omega (
            arith,
            k,
            sum_by-cons nat_abs c1 (c2 ∷ c3 ∷ c4 ∷ c5 ∷ []),
            sum_by-cons nat_abs c2 (c3 ∷ c4 ∷ c5 ∷ []),
            sum_by-cons nat_abs c3 (c4 ∷ c5 ∷ []),
            sum_by-cons nat_abs c4 (c5 ∷ []),
            sum_by-cons nat_abs c5 [],
          )

  -- so none or exactly two of the counts are not 0
  pub none_or_two : (weight (map entry (signed_pairs ends edges a b u v t)) ≡ 0) ⊎ (weight (map entry (signed_pairs ends edges a b u v t)) ≡ 2)
  none_or_two = let k = pairs_balanced in weight_of_three (map entry (signed_pairs ends edges a b u v t)) (sym (whole_is (signed_pairs ends edges a b u v t)) ∙ k.whole) k.few

  -- and the number is -1, 0 or 1
  pub unit_number : (negsuc 0 ≤ℤ edge_number ends edges a b u v t) × (edge_number ends edges a b u v t ≤ℤ pos 1)
  unit_number =
      let k = balanced_size (signed_pairs ends edges a b u v t) pairs_balanced in
      (omega (arith, ints, number_signed ends edges a b u v t, k.0), omega (arith, ints, number_signed ends edges a b u v t, k.1))

-- under the exact rule
module _ (w : Between) where
  -- an answer's count is the sum of the shadows below
  edges_some : (a b c d : Corner) → count_of (meet11 exact w a b c d) ≢ pos 0 → total shadow_of (boundary11 exact w a b c d) ≢ pos 0
  unfolding meet11
  edges_some a b c d some z = some (lifted_is w (λ s. exact_edges a b c d) (boundary11 exact w a b c d) ∙ z)

  -- a count of a vertex and a face is the sum of the boundary pairs
  vertex_some : (p u v t : Corner) → count_of (meet02 exact w p u v t) ≢ pos 0 → total shadow_of (rim OfQ exact w p u v t) ≢ pos 0
  unfolding meet02
  vertex_some p u v t some z = some (lifted_is w (λ s. exact_face OfQ p u v t) (boundary02 exact w p u v t) ∙ z)

  -- and that of a face and a vertex
  face_some : (u v t q : Corner) → count_of (meet20 exact w u v t q) ≢ pos 0 → total shadow_of (rim OfP exact w q u v t) ≢ pos 0
  unfolding meet20
  face_some u v t q some z = some (lifted_is w (λ s. exact_face OfP q u v t) (boundary20 exact w u v t q) ∙ z)

  -- an edge of P and a face of Q
  pub edge_face_excluded : (a b u v t : Corner) → IsFineCorner a → IsFineCorner b → IsFineCorner u → IsFineCorner v → IsFineCorner t →
      AreExcluded (count_of (meet02 exact w a u v t)) (count_of (meet02 exact w b u v t)) (count_of (meet11 exact w a b u v)) (count_of (meet11 exact w a b v t))
      (count_of (meet11 exact w a b t u))
  edge_face_excluded a b u v t ha hb hu hv ht =
      let in_face : (p : Corner) → count_of (meet02 exact w p u v t) ≢ pos 0 → Inside (of_q u) (of_q v) (of_q t) (of_p p) =
      λ p n. exact_vertex_inside w p u v t hu hv ht (vertex_some p u v t n) in
      let meets : (c d : Corner) → IsFineCorner c → IsFineCorner d → count_of (meet11 exact w a b c d) ≢ pos 0 → IsMeeting (of_p a) (of_p b) (of_q c) (of_q d) =
      λ c d hc hd n. exact_edges_meet w a b c d ha hb hc hd (edges_some a b c d n) in
      let both : (h : Inside (of_q u) (of_q v) (of_q t) (of_p a)) (k : Inside (of_q u) (of_q v) (of_q t) (of_p b)) → h.side ≡ k.side =
      both_inside (of_q u) (of_q v) (of_q t) (of_p a) (of_p b) in
      record {
        both_first = λ m n e.
            let h = in_face a m in
            let k = in_face b n in
            none_met_inside (of_p a) (of_p b) (of_q u) (of_q v) h.side k.side (both h k) h.first k.first (meets u v hu hv e);
        both_second = λ m n e.
            let h = in_face a m in
            let k = in_face b n in
            none_met_inside (of_p a) (of_p b) (of_q v) (of_q t) h.side k.side (both h k) h.second k.second (meets v t hv ht e);
        both_third = λ m n e.
            let h = in_face a m in
            let k = in_face b n in
            none_met_inside (of_p a) (of_p b) (of_q t) (of_q u) h.side k.side (both h k) h.third k.third (meets t u ht hu e);
        edges = λ e f g. no_edge_meets_three (of_p a) (of_p b) (of_q u) (of_q v) (of_q t) (meets u v hu hv e) (meets v t hv ht f) (meets t u ht hu g);
      }

  -- and a face of P and an edge of Q
  pub face_edge_excluded : (u v t c d : Corner) → IsFineCorner u → IsFineCorner v → IsFineCorner t → IsFineCorner c → IsFineCorner d →
      AreExcluded (count_of (meet20 exact w u v t c)) (count_of (meet20 exact w u v t d)) (count_of (meet11 exact w u v c d)) (count_of (meet11 exact w v t c d))
      (count_of (meet11 exact w t u c d))
  face_edge_excluded u v t c d hu hv ht hc hd =
      let in_face : (q : Corner) → count_of (meet20 exact w u v t q) ≢ pos 0 → Inside (of_p u) (of_p v) (of_p t) (of_q q) =
      λ q n. exact_face_inside w u v t q hu hv ht (face_some u v t q n) in
      let meets : (a b : Corner) → IsFineCorner a → IsFineCorner b → count_of (meet11 exact w a b c d) ≢ pos 0 → IsMeeting (of_p a) (of_p b) (of_q c) (of_q d) =
      λ a b ha hb n. exact_edges_meet w a b c d ha hb hc hd (edges_some a b c d n) in
      let both : (h : Inside (of_p u) (of_p v) (of_p t) (of_q c)) (k : Inside (of_p u) (of_p v) (of_p t) (of_q d)) → h.side ≡ k.side =
      both_inside (of_p u) (of_p v) (of_p t) (of_q c) (of_q d) in
      record {
        both_first = λ m n e.
            let h = in_face c m in
            let k = in_face d n in
            none_meets_inside (of_p u) (of_p v) (of_q c) (of_q d) h.side k.side (both h k) h.first k.first (meets u v hu hv e);
        both_second = λ m n e.
            let h = in_face c m in
            let k = in_face d n in
            none_meets_inside (of_p v) (of_p t) (of_q c) (of_q d) h.side k.side (both h k) h.second k.second (meets v t hv ht e);
        both_third = λ m n e.
            let h = in_face c m in
            let k = in_face d n in
            none_meets_inside (of_p t) (of_p u) (of_q c) (of_q d) h.side k.side (both h k) h.third k.third (meets t u ht hu e);
        edges = λ e f g. no_three_meet_edge (of_p u) (of_p v) (of_p t) (of_q c) (of_q d) (meets u v hu hv e) (meets v t hv ht f) (meets t u ht hu g);
      }

  -- so every crossing number is -1, 0 or 1
  module _ (stays : StaysBetween w) where
    pub unit_number_12 : (a b u v t : Corner) → AllFine (a ∷ b ∷ []) → AllFine (u ∷ v ∷ t ∷ []) →
        (negsuc 0 ≤ℤ edge_number (vertex_face exact w) (edge_edge exact w) a b u v t) × (edge_number (vertex_face exact w) (edge_edge exact w) a b u v t ≤ℤ pos 1)
    unit_number_12 a b u v t fe ff =
        unit_number (rule_edge_face (exact_rule w stays)) a b u v t fe ff
        (edge_face_excluded a b u v t (fe 0 blank_corner (omega arith)) (fe 1 blank_corner (omega arith)) (ff 0 blank_corner (omega arith)) (ff 1 blank_corner (omega arith))
        (ff 2 blank_corner (omega arith)))

    pub unit_number_21 : (u v t c d : Corner) → AllFine (u ∷ v ∷ t ∷ []) → AllFine (c ∷ d ∷ []) →
        (negsuc 0 ≤ℤ edge_number (mirror (face_vertex exact w)) (mirror (edge_edge exact w)) c d u v t) ×
        (edge_number (mirror (face_vertex exact w)) (mirror (edge_edge exact w)) c d u v t ≤ℤ pos 1)
    unit_number_21 u v t c d ff fe =
        unit_number (rule_face_edge (exact_rule w stays)) c d u v t fe ff
        (face_edge_excluded u v t c d (ff 0 blank_corner (omega arith)) (ff 1 blank_corner (omega arith)) (ff 2 blank_corner (omega arith)) (fe 0 blank_corner (omega arith))
        (fe 1 blank_corner (omega arith)))
