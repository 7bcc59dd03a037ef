-- An operation on two outlines: its loops are long, whatever the tests answer that keep the lift.
use Rattle.std.proofs.Common.{◌≡◌, ℕ, ◌<◌, ◌≤◌, Bool, false, ◌++◌, ℤ, pos, List, [], ◌∷◌, length, get_or, int_lt, refl, sym, ap, ◌∙◌, arith}
use Rattle.std.specs.Prelude.{◌-ℤ◌, ◌+ℤ◌, ◌*ℤ◌}
use Rattle.std.specs.List.{All, concat, zip}
use Rattle.std.specs.List.Sorted.{IsPermutation}
use Rattle.std.proofs.lemmas.List.{get_or-map, length-map, length-replicate}
use Rattle.std.proofs.lemmas.List.Elements.{All-append, All-map, All-weaker}
use Rattle.chain_terms.specs.Cycles.{cycles}
use Rattle.chain_terms.specs.Ranks.{start, finish}
use Rattle.chain_terms.specs.Sums.{upto}
use Rattle.chain_laws.proofs.Places.{length-up_from}
use Rattle.mb_base.specs.declared.op.Op.{Op}
use Rattle.side_terms.specs.Corners.{blank_corner, corner_at}
use Rattle.side_terms.specs.Sides.{corner_of}
use Rattle.face_loops.specs.Segments.{IsOneToOne}
use Rattle.outline_pair_terms.specs.Balance.{AreConserved}
use Rattle.outline_pair_terms.specs.Laws.{IsOfBoth}
use Rattle.outline_pair_terms.specs.Lists.{FlatCopy, FlatPrescription, FlatOrigin, OfBoth, OfP, OfQ, constant, flat_copies, flat_key, flat_lists, flat_segments, flat_standing, no_flat_copy, hits_prescribed, p_prescribed, q_prescribed}
use Rattle.outline_pair_terms.specs.declared.FlatHit.{FlatHit}
use Rattle.outline_pair_terms.specs.Numbers.{FlatNumbers, FlatSide, FlatTests, LiftEdges, edge_at, flat_number, flat_numbers, flat_winding, flat_winding_back, p_flat, q_flat}
use Rattle.outline_terms.specs.Outlines.{IsOutline, Outline, after, before, marks_between, outline_edges, p_marks, q_marks}
use Rattle.outline_pair_terms.proofs.Conserved.{edges_conserve, edges_conserve_back}
use Rattle.outline_pair_terms.proofs.Even.{are_even}
use Rattle.outline_pair_terms.proofs.Exchange.{all_upto}
use Rattle.outline_pair_terms.proofs.Long.{outline_loops_long, outline_loops_once}
use Rattle.outline_terms.proofs.Once.{edge_ends, outline_once}
use Rattle.outline_pair_terms.proofs.EachOnce.{each_once}
use Rattle.outline_pair_terms.proofs.Once.{stand_once, starts_once}
use Rattle.outline_pair_terms.proofs.Prescribed.{IsHit, all_copies, all_hits, copy_from, hits_of_p, hits_of_q}

-- as many corners as points
zip_length : {X Y : Type 0} (xs : List X) (ys : List Y) → length ys ≡ length xs → length (zip xs ys) ≡ length xs
zip_length [] ys e = refl
zip_length (x ∷ xs) [] e = absurd (omega (arith, e))
zip_length (x ∷ xs) (y ∷ ys) e = omega (arith, zip_length xs ys (omega (arith, e)))

pub p_corners : (op : Op) (o : Outline) → length (p_flat op o).corners ≡ length o.points
p_corners op o =
    length-map (zip o.points (p_marks op o)) (λ m. corner_of m.0 m.1)
    ∙ zip_length o.points (p_marks op o)
    (length-map (upto (length o.points)) (λ v. marks_between op (get_or o.points (before (outline_edges o) v) []) (get_or o.points (after (outline_edges o) v) []))
    ∙ length-up_from 0 (length o.points))

pub q_corners : (o : Outline) → length (q_flat o).corners ≡ length o.points
q_corners o = length-map (zip o.points (q_marks o)) (λ m. corner_of m.0 m.1) ∙ zip_length o.points (q_marks o) (length-replicate (length o.points) (false ∷ false ∷ false ∷ []))

module _ (t : FlatTests) (settle : ℤ → ℤ) (op : Op) (p q : Outline) (p_is : IsOutline p) (q_is : IsOutline q) (lift : LiftEdges t (p_flat op p).corners (q_flat q).corners) where
  abbrev ps : FlatSide
  ps = p_flat op p

  abbrev qs : FlatSide
  qs = q_flat q

  abbrev n : FlatNumbers
  n = flat_numbers t settle ps qs

  -- winding numbers by vertices
  w02_at : (v : ℕ) → v < length p.points → get_or n.w02 v (pos 0) ≡ flat_winding t (corner_at ps.corners v) qs
  w02_at v low = get_or-map (λ c. flat_winding t c qs) ps.corners v blank_corner (pos 0) (omega (arith, low, p_corners op p))

  w20_at : (v : ℕ) → v < length q.points → get_or n.w20 v (pos 0) ≡ flat_winding_back t ps (corner_at qs.corners v)
  w20_at v low = get_or-map (λ c. flat_winding_back t ps c) qs.corners v blank_corner (pos 0) (omega (arith, low, q_corners q))

  -- the numbers that are handed out are conserved
  pub conserved : AreConserved (outline_edges p) (outline_edges q) n
  conserved = record {
    p_edges = λ k low.
        let e = edge_ends p p_is k low in
        let es = outline_edges p in
        w02_at (finish es k) e.1 ∙ edges_conserve t ps qs q.loops (record { edges = refl }) lift (start es k) (finish es k)
        ∙ (λ i. sym (w02_at (start es k) e.0) i +ℤ sym (hits_of_p t settle ps qs k low) i);
    q_edges = λ k low.
        let e = edge_ends q q_is k low in
        let fs = outline_edges q in
        w20_at (finish fs k) e.1 ∙ edges_conserve_back t ps qs p.loops (record { edges = refl }) lift (start fs k) (finish fs k)
        ∙ (λ i. sym (w20_at (start fs k) e.0) i -ℤ sym (hits_of_q t settle ps qs k low) i);
  }

  abbrev cs : List FlatCopy
  cs = flat_copies op p q n

  -- what holds of a copy of each vertex and hit
  of_all : (P : FlatCopy → Type 0) →
      ((v : ℕ) → v < length p.points → (z : ℤ) (at : List ℤ) → z ≡ constant op 0 +ℤ constant op 2 *ℤ get_or n.w02 v (pos 0) →
      P (copy_from (record { origin = OfP v; number = z; point = at })))
      → ((v : ℕ) → v < length q.points → (z : ℤ) (at : List ℤ) → z ≡ constant op 1 +ℤ constant op 2 *ℤ get_or n.w20 v (pos 0) →
      P (copy_from (record { origin = OfQ v; number = z; point = at })))
      → ((h : FlatHit) → IsHit t settle ps qs h → P (copy_from (record { origin = OfBoth h.p_edge h.q_edge; number = constant op 2 *ℤ h.number; point = h.at }))) → All P cs
  of_all P on_p on_q on_hit =
      let R : FlatPrescription → Type 0 = λ i. P (copy_from i) in
      all_copies P (p_prescribed op p n ++ (q_prescribed op q n ++ hits_prescribed op n))
      (All-append R (p_prescribed op p n) (q_prescribed op q n ++ hits_prescribed op n)
      (All-map R (λ v. record { origin = OfP v; number = constant op 0 +ℤ constant op 2 *ℤ get_or n.w02 v (pos 0); point = get_or p.points v [] }) (upto (length p.points))
      (all_upto (λ v. R (record { origin = OfP v; number = constant op 0 +ℤ constant op 2 *ℤ get_or n.w02 v (pos 0); point = get_or p.points v [] }))
      (length p.points) (λ v low. on_p v low (constant op 0 +ℤ constant op 2 *ℤ get_or n.w02 v (pos 0)) (get_or p.points v []) refl)))
      (All-append R (q_prescribed op q n) (hits_prescribed op n)
      (All-map R (λ v. record { origin = OfQ v; number = constant op 1 +ℤ constant op 2 *ℤ get_or n.w20 v (pos 0); point = get_or q.points v [] }) (upto (length q.points))
      (all_upto (λ v. R (record { origin = OfQ v; number = constant op 1 +ℤ constant op 2 *ℤ get_or n.w20 v (pos 0); point = get_or q.points v [] }))
      (length q.points) (λ v low. on_q v low (constant op 1 +ℤ constant op 2 *ℤ get_or n.w20 v (pos 0)) (get_or q.points v []) refl)))
      (All-map R (λ (h : FlatHit). record { origin = OfBoth h.p_edge h.q_edge; number = constant op 2 *ℤ h.number; point = h.at }) n.hits
      (All-weaker (IsHit t settle ps qs) (λ h. R (record { origin = OfBoth h.p_edge h.q_edge; number = constant op 2 *ℤ h.number; point = h.at }))
      on_hit n.hits (all_hits t settle ps qs)))))

  known : All (λ c. IsOfBoth (outline_edges p) (outline_edges q) (length p.points) (length q.points) c.origin) cs
  known = of_all (λ c. IsOfBoth (outline_edges p) (outline_edges q) (length p.points) (length q.points) c.origin)
      (λ v low z at e. low) (λ v low z at e. low) (λ h is. (is.on_p, is.on_q))

  -- the number of what a copy is a copy of
  number_of : FlatOrigin → ℤ
  number_of (OfP v) = constant op 0 +ℤ constant op 2 *ℤ get_or n.w02 v (pos 0)
  number_of (OfQ v) = constant op 1 +ℤ constant op 2 *ℤ get_or n.w20 v (pos 0)
  number_of (OfBoth i j) = constant op 2 *ℤ flat_number t ps qs (edge_at ps i) (edge_at qs j)

  sign_of : FlatOrigin → Bool
  sign_of o = int_lt (number_of o) (pos 0)

  signed : All (λ c. c.negative ≡ sign_of c.origin) cs
  unfolding sign_of number_of
  signed = of_all (λ c. c.negative ≡ sign_of c.origin) (λ v low z at e. ap (λ i. int_lt i (pos 0)) e)
      (λ v low z at e. ap (λ i. int_lt i (pos 0)) e) (λ h is. ap (λ i. int_lt (constant op 2 *ℤ i) (pos 0)) is.number)

  pub loops_whole : All (λ loop. 3 ≤ length loop) (cycles (flat_segments p q cs))
  loops_whole = outline_loops_long p q cs p_is q_is known (record { sign = sign_of; signed = signed }) (are_even op p q n conserved (edge_ends p p_is) (edge_ends q q_is))

  pub once_whole : IsOneToOne (flat_segments p q cs)
  once_whole = outline_loops_once p q cs p_is q_is known (are_even op p q n conserved (edge_ends p p_is) (edge_ends q q_is))

  pub each_whole : IsPermutation (upto (length cs)) (concat (cycles (flat_segments p q cs)))
  each_whole =
      let es = outline_edges p in
      let fs = outline_edges q in
      let one = outline_once p p_is in
      let two = outline_once q q_is in
      each_once (flat_standing es fs cs) (flat_key p q cs) (length cs) (flat_lists es fs)
      (are_even op p q n conserved (edge_ends p p_is) (edge_ends q q_is)) (stand_once es fs (length p.points) (length q.points) one two cs known)
      (λ v low. let c = get_or cs v no_flat_copy in starts_once es fs (length p.points) (length q.points) one two c.negative c.origin (known v no_flat_copy low))
