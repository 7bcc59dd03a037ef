-- The laws of the crossings of an edge and a face, for an edge of P and for one of Q alike.
use Rattle.std.specs.Prelude.{◌≡◌, ◌≢◌, ℕ, ◌<◌, ℤ, pos, negsuc, neg_ℤ, ◌≤ℤ◌, Bool, true, false, None, IfSome, List, [], ◌∷◌, length, swap}
use Rattle.std.proofs.Common.{arith, refl, sym, ap, subst, ◌∙◌}
use Rattle.std.proofs.lemmas.Int.{ints}
use Rattle.mb_base.specs.declared.point.Corner.{Corner}
use Rattle.side_terms.specs.Corners.{corner_at, AllFine, AllWhole}
use Rattle.side_terms.specs.Boxes.{AreApart, IsPointIn}
use Rattle.shadow_kernels.specs.declared.Spot.{Spot}
use Rattle.shadow_kernels.specs.Spots.{Between}
use Rattle.shadow_kernels.specs.Counts.{first_spot}
use Rattle.shadow_kernels.specs.ShadowLaws.{IsInHull, ShadowTest}
use Rattle.shadow_kernels.specs.Shadows.{edge_edge, vertex_face, face_vertex}
use Rattle.shadow_kernels.specs.Sizes.{IsSized, any_none, any_holds, any_number}
use Rattle.shadow_kernels.specs.Entries.{each_map, five_size}
use Rattle.shadow_kernels.specs.Rules.{Rule}
use Rattle.shadow_kernels.specs.Lawful.{IsRule}
use Rattle.shadow_kernels.specs.Decided.{IsDecided, apart_none, first_hull}
use Rattle.edge_face.specs.declared.Cross.{Cross}
use Rattle.edge_face.specs.Crossings.{Settle, number_of, mirror, edge_pairs, edge_number, p_point, q_point, crossed, crossing, edge_face_crossing, face_edge_crossing}
use Rattle.edge_face.specs.CrossingLaws.{CrossingLaws, IsSettling}
use Rattle.edge_face.specs.Boundaries.{AreMet, rule_edge_face, rule_face_edge, signed_pairs, number_signed, spots_signed, pairs_decided, pairs_whole, number_turned}
use Rattle.edge_face.specs.Settled.{p_point_inside, q_point_inside}

-- there is no answer at number 0
pub crossed_none : (n : ℤ) (at : List ℤ) → n ≡ pos 0 → crossed n at ≡ None
unfolding crossed
crossed_none n at e = any_none {X = Cross} n (record { number = n; at = at }) e

-- what holds at every number that is not 0 holds of the answer
crossed_holds : (P : Cross → Type 0) (n : ℤ) (at : List ℤ) → (n ≢ pos 0 → P (record { number = n; at = at })) → IfSome (crossed n at) P
unfolding crossed
crossed_holds P n at f = any_holds P n (record { number = n; at = at }) f

-- an answer has the number that it was made of
crossed_number : (n : ℤ) (at : List ℤ) → number_of (crossed n at) ≡ n
unfolding crossed
crossed_number n at = any_number number_of n (record { number = n; at = at }) refl refl

-- so a crossing has its number, whatever the tests are
pub lift : (ends edges : ShadowTest) (place : Spot → Spot → List ℤ) (a b u v w : Corner) → number_of (crossing ends edges place a b u v w) ≡ edge_number ends edges a b u v w
unfolding crossing
lift ends edges place a b u v w =
    crossed_number (edge_number ends edges a b u v w) (place (first_spot false (edge_pairs ends edges a b u v w)) (first_spot true (edge_pairs ends edges a b u v w)))

-- and is there only where that is not 0
pub present : (ends edges : ShadowTest) (place : Spot → Spot → List ℤ) (a b u v w : Corner) → IfSome (crossing ends edges place a b u v w) (λ c. c.number ≢ pos 0)
unfolding crossing
present ends edges place a b u v w =
    crossed_holds (λ c. c.number ≢ pos 0) (edge_number ends edges a b u v w)
    (place (first_spot false (edge_pairs ends edges a b u v w)) (first_spot true (edge_pairs ends edges a b u v w))) (λ n. n)

-- the rest under lawful tests
module _ {P Q : List Corner → List Corner → List Corner} {ends edges one other : ShadowTest} (h : AreMet P Q ends edges one other) (place : Spot → Spot → List ℤ)
    (a b u v w : Corner) (fe : AllFine (a ∷ b ∷ [])) (ff : AllFine (u ∷ v ∷ w ∷ [])) where
  pub number_size : (negsuc 1 ≤ℤ number_of (crossing ends edges place a b u v w)) × (number_of (crossing ends edges place a b u v w) ≤ℤ pos 2)
  number_size =
      let e = P (a ∷ b ∷ []) (u ∷ v ∷ w ∷ []) in
      let f = Q (a ∷ b ∷ []) (u ∷ v ∷ w ∷ []) in
      let ms = signed_pairs ends edges a b u v w in
      let each = pairs_decided h a b u v w fe ff in
      let k = five_size ms (each_map (IsDecided 2 e f) IsSized (λ m d. d.sized) ms each) (omega arith) (pairs_whole h a b u v w fe ff) in (
        omega (arith, ints, lift ends edges place a b u v w, number_signed ends edges a b u v w, k.0),
        omega (arith, ints, lift ends edges place a b u v w, number_signed ends edges a b u v w, k.1),
      )

  pub turned_crossing : number_of (crossing ends edges place b a u v w) ≡ neg_ℤ (number_of (crossing ends edges place a b u v w))
  turned_crossing = lift ends edges place b a u v w ∙ number_turned h a b u v w fe ff ∙ ap neg_ℤ (sym (lift ends edges place a b u v w))

  pub apart_crossing : (i : ℕ) → i < 3 → AreApart i (P (a ∷ b ∷ []) (u ∷ v ∷ w ∷ [])) (Q (a ∷ b ∷ []) (u ∷ v ∷ w ∷ [])) → crossing ends edges place a b u v w ≡ None
  unfolding crossing
  apart_crossing i less apart =
      let ms = signed_pairs ends edges a b u v w in
      let none = apart_none 2 (P (a ∷ b ∷ []) (u ∷ v ∷ w ∷ [])) (Q (a ∷ b ∷ []) (u ∷ v ∷ w ∷ [])) ms (pairs_decided h a b u v w fe ff)
      (pairs_whole h a b u v w fe ff) i less apart in
      crossed_none (edge_number ends edges a b u v w)
      (place (first_spot false (edge_pairs ends edges a b u v w)) (first_spot true (edge_pairs ends edges a b u v w))) (number_signed ends edges a b u v w ∙ none)

  -- what holds of each point placed between spots in the boxes holds of the crossing's point
  pub point_holds : (X : List ℤ → Type 0) →
      ((d t : Spot) → IsInHull (P (a ∷ b ∷ []) (u ∷ v ∷ w ∷ [])) (Q (a ∷ b ∷ []) (u ∷ v ∷ w ∷ [])) d →
      IsInHull (P (a ∷ b ∷ []) (u ∷ v ∷ w ∷ [])) (Q (a ∷ b ∷ []) (u ∷ v ∷ w ∷ [])) t → X (place d t)) →
      IfSome (crossing ends edges place a b u v w) (λ c. X c.at)
  unfolding crossing
  point_holds X each =
      let e = P (a ∷ b ∷ []) (u ∷ v ∷ w ∷ []) in
      let f = Q (a ∷ b ∷ []) (u ∷ v ∷ w ∷ []) in
      let ms = signed_pairs ends edges a b u v w in
      let in_hull : edge_number ends edges a b u v w ≢ pos 0 → (want : Bool) → IsInHull e f (first_spot want (edge_pairs ends edges a b u v w)) = λ n want.
      subst (IsInHull e f) (sym (spots_signed ends edges a b u v w want))
      (first_hull 2 e f ms (pairs_decided h a b u v w fe ff) (pairs_whole h a b u v w fe ff) (omega arith) (λ z. n (number_signed ends edges a b u v w ∙ z)) want) in
      crossed_holds (λ c. X c.at) (edge_number ends edges a b u v w)
      (place (first_spot false (edge_pairs ends edges a b u v w)) (first_spot true (edge_pairs ends edges a b u v w)))
      (λ n. each (first_spot false (edge_pairs ends edges a b u v w)) (first_spot true (edge_pairs ends edges a b u v w)) (in_hull n false) (in_hull n true))

-- what holds of fine edges and faces holds of every list of two and of three
pub by_lists : (X : List Corner → List Corner → Type 0) → ((a b u v w : Corner) → AllFine (a ∷ b ∷ []) → AllFine (u ∷ v ∷ w ∷ []) → X (a ∷ b ∷ []) (u ∷ v ∷ w ∷ [])) →
    (e f : List Corner) → length e ≡ 2 → length f ≡ 3 → AllFine e → AllFine f → X e f
by_lists X each (a ∷ b ∷ []) (u ∷ v ∷ w ∷ []) two three fe ff = each a b u v w fe ff
by_lists X each [] f two three fe ff = absurd (omega (arith, two))
by_lists X each (a ∷ []) f two three fe ff = absurd (omega (arith, two))
by_lists X each (a ∷ b ∷ c ∷ e) f two three fe ff = absurd (omega (arith, two))
by_lists X each (a ∷ b ∷ []) [] two three fe ff = absurd (omega (arith, three))
by_lists X each (a ∷ b ∷ []) (u ∷ []) two three fe ff = absurd (omega (arith, three))
by_lists X each (a ∷ b ∷ []) (u ∷ v ∷ []) two three fe ff = absurd (omega (arith, three))
by_lists X each (a ∷ b ∷ []) (u ∷ v ∷ w ∷ x ∷ f) two three fe ff = absurd (omega (arith, three))

-- the crossings under a lawful rule are lawful
module _ {k : Rule} {w : Between} (rule : IsRule k w) (settle : Settle) (settling : IsSettling settle) where
  pub edge_face_laws : CrossingLaws 2 3 (edge_face_crossing k w settle)
  edge_face_laws =
      let vf = vertex_face k w in
      let ee = edge_edge k w in
      let h = rule_edge_face rule in
      let place = p_point w settle in
      let test = edge_face_crossing k w settle in record {
        present = λ p q l m fp fq. present vf ee place (corner_at p 0) (corner_at p 1) (corner_at q 0) (corner_at q 1) (corner_at q 2);
        size = by_lists (λ p q. (negsuc 1 ≤ℤ number_of (test p q)) × (number_of (test p q) ≤ℤ pos 2)) (number_size h place);
        turn_p = λ p q two. by_lists (λ p q. number_of (test (swap p 0 1) q) ≡ neg_ℤ (number_of (test p q))) (turned_crossing h place) p q;
        turn_q = λ p q two. absurd (omega (arith, two));
        apart = λ p q i l m fp fq. by_lists (λ p q. i < 3 → AreApart i p q → test p q ≡ None) (λ a b u v t fe ff. apart_crossing h place a b u v t fe ff i) p q l m fp fq;
        inside_p = λ p q two l m fp fq whole also. by_lists (λ p q. AllWhole p → IfSome (test p q) (λ c. IsPointIn p c.at))
            (λ a b u v t fe ff we. point_holds h place a b u v t fe ff (IsPointIn (a ∷ b ∷ []))
            (λ d s. p_point_inside w rule.stays settle settling a b (u ∷ v ∷ t ∷ []) d s fe ff we)) p q l m fp fq whole;
        inside_q = λ p q two. absurd (omega (arith, two));
      }

  pub face_edge_laws : CrossingLaws 3 2 (face_edge_crossing k w settle)
  face_edge_laws =
      let vf = mirror (face_vertex k w) in
      let ee = mirror (edge_edge k w) in
      let h = rule_face_edge rule in
      let place = q_point w settle in
      let test = face_edge_crossing k w settle in record {
        present = λ p q l m fp fq. present vf ee place (corner_at q 0) (corner_at q 1) (corner_at p 0) (corner_at p 1) (corner_at p 2);
        size = λ p q l m fp fq. by_lists (λ q p. (negsuc 1 ≤ℤ number_of (test p q)) × (number_of (test p q) ≤ℤ pos 2)) (number_size h place) q p m l fq fp;
        turn_p = λ p q two. absurd (omega (arith, two));
        turn_q = λ p q two l m fp fq. by_lists (λ q p. number_of (test p (swap q 0 1)) ≡ neg_ℤ (number_of (test p q))) (turned_crossing h place) q p m l fq fp;
        apart = λ p q i l m fp fq. by_lists (λ q p. i < 3 → AreApart i p q → test p q ≡ None) (λ a b u v t fe ff. apart_crossing h place a b u v t fe ff i) q p m l fq fp;
        inside_p = λ p q two. absurd (omega (arith, two));
        inside_q = λ p q two l m fp fq also whole. by_lists (λ q p. AllWhole q → IfSome (test p q) (λ c. IsPointIn q c.at))
            (λ a b u v t fe ff we. point_holds h place a b u v t fe ff (IsPointIn (a ∷ b ∷ []))
            (λ d s. q_point_inside w rule.stays settle settling a b (u ∷ v ∷ t ∷ []) d s ff fe we)) q p m l fq fp whole;
      }
