-- The boundary pairs of an edge and a face under lawful tests, for an edge of P and for one of Q alike.
use Rattle.std.specs.Prelude.{◌≡◌, pos, neg_ℤ, ◌+ℤ◌, ◌-ℤ◌, Bool, Option, List, [], ◌∷◌, length, swap}
use Rattle.std.proofs.Common.{arith, refl, sym, ap, ◌∙◌}
use Rattle.std.proofs.lemmas.Int.{ints}
use Rattle.chain_terms.specs.Sums.{total}
use Rattle.mb_base.specs.declared.point.Corner.{Corner}
use Rattle.side_terms.specs.Corners.{AllFine, IsFineCorner}
use Rattle.shadow_kernels.specs.declared.Spot.{Spot}
use Rattle.shadow_kernels.specs.declared.Meet.{Meet}
use Rattle.shadow_kernels.specs.Spots.{Between}
use Rattle.shadow_kernels.specs.Counts.{count_of, shadow_of, turned, chosen, first_spot}
use Rattle.shadow_kernels.specs.ShadowLaws.{ShadowTest, HasCounts, ShadowLaws}
use Rattle.shadow_kernels.specs.Shadows.{vertex_edge, edge_vertex, edge_edge, vertex_face, face_vertex}
use Rattle.shadow_kernels.specs.Sizes.{turned_count, turned_shadow}
use Rattle.shadow_kernels.specs.Entries.{Each}
use Rattle.shadow_kernels.specs.Rules.{Rule}
use Rattle.shadow_kernels.specs.Lawful.{IsRule}
use Rattle.shadow_kernels.specs.Decided.{IsDecided, turned_decided}
use Rattle.shadow_kernels.specs.Lifted.{chosen_turned}
use Rattle.shadow_kernels.specs.RuleLaws.{laws11, laws02, laws20, counts11, counts02, counts20, lift11, lift02, lift20}
use Rattle.edge_face.specs.Crossings.{face_edges, mirror, edge_pairs, edge_number}
use Rattle.edge_face.specs.Parts.{IsPart, itself, start_of, end_of, first_edge, second_edge, third_edge, decided_in}

-- what is asked of the tests `ends` and `edges`, and of those below them, `one` of a vertex of the edge with an edge of the face and `other` of
-- the edge with a vertex of the face: the answers are decided in the boxes, counted by the shadows below them, and turned with the edge.
-- P and Q say which of an edge and a face is P's and which Q's
pub record AreMet (P Q : List Corner → List Corner → List Corner) (ends edges one other : ShadowTest) : Type 1 where
  pub ends_decided : (v e f : List Corner) → IsPart v e → length v ≡ 1 → length f ≡ 3 → AllFine e → AllFine f → IsDecided 2 (P e f) (Q e f) (ends v f)
  pub edges_decided : (e g f : List Corner) → IsPart g f → length e ≡ 2 → length g ≡ 2 → AllFine e → AllFine f → IsDecided 2 (P e f) (Q e f) (edges e g)
  pub ends_count : (p u v w : Corner) → AllFine (p ∷ []) → AllFine (u ∷ v ∷ w ∷ []) →
      count_of (ends (p ∷ []) (u ∷ v ∷ w ∷ [])) ≡ total (λ e. shadow_of (one (p ∷ []) e)) (face_edges u v w)
  pub edges_count : (a b c d : Corner) → AllFine (a ∷ b ∷ []) → AllFine (c ∷ d ∷ []) → count_of (edges (a ∷ b ∷ []) (c ∷ d ∷ []))
      ≡ (shadow_of (one (b ∷ []) (c ∷ d ∷ [])) -ℤ shadow_of (one (a ∷ []) (c ∷ d ∷ []))) +ℤ (shadow_of (other (a ∷ b ∷ []) (d ∷ [])) -ℤ shadow_of (other (a ∷ b ∷ []) (c ∷ [])))
  pub turns : (e g : List Corner) → length e ≡ 2 → length g ≡ 2 → AllFine e → AllFine g → edges (swap e 0 1) g ≡ turned (edges e g)

-- an edge of P and a face of Q, by the laws of the tests of vertices with faces and of edges
pub edge_face : (vf ee ve ev : ShadowTest) → ShadowLaws 1 3 vf → HasCounts 1 3 vf → ShadowLaws 2 2 ee → HasCounts 2 2 ee →
    ((p u v w : Corner) → AllFine (p ∷ []) → AllFine (u ∷ v ∷ w ∷ []) → count_of (vf (p ∷ []) (u ∷ v ∷ w ∷ [])) ≡ total (λ e. shadow_of (ve (p ∷ []) e)) (face_edges u v w)) →
    ((a b c d : Corner) → AllFine (a ∷ b ∷ []) → AllFine (c ∷ d ∷ []) → count_of (ee (a ∷ b ∷ []) (c ∷ d ∷ []))
    ≡ shadow_of (ve (b ∷ []) (c ∷ d ∷ [])) -ℤ shadow_of (ve (a ∷ []) (c ∷ d ∷ [])) +ℤ shadow_of (ev (a ∷ b ∷ []) (d ∷ [])) -ℤ shadow_of (ev (a ∷ b ∷ []) (c ∷ []))) →
    AreMet (λ e f. e) (λ e f. f) vf ee ve ev
edge_face vf ee ve ev laws13 counts13 laws22 counts22 lift13 lift22 = record {
  ends_decided = λ v e f part one three fe ff. decided_in 1 3 vf laws13 counts13 refl v e f f part (itself f) one three fe ff;
  edges_decided = λ e g f part two also fe ff. decided_in 2 2 ee laws22 counts22 refl e e g f (itself e) part two also fe ff;
  ends_count = lift13;
  edges_count = λ a b c d fe fg. omega (arith, ints, lift22 a b c d fe fg);
  turns = λ e g two also fe fg. laws22.reverse_p e g 0 1 (omega arith) (omega arith) two also fe fg;
}

-- an edge of Q and a face of P, by the same tests of edges and those of faces with vertices
pub face_edge : (fv ee ve ev : ShadowTest) → ShadowLaws 3 1 fv → HasCounts 3 1 fv → ShadowLaws 2 2 ee → HasCounts 2 2 ee →
    ((u v w q : Corner) → AllFine (u ∷ v ∷ w ∷ []) → AllFine (q ∷ []) → count_of (fv (u ∷ v ∷ w ∷ []) (q ∷ [])) ≡ total (λ e. shadow_of (ev e (q ∷ []))) (face_edges u v w)) →
    ((a b c d : Corner) → AllFine (a ∷ b ∷ []) → AllFine (c ∷ d ∷ []) → count_of (ee (a ∷ b ∷ []) (c ∷ d ∷ []))
    ≡ shadow_of (ve (b ∷ []) (c ∷ d ∷ [])) -ℤ shadow_of (ve (a ∷ []) (c ∷ d ∷ [])) +ℤ shadow_of (ev (a ∷ b ∷ []) (d ∷ [])) -ℤ shadow_of (ev (a ∷ b ∷ []) (c ∷ []))) →
    AreMet (λ e f. f) (λ e f. e) (mirror fv) (mirror ee) (mirror ev) (mirror ve)
face_edge fv ee ve ev laws31 counts31 laws22 counts22 lift31 lift22 = record {
  ends_decided = λ v e f part one three fe ff. decided_in 3 1 fv laws31 counts31 refl f f v e (itself f) part three one ff fe;
  edges_decided = λ e g f part two also fe ff. decided_in 2 2 ee laws22 counts22 refl g f e e part (itself e) also two ff fe;
  ends_count = λ p u v w fe ff. lift31 u v w p ff fe;
  edges_count = λ a b c d fe fg. omega (arith, ints, lift22 c d a b fg fe);
  turns = λ e g two also fe fg. laws22.reverse_q g e 0 1 (omega arith) (omega arith) also two fg fe;
}

-- those under a lawful rule
module _ {k : Rule} {w : Between} (rule : IsRule k w) where
  pub rule_edge_face : AreMet (λ e f. e) (λ e f. f) (vertex_face k w) (edge_edge k w) (vertex_edge k w) (edge_vertex k w)
  rule_edge_face =
      edge_face (vertex_face k w) (edge_edge k w) (vertex_edge k w) (edge_vertex k w) (laws02 rule) (counts02 rule) (laws11 rule) (counts11 rule)
      (λ p u v t fp fq. lift02 k w p u v t) (λ a b c d fp fq. lift11 k w a b c d)

  pub rule_face_edge : AreMet (λ e f. f) (λ e f. e) (mirror (face_vertex k w)) (mirror (edge_edge k w)) (mirror (edge_vertex k w)) (mirror (vertex_edge k w))
  rule_face_edge =
      face_edge (face_vertex k w) (edge_edge k w) (vertex_edge k w) (edge_vertex k w) (laws20 rule) (counts20 rule) (laws11 rule) (counts11 rule)
      (λ u v t q fp fq. lift20 k w u v t q) (λ a b c d fp fq. lift11 k w a b c d)

-- the pairs, each turned where it counts with the other sign
abbrev pub signed_pairs : ShadowTest → ShadowTest → Corner → Corner → Corner → Corner → Corner → List (Option Meet)
signed_pairs ends edges a b u v w =
    let face = u ∷ v ∷ w ∷ [] in
    let ab = a ∷ b ∷ [] in
    turned (ends (a ∷ []) face) ∷ ends (b ∷ []) face ∷ turned (edges ab (u ∷ v ∷ [])) ∷ turned (edges ab (v ∷ w ∷ [])) ∷ turned (edges ab (w ∷ u ∷ [])) ∷ []

-- their shadows add up to the number
pub number_signed : (ends edges : ShadowTest) (a b u v w : Corner) → edge_number ends edges a b u v w ≡ total shadow_of (signed_pairs ends edges a b u v w)
number_signed ends edges a b u v w =
    let ab = a ∷ b ∷ [] in
    omega (
      arith,
      ints,
      turned_shadow (ends (a ∷ []) (u ∷ v ∷ w ∷ [])),
      turned_shadow (edges ab (u ∷ v ∷ [])),
      turned_shadow (edges ab (v ∷ w ∷ [])),
      turned_shadow (edges ab (w ∷ u ∷ [])),
    )

-- and their first spots are those of the pairs
pub spots_signed : (ends edges : ShadowTest) (a b u v w : Corner) (want : Bool) →
    first_spot want (edge_pairs ends edges a b u v w) ≡ first_spot want (signed_pairs ends edges a b u v w)
spots_signed ends edges a b u v w want =
    same (ends (a ∷ []) (u ∷ v ∷ w ∷ [])) (ends (b ∷ []) (u ∷ v ∷ w ∷ [])) (edges (a ∷ b ∷ []) (u ∷ v ∷ [])) (edges (a ∷ b ∷ []) (v ∷ w ∷ [])) (edges (a ∷ b ∷ []) (w ∷ u ∷ []))
  where
    kept : (m : Option Meet) (x y : Spot) → x ≡ y → chosen want m x ≡ chosen want (turned m) y
    kept m x y e = ap (λ (t : Spot). chosen want m t) e ∙ sym (chosen_turned want m y)

    same : (s f x y z : Option Meet) → first_spot want (s ∷ f ∷ x ∷ y ∷ z ∷ []) ≡ first_spot want (turned s ∷ f ∷ turned x ∷ turned y ∷ turned z ∷ [])
    same s f x y z = kept s _ _ (ap (λ (t : Spot). chosen want f t) (kept x _ _ (kept y _ _ (kept z _ _ refl))))

module _ {P Q : List Corner → List Corner → List Corner} {ends edges one other : ShadowTest} (h : AreMet P Q ends edges one other) (a b u v w : Corner)
    (fe : AllFine (a ∷ b ∷ [])) (ff : AllFine (u ∷ v ∷ w ∷ [])) where
  -- they are decided in the boxes of the edge and the face
  pub pairs_decided : Each (IsDecided 2 (P (a ∷ b ∷ []) (u ∷ v ∷ w ∷ [])) (Q (a ∷ b ∷ []) (u ∷ v ∷ w ∷ []))) (signed_pairs ends edges a b u v w)
  pairs_decided =
      let e = a ∷ b ∷ [] in
      let f = u ∷ v ∷ w ∷ [] in
      let edge : (g : List Corner) → IsPart g f → length g ≡ 2 → IsDecided 2 (P e f) (Q e f) (turned (edges e g)) =
      λ g part two. turned_decided 2 (P e f) (Q e f) (edges e g) (h.edges_decided e g f part refl two fe ff) in (
        turned_decided 2 (P e f) (Q e f) (ends (a ∷ []) f) (h.ends_decided (a ∷ []) e f (start_of a b) refl refl fe ff),
        (
          h.ends_decided (b ∷ []) e f (end_of a b) refl refl fe ff,
          (edge (u ∷ v ∷ []) (first_edge u v w) refl, (edge (v ∷ w ∷ []) (second_edge u v w) refl, (edge (w ∷ u ∷ []) (third_edge u v w) refl, tt))),
        ),
      )

  -- each corner of the face starts one of its edges and ends one, so the counts add up to nothing
  pub pairs_whole : total count_of (signed_pairs ends edges a b u v w) ≡ pos 0
  pairs_whole =
      let e = a ∷ b ∷ [] in
      let f = u ∷ v ∷ w ∷ [] in
      omega (
        arith,
        ints,
        h.ends_count a u v w (start_of a b IsFineCorner fe) ff,
        h.ends_count b u v w (end_of a b IsFineCorner fe) ff,
        h.edges_count a b u v fe (first_edge u v w IsFineCorner ff),
        h.edges_count a b v w fe (second_edge u v w IsFineCorner ff),
        h.edges_count a b w u fe (third_edge u v w IsFineCorner ff),
        turned_count (ends (a ∷ []) f),
        turned_count (edges e (u ∷ v ∷ [])),
        turned_count (edges e (v ∷ w ∷ [])),
        turned_count (edges e (w ∷ u ∷ [])),
      )

  -- exchanging the ends of the edge turns the number
  pub number_turned : edge_number ends edges b a u v w ≡ neg_ℤ (edge_number ends edges a b u v w)
  number_turned =
      let e = a ∷ b ∷ [] in
      let turn : (g : List Corner) → IsPart g (u ∷ v ∷ w ∷ []) → length g ≡ 2 → shadow_of (edges (b ∷ a ∷ []) g) ≡ shadow_of (turned (edges e g)) =
      λ g part two. ap shadow_of (h.turns e g refl two fe (part IsFineCorner ff)) in
      let x = turn (u ∷ v ∷ []) (first_edge u v w) refl in
      let y = turn (v ∷ w ∷ []) (second_edge u v w) refl in
      let z = turn (w ∷ u ∷ []) (third_edge u v w) refl in
      omega (arith, ints, x, y, z, turned_shadow (edges e (u ∷ v ∷ [])), turned_shadow (edges e (v ∷ w ∷ [])), turned_shadow (edges e (w ∷ u ∷ [])))
