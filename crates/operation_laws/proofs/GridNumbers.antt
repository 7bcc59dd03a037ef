-- The numbers of two sides under the tests of the grid: hits in order, at points of the grid, and all conserved.
use Rattle.std.proofs.Common.{ℕ, ℤ, pos, [], ◌∷◌, length, get_or, map, refl, ap, arith}
use Rattle.std.proofs.lemmas.Int.{ints}
use Rattle.std.proofs.lemmas.List.{length-map}
use Rattle.chain_terms.specs.Chains.{all_edges}
use Rattle.chain_terms.specs.Odd.{IsOdd}
use Rattle.mb_base.specs.declared.point.Corner.{Corner}
use Rattle.mesh_terms.specs.Meshes.{Triple}
use Rattle.side_terms.specs.Corners.{corner_at}
use Rattle.side_terms.specs.Hits.{AreHits}
use Rattle.side_terms.specs.Sides.{IsSide, Side, edge_of, face_of}
use Rattle.lean.proofs.Corners.{edge_fine, face_fine}
use Rattle.shadow_kernels.specs.Counts.{shadow_of}
use Rattle.shadow_kernels.specs.RuleLaws.{laws11}
use Rattle.shadow_kernels.specs.Rules.{Rule}
use Rattle.shadow_kernels.specs.Lawful.{IsRule}
use Rattle.shadow_kernels.specs.Shadows.{edge_edge, face_vertex, vertex_face}
use Rattle.shadow_kernels.specs.Sizes.{turned_shadow}
use Rattle.shadow_kernels.specs.Spots.{Between}
use Rattle.edge_face.specs.CrossingLaws.{IsSettling}
use Rattle.edge_face.specs.Crossings.{Settle, edge_face_crossing, face_edge_crossing, mirror, p_point, q_point}
use Rattle.edge_face.specs.Laws.{edge_face_laws, face_edge_laws, lift}
use Rattle.crossings.specs.Hits.{CrossingTest, hits_of}
use Rattle.crossings.proofs.Numbers.{Turns}
use Rattle.crossings.proofs.Order.{all_listed, hits_in_order}
use Rattle.crossings.proofs.Rounds.{Lifts, pairs_agree}
use Rattle.winding.specs.Windings.{winding, winding_back}
use Rattle.winding.proofs.Identity.{edges_conserve, winding_listed}
use Rattle.mesh_boolean.specs.Operation.{numbers_of}
use Rattle.operation_laws.specs.Kernels.{tests_of}
use Rattle.operation_laws.proofs.HitPoints.{p_hits_on_grid, q_hits_on_grid}
use Rattle.operation_laws.proofs.Made.{AreNumbersOf}

module _ {k : Rule} {w : Between} (rule : IsRule k w) (settle : Settle) (settling : IsSettling settle) (p q : Side) (p_known : IsSide p) (q_known : IsSide q) where
  abbrev test12 : CrossingTest
  test12 = edge_face_crossing k w settle

  abbrev test21 : CrossingTest
  test21 = λ edge face. face_edge_crossing k w settle face edge

  abbrev pc : ℕ → Corner
  pc v = corner_at p.corners v

  abbrev qc : ℕ → Corner
  qc v = corner_at q.corners v

  -- the shadows of a vertex of P on a triangle of Q, of a triangle of P on a vertex of Q, and of two edges
  abbrev up : Triple → ℕ → ℤ
  up t v = shadow_of (vertex_face k w (pc v ∷ []) (face_of q.corners t))

  abbrev down : Triple → ℕ → ℤ
  down t v = shadow_of (face_vertex k w (face_of p.corners t) (qc v ∷ []))

  abbrev sides : (ℕ × ℕ) → (ℕ × ℕ) → ℤ
  sides e d = shadow_of (edge_edge k w (edge_of p.corners e.0 e.1) (edge_of q.corners d.0 d.1))

  x12_listed : AreHits (all_edges p.triples) (length q.triples) (hits_of test12 p q)
  x12_listed =
      let laws = edge_face_laws rule settle settling in
      (hits_in_order test12 p q (all_listed test12 p q p_known.fine q_known.fine (λ e f l m a b. (laws.present e f l m a b, laws.size e f l m a b)))).0

  x21_listed : AreHits (all_edges q.triples) (length p.triples) (hits_of test21 q p)
  x21_listed =
      let laws = face_edge_laws rule settle settling in
      (hits_in_order test21 q p (all_listed test21 q p q_known.fine p_known.fine (λ e f l m a b. (laws.present f e m l b a, laws.size f e m l b a)))).0

  turns12 : Turns test12 p q
  turns12 =
      λ t a b. (edge_face_laws rule settle settling).turn_p (edge_of p.corners a b) (face_of q.corners t) refl refl refl (edge_fine p.corners p_known.fine a b)
      (face_fine q.corners q_known.fine t)

  turns21 : Turns test21 q p
  turns21 =
      λ t a b. (face_edge_laws rule settle settling).turn_q (face_of p.corners t) (edge_of q.corners a b) refl refl refl (face_fine p.corners p_known.fine t)
      (edge_fine q.corners q_known.fine a b)

  lifts12 : Lifts test12 p q up (λ a b. sides (a, b))
  lifts12 = λ t a b. lift (vertex_face k w) (edge_edge k w) (p_point w settle) (pc a) (pc b) (qc t.0) (qc t.1) (qc t.2)

  lifts21 : Lifts test21 q p down (λ c d e. sides e (c, d))
  lifts21 = λ t a b. lift (mirror (face_vertex k w)) (mirror (edge_edge k w)) (q_point w settle) (qc a) (qc b) (pc t.0) (pc t.1) (pc t.2)

  odd12 : (a b : ℕ) → IsOdd (λ c d. sides (a, b) (c, d))
  odd12 a b = record {
    turns = λ x y.
        let p_edge = edge_of p.corners a b in
        let q_edge = edge_of q.corners x y in
        let reverse = ap shadow_of ((laws11 rule).reverse_q p_edge q_edge 0 1 (omega arith) (omega arith) refl refl (edge_fine p.corners p_known.fine a b)
        (edge_fine q.corners q_known.fine x y)) in
        let turn = turned_shadow (edge_edge k w p_edge q_edge) in
        omega (arith, ints, reverse, turn);
  }

  odd21 : (a b : ℕ) → IsOdd (λ c d. sides (c, d) (a, b))
  odd21 a b = record {
    turns = λ x y.
        let p_edge = edge_of p.corners x y in
        let q_edge = edge_of q.corners a b in
        let reverse = ap shadow_of ((laws11 rule).reverse_p p_edge q_edge 0 1 (omega arith) (omega arith) refl refl (edge_fine p.corners p_known.fine x y)
        (edge_fine q.corners q_known.fine a b)) in
        let turn = turned_shadow (edge_edge k w p_edge q_edge) in
        omega (arith, ints, reverse, turn);
  }

  pub are_numbers : AreNumbersOf p q (numbers_of (tests_of k w settle) p q)
  are_numbers = record {
    w03 = length-map p.corners (λ c. winding (vertex_face k w) c q);
    w30 = length-map q.corners (λ c. winding_back (face_vertex k w) p c);
    x12 = x12_listed;
    x21 = x21_listed;
    conserved = record {
      p_edges = edges_conserve p q test12 up (λ a b. sides (a, b)) (hits_of test12 p q)
          (λ v. get_or (map (λ c. winding (vertex_face k w) c q) p.corners) v (pos 0)) p_known q_known turns12 lifts12 odd12 refl
          (winding_listed (λ c. winding (vertex_face k w) c q) p.corners (map (λ c. winding (vertex_face k w) c q) p.corners) refl);
      q_edges = edges_conserve q p test21 down (λ c d e. sides e (c, d)) (hits_of test21 q p)
          (λ v. get_or (map (λ c. winding_back (face_vertex k w) p c) q.corners) v (pos 0)) q_known p_known turns21 lifts21 odd21 refl
          (winding_listed (λ c. winding_back (face_vertex k w) p c) q.corners (map (λ c. winding_back (face_vertex k w) p c) q.corners) refl);
      pairs = pairs_agree p q test12 test21 up down sides p_known q_known turns12 turns21 lifts12 lifts21;
    };
    x12_on_grid = p_hits_on_grid rule settle settling p q p_known q_known;
    x21_on_grid = q_hits_on_grid rule settle settling p q p_known q_known;
  }
