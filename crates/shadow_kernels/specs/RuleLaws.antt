-- The six shadow tests are lawful under any lawful rule, and count as their boundary pairs do.
use Rattle.std.specs.Prelude.{◌≡◌, ℕ, ◌<◌, pos, ◌+ℤ◌, ◌-ℤ◌, Bool, true, false, if◌then◌else◌}
use Rattle.std.proofs.Common.{arith, refl, inl, ◌∙◌}
use Rattle.std.proofs.lemmas.Int.{ints}
use Rattle.mb_base.specs.declared.point.Corner.{Corner}
use Rattle.side_terms.specs.Corners.{corner_at}
use Rattle.chain_laws.specs.Squares.{less}
use Rattle.shadow_kernels.specs.Spots.{Between}
use Rattle.shadow_kernels.specs.Rules.{Rule}
use Rattle.shadow_kernels.specs.Counts.{count_of, shadow_of}
use Rattle.shadow_kernels.specs.ShadowLaws.{HasCounts, ShadowLaws}
use Rattle.shadow_kernels.specs.Shadows.{meet00, meet01, meet10, meet11, meet02, meet20, boundary11, boundary02, boundary20, vertex_vertex, vertex_edge, edge_vertex, edge_edge, vertex_face, face_vertex}
use Rattle.shadow_kernels.specs.Sizes.{turned_shadow}
use Rattle.shadow_kernels.specs.Hulls.{placed, beyond_boxes}
use Rattle.shadow_kernels.specs.Lawful.{IsRule}
use Rattle.shadow_kernels.specs.Decided.{IsDecidedBy, has_counts, laws_of}
use Rattle.shadow_kernels.specs.Lifted.{lifted_is}
use Rattle.shadow_kernels.specs.declared.Edge.TheVariants.{OfP, OfQ}
use Rattle.shadow_kernels.specs.Edges.{edge_meet}
use Rattle.shadow_kernels.specs.Levels.{edge_count, count10, edge_reverse, edge_decided, face_decided, face_turned, edge_turned, edges_decided, edges_turned_p, edges_turned_q}

-- of one corner no two can be exchanged
no_two : {A : Type 0} (i j : ℕ) → i < j → j < 1 → A
no_two i j l m = absurd (omega (arith, l, m))

-- the difference of two shadows of vertices
differ : (s t : Bool) → less s t ≡ (if s then pos 1 else pos 0) -ℤ (if t then pos 1 else pos 0)
differ true true = refl
differ true false = refl
differ false true = refl
differ false false = refl

-- the tests with edges and faces
module _ {k : Rule} {w : Between} (rule : IsRule k w) where
  -- two vertices
  pub laws00 : ShadowLaws 1 1 (vertex_vertex k)
  laws00 = laws_of 1 1 0 (vertex_vertex k) refl (λ p q i j l m x y fp fq. no_two i j l m) (λ p q i j l m x y fp fq. no_two i j l m) (λ p q x y fp fq. record {
    sized = inl refl;
    hull = λ some. absurd (omega (arith, some));
    apart = λ i less a. absurd (omega (arith, less));
    side = λ b over. beyond_boxes rule.ordered b p q (corner_at p 0) (corner_at q 0) over (placed p 0 fp (omega (arith, x))).x (placed q 0 fq (omega (arith, y))).x;
  })

  -- a vertex and an edge
  pub laws01 : ShadowLaws 1 2 (vertex_edge k w)
  laws01 = laws_of 1 2 1 (vertex_edge k w) refl (λ p q i j l m x y fp fq. no_two i j l m)
      (λ p q i j l m x y fp fq. edge_turned (edge_meet OfQ k w (corner_at p 0)) (edge_reverse OfQ k w (corner_at p 0)) q i j l m y)
      (λ p q x y fp fq. edge_decided rule OfQ p q (corner_at p 0) (corner_at q 0) (corner_at q 1) (placed p 0 fp (omega (arith, x)))
      (placed q 0 fq (omega (arith, y))) (placed q 1 fq (omega (arith, y))))

  -- an edge and a vertex
  pub laws10 : ShadowLaws 2 1 (edge_vertex k w)
  laws10 = laws_of 2 1 1 (edge_vertex k w) refl
      (λ p q i j l m x y fp fq. edge_turned (edge_meet OfP k w (corner_at q 0)) (edge_reverse OfP k w (corner_at q 0)) p i j l m x) (λ p q i j l m x y fp fq. no_two i j l m)
      (λ p q x y fp fq. edge_decided rule OfP p q (corner_at q 0) (corner_at p 0) (corner_at p 1) (placed q 0 fq (omega (arith, y)))
      (placed p 0 fp (omega (arith, x))) (placed p 1 fp (omega (arith, x))))

  -- two edges: their boxes decide, so the test answers only where the count is not 0
  decided11 : IsDecidedBy 2 2 2 (edge_edge k w)
  decided11 p q x y fp fq = edges_decided rule (corner_at p 0) (corner_at p 1) (corner_at q 0) (corner_at q 1) p q fp fq
      (placed p 0 fp (omega (arith, x))) (placed p 1 fp (omega (arith, x))) (placed q 0 fq (omega (arith, y))) (placed q 1 fq (omega (arith, y)))

  pub counts11 : HasCounts 2 2 (edge_edge k w)
  counts11 = has_counts 2 2 2 (edge_edge k w) decided11

  pub laws11 : ShadowLaws 2 2 (edge_edge k w)
  laws11 = laws_of 2 2 2 (edge_edge k w) refl
      (λ p q i j l m x y fp fq. edge_turned (λ a b. meet11 k w a b (corner_at q 0) (corner_at q 1)) (λ a b. edges_turned_p rule a b (corner_at q 0) (corner_at q 1)) p i j l m x)
      (λ p q i j l m x y fp fq. edge_turned (meet11 k w (corner_at p 0) (corner_at p 1)) (edges_turned_q rule (corner_at p 0) (corner_at p 1)) q i j l m y)
      decided11

  -- a vertex and a face
  decided02 : IsDecidedBy 1 3 2 (vertex_face k w)
  unfolding meet02
  decided02 p q x y fp fq = face_decided OfQ k w (corner_at p 0) rule p q fp fq (placed p 0 fp (omega (arith, x))) y fq

  pub counts02 : HasCounts 1 3 (vertex_face k w)
  counts02 = has_counts 1 3 2 (vertex_face k w) decided02

  pub laws02 : ShadowLaws 1 3 (vertex_face k w)
  unfolding meet02
  laws02 = laws_of 1 3 2 (vertex_face k w) refl (λ p q i j l m x y fp fq. no_two i j l m)
      (λ p q i j l m x y fp fq. face_turned OfQ k w (corner_at p 0) rule q i j l m y) decided02

  -- a face and a vertex
  decided20 : IsDecidedBy 3 1 2 (face_vertex k w)
  unfolding meet20
  decided20 p q x y fp fq = face_decided OfP k w (corner_at q 0) rule p q fp fq (placed q 0 fq (omega (arith, y))) x fp

  pub counts20 : HasCounts 3 1 (face_vertex k w)
  counts20 = has_counts 3 1 2 (face_vertex k w) decided20

  pub laws20 : ShadowLaws 3 1 (face_vertex k w)
  unfolding meet20
  laws20 = laws_of 3 1 2 (face_vertex k w) refl
      (λ p q i j l m x y fp fq. face_turned OfP k w (corner_at q 0) rule p i j l m x) (λ p q i j l m x y fp fq. no_two i j l m) decided20

-- the counts, which a rounding leaves alone but for the shadows
module _ (k : Rule) (w : Between) where
  -- a vertex and an edge: the count is the difference of the shadows of the ends
  pub lift01 : (p c d : Corner) → count_of (meet01 k w p c d) ≡ shadow_of (meet00 k p c) -ℤ shadow_of (meet00 k p d)
  lift01 p c d = edge_count OfQ k w p c d ∙ differ (k.beyond_in_x p c) (k.beyond_in_x p d)

  -- an edge and a vertex
  pub lift10 : (a b q : Corner) → count_of (meet10 k w a b q) ≡ shadow_of (meet00 k b q) -ℤ shadow_of (meet00 k a q)
  lift10 a b q = count10 k w a b q ∙ differ (k.beyond_in_x b q) (k.beyond_in_x a q)

  -- two edges: the count is the signed sum of the shadows of the ends with the other edge
  pub lift11 : (a b c d : Corner) →
      count_of (meet11 k w a b c d) ≡ shadow_of (meet01 k w b c d) -ℤ shadow_of (meet01 k w a c d) +ℤ shadow_of (meet10 k w a b d) -ℤ shadow_of (meet10 k w a b c)
  unfolding meet11
  lift11 a b c d = let e = lifted_is w (k.over_edges a b c d) (boundary11 k w a b c d) in omega (arith, ints, e, turned_shadow (meet01 k w a c d), turned_shadow (meet10 k w a b c))

  -- a vertex and a face: the count is the sum of the shadows of the edges
  pub lift02 : (p u v t : Corner) → count_of (meet02 k w p u v t) ≡ shadow_of (meet01 k w p u v) +ℤ (shadow_of (meet01 k w p v t) +ℤ (shadow_of (meet01 k w p t u) +ℤ pos 0))
  unfolding meet02
  lift02 p u v t = lifted_is w (k.over_face OfQ p u v t) (boundary02 k w p u v t)

  -- a face and a vertex
  pub lift20 : (u v t q : Corner) → count_of (meet20 k w u v t q) ≡ shadow_of (meet10 k w u v q) +ℤ (shadow_of (meet10 k w v t q) +ℤ (shadow_of (meet10 k w t u q) +ℤ pos 0))
  unfolding meet20
  lift20 u v t q = lifted_is w (k.over_face OfP q u v t) (boundary20 k w u v t q)
