-- The winding number of a vertex of P in a closed mesh of Q under exact tests is the geometric one: it counts, by their signs, the tetrahedra from any apex
-- to the faces in which the vertex lies.
use Rattle.std.specs.Prelude.{◌≡◌, ℕ, ℤ, pos, neg_ℤ, ◌+ℤ◌, ◌≤ℤ◌, Bool, true, false, List, if◌then◌else◌}
use Rattle.std.specs.List.{All}
use Rattle.std.proofs.Common.{arith, sym, ◌∙◌}
use Rattle.std.proofs.lemmas.Int.{ints}
use Rattle.chain_terms.specs.Chains.{edges, all_edges, IsClosed}
use Rattle.chain_terms.specs.Odd.{IsOdd, along}
use Rattle.chain_terms.specs.Sums.{total}
use Rattle.chain_laws.specs.Chains.{odd_sum}
use Rattle.chain_laws.specs.Sums.{total-same, total-same_all, total-add, total-neg, total-flat_map}
use Rattle.mesh_terms.specs.Meshes.{Triple}
use Rattle.mb_base.specs.declared.point.Corner.{Corner}
use Rattle.shadow_kernels.specs.declared.Edge.TheVariants.{OfQ}
use Rattle.shadow_kernels.specs.Spots.{Between}
use Rattle.plane_laws.specs.Above.{vertex_above_changed}
use Rattle.plane_laws.specs.Decisions.{Vector}
use Rattle.exact_kernels.specs.Exact.{exact_face, position}
use Rattle.solid_terms.specs.Solids.{IsClear, inside}
use Rattle.solid_laws.specs.Moved.{moved_inside}
use Rattle.solid_laws.specs.Bounds.{IsBounded}
use Rattle.solid_laws.specs.Clear.{clear_inside}
use Rattle.solid_laws.specs.Faces.{edge_shadow, edge_turned, face_shade, shade_is}
use Rattle.solid_laws.specs.Tetrahedra.{tetrahedron}

-- whether a place is inside the tetrahedron of an apex and a face, whose corners are named by numbers
abbrev pub inside_at : Vector → Vector → (ℕ → Corner) → Triple → ℤ
inside_at p o at t = inside p o (position (at t.0)) (position (at t.1)) (position (at t.2))

-- the same of the place moved by a hair
abbrev pub moved_inside_at : Vector → Vector → (ℕ → Corner) → Triple → ℤ
moved_inside_at p o at t = moved_inside p o (position (at t.0)) (position (at t.1)) (position (at t.2))

-- the place is not on the surface of that tetrahedron
abbrev pub IsClearOf : Vector → Vector → (ℕ → Corner) → Triple → Type 0
IsClearOf p o at t = IsClear p o (position (at t.0)) (position (at t.1)) (position (at t.2))

-- the shadow of a vertex on a face
abbrev pub shade_at : Between → Corner → (ℕ → Corner) → Triple → ℤ
shade_at w p at t = face_shade w p (at t.0) (at t.1) (at t.2)

-- minus the sum of the shadows on all faces
abbrev pub exact_winding : Between → Corner → (ℕ → Corner) → List Triple → ℤ
exact_winding w p at ts = neg_ℤ (total (shade_at w p at) ts)

-- the shadow on a face turns with the face
pub shade_turned : (w : Between) (p o c d : Corner) → face_shade w p o c d +ℤ face_shade w p o d c ≡ pos 0
unfolding exact_face
shade_turned w p o c d =
    by (exact_face OfQ p o c d) (exact_face OfQ p o d c) _ _ _ _ (shade_is w p o c d) (shade_is w p o d c)
    (vertex_above_changed (position p) (position o) (position c) (position d))
    (count (edge_shadow p o c) (edge_shadow p c d) (edge_shadow p d o) _ _ _ (edge_turned p d o) (edge_turned p c d) (edge_turned p o c))
  where
    count : (a b c a' b' c' : ℤ) → a' ≡ neg_ℤ c → b' ≡ neg_ℤ b → c' ≡ neg_ℤ a → a' +ℤ b' +ℤ c' ≡ neg_ℤ (a +ℤ b +ℤ c)
    count a b c a' b' c' e f g = omega (arith, ints, e, f, g)

    by : (s t : Bool) (x y n m : ℤ) → x ≡ (if s then n else pos 0) → y ≡ (if t then m else pos 0) → t ≡ s → m ≡ neg_ℤ n → x +ℤ y ≡ pos 0
    by true true x y n m e f g h = omega (arith, ints, e, f, h)
    by false false x y n m e f g h = omega (arith, ints, e, f)
    by true false x y n m e f g h = absurd (cc)
    by false true x y n m e f g h = absurd (cc)

module _ (b : ℤ) (sized : pos 0 ≤ℤ b) (w : Between) (p o : Corner) (at : ℕ → Corner) (ho : IsBounded b o) (hc : (i : ℕ) → IsBounded b (at i)) where
  -- the shadow on the triangle of the apex and an edge
  shade : ℕ → ℕ → ℤ
  shade i j = face_shade w p o (at i) (at j)

  -- it turns with the edge
  shade_odd : IsOdd shade
  unfolding shade
  shade_odd = record { turns = λ i j. shade_turned w p o (at i) (at j) }

  -- that on a face, by the tetrahedron of the apex and the face
  on_face : (t : Triple) → shade_at w p at t ≡ neg_ℤ (moved_inside_at (position p) (position o) at t) +ℤ total (along shade) (edges t)
  unfolding shade
  on_face t =
      let i = at t.0 in
      let j = at t.1 in
      let k = at t.2 in
      by _ _ _ _ _ _ _ _ (tetrahedron b sized w p o i j k ho (hc t.0) (hc t.1) (hc t.2)) (shade_turned w p o j k) (shade_turned w p o k i) (shade_turned w p o i j)
    where
      by : (s kj ik ji jk ki ij n : ℤ) → s +ℤ kj +ℤ ik +ℤ ji ≡ neg_ℤ n → jk +ℤ kj ≡ pos 0 → ki +ℤ ik ≡ pos 0 → ij +ℤ ji ≡ pos 0 → s ≡ neg_ℤ n +ℤ (ij +ℤ (jk +ℤ (ki +ℤ pos 0)))
      by s kj ik ji jk ki ij n e f g h = omega (arith, ints, e, f, g, h)

  -- the theorem for the vertex moved by a hair: no premise on the vertex or the apex
  pub winding_moved : (ts : List Triple) → IsClosed (all_edges ts) → exact_winding w p at ts ≡ total (moved_inside_at (position p) (position o) at) ts
  winding_moved ts closed =
      by _ _ _ _
      (total-same (shade_at w p at) (λ t. neg_ℤ (moved_inside_at (position p) (position o) at t) +ℤ total (along shade) (edges t)) on_face ts
      ∙ total-add (λ t. neg_ℤ (moved_inside_at (position p) (position o) at t)) (λ t. total (along shade) (edges t)) ts)
      (total-neg (moved_inside_at (position p) (position o) at) ts)
      (sym (total-flat_map (along shade) edges ts) ∙ odd_sum shade shade_odd (all_edges ts) closed)
    where
      by : (x y z i : ℤ) → x ≡ y +ℤ z → y ≡ neg_ℤ i → z ≡ pos 0 → neg_ℤ x ≡ i
      by x y z i e f g = omega (arith, ints, e, f, g)

  -- the theorem: where the vertex is on the surface of none of the tetrahedra
  pub winding_counts : (ts : List Triple) → IsClosed (all_edges ts) → All (IsClearOf (position p) (position o) at) ts →
      exact_winding w p at ts ≡ total (inside_at (position p) (position o) at) ts
  winding_counts ts closed clear =
      winding_moved ts closed
      ∙ total-same_all (moved_inside_at (position p) (position o) at) (inside_at (position p) (position o) at) ts
      (λ i d l. clear_inside b sized p o _ _ _ ho (hc _) (hc _) (hc _) (clear i d l))
