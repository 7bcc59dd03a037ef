-- A way from corner to corner through a closed mesh: the numbers with all faces add up to what the winding numbers of its ends differ by.
use Rattle.std.specs.Prelude.{◌≡◌, ℕ, ℤ, pos, neg_ℤ, ◌+ℤ◌, ◌-ℤ◌, ◌≤ℤ◌, ◌<ℤ◌, Bool, true, false, List, [], ◌∷◌, get_or, int_le, if◌then◌else◌}
use Rattle.std.specs.List.{All}
use Rattle.std.proofs.Common.{arith, refl, sym, ap, ◌∙◌}
use Rattle.std.proofs.lemmas.Int.{ints}
use Rattle.std.proofs.lemmas.List.Elements.{All-tail}
use Rattle.chain_terms.specs.Chains.{IsClosed, all_edges, edges}
use Rattle.chain_terms.specs.Odd.{IsOdd, along}
use Rattle.chain_terms.specs.Sums.{total}
use Rattle.chain_laws.specs.Chains.{odd_sum}
use Rattle.chain_laws.specs.Sums.{total-flat_map, total-same, total-same_all, total-sub, total-zero}
use Rattle.mesh_terms.specs.Meshes.{Triple}
use Rattle.mb_base.specs.declared.point.Corner.{Corner}
use Rattle.shadow_kernels.specs.Spots.{Between}
use Rattle.plane_laws.specs.Above.{edges_above_turned_p, edges_above_turned_q}
use Rattle.plane_laws.specs.Bits.{bit_shadow}
use Rattle.plane_laws.specs.Moved.{le_false, le_true}
use Rattle.exact_kernels.specs.Exact.{exact_beyond, exact_edges, exact_face, position}
use Rattle.exact_kernels.specs.Marks.{mark01}
use Rattle.shadow_kernels.specs.declared.Edge.TheVariants.{OfQ}
use Rattle.solid_laws.specs.Bounds.{IsBounded}
use Rattle.solid_laws.specs.Faces.{edge_shadow, edge_turned, face_shade, shade_is}
use Rattle.solid_laws.specs.Mirror.{back_is, back_shade, mirror}
use Rattle.crossing_laws.specs.Backwards.{back_mirror, number_back_is}
use Rattle.crossing_laws.specs.EdgePairs.{back_shadow, edges_shade, edges_shade_is}
use Rattle.crossing_laws.specs.Numbers.{number_is}
use Rattle.crossing_laws.specs.Through.{IsLeftOf, moved_throughs, throughs_moved, way_end, way_total}

-- two shadows that are there together and whose counts are opposite
opposite_shades : (s t : Bool) (x y n m : ℤ) → x ≡ (if s then n else pos 0) → y ≡ (if t then m else pos 0) → t ≡ s → m ≡ neg_ℤ n → x +ℤ y ≡ pos 0
opposite_shades true true x y n m e f g h = omega (arith, ints, e, f, h)
opposite_shades false false x y n m e f g h = omega (arith, ints, e, f)
opposite_shades true false x y n m e f g h = absurd (cc)
opposite_shades false true x y n m e f g h = absurd (cc)

-- the shadow of two edges turns with Q's edge
pub shade_turned_q : (w : Between) (a b c d : Corner) → edges_shade w a b c d +ℤ edges_shade w a b d c ≡ pos 0
unfolding exact_edges
shade_turned_q w a b c d =
    opposite_shades (exact_edges a b c d) (exact_edges a b d c) _ _ _ _ (edges_shade_is w a b c d) (edges_shade_is w a b d c)
    (edges_above_turned_q (position a) (position b) (position c) (position d))
    (count (edge_shadow b c d) (edge_shadow a c d) (back_shadow a b c) (back_shadow a b d) _ _ (edge_turned b c d) (edge_turned a c d))
  where
    count : (f g h k f' g' : ℤ) → f' ≡ neg_ℤ f → g' ≡ neg_ℤ g → f' -ℤ g' -ℤ h +ℤ k ≡ neg_ℤ (f -ℤ g -ℤ k +ℤ h)
    count f g h k f' g' e1 e2 = omega (arith, ints, e1, e2)

-- and with P's
pub shade_turned_p : (w : Between) (a b c d : Corner) → edges_shade w a b c d +ℤ edges_shade w b a c d ≡ pos 0
unfolding exact_edges
shade_turned_p w a b c d =
    opposite_shades (exact_edges a b c d) (exact_edges b a c d) _ _ _ _ (edges_shade_is w a b c d) (edges_shade_is w b a c d)
    (edges_above_turned_p (position a) (position b) (position c) (position d))
    (count (edge_shadow a c d) (edge_shadow b c d) (back_shadow a b d) (back_shadow a b c) _ _ (turned d) (turned c))
  where
    turned : (q : Corner) → back_shadow b a q ≡ neg_ℤ (back_shadow a b q)
    turned q = back_mirror w b a q ∙ edge_turned (mirror q) (mirror a) (mirror b) ∙ ap neg_ℤ (sym (back_mirror w a b q))

    count : (f g h k h' k' : ℤ) → h' ≡ neg_ℤ h → k' ≡ neg_ℤ k → f -ℤ g -ℤ h' +ℤ k' ≡ neg_ℤ (g -ℤ f -ℤ h +ℤ k)
    count f g h k h' k' e1 e2 = omega (arith, ints, e1, e2)

-- numbers n of faces that are differences of the shadows f and s of two ends, less those e of edges: these cancel over a closed mesh
steps_add : (s f n : Triple → ℤ) (e : ℕ → ℕ → ℤ) → IsOdd e → ((t : Triple) → n t ≡ f t -ℤ s t -ℤ total (along e) (edges t)) → (ts : List Triple) → IsClosed (all_edges ts) →
    total n ts ≡ total f ts -ℤ total s ts
steps_add s f n e odd each ts closed =
    by (total n ts) (total (λ t. f t -ℤ s t) ts) (total (λ t. total (along e) (edges t)) ts) (total f ts) (total s ts)
    (total-same n (λ t. f t -ℤ s t -ℤ total (along e) (edges t)) each ts ∙ total-sub (λ t. f t -ℤ s t) (λ t. total (along e) (edges t)) ts)
    (total-sub f s ts) (sym (total-flat_map (along e) edges ts) ∙ odd_sum e odd (all_edges ts) closed)
  where
    by : (x y z k l : ℤ) → x ≡ y -ℤ z → y ≡ k -ℤ l → z ≡ pos 0 → x ≡ k -ℤ l
    by x y z k l h i j = omega (arith, ints, h, i, j)

-- numbers of segments that are differences add up to that of the ends
way_adds : (P : Corner → Type 0) (number : Corner → Corner → ℤ) (at : Corner → ℤ) → ((p q : Corner) → P p → P q → number p q ≡ at q -ℤ at p) →
    (p : Corner) (qs : List Corner) → P p →
    All P qs → way_total number p qs ≡ at (way_end p qs) -ℤ at p
way_adds P number at each p [] hp h = omega (arith, ints)
way_adds P number at each p (q ∷ qs) hp h =
    let hq : P q = h 0 q (omega arith) in
    omega (arith, ints, each p q hp hq, way_adds P number at each q qs hq (All-tail P q qs h))

-- a place that is past all corners of a face in x, or past none, has no shadow on it
none_beyond : (w : Between) (s : Bool) (p u v t : Corner) → exact_beyond p u ≡ s → exact_beyond p v ≡ s → exact_beyond p t ≡ s → face_shade w p u v t ≡ pos 0
unfolding exact_face
none_beyond w s p u v t hu hv ht =
    shade_is w p u v t ∙ by (exact_face OfQ p u v t) _ _ _ (one (exact_beyond p u) (exact_beyond p v) s (mark01 p u v) hu hv)
    (one (exact_beyond p v) (exact_beyond p t) s (mark01 p v t) hv ht) (one (exact_beyond p t) (exact_beyond p u) s (mark01 p t u) ht hu)
  where
    one : (x y s m : Bool) → x ≡ s → y ≡ s → bit_shadow x y m ≡ pos 0
    one true true s m e f = refl
    one false false s m e f = refl
    one true false s m e f = absurd (cc)
    one false true s m e f = absurd (cc)

    by : (t : Bool) (a b c : ℤ) → a ≡ pos 0 → b ≡ pos 0 → c ≡ pos 0 → (if t then a +ℤ b +ℤ c else pos 0) ≡ pos 0
    by true a b c e f g = omega (arith, ints, e, f, g)
    by false a b c e f g = refl

-- numbers that are 0 add up to 0
zeros : (f : Triple → ℤ) (ts : List Triple) → All (λ t. f t ≡ pos 0) ts → total f ts ≡ pos 0
zeros f ts h = total-same_all f (λ t. pos 0) ts h ∙ total-zero ts

module _ (b : ℤ) (sized : pos 0 ≤ℤ b) (w : Between) (at : ℕ → Corner) (hc : (i : ℕ) → IsBounded b (at i)) (ts : List Triple) (closed : IsClosed (all_edges ts)) where
  -- the shadows of a corner of P on all faces of Q
  shades : Corner → ℤ
  shades p = total (λ t. face_shade w p (at t.0) (at t.1) (at t.2)) ts

  -- those of all faces of P on a corner of Q
  back_shades : Corner → ℤ
  back_shades q = total (λ t. back_shade w (at t.0) (at t.1) (at t.2) q) ts

  -- one segment
  step : (p q : Corner) → IsBounded b p → IsBounded b q → moved_throughs (λ i. position (at i)) ts (position p) (position q) ≡ shades q -ℤ shades p
  unfolding shades
  step p q hp hq =
      steps_add (λ t. face_shade w p (at t.0) (at t.1) (at t.2)) (λ t. face_shade w q (at t.0) (at t.1) (at t.2)) _ (λ i j. edges_shade w p q (at i) (at j))
      (record { turns = λ i j. shade_turned_q w p q (at i) (at j) })
      (λ t. sym (number_is b sized w p q (at t.0) (at t.1) (at t.2) hp hq (hc t.0) (hc t.1) (hc t.2))) ts closed

  -- of Q
  step_back : (p q : Corner) → IsBounded b p → IsBounded b q → throughs_moved (λ i. position (at i)) ts (position p) (position q) ≡ back_shades q -ℤ back_shades p
  unfolding back_shades
  step_back p q hp hq =
      steps_add (λ t. back_shade w (at t.0) (at t.1) (at t.2) p) (λ t. back_shade w (at t.0) (at t.1) (at t.2) q) _ (λ i j. edges_shade w (at i) (at j) p q)
      (record { turns = λ i j. shade_turned_p w (at i) (at j) p q })
      (λ t. sym (number_back_is b sized w p q (at t.0) (at t.1) (at t.2) hp hq (hc t.0) (hc t.1) (hc t.2))) ts closed

  -- a corner left of all has no shadows
  left_none : (p : Corner) → IsLeftOf (position p) (λ i. position (at i)) ts → shades p ≡ pos 0
  unfolding shades
  left_none p h =
      zeros _ ts (λ i d l. let t = get_or ts i d in let k = h i d l in
      none_beyond w false p (at t.0) (at t.1) (at t.2) (le_false _ _ k.0) (le_false _ _ k.1) (le_false _ _ k.2))

  -- of Q
  left_back_none : (q : Corner) → IsLeftOf (position q) (λ i. position (at i)) ts → back_shades q ≡ pos 0
  unfolding back_shades
  left_back_none q h =
      zeros _ ts (λ i d l. let t = get_or ts i d in let k = h i d l in
      back_is w (at t.0) (at t.1) (at t.2) q
      ∙ ap neg_ℤ (none_beyond w true (mirror q) (mirror (at t.0)) (mirror (at t.1)) (mirror (at t.2)) (past _ _ k.0) (past _ _ k.1) (past _ _ k.2)))
    where
      past : (x y : ℤ) → x <ℤ y → int_le (neg_ℤ y) (neg_ℤ x) ≡ true
      past x y h = le_true (neg_ℤ y) (neg_ℤ x) (omega (arith, ints, h))

  -- so the winding number of a corner of P is the sum along any way out
  pub way_out : (p : Corner) (way : List Corner) → IsBounded b p → All (IsBounded b) way → IsLeftOf (position (way_end p way)) (λ i. position (at i)) ts →
      neg_ℤ (total (λ t. face_shade w p (at t.0) (at t.1) (at t.2)) ts) ≡ way_total (λ c d. moved_throughs (λ i. position (at i)) ts (position c) (position d)) p way
  unfolding shades
  way_out p way hp h far =
      by _ (shades (way_end p way)) (shades p)
      (way_adds (IsBounded b) (λ c d. moved_throughs (λ i. position (at i)) ts (position c) (position d)) shades step p way hp h)
      (left_none (way_end p way) far) where
        by : (x y z : ℤ) → x ≡ y -ℤ z → y ≡ pos 0 → neg_ℤ z ≡ x
        by x y z e f = omega (arith, ints, e, f)

  -- and that of a corner of Q
  pub way_back_out : (q : Corner) (way : List Corner) → IsBounded b q → All (IsBounded b) way → IsLeftOf (position (way_end q way)) (λ i. position (at i)) ts →
      neg_ℤ (total (λ t. back_shade w (at t.0) (at t.1) (at t.2) q) ts) ≡ way_total (λ c d. throughs_moved (λ i. position (at i)) ts (position c) (position d)) q way
  unfolding back_shades
  way_back_out q way hq h far =
      by _ (back_shades (way_end q way)) (back_shades q)
      (way_adds (IsBounded b) (λ c d. throughs_moved (λ i. position (at i)) ts (position c) (position d)) back_shades step_back q way hq h)
      (left_back_none (way_end q way) far) where
        by : (x y z : ℤ) → x ≡ y -ℤ z → y ≡ pos 0 → neg_ℤ z ≡ x
        by x y z e f = omega (arith, ints, e, f)
