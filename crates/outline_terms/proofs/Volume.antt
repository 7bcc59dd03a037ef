-- The volume of an extrusion.
use Rattle.std.proofs.Common.{◌≡◌, ℕ, ◌+◌, ◌<◌, ℤ, pos, neg_ℤ, List, [], ◌∷◌, ◌++◌, length, map, get_or, refl, ap, ◌∙◌, arith}
use Rattle.std.specs.Prelude.{◌+ℤ◌, ◌-ℤ◌, ◌*ℤ◌}
use Rattle.std.specs.List.{All, flat_map}
use Rattle.std.proofs.lemmas.Int.{ints}
use Rattle.std.proofs.lemmas.List.{get_or-append-add, get_or-map, get_or_append_left, length-map}
use Rattle.std.proofs.lemmas.List.Elements.{All-head, All-tail}
use Rattle.std.proofs.Math.IntN.{*ℤ_comm}
use Rattle.chain_terms.specs.Chains.{all_edges, edges}
use Rattle.chain_terms.specs.Odd.{SameChain, along}
use Rattle.chain_terms.specs.Sums.{total}
use Rattle.chain_laws.specs.Areas.{area_at}
use Rattle.chain_laws.specs.Products.{mul-add, mul-assoc, mul-neg, mul-sub, sub-mul}
use Rattle.chain_laws.specs.Sums.{total-append}
use Rattle.chain_laws.specs.Triples.{opposite_triple, renamed_triple}
use Rattle.chain_laws.proofs.Areas.{area_odd}
use Rattle.mesh_terms.specs.Meshes.{IsBelow, Triple}
use Rattle.mesh_terms.specs.Points.{coordinate_of}
use Rattle.mesh_terms.specs.Volume.{determinant, triangle_determinant, volume6_of}
use Rattle.outline_terms.specs.Extrusion.{at_height, extruded_points, extruded_triples, walls}

-- the first of three factors moved by one, and the last moved to the front
first_changed : (a b c : ℤ) → a *ℤ (b *ℤ c) ≡ b *ℤ (a *ℤ c)
first_changed a b c = rw (← mul-assoc a b c, *ℤ_comm a b, mul-assoc b a c) refl

last_first : (a b c : ℤ) → c *ℤ (a *ℤ b) ≡ a *ℤ (b *ℤ c)
last_first a b c = rw (first_changed c a b, *ℤ_comm c b) refl

-- two numbers exchanged behind a third
behind : (h a b : ℤ) → h *ℤ (a *ℤ b) ≡ h *ℤ (b *ℤ a)
behind h a b = ap (λ k. h *ℤ k) (turned a b) where
  turned : (i j : ℤ) → i *ℤ j ≡ j *ℤ i
  turned i j = omega (arith, ints)

-- three points at one height: the height times the doubled area
at_one_height : (h x0 y0 x1 y1 x2 y2 : ℤ) →
    determinant (x0 ∷ y0 ∷ h ∷ []) (x1 ∷ y1 ∷ h ∷ []) (x2 ∷ y2 ∷ h ∷ []) ≡ h *ℤ ((x0 *ℤ y1 -ℤ x1 *ℤ y0) +ℤ (x1 *ℤ y2 -ℤ x2 *ℤ y1) +ℤ (x2 *ℤ y0 -ℤ x0 *ℤ y2))
at_one_height h x0 y0 x1 y1 x2 y2 =
    let a = x0 *ℤ y1 -ℤ x1 *ℤ y0 in
    let b = x1 *ℤ y2 -ℤ x2 *ℤ y1 in
    let c = x2 *ℤ y0 -ℤ x0 *ℤ y2 in
    omega (
      arith,
      ints,
      mul-sub x0 (y1 *ℤ h) (h *ℤ y2),
      mul-sub y0 (h *ℤ x2) (x1 *ℤ h),
      mul-sub h (x1 *ℤ y2) (y1 *ℤ x2),
      last_first x0 y1 h,
      first_changed x0 h y2,
      first_changed y0 h x2,
      last_first y0 x1 h,
      mul-add h (a +ℤ b) c,
      mul-add h a b,
      mul-sub h (x0 *ℤ y1) (x1 *ℤ y0),
      mul-sub h (x1 *ℤ y2) (x2 *ℤ y1),
      mul-sub h (x2 *ℤ y0) (x0 *ℤ y2),
      behind h x1 y0,
      behind h y1 x2,
      behind h y0 x2,
    )

-- the two triangles of a wall: each the height between times the doubled area of the edge
wall_first : (l h xa ya xb yb : ℤ) → determinant (xa ∷ ya ∷ l ∷ []) (xb ∷ yb ∷ l ∷ []) (xb ∷ yb ∷ h ∷ []) ≡ (h -ℤ l) *ℤ (xa *ℤ yb -ℤ xb *ℤ ya)
wall_first l h xa ya xb yb =
    let e = xa *ℤ yb -ℤ xb *ℤ ya in
    omega (
      arith,
      ints,
      mul-sub xa (yb *ℤ h) (l *ℤ yb),
      mul-sub ya (l *ℤ xb) (xb *ℤ h),
      mul-sub l (xb *ℤ yb) (yb *ℤ xb),
      last_first xa yb h,
      first_changed xa l yb,
      first_changed ya l xb,
      last_first ya xb h,
      behind l xb yb,
      sub-mul h l e,
      mul-sub h (xa *ℤ yb) (xb *ℤ ya),
      mul-sub l (xa *ℤ yb) (xb *ℤ ya),
      behind h xb ya,
      behind l xb ya,
    )

wall_second : (l h xa ya xb yb : ℤ) → determinant (xa ∷ ya ∷ l ∷ []) (xb ∷ yb ∷ h ∷ []) (xa ∷ ya ∷ h ∷ []) ≡ (h -ℤ l) *ℤ (xa *ℤ yb -ℤ xb *ℤ ya)
wall_second l h xa ya xb yb =
    let e = xa *ℤ yb -ℤ xb *ℤ ya in
    omega (
      arith,
      ints,
      mul-sub xa (yb *ℤ h) (h *ℤ ya),
      mul-sub ya (h *ℤ xa) (xb *ℤ h),
      mul-sub l (xb *ℤ ya) (yb *ℤ xa),
      last_first xa yb h,
      first_changed xa h ya,
      first_changed ya h xa,
      last_first ya xb h,
      behind h xa ya,
      behind l yb xa,
      sub-mul h l e,
      mul-sub h (xa *ℤ yb) (xb *ℤ ya),
      mul-sub l (xa *ℤ yb) (xb *ℤ ya),
      behind h xb ya,
    )

module _ (low high : ℤ) (points : List (List ℤ)) where
  abbrev n : ℕ
  n = length points

  abbrev all_points : List (List ℤ)
  all_points = extruded_points low high points

  abbrev x_of : ℕ → ℤ
  x_of v = coordinate_of (get_or points v []) 0

  abbrev y_of : ℕ → ℤ
  y_of v = coordinate_of (get_or points v []) 1

  -- where vertices lie
  low_at : (v : ℕ) → v < n → get_or all_points v [] ≡ x_of v ∷ y_of v ∷ low ∷ []
  low_at v below =
      get_or_append_left (map (at_height low) points) (map (at_height high) points) [] v
      (omega (arith, below, length-map points (at_height low))) ∙ get_or-map (at_height low) points v [] [] below

  high_at : (v : ℕ) → v < n → get_or all_points (v + n) [] ≡ x_of v ∷ y_of v ∷ high ∷ []
  high_at v below =
      let there : v + n ≡ length (map (at_height low) points) + v = omega (arith, length-map points (at_height low)) in
      ap (λ k. get_or all_points k []) there ∙ get_or-append-add (map (at_height low) points) (map (at_height high) points) v [] ∙ get_or-map (at_height high) points v [] [] below

  three : (p q r p' q' r' : List ℤ) → p ≡ p' → q ≡ q' → r ≡ r' → determinant p q r ≡ determinant p' q' r'
  three p q r p' q' r' a b c = (λ i. determinant (a i) (b i) (c i))

  -- the doubled area of triangles
  abbrev area_of : List (ℕ × ℕ) → ℤ
  area_of es = total (along (area_at x_of y_of)) es

  bottom : (ts : List Triple) → All (IsBelow n) ts → volume6_of all_points (map opposite_triple ts) ≡ neg_ℤ (low *ℤ area_of (all_edges ts))
  bottom [] below = omega (arith, ints)
  bottom (t ∷ ts) below =
      let b = All-head (IsBelow n) t ts below in
      let a0 = x_of t.0 in let b0 = y_of t.0 in let a1 = x_of t.1 in let b1 = y_of t.1 in let a2 = x_of t.2 in let b2 = y_of t.2 in
      let s = area_of (edges t) in
      let here : triangle_determinant all_points (opposite_triple t) ≡ low *ℤ ((a0 *ℤ b2 -ℤ a2 *ℤ b0) +ℤ (a2 *ℤ b1 -ℤ a1 *ℤ b2) +ℤ (a1 *ℤ b0 -ℤ a0 *ℤ b1)) =
      three (get_or all_points t.0 []) (get_or all_points t.2 []) (get_or all_points t.1 [])
      (a0 ∷ b0 ∷ low ∷ []) (a2 ∷ b2 ∷ low ∷ []) (a1 ∷ b1 ∷ low ∷ []) (low_at t.0 b.a) (low_at t.2 b.c) (low_at t.1 b.b) ∙ at_one_height low a0 b0 a2 b2 a1 b1 in
      let same : (a0 *ℤ b2 -ℤ a2 *ℤ b0) +ℤ (a2 *ℤ b1 -ℤ a1 *ℤ b2) +ℤ (a1 *ℤ b0 -ℤ a0 *ℤ b1) ≡ neg_ℤ s = omega (arith, ints) in
      let split : area_of (all_edges (t ∷ ts)) ≡ s +ℤ area_of (all_edges ts) = total-append (along (area_at x_of y_of)) (edges t) (all_edges ts) in
      omega (
        arith,
        ints,
        here,
        ap (λ k. low *ℤ k) same,
        mul-neg low s,
        bottom ts (All-tail (IsBelow n) t ts below),
        ap (λ k. low *ℤ k) split,
        mul-add low s (area_of (all_edges ts)),
      )

  top : (ts : List Triple) → All (IsBelow n) ts → volume6_of all_points (map (renamed_triple (λ v. v + n)) ts) ≡ high *ℤ area_of (all_edges ts)
  top [] below = omega (arith, ints)
  top (t ∷ ts) below =
      let b = All-head (IsBelow n) t ts below in
      let a0 = x_of t.0 in let b0 = y_of t.0 in let a1 = x_of t.1 in let b1 = y_of t.1 in let a2 = x_of t.2 in let b2 = y_of t.2 in
      let s = area_of (edges t) in
      let here : triangle_determinant all_points (renamed_triple (λ v. v + n) t) ≡ high *ℤ ((a0 *ℤ b1 -ℤ a1 *ℤ b0) +ℤ (a1 *ℤ b2 -ℤ a2 *ℤ b1) +ℤ (a2 *ℤ b0 -ℤ a0 *ℤ b2)) =
      three (get_or all_points (t.0 + n) []) (get_or all_points (t.1 + n) []) (get_or all_points (t.2 + n) [])
      (a0 ∷ b0 ∷ high ∷ []) (a1 ∷ b1 ∷ high ∷ []) (a2 ∷ b2 ∷ high ∷ []) (high_at t.0 b.a) (high_at t.1 b.b) (high_at t.2 b.c)
      ∙ at_one_height high a0 b0 a1 b1 a2 b2 in
      let same : (a0 *ℤ b1 -ℤ a1 *ℤ b0) +ℤ (a1 *ℤ b2 -ℤ a2 *ℤ b1) +ℤ (a2 *ℤ b0 -ℤ a0 *ℤ b2) ≡ s = omega (arith, ints) in
      let split : area_of (all_edges (t ∷ ts)) ≡ s +ℤ area_of (all_edges ts) = total-append (along (area_at x_of y_of)) (edges t) (all_edges ts) in
      omega (arith, ints, here, ap (λ k. high *ℤ k) same, top ts (All-tail (IsBelow n) t ts below), ap (λ k. high *ℤ k) split, mul-add high s (area_of (all_edges ts)))

  sides : (es : List (ℕ × ℕ)) → All (λ e. (e.0 < n) × (e.1 < n)) es → volume6_of all_points (flat_map (walls n) es) ≡ (high -ℤ low) *ℤ area_of es +ℤ (high -ℤ low) *ℤ area_of es
  sides [] below = omega (arith, ints)
  sides (e ∷ es) below =
      let b = All-head (λ (f : ℕ × ℕ). (f.0 < n) × (f.1 < n)) e es below in
      let xa = x_of e.0 in let ya = y_of e.0 in let xb = x_of e.1 in let yb = y_of e.1 in
      let one = three (get_or all_points e.0 []) (get_or all_points e.1 []) (get_or all_points (e.1 + n) [])
      (xa ∷ ya ∷ low ∷ []) (xb ∷ yb ∷ low ∷ []) (xb ∷ yb ∷ high ∷ []) (low_at e.0 b.0) (low_at e.1 b.1) (high_at e.1 b.1) ∙ wall_first low high xa ya xb yb in
      let two = three (get_or all_points e.0 []) (get_or all_points (e.1 + n) []) (get_or all_points (e.0 + n) [])
      (xa ∷ ya ∷ low ∷ []) (xb ∷ yb ∷ high ∷ []) (xa ∷ ya ∷ high ∷ []) (low_at e.0 b.0) (high_at e.1 b.1) (high_at e.0 b.0) ∙ wall_second low high xa ya xb yb in
      omega (arith, ints, one, two, sides es (All-tail (λ (f : ℕ × ℕ). (f.0 < n) × (f.1 < n)) e es below), mul-add (high -ℤ low) (xa *ℤ yb -ℤ xb *ℤ ya) (area_of es))

  -- three times the height between times the doubled area
  pub extrusion_volume : (ts : List Triple) (es : List (ℕ × ℕ)) → All (IsBelow n) ts → All (λ e. (e.0 < n) × (e.1 < n)) es → SameChain (all_edges ts) es →
      volume6_of all_points (extruded_triples n ts es) ≡ pos 3 *ℤ ((high -ℤ low) *ℤ area_of es)
  extrusion_volume ts es below inside same =
      let whole = total-append (triangle_determinant all_points) (map opposite_triple ts) (map (renamed_triple (λ v. v + n)) ts ++ flat_map (walls n) es) in
      let rest = total-append (triangle_determinant all_points) (map (renamed_triple (λ v. v + n)) ts) (flat_map (walls n) es) in
      let area : area_of (all_edges ts) ≡ area_of es = same (area_at x_of y_of) (area_odd x_of y_of) in
      omega (arith, ints, whole, rest, bottom ts below, top ts below, sides es inside, ap (λ k. low *ℤ k) area, ap (λ k. high *ℤ k) area, sub-mul high low (area_of es))
