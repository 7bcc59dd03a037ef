-- The winding numbers of two sides under exact tests are the geometric ones.
use Rattle.std.specs.Prelude.{◌≡◌, ℕ, ℤ, pos, neg_ℤ, ◌+ℤ◌, ◌≤ℤ◌, List, [], ◌∷◌, length, get_or, unsigned_abs}
use Rattle.std.specs.List.{All, flat_map}
use Rattle.std.proofs.Common.{arith, sym, subst, inl, inr, ◌∙◌}
use Rattle.std.proofs.lemmas.Int.{ints}
use Rattle.std.proofs.lemmas.List.{get_or_past}
use Rattle.std.proofs.lemmas.Bool.{cases_lt}
use Rattle.chain_terms.specs.Sums.{total}
use Rattle.chain_laws.specs.Sums.{total-same, total-same_all, total-neg, total-flat_map}
use Rattle.mesh_terms.specs.Meshes.{Triple}
use Rattle.mb_base.specs.declared.point.Corner.{Corner}
use Rattle.side_terms.specs.Fine.{fine_edge, IsFine}
use Rattle.side_terms.specs.Corners.{axis, blank_corner, corner_at, IsFineCorner, AllFine}
use Rattle.side_terms.specs.Sides.{Side, IsSide, face_of}
use Rattle.shadow_kernels.specs.Spots.{Between}
use Rattle.shadow_kernels.specs.Counts.{shadow_of}
use Rattle.shadow_kernels.specs.Shadows.{vertex_face, face_vertex}
use Rattle.plane_laws.specs.Decisions.{Vector}
use Rattle.exact_kernels.specs.Exact.{exact, position}
use Rattle.solid_terms.specs.Solids.{IsClear, IsClearOfAll, inside, solid_winding}
use Rattle.solid_laws.specs.Moved.{moved_inside}
use Rattle.solid_laws.specs.Bounds.{IsBounded}
use Rattle.solid_laws.specs.Clear.{clear_inside}
use Rattle.solid_laws.specs.Faces.{face_shade}
use Rattle.solid_laws.specs.Tetrahedra.{tetrahedron}
use Rattle.solid_laws.specs.Meshes.{inside_at, shade_at, exact_winding, winding_counts}
use Rattle.solid_laws.specs.Mirror.{mirror, back_shade, back_is, bounded_mirror, clear_mirror, inside_mirror}

-- the places of the corners of a side, by their numbers
abbrev pub places_of : Side → ℕ → Vector
places_of q i = position (corner_at q.corners i)

-- a corner at a place
abbrev pub corner_on : Vector → Corner
corner_on o = record { at = o.x ∷ o.y ∷ o.z ∷ []; up = [] }

-- a bound of fine coordinates and of those of an apex
bound_of : Corner → ℤ
bound_of o = fine_edge +ℤ pos (unsigned_abs (axis 0 o)) +ℤ pos (unsigned_abs (axis 1 o)) +ℤ pos (unsigned_abs (axis 2 o))

-- it is not negative
bound_sized : (o : Corner) → pos 0 ≤ℤ bound_of o
unfolding bound_of
bound_sized o = omega (arith, ints)

-- the apex is within it
apex_bounded : (o : Corner) → IsBounded (bound_of o) o
unfolding bound_of
apex_bounded o = record {
  x = record { low = omega (arith, ints); high = omega (arith, ints) };
  y = record { low = omega (arith, ints); high = omega (arith, ints) };
  z = record { low = omega (arith, ints); high = omega (arith, ints) };
}

-- and so are fine corners
fine_bounded : (o c : Corner) → IsFineCorner c → IsBounded (bound_of o) c
unfolding bound_of
fine_bounded o c h = record {
  x = record { low = omega (arith, ints, h.x.low); high = omega (arith, ints, h.x.high) };
  y = record { low = omega (arith, ints, h.y.low); high = omega (arith, ints, h.y.high) };
  z = record { low = omega (arith, ints, h.z.low); high = omega (arith, ints, h.z.high) };
}

-- every corner of a side is fine, and so is the blank one
pub fine_at : (cs : List Corner) → AllFine cs → (i : ℕ) → IsFineCorner (corner_at cs i)
fine_at cs h i = elim (cases_lt i (length cs)) as (λ _. IsFineCorner (corner_at cs i)) [
  | inl l ↦ h i blank_corner l
  | inr l ↦ subst IsFineCorner (sym (get_or_past cs i blank_corner l)) blank
] where
  zero : IsFine (pos 0)
  zero = record { low = omega (arith, ints); high = omega (arith, ints) }

  blank : IsFineCorner blank_corner
  blank = record { x = zero; y = zero; z = zero }

-- a corner of P in a side of Q
pub winding_is_solid : (w : Between) (p : Corner) (o : Vector) (q : Side) → IsSide q → IsClearOfAll (position p) o (places_of q) q.triples →
    neg_ℤ (total (λ t. shadow_of (vertex_face exact w (p ∷ []) (face_of q.corners t))) q.triples) ≡ solid_winding (position p) o (places_of q) q.triples
winding_is_solid w p place q side clear =
    let o = corner_on place in
    winding_counts (bound_of o) (bound_sized o) w p o (corner_at q.corners) (apex_bounded o) (λ i. fine_bounded o _ (fine_at q.corners side.fine i)) q.triples
    side.accepted.closed clear

-- a corner of Q in a side of P
pub winding_back_is_solid : (w : Between) (q : Corner) (o : Vector) (p : Side) → IsSide p → IsClearOfAll (position q) o (places_of p) p.triples →
    neg_ℤ (total (λ t. shadow_of (face_vertex exact w (face_of p.corners t) (q ∷ []))) p.triples) ≡ solid_winding (position q) o (places_of p) p.triples
winding_back_is_solid w q place p side clear =
    let o = corner_on place in
    let at : ℕ → Corner = λ i. mirror (corner_at p.corners i) in
    by _ _ _ _
    (total-same (λ t. back_shade w (corner_at p.corners t.0) (corner_at p.corners t.1) (corner_at p.corners t.2) q) (λ t. neg_ℤ (shade_at w (mirror q) at t))
    (λ t. back_is w (corner_at p.corners t.0) (corner_at p.corners t.1) (corner_at p.corners t.2) q) p.triples)
    (total-neg (shade_at w (mirror q) at) p.triples)
    (winding_counts (bound_of o) (bound_sized o) w (mirror q) (mirror o) at (bounded_mirror _ o (apex_bounded o))
    (λ i. bounded_mirror _ _ (fine_bounded o _ (fine_at p.corners side.fine i))) p.triples side.accepted.closed
    (λ i d l. let t = get_or p.triples i d in clear_mirror q o (corner_at p.corners t.0) (corner_at p.corners t.1) (corner_at p.corners t.2) (clear i d l))
    ∙ total-same (inside_at (position (mirror q)) (position (mirror o)) at) (λ t. neg_ℤ (inside_at (position q) (position o) (corner_at p.corners) t))
    (λ t. inside_mirror q o (corner_at p.corners t.0) (corner_at p.corners t.1) (corner_at p.corners t.2)) p.triples
    ∙ total-neg (inside_at (position q) (position o) (corner_at p.corners)) p.triples)
  where
    by : (x y z i : ℤ) → x ≡ y → y ≡ neg_ℤ z → neg_ℤ z ≡ neg_ℤ i → neg_ℤ x ≡ i
    by x y z i e f g = omega (arith, ints, e, f, g)

-- a tetrahedron of four numbered corners
abbrev pub Four : Type 0
Four = ℕ × ℕ × ℕ × ℕ

-- its faces, each of which turns left seen from outside where the tetrahedron is positive
abbrev pub faces_of : Four → List Triple
faces_of f = (f.1, f.2, f.3) ∷ (f.0, f.3, f.2) ∷ (f.0, f.1, f.3) ∷ (f.0, f.2, f.1) ∷ []

-- whether a corner, moved by a hair, is inside such a tetrahedron
abbrev pub moved_inside_of : Corner → (ℕ → Corner) → Four → ℤ
moved_inside_of p at f = moved_inside (position p) (position (at f.0)) (position (at f.1)) (position (at f.2)) (position (at f.3))

-- the boundary of any list of tetrahedra winds round a place, moved by a hair, as often as it lies in one of them, by their signs
pub boundary_counts : (b : ℤ) → pos 0 ≤ℤ b → (w : Between) (p : Corner) (at : ℕ → Corner) → ((i : ℕ) → IsBounded b (at i)) → (fs : List Four) →
    exact_winding w p at (flat_map faces_of fs) ≡ total (moved_inside_of p at) fs
boundary_counts b sized w p at h fs =
    by _ _ _
    (total-flat_map (shade_at w p at) faces_of fs
    ∙ total-same (λ f. total (shade_at w p at) (faces_of f)) (λ f. neg_ℤ (moved_inside_of p at f))
    (λ f. four (face_shade w p (at f.1) (at f.2) (at f.3)) (face_shade w p (at f.0) (at f.3) (at f.2)) (face_shade w p (at f.0) (at f.1) (at f.3))
    (face_shade w p (at f.0) (at f.2) (at f.1)) _ (tetrahedron b sized w p (at f.0) (at f.1) (at f.2) (at f.3) (h f.0) (h f.1) (h f.2) (h f.3))) fs)
    (total-neg (moved_inside_of p at) fs)
  where
    four : (a b c d n : ℤ) → a +ℤ b +ℤ c +ℤ d ≡ n → a +ℤ (b +ℤ (c +ℤ (d +ℤ pos 0))) ≡ n
    four a b c d n e = omega (arith, ints, e)

    by : (x y i : ℤ) → x ≡ y → y ≡ neg_ℤ i → neg_ℤ x ≡ i
    by x y i e f = omega (arith, ints, e, f)

-- whether the corner is inside such a tetrahedron
abbrev pub inside_of : Corner → (ℕ → Corner) → Four → ℤ
inside_of p at f = inside (position p) (position (at f.0)) (position (at f.1)) (position (at f.2)) (position (at f.3))

-- the corner is not on the surface of the tetrahedron
abbrev pub IsClearOfFour : Corner → (ℕ → Corner) → Four → Type 0
IsClearOfFour p at f = IsClear (position p) (position (at f.0)) (position (at f.1)) (position (at f.2)) (position (at f.3))

-- so that of a corner on the surface of none of them counts those that it lies in, by their signs
pub boundary_inside : (b : ℤ) → pos 0 ≤ℤ b → (w : Between) (p : Corner) (at : ℕ → Corner) → ((i : ℕ) → IsBounded b (at i)) → (fs : List Four) → All (IsClearOfFour p at) fs →
    exact_winding w p at (flat_map faces_of fs) ≡ total (inside_of p at) fs
boundary_inside b sized w p at h fs clear =
    boundary_counts b sized w p at h fs
    ∙ total-same_all (moved_inside_of p at) (inside_of p at) fs
    (λ i d l. let f = get_or fs i d in clear_inside b sized p (at f.0) (at f.1) (at f.2) (at f.3) (h f.0) (h f.1) (h f.2) (h f.3) (clear i d l))
