-- Rings and holes told by the areas in the plane that is not exchanged, and areas over one chain.
use Rattle.std.specs.Prelude.{◌≡◌, ℕ, ◌<◌, ℤ, pos, neg_ℤ, int_lt, int_le, List, [], Bool, true, false, cond, not, length, get_or, map}
use Rattle.std.proofs.Common.{arith, refl, sym, ap, ◌∙◌}
use Rattle.std.proofs.lemmas.Int.{ints}
use Rattle.std.proofs.lemmas.List.{get_or-map}
use Rattle.std.specs.List.{flat_map}
use Rattle.chain_terms.specs.Odd.{SameChain}
use Rattle.chain_terms.specs.Paths.{round_edges}
use Rattle.chain_laws.specs.Areas.{area_at}
use Rattle.chain_laws.specs.Sums.{total-flat_map}
use Rattle.chain_laws.proofs.Areas.{area_odd}
use Rattle.face_plane.specs.Planes.{Plane, across, area, face_plane}
use Rattle.hole_joining.specs.Laws.{KeepsAreas}
use Rattle.hole_joining.specs.declared.flat.FlatPoints.{FlatPoints}
use Rattle.hole_joining.specs.Seen.{plane_at, straight_at}
use Rattle.hole_joining.specs.Holes.{is_ring, is_hole}
use Rattle.hole_joining.proofs.Loops.{area-exchanged}

-- the area of the loop at an index
pub read_area : (f : FlatPoints) (loops : List (List ℕ)) (areas : List ℤ) (i : ℕ) → areas ≡ map (area (straight_at f)) loops →
    i < length loops → get_or areas i (pos 0) ≡ area (straight_at f) (get_or loops i [])
read_area f loops areas i is within = ap (λ l. get_or l i (pos 0)) is ∙ get_or-map (area (straight_at f)) loops i [] (pos 0) within

-- where u and v are exchanged it is negated
negated : (f : FlatPoints) (l : List ℕ) → f.turned ≡ true → area (plane_at f) l ≡ neg_ℤ (area (straight_at f) l)
negated f l turned = by_turn f.turned ∙ ap (λ t. cond t (neg_ℤ z) z) turned
  where
    z : ℤ
    z = area (straight_at f) l

    by_turn : (t : Bool) → area (face_plane f.plane.drop t f.points.now) l ≡ cond t (neg_ℤ z) z
    by_turn true = area-exchanged (straight_at f) l
    by_turn false = refl

pub ring_turned : (f : FlatPoints) (l : List ℕ) (z : ℤ) → f.turned ≡ true → z ≡ area (straight_at f) l → int_le z (pos 0) ≡ is_ring (plane_at f) l
ring_turned f l z turned is = over z (area (plane_at f) l) (negated f l turned ∙ ap neg_ℤ (sym is))
  where
    over : (y w : ℤ) → w ≡ neg_ℤ y → int_le y (pos 0) ≡ int_le (pos 0) w
    over y w e = grind (arith, ints)

-- what is no ring is a hole
pub no_ring : (at : Plane) (l : List ℕ) → not (is_ring at l) ≡ is_hole at l
no_ring at l = other (area at l)
  where
    other : (z : ℤ) → not (int_le (pos 0) z) ≡ int_lt z (pos 0)
    other z = grind (arith, ints)

-- rings with the chain of loops have areas with the same sum
pub areas_kept : (at : Plane) (loops rings : List (List ℕ)) → SameChain (flat_map round_edges rings) (flat_map round_edges loops) →
    KeepsAreas at loops rings
areas_kept at loops rings same =
    let u : ℕ → ℤ = λ v. (at v).0 in
    let w : ℕ → ℤ = λ v. (at v).1 in
    sym (total-flat_map (across at) round_edges rings) ∙ same (area_at u w) (area_odd u w) ∙ total-flat_map (across at) round_edges loops
