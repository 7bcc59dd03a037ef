-- How often triangles of a plane cover a place of it, as a sum over their edges.
use Rattle.std.specs.Prelude.{◌≡◌, ◌⊎◌, ℕ, ℤ, pos, neg_ℤ, ◌+ℤ◌, List, Bool, true, false, not, if◌then◌else◌, int_le, int_lt}
use Rattle.chain_terms.specs.Chains.{all_edges, edges}
use Rattle.chain_terms.specs.Odd.{along}
use Rattle.chain_terms.specs.Sums.{total}
use Rattle.face_plane.specs.Planes.{Plane}
use Rattle.mesh_terms.specs.Meshes.{Triple}
use Rattle.plane_laws.specs.Areas.{Place, area}
use Rattle.plane_laws.specs.Signs.{Signed}

-- a pair of coordinates
abbrev pub place : ℤ × ℤ → Place
place p = record { x = p.0; y = p.1 }

-- from the left of a place, or below it, to its right or back, with the area of both ends and the place: 1 where the edge passes
-- below the place to the right, -1 where it does to the left, else 0
abbrev pub passing : Bool → Bool → ℤ → ℤ
passing true true z = pos 0
passing true false z = if int_lt (pos 0) z then pos 1 else pos 0
passing false true z = if int_lt z (pos 0) then neg_ℤ (pos 1) else pos 0
passing false false z = pos 0

-- how often the edge from a to b passes below p
abbrev pub passes : Place → Place → Place → ℤ
passes p a b = passing (int_le a.x p.x) (int_le b.x p.x) (area a b p)

-- how often edges do: for closed ones this is how often they go round p to the left
abbrev pub winding : Plane → Place → List (ℕ × ℕ) → ℤ
winding at p es = total (along (λ a b. passes p (place (at a)) (place (at b)))) es

-- how often triangles cover p: each one that turns left once, each one that turns right once less
abbrev pub cover : Plane → Place → List Triple → ℤ
cover at p ts = winding at p (all_edges ts)

-- 1 for a triangle that turns left, -1 for one that turns right
abbrev pub one_of : Bool → ℤ
one_of true = pos 1
one_of false = neg_ℤ (pos 1)

-- the three areas of p and the edges of a triangle have a sign: p is inside it
pub record IsInside (s : Bool) (p a b c : Place) : Type 0 where
  pub ab : Signed s (area a b p)
  pub bc : Signed s (area b c p)
  pub ca : Signed s (area c a p)

-- one of them has the other sign: p is outside it
abbrev pub IsOutside : Bool → Place → Place → Place → Place → Type 0
IsOutside s p a b c = Signed (not s) (area a b p) ⊎ (Signed (not s) (area b c p) ⊎ Signed (not s) (area c a p))

-- a triangle that turns one way covers what is inside it, once, and nothing outside
pub record CoversOnce (s : Bool) (p a b c : Place) : Type 0 where
  pub inside : IsInside s p a b c → passes p a b +ℤ (passes p b c +ℤ (passes p c a +ℤ pos 0)) ≡ one_of s
  pub outside : IsOutside s p a b c → passes p a b +ℤ (passes p b c +ℤ (passes p c a +ℤ pos 0)) ≡ pos 0

abbrev pub TrianglesCoverOnce : Type 0
TrianglesCoverOnce = (s : Bool) (p a b c : Place) → Signed s (area a b c) → CoversOnce s p a b c
