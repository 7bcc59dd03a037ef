-- The heights at which rays that meet edges begin, as boxes.
use Rattle.std.specs.Prelude.{◌≡◌, ℕ, ℤ, pos, ◌+ℤ◌, ◌*ℤ◌, List, [], ◌∷◌, IfSome, None, get_or, length, map}
use Rattle.std.specs.Int.{int_min, int_max}
use Rattle.chain_terms.specs.Sums.{upto}
use Rattle.mb_base.specs.declared.point.Box3.{Box3}
use Rattle.face_plane.specs.Planes.{Plane}
use Rattle.plane_sheets.specs.Found.{HasCrossing}
use Rattle.plane_sheets.specs.declared.passing.Passing.{Passing}

-- the heights of a segment, doubled
abbrev pub shadow_of : ℤ × ℤ → ℤ × ℤ → Box3
shadow_of p q = record { low = (pos 2 *ℤ int_min p.1 q.1) ∷ pos 0 ∷ pos 0 ∷ []; high = (pos 2 *ℤ int_max p.1 q.1) ∷ pos 0 ∷ pos 0 ∷ [] }

-- those of edges
abbrev pub shadows_of : Plane → List (ℕ × ℕ) → List Box3
shadows_of at es = map (λ e. shadow_of (at e.0) (at e.1)) es

-- a height as a box, and that of the middle of a segment, doubled
abbrev pub height_at : ℤ → Box3
height_at m = let l = m ∷ pos 0 ∷ pos 0 ∷ [] in record { low = l; high = l }

abbrev pub middle_of : ℤ × ℤ → ℤ × ℤ → Box3
middle_of a b = height_at (a.1 +ℤ b.1)

-- the height of the middle of edge e, doubled
abbrev pub edge_height : Plane → List (ℕ × ℕ) → ℕ → ℤ
edge_height at es e = let d = get_or es e (0, 0) in (at d.0).1 +ℤ (at d.1).1

-- a tree over the boxes of edges, or all their numbers; and those found last, for the edges of one height
pub record HasEdges (at : Plane) (es : List (ℕ × ℕ)) (p : Passing) : Type 0 where
  pub tree : IfSome p.tree (λ t. t ≡ shadows_of at es)
  pub all : p.tree ≡ None → p.near.items ≡ upto (length es)
  pub last : (e : ℕ) → edge_height at es e ≡ p.height → HasCrossing at es e p.near.items
