-- The vertices that numbers prescribe, as a list with counts.
use Rattle.std.specs.Prelude.{◌≡◌, [], ◌∷◌, map}
use Rattle.mb_base.specs.declared.op.Op.{Op}
use Rattle.side_terms.specs.Sides.{Side}
use Rattle.side_terms.specs.Prescribed.{Numbers, crossing_count, p_kept, prescribed as copies_of_numbers, prescribed_halfedges, q_kept}
use Rattle.retained_verts.specs.declared.list.Prescribed.{Prescribed}

-- the prescribed vertices and their counts are those of the numbers
pub record ArePrescribed (op : Op) (p q : Side) (n : Numbers) (r : Prescribed) : Type 0 where
  pub origins : r.origins.items ≡ map (λ c. c.origin) (copies_of_numbers op p q n)
  pub points : r.points.items ≡ map (λ c. c.point) (copies_of_numbers op p q n)
  pub kept : r.kept ≡ p_kept op n ∷ q_kept op n ∷ []
  pub crossings : r.crossings ≡ crossing_count op n
  pub halfedges : r.halfedges ≡ prescribed_halfedges op p q n
