-- The marks of a box, computed by the definition.
use Rattle.std.proofs.Common.{◌≡◌, pos, [], ◌∷◌, true, false, get_or, replicate, refl}
use Rattle.mb_base.specs.declared.op.Op.TheVariants.{Union, Intersect, Subtract}
use Rattle.mesh_terms.specs.Meshes.{Mesh}
use Rattle.lean.specs.Leans.{leans_of}

-- the box from (0, 0, 0) to (10, 10, 10)
abbrev pub box : Mesh
box = record {
  points =
      (pos 0 ∷ pos 0 ∷ pos 0 ∷ []) ∷ (pos 10 ∷ pos 0 ∷ pos 0 ∷ []) ∷ (pos 0 ∷ pos 10 ∷ pos 0 ∷ []) ∷ (pos 10 ∷ pos 10 ∷ pos 0 ∷ [])
      ∷ (pos 0 ∷ pos 0 ∷ pos 10 ∷ []) ∷ (pos 10 ∷ pos 0 ∷ pos 10 ∷ []) ∷ (pos 0 ∷ pos 10 ∷ pos 10 ∷ []) ∷ (pos 10 ∷ pos 10 ∷ pos 10 ∷ []) ∷ [];
  triples =
      (0, 3, 1) ∷ (0, 2, 3) ∷ (4, 5, 7) ∷ (4, 7, 6) ∷ (0, 1, 4) ∷ (1, 5, 4) ∷ (1, 3, 7) ∷ (1, 7, 5) ∷ (3, 2, 6) ∷ (3, 6, 7) ∷ (0, 4, 6) ∷ (0, 6, 2) ∷ [];
  labels = replicate 12 [];
}

-- its vertex at (10, 0, 0) moves outward in a union
pub union_marks : get_or (leans_of Union box) 1 [] ≡ true ∷ false ∷ false ∷ []
union_marks = refl

-- and inward in the others
pub intersection_marks : get_or (leans_of Intersect box) 1 [] ≡ false ∷ true ∷ true ∷ []
intersection_marks = refl

pub difference_marks : get_or (leans_of Subtract box) 1 [] ≡ false ∷ true ∷ true ∷ []
difference_marks = refl
