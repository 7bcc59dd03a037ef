-- What an operation makes of winding numbers.
use Rattle.std.specs.Prelude.{ℤ, pos, negsuc, List, [], ◌∷◌}
use Rattle.mb_base.specs.declared.op.Op.{Op}
use Rattle.mb_base.specs.declared.op.Op.TheVariants.{Union, Intersect, Subtract}

-- c1, c2, c3
abbrev pub constants_of : Op → List ℤ
constants_of Union = pos 1 ∷ pos 1 ∷ negsuc 0 ∷ []
constants_of Intersect = pos 0 ∷ pos 0 ∷ pos 1 ∷ []
constants_of Subtract = pos 1 ∷ pos 0 ∷ negsuc 0 ∷ []
