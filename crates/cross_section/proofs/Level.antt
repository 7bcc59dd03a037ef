-- The corners of an outline lie at one height.
use Rattle.std.proofs.Common.{◌≡◌, ℤ, pos, Bool, List, [], ◌∷◌, ap}
use Rattle.std.specs.Prelude.{◌*ℤ◌}
use Rattle.std.specs.List.{All}
use Rattle.std.proofs.lemmas.List.Elements.{All-cons, All-head, All-nil, All-tail}
use Rattle.mb_base.specs.declared.TheConstants.{UNIT}
use Rattle.mesh_terms.specs.Points.{coordinate_of}
use Rattle.side_terms.specs.Sides.{corner_of, corners_of}
use Rattle.cross_section.specs.Sides.{IsLevel}

pub corners_level : (ps : List (List ℤ)) (us : List (List Bool)) → All (λ p. coordinate_of p 2 ≡ pos 0) ps → All IsLevel (corners_of ps us)
corners_level [] us h = All-nil IsLevel
corners_level (p ∷ ps) [] h = All-nil IsLevel
corners_level (p ∷ ps) (u ∷ us) h =
    All-cons IsLevel (corner_of p u) (corners_of ps us) (ap (λ z. UNIT *ℤ z) (All-head (λ q. coordinate_of q 2 ≡ pos 0) p ps h))
    (corners_level ps us (All-tail (λ q. coordinate_of q 2 ≡ pos 0) p ps h))
