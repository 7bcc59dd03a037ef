-- The roots, counted.
use Rattle.std.proofs.Common.{rules, arith, ◌≡◌, Bool, true, false, List, [], ◌∷◌, length, count_by, refl, ◌∙◌}
use Rattle.chain_laws.specs.Counts.{count_by-cons}
use Rattle.spanning_forest.specs.declared.entrance.Entrance.{Entrance}
use Rattle.spanning_forest.specs.declared.entrance.Entrance.TheVariants.{Root, Along}
use Rattle.spanning_forest.specs.Forests.{roots_of}
use Rattle.mesh_make.proofs.components.roots.Goals as goal

-- whether an entrance is a root
abbrev is_root : Entrance → Bool
is_root (Root v) = true
is_root (Along h) = false

-- there are as many as roots in the list
as_many : (entrances : List Entrance) → count_by is_root entrances ≡ length (roots_of entrances)
as_many [] = refl
as_many (Root v ∷ rest) = omega (arith, count_by-cons is_root (Root v) rest, as_many rest)
as_many (Along h ∷ rest) = omega (arith, count_by-cons is_root (Along h) rest, as_many rest)

pub returns : goal.returns
returns c =
    let counted : c.count.result ≡ count_by is_root c.args.entrances.now = search rules in
    counted ∙ as_many c.args.entrances.now
