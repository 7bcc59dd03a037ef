use Rattle.std.proofs.Common.{◌≡◌, ◌∙◌, Bool, true, false, ◌||◌, ap, sym}
use Rattle.format_terms.specs.ObjWritten.{is_obj}
use Rattle.format_terms.specs.StlWritten.{is_stl}
use Rattle.play_terms.proofs.names.is_mesh_name.Goals as goal

-- the first of two tests holds, or the second decides
by_first : (first second test : Bool) → true ≡ first → test ≡ first → test ≡ (first || second)
by_first first second test holds is = is ∙ (sym holds ∙ ap (λ b. b || second) holds)

by_second : (first second test : Bool) → false ≡ first → test ≡ second → test ≡ (first || second)
by_second first second test fails is = is ∙ ap (λ b. b || second) fails

pub returns-then-is_obj_name : goal.returns-then-is_obj_name
returns-then-is_obj_name c = by_first (is_obj c.args.name.now) (is_stl c.args.name.now) _ c.if-is_obj_name.ensures cc

pub returns-else-is_obj_name : goal.returns-else-is_obj_name
returns-else-is_obj_name c = by_second (is_obj c.args.name.now) (is_stl c.args.name.now) _ c.if-is_obj_name.ensures cc
