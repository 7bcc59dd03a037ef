use Rattle.std.proofs.Common.{◌≡◌, length, replicate, pos, ◌∷◌, [], rules, ◌∙◌}
use Rattle.lean.proofs.Normals.{normals_none}
use Rattle.lean.proofs.short.short_normals_of.Goals as goal

pub add_normals-requires : goal.add_normals-requires
add_normals-requires c =
    let points = c.args.mesh.now.points in
    let made : c.in_ok-normals.normals.items ≡ replicate (length points) (pos 0 ∷ pos 0 ∷ pos 0 ∷ []) = search rules in
    c.deref_mut.ensures.value ∙ made ∙ normals_none points
