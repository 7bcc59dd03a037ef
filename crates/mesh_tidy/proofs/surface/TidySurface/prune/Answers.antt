use Rattle.std.proofs.Common.{◌≡◌, ◌<◌, ℕ, List, [], filter, length, get_or, subst, sym, ap, ◌∙◌, refl, arith}
use Rattle.std.proofs.lemmas.List.{length-set}
use Rattle.mesh_terms.specs.Meshes.{triples_of}
use Rattle.mesh_tidy.specs.Stars.{is_left}
use Rattle.mesh_tidy.specs.TidySurface.{TidySurface, IsKept}
use Rattle.mesh_tidy.proofs.Starring.{pruned, pruned_kept}
use Rattle.mesh_tidy.proofs.surface.TidySurface.prune.Goals as goal

pub invariant_of-self : goal.invariant_of-self
invariant_of-self c =
    let tw = c.self.inside.twins.items in
    let stars = c.self.inside.stars in
    let left = c.self.inside.left.items in
    let v = c.args.vertex in
    let s : ℕ → TidySurface = λ n. record { triples = triples_of c.self.inside.triples.items; left = left; vertices = n } in
    let low : v < length stars = omega (arith, c.requires, ap (λ (v : TidySurface). v.vertices) c.self.view_is) in
    let now : c.prune.new.self ≡ pruned left stars v = c.prune.ensures ∙ ap (λ l. pruned l stars v) c.deref.ensures.value in
    let kept = pruned_kept (s (length stars)) tw stars v c.self.invariant refl low in
    subst (λ st. IsKept (s (length st)) tw st) (sym now)
    (subst (λ n. IsKept (s n) tw (pruned left stars v)) (sym (length-set stars v (filter (is_left left) (get_or stars v [])))) kept)
