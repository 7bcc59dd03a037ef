use Rattle.std.proofs.Common.{◌*◌, ◌<◌, ℕ, [], length, subst, sym, ap, ◌∙◌, arith}
use Rattle.std.specs.Prelude.{count_by}
use Rattle.std.specs.List.{All}
use Rattle.std.proofs.lemmas.List.Elements.{All-get_or}
use Rattle.mesh_tidy.specs.Neighbours.{ends_at}
use Rattle.mesh_tidy.specs.TidySurface.{TidySurface, IsKept}
use Rattle.mesh_tidy.proofs.Asking.{dir_counts}
use Rattle.mesh_tidy.proofs.surface.TidySurface.star.Goals as goal

pub returns-clause-within : goal.returns-clause-within
returns-clause-within c =
    let kept = subst (λ (v : TidySurface). IsKept v c.self.inside.twins.items c.self.inside.stars) c.self.view_is c.self.invariant in
    let low : ℕ → Type 0 = λ h. h < 3 * length c.args.self.now.triples in
    subst (All low) (sym c.star.ensures)
    (All-get_or (All low) c.self.inside.stars c.args.vertex [] (omega (arith, c.requires, ap (λ (v : TidySurface). v.vertices) c.self.view_is)) kept.within)

pub returns-clause-counts : goal.returns-clause-counts
returns-clause-counts c =
    let kept = subst (λ (v : TidySurface). IsKept v c.self.inside.twins.items c.self.inside.stars) c.self.view_is c.self.invariant in
    λ w. dir_counts c.args.self.now c.self.inside.twins.items c.self.inside.stars kept (ap (λ (v : TidySurface). v.vertices) c.self.view_is) c.args.vertex w c.requires
    ∙ ap (count_by (ends_at c.args.self.now w)) (sym c.star.ensures)
