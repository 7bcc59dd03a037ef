use Rattle.std.proofs.Common.{Option, IfSome, sym, subst, arith}
use Rattle.shadow_kernels.specs.Bounds.{hull_fine}
use Rattle.shadow_kernels.specs.ShadowLaws.{IsInHull}
use Rattle.shadow_kernels.specs.declared.Meet.{Meet}
use Rattle.cross_section.proofs.numbers.hits.hit_of.Goals as goal

pub point_of-requires : goal.point_of-requires
point_of-requires g c =
    let p = c.args.p.now in
    let q = c.args.q.now in
    let hull = (g.met.K.Meets.laws c.args.kernels.now).hull p q (omega arith) c.told-p c.told-q c.requires.p_fine c.requires.q_fine in
    hull_fine p q c.in-Some.meet.spot c.requires.p_fine c.requires.q_fine (subst (λ (o : Option Meet). IfSome o (λ a. IsInHull p q a.spot)) (sym c.in-Some.ensures) hull)
