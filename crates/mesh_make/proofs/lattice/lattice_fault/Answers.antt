use Rattle.std.proofs.Common.{◌*◌, sym, ◌∙◌, ap}
use Rattle.made_terms.specs.Refusals.{excess}
use Rattle.mesh_make.specs.Refused.{refusal}
use Rattle.made_laws.proofs.Lattices.{lattice_refused}
use Rattle.mesh_make.proofs.lattice.lattice_fault.Goals as goal

pub returns : goal.returns
returns c =
    let limits = c.args.limits.now in
    let boxes = c.cube-boxes.result in
    let known = lattice_refused limits c.args.n c.args.seed boxes c.requires c.cube-boxes.ensures.value in
    c.excess.ensures.value ∙ ap (λ k. refusal (excess limits k c.from-2.result)) c.from.ensures
    ∙ ap (λ k. refusal (excess limits (8 * boxes) k)) c.from-2.ensures ∙ ap refusal (sym known)
