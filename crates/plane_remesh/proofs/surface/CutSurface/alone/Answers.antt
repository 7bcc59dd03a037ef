use Rattle.std.proofs.Common.{ap, false, length, ◌≡◌, ◌∙◌}
use Rattle.plane_remesh.specs.PlansTo.{is_alone}
use Rattle.plane_remesh.specs.Surfaces.{plane_at}
use Rattle.plane_remesh.proofs.LoneSteps.{more_others, rim_told}
use Rattle.plane_remesh.proofs.surface.CutSurface.alone.Goals as goal
use Rattle.plane_remesh.proofs.surface.CutSurface.alone.Goals.{else-faces-eq1-via-else-faces-eq1, else-faces-eq1-via-then-faces-eq1+else-not-has_cut}

pub returns-then-not-has_cut-clause-uncut : goal.returns-then-not-has_cut-clause-uncut
returns-then-not-has_cut-clause-uncut c = λ points all is.
    (rim_told points all c.args.self.now is c.args.plane c.requires.plane c.faces_of-faces.result.now
    c.faces_of-faces.ensures c.if-faces-eq1.true _ c.index.ensures c.has_cut.result
    c.has_cut.ensures).uncut c.if-not-has_cut.true

pub returns-else-faces-eq1-clause-others : goal.returns-else-faces-eq1-clause-others
returns-else-faces-eq1-clause-others c = λ points all is.
    elim c.else-faces-eq1.branch as (λ _. is_alone points all (plane_at points all c.args.plane) ≡ false) [
      | else-faces-eq1-via-then-faces-eq1+else-not-has_cut w ↦
          (rim_told points all c.args.self.now is c.args.plane c.requires.plane c.faces_of-faces.result.now
          c.faces_of-faces.ensures w.if-faces-eq1.true _ w.index.ensures w.has_cut.result
          w.has_cut.ensures).others w.if-not-has_cut.false
      | else-faces-eq1-via-else-faces-eq1 w ↦
          more_others points all c.args.self.now is c.args.plane c.requires.plane (λ e. w.if-faces-eq1.false (ap length c.faces_of-faces.ensures ∙ e))
    ]
