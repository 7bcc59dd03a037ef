use Rattle.std.proofs.Common.{◌≡◌, ◌∙◌, Some, None, ap, sym}
use Rattle.std.specs.Prelude.{option_copied}
use Rattle.std.proofs.lemmas.Result.{on_ok_weaker}
use Rattle.play_terms.specs.Steps.{new_name}
use Rattle.script_lang.specs.Names.{beside, with_more}
use Rattle.script_lang.specs.Steps.{step_of}
use Rattle.script_lang.proofs.Giving.{gives_none, gives_some}
use Rattle.script_lang.proofs.names.KnownNames.add_new.Goals as goal

pub returns-in-Some-clause-added : goal.returns-in-Some-clause-added
returns-in-Some-clause-added c =
    let step = step_of c.args.step.now in
    let had = beside c.args.self.now in
    let name = c.in-Some.name.now in
    let is : new_name step ≡ Some name = sym c.new_name.ensures ∙ ap option_copied c.in-Some.is in
    on_ok_weaker c.add.result (λ so w. ap (λ now. now w) so ∙ ap (λ kind. with_more name kind had w) c.new_kind.ensures ∙ gives_some step name had w is) c.add.ensures.added

pub returns-in-None-clause-added : goal.returns-in-None-clause-added
returns-in-None-clause-added c w =
    let step = step_of c.args.step.now in
    let is : new_name step ≡ None = sym c.new_name.ensures ∙ ap option_copied c.in-None.is in
    gives_none step (beside c.args.self.now w) w is
