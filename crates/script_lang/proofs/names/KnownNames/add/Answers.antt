use Rattle.std.proofs.Common.{◌∙◌, ap}
use Rattle.script_lang.specs.Names.{beside, with_more}
use Rattle.script_lang.proofs.NameKinds.{more_all}
use Rattle.script_lang.proofs.names.KnownNames.add.Goals as goal

pub returns-clause-added : goal.returns-clause-added
returns-clause-added c =
    let name = c.args.name in
    more_all (λ k. k) c.self.inside.kinds.entries c.insert.new.self.entries name c.args.kind c.in_ok-insert.ensures.entries
    ∙ ap (λ names. with_more name.now c.args.kind (beside names)) c.self.view_is
