use Rattle.std.proofs.Common.{◌∙◌, ap}
use Rattle.play_terms.specs.Plays.{with_held}
use Rattle.script_runs.specs.Held.{held_of}
use Rattle.script_runs.specs.Names.{named_in}
use Rattle.script_runs.proofs.Naming.{named_all}
use Rattle.script_runs.proofs.names.HeldNames.hold.Goals as goal

pub returns-clause-named : goal.returns-clause-named
returns-clause-named c =
    let name = c.args.name in
    named_all c.self.inside.held.entries c.insert.new.self.entries name c.args.held c.in_ok-insert.ensures.entries
    ∙ ap (λ es. with_held name.now (held_of c.args.held) (named_in es)) c.self.view_is
