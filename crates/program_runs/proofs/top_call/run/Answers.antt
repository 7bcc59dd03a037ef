use Rattle.std.proofs.Common.{◌∙◌, ap, sym, Some}
use Rattle.std.specs.Option.{option_map}
use Rattle.command_words.specs.Commands.{command_of}
use Rattle.play_terms.specs.Words.{command}
use Rattle.program_runs.proofs.Promised.{promised}
use Rattle.program_runs.proofs.Running.{copy_run, point_run, refused_run, script_run, unread_words_run}
use Rattle.program_runs.proofs.top_call.run.Goals as goal

pub returns-in-Ok-None : goal.returns-in-Ok-None
returns-in-Ok-None g c =
    let r = c.requires in
    promised g.S.Shelf g.O.Sink g.E.Sink c.args.limits.now c.args.words.now _ _ _ _ _ r.reads r.writes r.outs c.plays_are_sound.ensures
    (refused_run g.S.Shelf g.O.Sink g.E.Sink c.args.limits.now (command c.args.words.now) c.args.steps.now c.args.shelf.now c.args.out.now c.args.err.now c.tell_stop.new.sink
    (sym c.in-Ok-None.ensures.command ∙ ap (option_map command_of) c.in-Ok-None.field-0-is) c.tell_stop.ensures)

pub returns-in-Err : goal.returns-in-Err
returns-in-Err g c =
    let r = c.requires in
    promised g.S.Shelf g.O.Sink g.E.Sink c.args.limits.now c.args.words.now _ _ _ _ _ r.reads r.writes r.outs c.plays_are_sound.ensures
    (unread_words_run g.S.Shelf g.O.Sink g.E.Sink c.args.limits.now (command c.args.words.now) c.args.steps.now c.args.shelf.now c.args.out.now c.args.err.now
    c.tell_stop-in-Err.new.sink c.tell_stop-in-Err.ensures)

pub returns-in-CopyFile : goal.returns-in-CopyFile
returns-in-CopyFile g c =
    let r = c.requires in
    promised g.S.Shelf g.O.Sink g.E.Sink c.args.limits.now c.args.words.now _ _ _ _ _ r.reads r.writes r.outs c.plays_are_sound.ensures
    (copy_run g.S.Shelf g.O.Sink g.E.Sink c.args.limits.now (command c.args.words.now) c.args.steps.now _ _ _ _ _ _
    (sym c.in-Ok-Some.ensures.command ∙ ap (option_map command_of) (c.in-Ok-Some.field-0-is ∙ ap Some c.in-CopyFile.is))
    c.copy.ensures.ends)

pub returns-in-InsideFile : goal.returns-in-InsideFile
returns-in-InsideFile g c =
    let r = c.requires in
    promised g.S.Shelf g.O.Sink g.E.Sink c.args.limits.now c.args.words.now _ _ _ _ _ r.reads r.writes r.outs c.plays_are_sound.ensures
    (point_run g.S.Shelf g.O.Sink g.E.Sink c.args.limits.now (command c.args.words.now) _ _ c.args.steps.now _ _ _ _ _
    (sym c.in-Ok-Some.ensures.command ∙ ap (option_map command_of) (c.in-Ok-Some.field-0-is ∙ ap Some c.in-InsideFile.is))
    c.inside.ensures.ends c.inside.ensures.counted)

pub returns-in-RunScript : goal.returns-in-RunScript
returns-in-RunScript g c =
    let r = c.requires in
    let ended = c.run_script-ended.ensures in
    promised g.S.Shelf g.O.Sink g.E.Sink c.args.limits.now c.args.words.now _ _ _ _ _ r.reads r.writes r.outs c.plays_are_sound.ensures
    (script_run g.S.Shelf g.O.Sink g.E.Sink c.args.limits.now (command c.args.words.now) _ _ c.args.steps.now _ _ _ _
    (sym c.in-Ok-Some.ensures.command ∙ ap (option_map command_of) (c.in-Ok-Some.field-0-is ∙ ap Some c.in-RunScript.is))
    (record {
      ended = c.run_script-ended.result;
      met = record { meets = ended.meets; halts = ended.halts };
      told = c.concluded.ensures.told;
      quiet = c.concluded.ensures.quiet;
    })
    ended.cost)
