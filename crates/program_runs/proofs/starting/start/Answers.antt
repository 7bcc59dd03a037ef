use Rattle.std.proofs.Common.{◌≡◌, sym, subst, Result, Ok}
use Rattle.std.specs.Result.{IfOk}
use Rattle.mb_base.specs.declared.arg_list.ArgList.{ArgList}
use Rattle.mesh_files.specs.declared.stop.Stop.{Stop}
use Rattle.program_runs.specs.Promises.{IsSoundRun}
use Rattle.program_runs.proofs.starting.start.Goals as goal

-- what holds of the words that are there holds if they are
if_words : (P : ArgList → Type 0) (given : Result ArgList Stop) (words : ArgList) → given ≡ Ok words → P words → IfOk given P
if_words P given words is holds = subst (λ r. IfOk r P) (sym is) holds

pub returns-in-Ok-clause-run : goal.returns-in-Ok-clause-run
returns-in-Ok-clause-run g c =
    if_words _ c.args.words c.in-Ok.words c.in-Ok.is (subst
    (λ l. IsSoundRun g.S.Shelf g.O.Sink g.E.Sink l c.in-Ok.words (c.args.shelf.now, c.args.out.now, c.args.err.now)
    (c.run.new.shelf, c.run.new.out, c.run.new.err) c.args.sums.now c.run.new.steps c.run.result)
    c.program.ensures.value c.run.ensures)

pub returns-in-Ok-clause-unread : goal.returns-in-Ok-clause-unread
returns-in-Ok-clause-unread g c = rw c.in-Ok.is tt

pub returns-in-Ok-clause-alone : goal.returns-in-Ok-clause-alone
returns-in-Ok-clause-alone g c = rw c.in-Ok.is tt

pub returns-in-Err-clause-run : goal.returns-in-Err-clause-run
returns-in-Err-clause-run g c = rw c.in-Err.is tt
