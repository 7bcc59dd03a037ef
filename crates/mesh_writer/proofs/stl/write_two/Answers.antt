use Rattle.std.proofs.lemmas.Result.{err_from_is_err_and, on_ok_weaker, on_err_weaker}
use Rattle.mesh_writer.proofs.Written.{wrote-then, broke-then, broke-longer}
use Rattle.mesh_writer.proofs.stl.write_two.Goals as goal

pub returns-in_err-write_line-clause-broke : goal.returns-in_err-write_line-clause-broke
returns-in_err-write_line-clause-broke g c =
    let p = err_from_is_err_and c.from_residual.result c.from_residual.ensures.1 in
    rw p.1 (broke-longer g.K.Sink c.args.first.now c.args.second.now c.args.page.now.items c.args.sink.now c.write_line.new.sink c.in_err-write_line.ensures.broke)

pub returns-clause-wrote : goal.returns-clause-wrote
returns-clause-wrote g c =
    on_ok_weaker c.write_line-2.result
    (λ w. wrote-then g.K.Sink c.args.first.now c.args.second.now c.args.page.now.items _ c.write_line-2.new.page.items c.args.sink.now _ c.write_line-2.new.sink
    c.in_ok-write_line.ensures.wrote w)
    c.write_line-2.ensures.wrote

pub returns-clause-broke : goal.returns-clause-broke
returns-clause-broke g c =
    on_err_weaker c.write_line-2.result
    (λ b. broke-then g.K.Sink c.args.first.now c.args.second.now c.args.page.now.items _ c.args.sink.now _ c.write_line-2.new.sink c.in_ok-write_line.ensures.wrote b)
    c.write_line-2.ensures.broke
