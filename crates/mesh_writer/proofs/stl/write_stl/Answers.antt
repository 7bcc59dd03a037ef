use Rattle.std.proofs.Common.{◌-◌, length}
use Rattle.std.proofs.lemmas.Result.{on_ok_weaker, on_err_weaker}
use Rattle.mesh_writer.proofs.Passing.{ended, ended_room, ended_in_part, last_fits, left_of}
use Rattle.mesh_writer.proofs.Written.{kept-then}
use Rattle.mesh_writer.proofs.stl.write_stl.Goals as goal

pub returns-clause-added : goal.returns-clause-added
returns-clause-added g c =
    let whole = (rw c.new-page.ensures at c.in_ok-write_solid.ensures.wrote).passed in
    on_ok_weaker c.write_all.result (λ added. ended _ _ _ _ _ _ _ whole (rw c.as_slice.ensures.value at added)) c.write_all.ensures.added

pub returns-clause-less : goal.returns-clause-less
returns-clause-less g c =
    let whole = (rw c.new-page.ensures at c.in_ok-write_solid.ensures.wrote).passed in
    on_ok_weaker c.write_all.result (λ less. ended_room _ _ _ _ _ _ _ whole (rw c.as_slice.ensures.value at less)) c.write_all.ensures.less

pub returns-clause-part : goal.returns-clause-part
returns-clause-part g c =
    let whole = (rw c.new-page.ensures at c.in_ok-write_solid.ensures.wrote).passed in
    on_err_weaker c.write_all.result (λ part. ended_in_part _ _ _ _ _ _ _ _ whole (rw c.as_slice.ensures.value at part)) c.write_all.ensures.part

pub returns-clause-sure : goal.returns-clause-sure
returns-clause-sure g c free is fits =
    let whole = (rw c.new-page.ensures at c.in_ok-write_solid.ensures.wrote).passed in
    let left = last_fits _ _ _ _ _ _ whole free fits in
    c.write_all.ensures.sure (free - length whole.sent) (left_of _ _ free (length whole.sent) whole.room is) (rw c.as_slice.ensures.value left)

pub returns-clause-kept : goal.returns-clause-kept
returns-clause-kept g c = kept-then g.K.Sink _ _ _ c.in_ok-write_solid.ensures.wrote.kept c.write_all.ensures.kept
