use Rattle.std.proofs.Common.{◌≡◌, ◌≤◌, length, take}
use Rattle.std.specs.List.{flat_map}
use Rattle.arrayvec.specs.ArrayVec.{array_vec_len}
use Rattle.format_terms.specs.ObjWritten.{point_line}
use Rattle.mb_outside.specs.Sinks.{Kept}
use Rattle.mesh_writer.specs.Passing.{Passed}
use Rattle.mesh_writer.proofs.obj.write_points.Given as goal

abbrev pub invariant-loop-point : goal.invariant-loop-point
invariant-loop-point g l = record {
  free : array_vec_len l.page ≤ 3968;
  idle : length l.points ≡ 0 → (l.sink ≡ l.initial.sink) × (l.page.items ≡ l.initial.page.items);
  passed : Passed (flat_map (point_line l.digits) (take l.point-index l.points)) l.initial.page.items l.page.items (g.K.Sink.told l.initial.sink)
      (g.K.Sink.told l.sink) (g.K.Sink.room l.initial.sink) (g.K.Sink.room l.sink);
  count : g.K.Sink.faults l.sink ≡ g.K.Sink.faults l.initial.sink;
  kept : Kept g.K.Sink l.initial.sink l.sink;
}
