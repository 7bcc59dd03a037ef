use Rattle.std.proofs.Common.{◌≡◌, ◌≤◌, length, take}
use Rattle.std.specs.List.{flat_map}
use Rattle.arrayvec.specs.ArrayVec.{array_vec_len}
use Rattle.chain_terms.specs.Sums.{upto}
use Rattle.mb_outside.specs.Sinks.{Kept}
use Rattle.mesh_writer.specs.Faces.{label_before, lines_at}
use Rattle.mesh_writer.specs.Passing.{Passed}
use Rattle.mesh_writer.proofs.obj.write_labelled.Given as goal

abbrev pub invariant-loop-place : goal.invariant-loop-place
invariant-loop-place g l = record {
  before : l.before ≡ label_before l.mesh.labels l.place;
  free : array_vec_len l.page ≤ 3968;
  idle : length l.mesh.triples ≡ 0 → (l.sink ≡ l.initial.sink) × (l.page.items ≡ l.initial.page.items);
  passed : Passed (flat_map (lines_at l.mesh.labels l.mesh.triples) (take l.place (upto (length l.mesh.triples)))) l.initial.page.items l.page.items
      (g.K.Sink.told l.initial.sink) (g.K.Sink.told l.sink) (g.K.Sink.room l.initial.sink) (g.K.Sink.room l.sink);
  count : g.K.Sink.faults l.sink ≡ g.K.Sink.faults l.initial.sink;
  kept : Kept g.K.Sink l.initial.sink l.sink;
}
