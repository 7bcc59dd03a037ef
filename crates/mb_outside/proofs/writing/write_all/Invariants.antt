use Rattle.std.proofs.Common.{length, ◌-◌, ◌≡◌, ◌≤◌, ◌++◌, take}
use Rattle.std.specs.Option.{option_map}
use Rattle.mb_outside.specs.Sinks.{Kept}
use Rattle.mb_outside.proofs.writing.write_all.Given as goal

abbrev pub invariant-loop-done : goal.invariant-loop-done
invariant-loop-done g l = record {
  within : l.done ≤ length l.text;
  idle : length l.text ≡ 0 → l.sink ≡ l.initial.sink;
  told : g.K.Sink.told l.sink ≡ option_map (λ held. held ++ take l.done l.text) (g.K.Sink.told l.initial.sink);
  count : g.K.Sink.faults l.sink ≡ g.K.Sink.faults l.initial.sink;
  kept : Kept g.K.Sink l.initial.sink l.sink;
  room : g.K.Sink.room l.sink ≡ option_map (λ free. free - l.done) (g.K.Sink.room l.initial.sink);
}

abbrev pub decreases-loop-done : goal.decreases-loop-done
decreases-loop-done g l = length l.text - l.done
