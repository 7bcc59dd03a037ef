use Rattle.std.proofs.Common.{◌≡◌, ◌-◌, ◌++◌, length, take}
use Rattle.std.specs.List.{flat_map}
use Rattle.std.specs.Option.{option_map}
use Rattle.report_lines.proofs.report.say.Given as goal

-- the texts so far were written, and no fault came
abbrev pub invariant-loop-i : goal.invariant-loop-i
invariant-loop-i g l = record {
  told : g.K.Sink.told l.sink ≡ option_map (λ held. held ++ flat_map (λ t. t.now) (take l.i l.texts)) (g.K.Sink.told l.initial.sink);
  room : g.K.Sink.room l.sink ≡ option_map (λ free. free - length (flat_map (λ t. t.now) (take l.i l.texts))) (g.K.Sink.room l.initial.sink);
  count : g.K.Sink.faults l.sink ≡ g.K.Sink.faults l.initial.sink;
}
