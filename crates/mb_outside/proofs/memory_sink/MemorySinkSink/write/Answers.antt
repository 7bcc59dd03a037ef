use Rattle.std.proofs.Common.{ℕ, ap, ◌∙◌, arith}
use Rattle.mb_outside.specs.Calls.{Calls, next}
use Rattle.mb_outside.specs.SinkState.{SinkState}
use Rattle.mb_outside.proofs.memory_sink.MemorySinkSink.write.Goals as goal

pub returns-then-fails_now-clause-count : goal.returns-then-fails_now-clause-count
returns-then-fails_now-clause-count c =
    let one_more = c.saturating_add-self-inside.ensures in
    rw (← c.self.view_is) (record { later = omega (arith, one_more); ok = λ no. cc; failed = λ _. omega (arith, one_more) })

pub returns-then-fails_now-clause-refused : goal.returns-then-fails_now-clause-refused
returns-then-fails_now-clause-refused c =
    let s = c.self.inside in
    let after : Calls → ℕ → SinkState = λ calls faults. record { bytes = s.bytes.items; room = s.room; most = s.most; calls = calls; faults = faults } in
    rw (← c.self.view_is)
    (ap (λ (calls : Calls). after calls c.saturating_add-self-inside.result) c.fails_now.ensures.counted ∙ ap (after (next s.calls)) c.saturating_add-self-inside.ensures)
