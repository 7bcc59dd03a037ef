use Rattle.std.proofs.Common.{◌≡◌, ℕ, length}
use Rattle.halfedge.specs.Ways.{ArePartners}
use Rattle.halfedge.proofs.Writing.{AreWrittenTo}
use Rattle.halfedge.proofs.pairing.pair_up.Given as goal

abbrev pub invariant-loop-i : goal.invariant-loop-i
invariant-loop-i l = record {
  full : length l.twins ≡ length l.initial.twins;
  written : (partner : ℕ → ℕ) → ArePartners partner l.ups l.downs → AreWrittenTo partner l.ups l.downs l.i l.initial.twins l.twins;
}
