use Rattle.std.proofs.Common.{take, ◌<◌, ◌≡◌, ◌≤◌, ℕ}
use Rattle.std.specs.Prelude.{unsigned_abs}
use Rattle.std.specs.List.{All}
use Rattle.plane_chains.specs.declared.chain.Way.{Way}
use Rattle.plane_chains.specs.declared.nets.LabelNumber.{LabelNumber}
use Rattle.plane_chains.specs.Nets.{nonzero}
use Rattle.plane_chains.specs.Ways.{net_among}
use Rattle.plane_chains.proofs.chain.add_up.Given as goal

abbrev pub invariant-loop-i : goal.invariant-loop-i
invariant-loop-i l = record {
  net : (n : ℕ) → All (λ (w : Way). w.label < n) l.ways → l.net.items ≡ nonzero (net_among n l.ways (take l.i-index l.some));
  small : All (λ (e : LabelNumber). unsigned_abs e.number ≤ l.i-index) l.net.items;
}
