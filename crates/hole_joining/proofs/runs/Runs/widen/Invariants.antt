use Rattle.std.proofs.Common.{◌≡◌, ◌++◌, take, drop}
use Rattle.hole_joining.specs.Runs.{spread}
use Rattle.hole_joining.proofs.runs.Runs.widen.Given as goal

abbrev pub invariant-loop-k : goal.invariant-loop-k
invariant-loop-k l = record {
  same : l.self-inside.runs.items ≡ l.fn.self;
  wide : take l.k l.fn.self ++ spread (drop l.k l.fn.self) l.before l.more ≡ spread l.fn.self l.place l.more;
}
