use Rattle.outline_pair_terms.proofs.Long.{outline_loops_long, outline_loops_once}
use Rattle.outline_pair_terms.proofs.loops_are_long.Goals as goal

pub returns : goal.returns
returns c = λ p q cs sign ps qs known signed even.
    (outline_loops_once p q cs ps qs known even, outline_loops_long p q cs ps qs known (record { sign = sign; signed = signed }) even)
