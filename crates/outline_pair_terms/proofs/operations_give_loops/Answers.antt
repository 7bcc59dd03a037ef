use Rattle.outline_pair_terms.proofs.Whole.{conserved, each_whole, loops_whole, once_whole}
use Rattle.outline_pair_terms.proofs.operations_give_loops.Goals as goal

pub returns : goal.returns
returns c = λ t settle op p q p_is q_is lift. record {
  conserved = conserved t settle op p q p_is q_is lift;
  once = once_whole t settle op p q p_is q_is lift;
  long = loops_whole t settle op p q p_is q_is lift;
  each = each_whole t settle op p q p_is q_is lift;
}
