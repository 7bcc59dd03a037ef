use Rattle.outline_pair_terms.proofs.Exchange.{none_exchanged}
use Rattle.outline_pair_terms.proofs.lists_tell_copies.Goals as goal

pub returns : goal.returns
returns c = λ p q cs sign np nq signed. none_exchanged p q cs np nq (record { sign = sign; signed = signed })
