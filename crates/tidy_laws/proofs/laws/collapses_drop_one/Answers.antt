use Rattle.tidy_laws.proofs.TwoGo.{two_go}
use Rattle.tidy_laws.proofs.Used.{gone_unused, others_used}
use Rattle.tidy_laws.proofs.laws.collapses_drop_one.Goals as goal

pub returns : goal.returns
returns c = λ ts h a b c d can. record {
  two_go = two_go ts h a b c d can;
  gone = gone_unused a b can.distinct ts;
  stay = others_used ts h a b c d can;
}
