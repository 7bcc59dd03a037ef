use Rattle.std.proofs.Common.{arith, length}
use Rattle.chain_laws.proofs.Cycles.{cycles_edges}
use Rattle.chain_laws.proofs.Walks.{returns}
use Rattle.chain_laws.proofs.laws.walks_return.Goals as goal

pub returns-clause-walk : goal.returns-clause-walk
returns-clause-walk c = λ s t n inverse x below. returns s t n inverse x below

pub returns-clause-cycles : goal.returns-clause-cycles
returns-clause-cycles c = λ es balanced. cycles_edges (length es) es (omega arith) balanced
