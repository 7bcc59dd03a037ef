use Rattle.chain_laws.specs.Chains.{same_boundary, boundary_same}
use Rattle.chain_laws.proofs.Areas.{same_area}
use Rattle.chain_laws.proofs.laws.boundary_decides_sums.Goals as goal

pub returns-clause-sums : goal.returns-clause-sums
returns-clause-sums c = λ es ms. (same_boundary es ms, boundary_same es ms)

pub returns-clause-area : goal.returns-clause-area
returns-clause-area c = same_area
