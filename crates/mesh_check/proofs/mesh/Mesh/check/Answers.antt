use Rattle.std.proofs.Common.{◌≡◌, rules, Some, inl, refl}
use Rattle.chain_terms.specs.Chains.{all_edges}
use Rattle.mesh_terms.specs.OpenEdges.{open_pair}
use Rattle.mesh_check.proofs.OpenPair.{open_pair_closed}
use Rattle.mesh_check.proofs.mesh.Mesh.check.Goals as goal

pub returns-in-Err-Open-clause-accepts : goal.returns-in-Err-Open-clause-accepts
returns-in-Err-Open-clause-accepts c closed =
    let found : open_pair (all_edges c.args.soup.triples) ≡ Some (c.in-Err-Open.from, c.in-Err-Open.to) = search rules in
    let none = open_pair_closed (all_edges c.args.soup.triples) closed in
    cc

pub returns-in-Err-Open-clause-open : goal.returns-in-Err-Open-clause-open
returns-in-Err-Open-clause-open c a b is =
    let found : open_pair (all_edges c.args.soup.triples) ≡ Some (c.in-Err-Open.from, c.in-Err-Open.to) = search rules in cc

pub returns-in-Ok-clause-accepts : goal.returns-in-Ok-clause-accepts
returns-in-Ok-clause-accepts c closed = inl refl

pub returns-in-Ok-clause-open : goal.returns-in-Ok-clause-open
returns-in-Ok-clause-open c a b is = cc
