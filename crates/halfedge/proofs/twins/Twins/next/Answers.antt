use Rattle.std.proofs.Common.{◌≡◌, length, ap, ◌∙◌, arith}
use Rattle.chain_terms.specs.Chains.{all_edges}
use Rattle.chain_terms.specs.Ranks.{start}
use Rattle.mesh_terms.specs.Twins.{Twins}
use Rattle.halfedge.proofs.Edges.{length-all_edges, next_starts}
use Rattle.halfedge.proofs.twins.Twins.next.Goals as goal

pub next-requires : goal.next-requires
next-requires c =
    let few = c.self.invariant.twinned.few in
    let same = ap (λ (v : Twins). length v.triples) c.self.view_is in
    omega (arith, c.requires, same, few)

pub returns-clause-from : goal.returns-clause-from
returns-clause-from c =
    let ts = c.args.self.now.triples in
    ap (start (all_edges ts)) c.next.ensures ∙ next_starts ts c.args.h (omega (arith, c.requires, length-all_edges ts))
