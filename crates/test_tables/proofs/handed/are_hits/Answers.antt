use Rattle.std.proofs.Common.{◌≡◌, ◌<◌, length, take, get_or, rules}
use Rattle.std.specs.List.{All}
use Rattle.chain_terms.specs.Chains.{all_edges}
use Rattle.chain_terms.specs.Ranks.{twin}
use Rattle.mb_base.specs.declared.results.Hit.{Hit}
use Rattle.side_terms.specs.Hits.{IsBefore, IsNumber}
use Rattle.test_tables.proofs.HitLists.{hits_more}
use Rattle.test_tables.proofs.handed.are_hits.Goals as goal

pub loop-i-preserved : goal.loop-i-preserved
loop-i-preserved c =
    let hs = c.args.hits.now in
    let i = c.loop-i.i in
    let h : Hit = c.index-hits-i.result in
    let es = all_edges c.args.edges.now.triples in
    let is : get_or hs i h ≡ h = cc in
    let inside : h.edge < length es = search rules in
    let lower : h.edge < twin es h.edge = search rules in
    let face : h.face < length c.args.faces.now.triples = search rules in
    let number : IsNumber h.number = search rules in
    let before : All (λ k. IsBefore k h) (take i hs) = search rules in
    hits_more es (length c.args.faces.now.triples) hs i h c.loop-i-test.true is c.loop-i.invariant inside lower face number before
