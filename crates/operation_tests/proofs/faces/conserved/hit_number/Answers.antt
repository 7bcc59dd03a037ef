use Rattle.std.proofs.Common.{◌≡◌, get_or, rules}
use Rattle.mb_base.specs.declared.results.Hit.{Hit}
use Rattle.operation_tests.proofs.Conserved.{one_more_hit}
use Rattle.operation_tests.proofs.faces.conserved.hit_number.Goals as goal

pub loop-i-preserved : goal.loop-i-preserved
loop-i-preserved c =
    let hs = c.args.hits.now in
    let i = c.loop-i.i in
    let h : Hit = c.index-hits-i.result in
    let is : get_or hs i h ≡ h = cc in
    let step = one_more_hit hs c.args.edge c.args.face i h c.loop-i-test.true is in
    search (rules, step)
