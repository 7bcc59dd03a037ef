use Rattle.std.proofs.Common.{◌-◌, ◌<◌, ◌∙◌, ap, arith, drop, get_or, length, sym, take}
use Rattle.std.specs.List.{list_any}
use Rattle.std.proofs.lemmas.List.{length-drop, length-take, take_rest}
use Rattle.sheet_terms.specs.Chains.{same_edge}
use Rattle.plane_chains.proofs.MarkLists.{key_found, none_more}
use Rattle.plane_chains.proofs.telling.has_key.Goals as goal

pub loop-to-preserved : goal.loop-to-preserved
loop-to-preserved c =
    let rim = c.args.rim.now in
    let k = c.loop-to.to-index in
    let keys = c.args.edges.now.keys in
    let low : k < length (drop 1 rim) = omega (arith, length-drop 1 rim, length-take (length rim - 1) (drop 1 rim), c.loop-to-test.true) in
    none_more keys rim k c.loop-to.from (get_or (take (length rim - 1) (drop 1 rim)) k 0) low (ap (λ xs. get_or xs k 0) (take_rest rim 1)) c.loop-to.invariant
    ((λ j. list_any (same_edge (sym c.min.ensures j, sym c.max.ensures j)) keys) ∙ sym c.contains.ensures ∙ c.if-contains.false)

pub returns-then-contains : goal.returns-then-contains
returns-then-contains c =
    let rim = c.args.rim.now in
    let k = c.loop-to.to-index in
    let keys = c.args.edges.now.keys in
    let low : k < length (drop 1 rim) = omega (arith, length-drop 1 rim, length-take (length rim - 1) (drop 1 rim), c.loop-to-test.true) in
    key_found keys rim k c.loop-to.from (get_or (take (length rim - 1) (drop 1 rim)) k 0) low (ap (λ xs. get_or xs k 0) (take_rest rim 1)) c.loop-to.invariant
    ((λ j. list_any (same_edge (sym c.min.ensures j, sym c.max.ensures j)) keys) ∙ sym c.contains.ensures ∙ c.if-contains.true)
