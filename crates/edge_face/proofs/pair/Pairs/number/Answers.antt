use Rattle.edge_face.proofs.Numbers.{kept, kept_less, kept_sum}
use Rattle.edge_face.proofs.pair.Pairs.number.Goals as goal

pub returns : goal.returns
returns c =
    let first = kept c.shadow.result c.shadow.type_inv c.shadow.ensures.value in
    let second = kept c.shadow-2.result c.shadow-2.type_inv c.shadow-2.ensures.value in
    let third = kept c.shadow-3.result c.shadow-3.type_inv c.shadow-3.ensures.value in
    let end = kept c.shadow-4.result c.shadow-4.type_inv c.shadow-4.ensures.value in
    let start = kept c.shadow-5.result c.shadow-5.type_inv c.shadow-5.ensures.value in
    kept_less c.less.result c.less-ends.result c.sum.result c.less.type_inv c.less.ensures.value
    (kept_less c.less-ends.result c.shadow-4.result c.shadow-5.result c.less-ends.type_inv c.less-ends.ensures.value end start)
    (kept_sum c.sum.result c.shadow.result c.shadow-2.result c.shadow-3.result c.sum.type_inv c.sum.ensures.value first second third)
