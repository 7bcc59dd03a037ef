use Rattle.std.proofs.Common.{◌≡◌, [], ◌∷◌, ◌++◌, length, sym, ◌∙◌, arith, length-append}
use Rattle.std.proofs.lemmas.List.{take_all, take-append-le}
use Rattle.obj_text.proofs.groups.push_byte.Goals as goal

pub returns-then-len-lt-MOST : goal.returns-then-len-lt-MOST
returns-then-len-lt-MOST c =
    let old = c.args.label.now.items in
    c.push.ensures.items ∙ sym (take_all 64 (old ++ c.args.byte ∷ []) (omega (arith, c.len.ensures.value, c.if-len-lt-MOST.true, length-append old (c.args.byte ∷ []))))

pub returns-else-len-lt-MOST : goal.returns-else-len-lt-MOST
returns-else-len-lt-MOST c =
    let old = c.args.label.now.items in
    sym (take-append-le 64 old (c.args.byte ∷ []) (omega (arith, c.len.ensures.value, c.if-len-lt-MOST.false))
    ∙ take_all 64 old (omega (arith, c.len.ensures.value, c.len.ensures.fits)))
