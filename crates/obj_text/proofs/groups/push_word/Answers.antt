use Rattle.std.proofs.Common.{◌≡◌, ◌++◌, ◌∷◌, [], take, map, sym, ap, ◌∙◌, append-nil, arith}
use Rattle.std.proofs.lemmas.List.{take_all}
use Rattle.format_terms.specs.ObjLabels.{label_byte}
use Rattle.obj_text.proofs.LabelSteps.{one_byte}
use Rattle.obj_text.proofs.groups.push_word.Goals as goal

pub loop-byte-init : goal.loop-byte-init
loop-byte-init c =
    let label = c.args.label.now.items in
    sym (ap (take 64) (append-nil label) ∙ take_all 64 label (omega (arith, c.len.ensures.value, c.len.ensures.fits)))

pub loop-byte-preserved : goal.loop-byte-preserved
loop-byte-preserved c =
    c.push_byte.ensures
    ∙ (λ i. take 64 (c.loop-byte.invariant i ++ c.label_byte.ensures i ∷ []))
    ∙ one_byte c.args.label.now.items c.args.word.now c.loop-byte.byte-index c.loop-byte-test.true
