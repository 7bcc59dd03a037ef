use Rattle.std.proofs.Common.{◌++◌, ◌∙◌, ap, append_assoc, codes, sym}
use Rattle.std.specs.Fmt.{decimal}
use Rattle.report_lines.proofs.tail.line_tail.Goals as goal

pub returns : goal.returns
returns c =
    let line = codes ":" ++ decimal c.args.line in
    let kind = decimal c.args.kind in
    let first = c.put_pair.ensures.text ∙ ap (λ t. t ++ line) c.new-tail.ensures in
    let second = c.put_pair-2.ensures.text ∙ ap (λ t. t ++ (codes ": " ++ kind)) first ∙ sym (append_assoc line (codes ": ") kind) in
    let third = c.put.ensures.text ∙ ap (λ t. t ++ codes " ") second in
    let fourth = c.put-2.ensures.text ∙ ap (λ t. t ++ c.args.name.now) third in
    c.put-3.ensures.text ∙ ap (λ t. t ++ codes "\n") fourth
