use Rattle.std.proofs.Common.{ℕ, ◌+◌, ◌++◌, ◌∙◌, ap, append_assoc, codes, sym}
use Rattle.std.specs.Fmt.{decimal}
use Rattle.report_lines.proofs.tail.edge_tail.Goals as goal

pub returns : goal.returns
returns c =
    let from = codes ": 11 OpenEdge " ++ decimal (c.from.result + 1) in
    let to = decimal (c.from-2.result + 1) in
    let first = c.put_pair.ensures.text ∙ ap (λ t. t ++ from) c.new-tail.ensures in
    let second = c.put_pair-2.ensures.text ∙ ap (λ t. t ++ (codes " " ++ to)) first ∙ sym (append_assoc from (codes " ") to) in
    let line : ℕ → ℕ → _ = λ a b. codes ": 11 OpenEdge " ++ decimal (a + 1) ++ codes " " ++ decimal (b + 1) ++ codes "\n" in
    c.put.ensures.text ∙ ap (λ t. t ++ codes "\n") second ∙ (λ i. line (c.from.ensures i) (c.from-2.ensures i))
