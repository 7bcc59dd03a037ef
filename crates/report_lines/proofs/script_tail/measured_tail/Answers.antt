use Rattle.std.proofs.Common.{◌∙◌, ◌++◌, ap, codes, rules, w64}
use Rattle.std.specs.Int.{w128}
use Rattle.std.specs.Fmt.{decimal, signed_decimal}
use Rattle.std.proofs.lemmas.Int.{to_z-of_z}
use Rattle.report_lines.proofs.Puts.{three_put}
use Rattle.report_lines.proofs.script_tail.measured_tail.Goals as goal

pub returns : goal.returns
returns c =
    let components = decimal c.args.components in
    let first = c.put_pair.ensures.text ∙ ap (λ t. t ++ (codes ", components " ++ components)) c.new-tail.ensures in
    three_put (codes ", components ") components (codes ", euler ") (signed_decimal c.args.euler) (codes ", volume6 ") (signed_decimal c.args.volume6) _ _ _ _ _ _
    first c.put_pair-2.ensures.text c.put_pair-3.ensures.text c.put.ensures.text
    (ap signed_decimal (to_z-of_z w64 c.args.euler (search rules))) (ap signed_decimal (to_z-of_z w128 c.args.volume6 (search rules)))
