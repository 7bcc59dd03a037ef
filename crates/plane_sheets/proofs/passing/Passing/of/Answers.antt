use Rattle.std.proofs.Common.{◌≡◌, length, map, sym, ap, ◌∙◌}
use Rattle.std.proofs.lemmas.List.{length-map}
use Rattle.chain_terms.specs.Sums.{upto}
use Rattle.plane_chains.specs.EdgeBoxes.{pair_of}
use Rattle.plane_sheets.specs.Seen.{seen_in}
use Rattle.plane_sheets.proofs.NearEdges.{all_crossing}
use Rattle.plane_sheets.proofs.passing.Passing.of.Goals as goal

pub returns : goal.returns
returns c =
    let es = map pair_of c.args.edges.now in
    let all : c.in_ok-near.near.items ≡ upto (length es) = c.in_ok-near.ensures ∙ ap upto (sym (length-map c.args.edges.now pair_of)) in
    record { tree = c.in_ok-tree.ensures; all = λ none. all; last = λ e same. all_crossing (seen_in c.args.flat) es e c.in_ok-near.near.items all }
