use Rattle.std.proofs.Common.{◌<◌, IsTrue, length, rules, subst, sym}
use Rattle.std.specs.List.{All}
use Rattle.std.proofs.lemmas.List.Elements.{All-take}
use Rattle.plane_chains.proofs.ChainParts.{if_ok}
use Rattle.plane_chains.proofs.LabelLists.{alone_firsts, alone_places}
use Rattle.plane_chains.proofs.local_labels.LocalLabels.of.Goals as goal

pub returns-then-are_same-clause-of : goal.returns-then-are_same-clause-of
returns-then-are_same-clause-of c =
    let t : IsTrue c.are_same.result = search rules in
    if_ok c.alone.result (λ l. alone_places c.args.labels.now c.args.numbers.now l.of.items (c.are_same.ensures t)) c.alone.ensures.of

pub returns-then-are_same-clause-firsts : goal.returns-then-are_same-clause-firsts
returns-then-are_same-clause-firsts c =
    let t : IsTrue c.are_same.result = search rules in
    if_ok c.alone.result (λ l. alone_firsts c.args.labels.now c.args.numbers.now l.firsts.items (c.are_same.ensures t)) c.alone.ensures.firsts

pub returns-then-are_same-clause-below : goal.returns-then-are_same-clause-below
returns-then-are_same-clause-below c =
    if_ok c.alone.result
    (λ l e. subst (All (λ t. t < length c.args.labels.now)) (sym e) (All-take (λ t. t < length c.args.labels.now) 1 c.args.numbers.now c.requires.below)) c.alone.ensures.firsts
