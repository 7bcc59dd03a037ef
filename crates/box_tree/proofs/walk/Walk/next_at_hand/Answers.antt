use Rattle.std.specs.Prelude.{◌++◌}
use Rattle.std.proofs.Common.{ap, ◌∙◌}
use Rattle.box_tree.specs.Nodes.{no_entry}
use Rattle.box_tree.specs.Walks.{hits_waiting}
use Rattle.box_tree.proofs.Hits.{hits_found}
use Rattle.box_tree.proofs.walk.Walk.next_at_hand.Goals as goal

pub returns-then-place-self-clause-number : goal.returns-then-place-self-clause-number
returns-then-place-self-clause-number c =
    let q = c.args.self.now.question in
    ap (λ xs. xs ++ hits_waiting q c.args.self.now.stack.items)
    (c.next_hit-place.ensures.hits
    ∙ hits_found q c.next_hit-place.result c.args.self.now.end no_entry c.if-place-self.true c.requires.ends (c.next_hit-place.ensures.found no_entry c.if-place-self.true))
