use Rattle.std.proofs.Common.{◌≡◌, ◌∷◌, length, ap, rules, sym, ◌∙◌}
use Rattle.chain_terms.specs.Paths.{round_edges}
use Rattle.plane_filling.specs.Ways.{with_edges}
use Rattle.plane_filling.proofs.Noted.{length-with_edges, notes_more}
use Rattle.plane_filling.proofs.needless.Ways.note_walk.Goals as goal

whole : (c : goal.After-note_round) → c.args.walk.now ≡ c.in-Some.first.now ∷ c.in-Some.rest.now
whole c = search rules

noted : (c : goal.After-note_round) → c.note_round.new.self.leads.items ≡ with_edges (round_edges c.args.walk.now) c.args.self.now.leads.items
noted c = c.note_round.ensures ∙ ap (λ w. with_edges (round_edges w) c.args.self.now.leads.items) (sym (whole c))

pub returns-in-Some-clause-count : goal.returns-in-Some-clause-count
returns-in-Some-clause-count c = ap length (noted c) ∙ length-with_edges (round_edges c.args.walk.now) c.args.self.now.leads.items

pub returns-in-Some-clause-notes : goal.returns-in-Some-clause-notes
returns-in-Some-clause-notes c es notes =
    notes_more es c.args.walk.now c.args.self.now c.note_round.new.self notes c.requires (noted c)
