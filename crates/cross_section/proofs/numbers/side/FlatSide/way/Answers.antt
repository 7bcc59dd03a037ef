use Rattle.std.proofs.Common.{List, length, ap, sym, subst, ◌∙◌}
use Rattle.std.specs.List.{All}
use Rattle.mb_base.specs.declared.point.Corner.{Corner}
use Rattle.lean.proofs.Corners.{edge_fine}
use Rattle.side_terms.specs.Corners.{AllFine}
use Rattle.side_terms.specs.Sides.{edge_of}
use Rattle.cross_section.proofs.NearHits.{ends_level}
use Rattle.cross_section.specs.Sides.{IsLevel}
use Rattle.outline_terms.specs.Outlines.{IsBetween}
use Rattle.cross_section.proofs.numbers.side.FlatSide.way.Goals as goal

pub ends_of-requires : goal.ends_of-requires
ends_of-requires c = subst (λ (cs : List Corner). IsBetween (length cs) (c.args.from, c.args.to)) (sym c.corners.ensures.value) (c.requires.from, c.requires.to)

pub returns-clause-value : goal.returns-clause-value
returns-clause-value c = c.ends_of.ensures ∙ ap (λ cs. edge_of cs c.args.from c.args.to) c.corners.ensures.value

pub returns-clause-fine : goal.returns-clause-fine
returns-clause-fine c = subst AllFine (sym (returns-clause-value c)) (edge_fine c.args.self.now.corners c.corners.ensures.side.fine c.args.from c.args.to)

pub returns-clause-level : goal.returns-clause-level
returns-clause-level c = subst (All IsLevel) (sym (returns-clause-value c)) (ends_level c.args.self.now c.corners.ensures.side (c.args.from, c.args.to))
