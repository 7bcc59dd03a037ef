use Rattle.std.proofs.Common.{ℕ, map, sym, subst, ◌∙◌}
use Rattle.std.specs.List.{All}
use Rattle.mb_base.specs.Boxes.{box_of}
use Rattle.side_terms.specs.Sides.{edge_of}
use Rattle.cross_section.proofs.Level.{corners_level}
use Rattle.cross_section.specs.Sides.{IsLevel}
use Rattle.outline_terms.specs.Outlines.{IsBetween}
use Rattle.cross_section.proofs.numbers.side.FlatSide.of.Goals as goal

pub invariant_of-result : goal.invariant_of-result
invariant_of-result c = record {
  side = record {
    fine = c.in_ok-corners.ensures.fine;
    level = subst (All IsLevel) (sym c.in_ok-corners.ensures.value) (corners_level c.args.points.now c.args.ups.now c.requires.flat);
    below = subst (λ n. All (IsBetween n) c.args.edges.items) (sym c.in_ok-corners.ensures.length) c.requires.below;
    few = c.requires.few;
  };
  over = c.in_ok-tree.ensures ∙ (λ i. map (λ (e : ℕ × ℕ). box_of (edge_of (c.deref.ensures.value i) e.0 e.1)) (c.deref-2.ensures.value i));
}
