use Rattle.std.proofs.Common.{rules, arith, ◌≡◌, not, refl, sym, ap, ◌∙◌}
use Rattle.std.proofs.lemmas.Int.{ints}
use Rattle.std.specs.Int.{w64}
use Rattle.side_terms.specs.Corners.{axis}
use Rattle.shadow_kernels.specs.declared.Edge.{Edge}
use Rattle.shadow_kernels.specs.Rules.{edge_spot}
use Rattle.shadow_kernels.specs.Spots.{Between, above_y, flag, spot01, spot10}
use Rattle.shadow_kernels.proofs.Decisions.{over_ends, under_ends, same_beats}
use Rattle.shadow_kernels.proofs.Values.{seen, kept_value, kept_less, same_mark}
use Rattle.shadow_kernels.proofs.grid_rule.GridSights.is_over_edge.Goals as goal

pub returns-then-right-y : goal.returns-then-right-y
returns-then-right-y g c =
    c.is_of_q.ensures ∙ over_ends _ (record { within = g.met.R.Rounding.within c.args.self.now.rounding }) c.args.vertex.now c.args.left.now c.args.right.now
    c.requires.along c.args.edge (omega (arith, ints)) (omega (arith, ints))

pub returns-then-y-right : goal.returns-then-y-right
returns-then-y-right g c =
    ap not c.is_of_q-then-y-right.ensures ∙ under_ends _ (record { within = g.met.R.Rounding.within c.args.self.now.rounding }) c.args.vertex.now
    c.args.left.now c.args.right.now c.requires.along c.args.edge (omega (arith, ints)) (omega (arith, ints))

pub returns-in-OfP : goal.returns-in-OfP
unfolding spot10
returns-in-OfP g c =
    let w : Between = g.R.Rounding.between_of c.args.self.now.rounding in
    let v = c.args.vertex.now in
    let l = c.args.left.now in
    let r = c.args.right.now in
    let y : seen w64 (axis 1 v) ≡ axis 1 v = omega (arith, ints) in
    same_beats c.exceeds.ensures (kept_value w 1 l r (axis 0 v) c.edge_value-value.ensures c.requires.along.fine (search rules)) y
    (same_mark (flag l.up 1) (flag r.up 1) c.mark_between-up.ensures (kept_less c.requires.along.fine c.requires.along.left_fine.x)
    (kept_less c.requires.along.right_fine.x c.requires.along.fine))
    ∙ ap (λ (e : Edge). above_y (edge_spot e w v l r)) (sym c.in-OfP.is)

pub returns-in-OfQ : goal.returns-in-OfQ
unfolding spot01
returns-in-OfQ g c =
    let w : Between = g.R.Rounding.between_of c.args.self.now.rounding in
    let value = kept_value w 1 c.args.left.now c.args.right.now (axis 0 c.args.vertex.now) c.edge_value-value.ensures c.requires.along.fine (search rules) in
    same_beats c.exceeds-in-OfQ.ensures (omega (arith, ints)) value refl
    ∙ ap (λ (e : Edge). above_y (edge_spot e w c.args.vertex.now c.args.left.now c.args.right.now)) (sym c.in-OfQ.is)
