use Rattle.std.proofs.Common.{◌≡◌, ap, subst, sym, ◌∙◌}
use Rattle.std.specs.Prelude.{◌&&◌, count_by, nat_lt, true}
use Rattle.box_tree.specs.Touching.{touching_numbers}
use Rattle.inspection_terms.specs.Triangles.{corners_at}
use Rattle.inspection_laws.specs.Boxes.{box_round, boxes_of, holds}
use Rattle.inspection_laws.specs.Signs.{are_cutting}
use Rattle.inspection_laws.proofs.Near.{holds_self, near_count}
use Rattle.self_cuts.specs.Faces.{places}
use Rattle.self_cuts.specs.declared.seen.Seen.{Seen}
use Rattle.self_cuts.proofs.Hands.{hand_count}
use Rattle.self_cuts.proofs.cuts.cuts_with.Goals as goal

pub cut_before-requires : goal.cut_before-requires
cut_before-requires c = c.box_at-own.ensures ∙ ap box_round (sym c.face_at-face.ensures)

pub cut_among-requires : goal.cut_among-requires
cut_among-requires c = record {
  within = c.requires.within;
  tree = c.requires.tree;
  own = c.box_at-own.ensures ∙ ap box_round (sym c.face_at-face.ensures);
}

pub returns-then-serves-clause-value : goal.returns-then-serves-clause-value
returns-then-serves-clause-value c =
    let mesh = c.args.mesh.now in
    let t = c.args.t in
    let near = c.go_on.new.self in
    let held = subst (λ b. holds near.area b ≡ true) c.box_at-own.ensures (c.in_ok-serves.ensures.holds c.if-serves.true) in
    c.cut_before.ensures
    ∙ (λ i. count_by (λ (s : Seen). nat_lt s.number t && are_cutting (places s.triangle) (c.face_at-face.ensures i)) (c.deref.ensures.value i))
    ∙ hand_count mesh near.area near.end t near.seen.items (corners_at mesh t) (c.in_ok-serves.ensures.before c.if-serves.true) c.in_ok-serves.ensures.at_hand
    ∙ near_count mesh t near.area c.requires.within held

pub returns-clause-value : goal.returns-clause-value
returns-clause-value c =
    let mesh = c.args.mesh.now in
    let t = c.args.t in
    c.from.ensures ∙ c.cut_among.ensures
    ∙ (λ i. count_by (λ s. nat_lt s t && are_cutting (corners_at mesh s) (c.face_at-face.ensures i)) (touching_numbers (boxes_of mesh) (c.box_at-own.ensures i)))
    ∙ near_count mesh t (box_round (corners_at mesh t)) c.requires.within (holds_self (box_round (corners_at mesh t)))
