use Rattle.std.proofs.Common.{sym, ◌∙◌}
use Rattle.mesh_tidy.proofs.Asked.{joined_only, more_edges, points_differ, thirds_same}
use Rattle.mesh_tidy.proofs.surface.TidySurface.can_collapse.Goals as goal
use Rattle.mesh_tidy.proofs.surface.TidySurface.can_collapse.Goals.{then-c-d-via-then-c-d, then-c-d-via-else-c-d+then-not-are_single}

pub returns-then-ne-clause-value : goal.returns-then-ne-clause-value
returns-then-ne-clause-value c =
    points_differ c.args.points.now c.args.self.now c.vertices.ensures.surface c.requires.points c.args.half c.twin.result c.requires.has c.twin.ensures
    c.start-a.result c.end-b.result c.third-c.result c.third-d.result
    c.start-a.ensures.value c.end-b.ensures.value c.third-c.ensures.value c.third-d.ensures.value c.start-a.ensures.below c.end-b.ensures.below
    c.index-points-a.result c.index-points-b.result c.index-points-a.is c.index-points-b.is
    c.ne.result c.ne.ensures c.if-ne.true

pub returns-then-c-d-clause-value : goal.returns-then-c-d-clause-value
returns-then-c-d-clause-value c = elim c.then-c-d.branch [
  | then-c-d-via-then-c-d w ↦
      thirds_same c.args.points.now c.args.self.now c.vertices.ensures.surface c.requires.points c.args.half c.twin.result c.requires.has c.twin.ensures
      c.start-a.result c.end-b.result c.third-c.result c.third-d.result
      c.start-a.ensures.value c.end-b.ensures.value c.third-c.ensures.value c.third-d.ensures.value c.start-a.ensures.below c.end-b.ensures.below
      c.index-points-a.result c.index-points-b.result c.index-points-a.is c.index-points-b.is
      c.ne.result c.ne.ensures w.if-c-d.true
  | then-c-d-via-else-c-d+then-not-are_single w ↦
      more_edges c.args.points.now c.args.self.now c.vertices.ensures.surface c.requires.points c.args.half c.twin.result c.requires.has c.twin.ensures
      c.start-a.result c.end-b.result c.third-c.result c.third-d.result
      c.start-a.ensures.value c.end-b.ensures.value c.third-c.ensures.value c.third-d.ensures.value c.start-a.ensures.below c.end-b.ensures.below
      c.index-points-a.result c.index-points-b.result c.index-points-a.is c.index-points-b.is
      c.ne.result c.ne.ensures (sym w.are_single.ensures ∙ w.if-not-are_single.true)
]

pub returns-clause-value : goal.returns-clause-value
returns-clause-value c =
    joined_only c.args.points.now c.args.self.now c.vertices.ensures.surface c.requires.points c.args.half c.twin.result c.requires.has c.twin.ensures
    c.start-a.result c.end-b.result c.third-c.result c.third-d.result
    c.start-a.ensures.value c.end-b.ensures.value c.third-c.ensures.value c.third-d.ensures.value c.start-a.ensures.below c.end-b.ensures.below
    c.index-points-a.result c.index-points-b.result c.index-points-a.is c.index-points-b.is
    c.ne.result c.ne.ensures c.if-ne.false c.if-c-d.false (sym c.are_single.ensures ∙ c.if-not-are_single.false) c.are_joined_only_by.result c.are_joined_only_by.ensures.only
