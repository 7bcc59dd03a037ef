use Rattle.std.proofs.Common.{get_or}
use Rattle.chain_terms.specs.Chains.{all_edges}
use Rattle.mesh_tidy.specs.TidySurface.{left_of}
use Rattle.mesh_tidy.proofs.Asking.{marks_go}
use Rattle.mesh_tidy.proofs.Meeting.{meet_just}
use Rattle.mesh_tidy.proofs.surface.TidySurface.are_joined_only_by.Goals as goal

pub returns-clause-only : goal.returns-clause-only
returns-clause-only c =
    meet_just c.args.self.now c.vertices.ensures.surface (get_or c.args.ends 0 0) (get_or c.args.ends 1 0) (get_or c.args.thirds 0 0)
    (get_or c.args.thirds 1 0) c.args.met.now c.mark_neighbours.new.met c.requires.marks c.requires.unmarked
    c.mark_neighbours.ensures c.meets_only-only.result c.meets_only-only.ensures

pub returns-clause-marks : goal.returns-clause-marks
returns-clause-marks c =
    marks_go (all_edges (left_of c.args.self.now)) (get_or c.args.ends 0 0) c.args.met.now c.mark_neighbours.new.met c.mark_neighbours-2.new.met
    c.requires.unmarked c.mark_neighbours.ensures c.mark_neighbours-2.ensures
