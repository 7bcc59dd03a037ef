use Rattle.std.proofs.Common.{◌<◌, length, ap, ◌∙◌}
use Rattle.face_loops.specs.Segments.{edges_of}
use Rattle.cross_section.proofs.Listed.{all_entries, edges_more}
use Rattle.cross_section.proofs.segments.push_edge.Goals as goal

pub segments_of_edge-requires-clause-below : goal.segments_of_edge-requires-clause-below
segments_of_edge-requires-clause-below c = all_entries (λ v. v < length c.args.points.now) c.args.entries.now c.requires.starts c.requires.ends

pub returns : goal.returns
returns c =
    edges_more c.extend_from_slice.new.self.items c.args.segments.now.items c.deref.result.now _
    c.in_ok-extend_from_slice.ensures.items (ap edges_of c.deref.ensures ∙ c.in_ok-part.ensures.value)
