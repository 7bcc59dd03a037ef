use Rattle.mesh_boolean.proofs.GivenSegments.{HaveLaws, given_segments}
use Rattle.mesh_boolean.proofs.bounded.given.given_have_segments.Goals as goal

pub returns : goal.returns
returns c =
    let laws : HaveLaws = record {
      lists = c.copies_have_lists.ensures;
      segments = c.lists_give_segments.ensures.segments;
      paired = c.lists_give_segments.ensures.paired;
    } in
    given_segments laws c.args.op c.args.p.now c.args.q.now c.args.windings.now c.args.hits.now c.args.prescribed.now c.triples-p.ensures.side
    c.triples-q.ensures.side c.requires
