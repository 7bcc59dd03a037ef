use Rattle.source_faces.proofs.GivenParts.{HaveLaws, few_given, given_parts}
use Rattle.source_faces.proofs.given.given_have_parts.Goals as goal

pub returns-clause-parts : goal.returns-clause-parts
returns-clause-parts c =
    let laws : HaveLaws = record {
      lists = c.copies_have_lists.ensures;
      segments = c.lists_give_segments.ensures.segments;
      paired = c.lists_give_segments.ensures.paired;
      named = c.loops_are_long.ensures.named;
      loops = c.faces_form_loops.ensures.loops;
    } in
    given_parts laws c.args.op c.args.p.now c.args.q.now c.args.windings.now c.args.hits.now c.args.prescribed.now c.triples-p.ensures.side
    c.triples-q.ensures.side c.requires

pub returns-clause-few : goal.returns-clause-few
returns-clause-few c =
    few_given c.args.op c.args.p.now c.args.q.now c.args.windings.now c.args.hits.now c.args.prescribed.now c.triples-p.ensures.side
    c.triples-q.ensures.side c.requires
