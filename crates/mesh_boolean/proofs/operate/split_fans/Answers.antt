use Rattle.std.proofs.Common.{length, rules}
use Rattle.mesh_terms.specs.Meshes.{triples_of}
use Rattle.mesh_boolean.proofs.Pairs.{is_clean_over}
use Rattle.mesh_boolean.proofs.operate.split_fans.Goals as goal

pub returns : goal.returns
returns c =
    let s = c.in_ok-split.split in
    let e = c.in_ok-split.ensures in
    record {
      points = rw (← c.deref.ensures.value) e.points;
      triples = rw (← c.deref.ensures.value) e.triples;
      from = search rules;
      there = rw (← c.deref.ensures.value) e.there;
      back = e.back;
      clean = is_clean_over (length s.mesh.points) s.from.items s.mesh.triples (triples_of c.args.all.triples.items)
          c.triples.ensures.accepted e.clean e.twins e.back;
      few = search rules;
      prescribed = search rules;
      source = search rules;
      forced = search rules;
      empty = search rules;
    }
