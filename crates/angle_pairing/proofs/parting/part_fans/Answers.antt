use Rattle.std.proofs.Common.{length, refl, subst, sym}
use Rattle.chain_terms.specs.Chains.{all_edges}
use Rattle.mesh_terms.specs.Meshes.{triples_of}
use Rattle.sheet_terms.specs.Twins.{twins_by_angle}
use Rattle.fan_laws.specs.Pairs.{ArePaired}
use Rattle.angle_pairing.proofs.Whole.{parted_accepted, parted_clean, parted_once, settled_paired, step_firsts, step_from, step_of, step_points, step_triples}
use Rattle.angle_pairing.proofs.parting.part_fans.Goals as goal

pub fans_by-requires-clause-twins : goal.fans_by-requires-clause-twins
fans_by-requires-clause-twins c =
    subst (ArePaired (all_edges (triples_of c.args.triples.now))) (sym c.deref.ensures.value)
    (settled_paired c.args.points.now (triples_of c.args.triples.now) c.requires (twins_by_angle c.args.points.now (triples_of c.args.triples.now))
    c.in_ok-twins.twins.items refl
    (c.in_ok-twins.ensures (length c.args.points.now) c.requires.mesh.below))

pub starts-requires : goal.starts-requires
starts-requires c =
    step_firsts c.args.points.now c.args.triples.now c.requires c.in_ok-twins.twins.items c.deref.result.now c.in_ok-fans.fans.of.items
    c.in_ok-fans.fans.firsts.items c.deref-2.result.now c.deref-2.result.now c.deref-2.result.now c.deref-2.result.now
    (record {
      settles = c.in_ok-twins.ensures;
      read_is = c.deref.ensures.value;
      of_is = c.in_ok-fans.ensures.of;
      firsts_is = c.in_ok-fans.ensures.firsts;
      firsts_read_is = c.deref-2.ensures.value;
    })

pub points_at-requires : goal.points_at-requires
points_at-requires c =
    step_from c.args.points.now c.args.triples.now c.requires c.in_ok-twins.twins.items c.deref.result.now c.in_ok-fans.fans.of.items
    c.in_ok-fans.fans.firsts.items c.deref-2.result.now c.in_ok-from.from.items c.deref-3.result.now c.deref-2.result.now
    (record {
      settles = c.in_ok-twins.ensures;
      read_is = c.deref.ensures.value;
      of_is = c.in_ok-fans.ensures.of;
      firsts_is = c.in_ok-fans.ensures.firsts;
      firsts_read_is = c.deref-2.ensures.value;
    })
    c.in_ok-from.ensures c.deref-3.ensures.value

pub over_fans-requires-clause-full : goal.over_fans-requires-clause-full
over_fans-requires-clause-full c =
    step_of c.args.points.now c.args.triples.now c.requires c.in_ok-twins.twins.items c.deref.result.now c.in_ok-fans.fans.of.items
    c.in_ok-fans.fans.firsts.items c.deref-2.result.now c.in_ok-from.from.items c.deref-3.result.now c.deref-4.result.now
    (record {
      settles = c.in_ok-twins.ensures;
      read_is = c.deref.ensures.value;
      of_is = c.in_ok-fans.ensures.of;
      firsts_is = c.in_ok-fans.ensures.firsts;
      firsts_read_is = c.deref-2.ensures.value;
    })
    c.deref-4.ensures.value

pub returns-clause-triples : goal.returns-clause-triples
returns-clause-triples c =
    let made_is = step_triples c.args.points.now c.args.triples.now c.requires c.in_ok-twins.twins.items c.deref.result.now c.in_ok-fans.fans.of.items
    c.in_ok-fans.fans.firsts.items c.deref-2.result.now c.in_ok-from.from.items c.deref-3.result.now c.deref-4.result.now
    (record {
      settles = c.in_ok-twins.ensures;
      read_is = c.deref.ensures.value;
      of_is = c.in_ok-fans.ensures.of;
      firsts_is = c.in_ok-fans.ensures.firsts;
      firsts_read_is = c.deref-2.ensures.value;
    })
    c.deref-4.ensures.value (triples_of c.in_ok-made.made.items) c.in_ok-made.ensures in
    made_is

pub returns-clause-points : goal.returns-clause-points
returns-clause-points c =
    let at_is = step_points c.args.points.now c.args.triples.now c.requires c.in_ok-twins.twins.items c.deref.result.now c.in_ok-fans.fans.of.items
    c.in_ok-fans.fans.firsts.items c.deref-2.result.now c.in_ok-from.from.items c.deref-3.result.now c.deref-4.result.now
    (record {
      settles = c.in_ok-twins.ensures;
      read_is = c.deref.ensures.value;
      of_is = c.in_ok-fans.ensures.of;
      firsts_is = c.in_ok-fans.ensures.firsts;
      firsts_read_is = c.deref-2.ensures.value;
    })
    c.in_ok-from.ensures c.deref-3.ensures.value c.in_ok-at.at.items c.in_ok-at.ensures in
    at_is

pub returns-clause-accepted : goal.returns-clause-accepted
returns-clause-accepted c =
    let at_is = step_points c.args.points.now c.args.triples.now c.requires c.in_ok-twins.twins.items c.deref.result.now c.in_ok-fans.fans.of.items
    c.in_ok-fans.fans.firsts.items c.deref-2.result.now c.in_ok-from.from.items c.deref-3.result.now c.deref-4.result.now
    (record {
      settles = c.in_ok-twins.ensures;
      read_is = c.deref.ensures.value;
      of_is = c.in_ok-fans.ensures.of;
      firsts_is = c.in_ok-fans.ensures.firsts;
      firsts_read_is = c.deref-2.ensures.value;
    })
    c.in_ok-from.ensures c.deref-3.ensures.value c.in_ok-at.at.items c.in_ok-at.ensures in
    let made_is = step_triples c.args.points.now c.args.triples.now c.requires c.in_ok-twins.twins.items c.deref.result.now c.in_ok-fans.fans.of.items
    c.in_ok-fans.fans.firsts.items c.deref-2.result.now c.in_ok-from.from.items c.deref-3.result.now c.deref-4.result.now
    (record {
      settles = c.in_ok-twins.ensures;
      read_is = c.deref.ensures.value;
      of_is = c.in_ok-fans.ensures.of;
      firsts_is = c.in_ok-fans.ensures.firsts;
      firsts_read_is = c.deref-2.ensures.value;
    })
    c.deref-4.ensures.value (triples_of c.in_ok-made.made.items) c.in_ok-made.ensures in
    parted_accepted c.args.points.now (triples_of c.args.triples.now) c.requires c.in_ok-at.at.items (triples_of c.in_ok-made.made.items) at_is made_is

pub returns-clause-clean : goal.returns-clause-clean
returns-clause-clean c =
    let made_is = step_triples c.args.points.now c.args.triples.now c.requires c.in_ok-twins.twins.items c.deref.result.now c.in_ok-fans.fans.of.items
    c.in_ok-fans.fans.firsts.items c.deref-2.result.now c.in_ok-from.from.items c.deref-3.result.now c.deref-4.result.now
    (record {
      settles = c.in_ok-twins.ensures;
      read_is = c.deref.ensures.value;
      of_is = c.in_ok-fans.ensures.of;
      firsts_is = c.in_ok-fans.ensures.firsts;
      firsts_read_is = c.deref-2.ensures.value;
    })
    c.deref-4.ensures.value (triples_of c.in_ok-made.made.items) c.in_ok-made.ensures in
    parted_clean c.args.points.now (triples_of c.args.triples.now) c.requires (triples_of c.in_ok-made.made.items) made_is

pub returns-clause-once : goal.returns-clause-once
returns-clause-once c =
    let made_is = step_triples c.args.points.now c.args.triples.now c.requires c.in_ok-twins.twins.items c.deref.result.now c.in_ok-fans.fans.of.items
    c.in_ok-fans.fans.firsts.items c.deref-2.result.now c.in_ok-from.from.items c.deref-3.result.now c.deref-4.result.now
    (record {
      settles = c.in_ok-twins.ensures;
      read_is = c.deref.ensures.value;
      of_is = c.in_ok-fans.ensures.of;
      firsts_is = c.in_ok-fans.ensures.firsts;
      firsts_read_is = c.deref-2.ensures.value;
    })
    c.deref-4.ensures.value (triples_of c.in_ok-made.made.items) c.in_ok-made.ensures in
    parted_once c.args.points.now (triples_of c.args.triples.now) c.requires (triples_of c.in_ok-made.made.items) made_is
