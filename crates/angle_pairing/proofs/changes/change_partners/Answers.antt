use Rattle.std.proofs.Common.{◌≡◌, ◌<◌, ◌+◌, length, map, subst, sym, refl, ◌∙◌, arith}
use Rattle.std.specs.List.{All}
use Rattle.std.proofs.lemmas.List.{length-map, with_items_is}
use Rattle.chain_terms.specs.Chains.{all_edges}
use Rattle.mesh_terms.specs.Meshes.{triples_of}
use Rattle.sheet_terms.specs.Chains.{upward}
use Rattle.angle_pairing.proofs.Changing.{AreTaken, taken_all, taken_finds, taken_none, taken_step}
use Rattle.angle_pairing.proofs.Groups.{alike_below, alike_with, first_low, many_firsts, many_groups, read_first, read_group}
use Rattle.angle_pairing.proofs.Lists.{edge_count}
use Rattle.angle_pairing.proofs.changes.change_partners.Goals as goal

pub leaders-requires-clause-few : goal.leaders-requires-clause-few
leaders-requires-clause-few c = omega (arith, c.requires.twins.full, edge_count c.args.triples.now, c.requires.few)

pub loop-half-init : goal.loop-half-init
loop-half-init c = record {
  full = refl;
  taken = taken_none (triples_of c.args.triples.now) c.args.twins.now c.in_ok-labels.labels.items c.requires.twins c.in_ok-labels.ensures;
}

pub index-requires : goal.index-requires
index-requires c =
    let es = all_edges (triples_of c.args.triples.now) in
    let pairs = map upward es in
    let gathered = c.args.gathered.now in
    let many = length-map es upward in
    omega (
      arith,
      c.loop-half-test.true,
      many,
      edge_count c.args.triples.now,
      many_firsts pairs gathered.firsts.items gathered.groups c.requires.gathered,
      gathered.firsts.ok.0,
      c.requires.few,
    )

pub returns-clause-settled : goal.returns-clause-settled
returns-clause-settled c points below =
    taken_all (triples_of c.args.triples.now) c.requires.three c.args.twins.now c.loop-half.twins c.loop-half.labels.items c.loop-half.half
    (omega (arith, c.loop-half-test.false, edge_count c.args.triples.now, c.requires.few)) c.loop-half.invariant.taken points below

pub bucket-alike-requires : goal.bucket-alike-requires
bucket-alike-requires c =
    let es = all_edges (triples_of c.args.triples.now) in
    let pairs = map upward es in
    let gathered = c.args.gathered.now in
    let many = length-map es upward in
    let low : c.loop-half.half < length pairs = omega (arith, c.loop-half-test.true, edge_count c.args.triples.now, c.requires.few, many) in
    omega (
      arith,
      read_first pairs gathered.firsts.items gathered.groups c.requires.gathered c.loop-half.half low c.index.result.now c.index.ensures,
      first_low pairs gathered.firsts.items gathered.groups c.requires.gathered c.loop-half.half low,
      many_groups pairs gathered.firsts.items gathered.groups c.requires.gathered,
    )

pub take-requires-clause-few : goal.take-requires-clause-few
take-requires-clause-few c =
    omega (arith, c.loop-half.invariant.full, c.requires.twins.full, edge_count c.args.triples.now, c.requires.few)

pub take-requires-clause-half : goal.take-requires-clause-half
take-requires-clause-half c =
    omega (arith, c.loop-half-test.true, c.loop-half.invariant.full, c.requires.twins.full, edge_count c.args.triples.now, c.requires.few)

pub take-requires-clause-alike : goal.take-requires-clause-alike
take-requires-clause-alike c =
    let es = all_edges (triples_of c.args.triples.now) in
    let many : length (map upward es) ≡ length c.loop-half.twins = length-map es upward ∙ sym c.requires.twins.full ∙ sym c.loop-half.invariant.full in
    let low : c.loop-half.half < length es = omega (arith, c.loop-half-test.true, edge_count c.args.triples.now, c.requires.few) in
    let way_low : c.loop-half.half < length (map upward (all_edges (triples_of c.args.triples.now))) =
    omega (arith, low, length-map (all_edges (triples_of c.args.triples.now)) upward) in
    let group = read_group (map upward (all_edges (triples_of c.args.triples.now))) c.args.gathered.now.firsts.items c.args.gathered.now.groups c.requires.gathered
    (map upward (all_edges (triples_of c.args.triples.now))) refl c.loop-half.half way_low c.index.result.now c.bucket-alike.result.now c.index.ensures c.bucket-alike.ensures in
    subst (All (λ h. h < length c.loop-half.twins)) (sym group)
    (subst (λ n. All (λ h. h < n) (alike_with (map upward es) c.loop-half.half)) many (alike_below (map upward es) c.loop-half.half))

pub take-requires-clause-change : goal.take-requires-clause-change
take-requires-clause-change c g found =
    let ts = triples_of c.args.triples.now in
    let low : c.loop-half.half < length (all_edges ts) = omega (arith, c.loop-half-test.true, edge_count c.args.triples.now, c.requires.few) in
    let way_low : c.loop-half.half < length (map upward (all_edges (triples_of c.args.triples.now))) =
    omega (arith, low, length-map (all_edges (triples_of c.args.triples.now)) upward) in
    let group = read_group (map upward (all_edges (triples_of c.args.triples.now))) c.args.gathered.now.firsts.items c.args.gathered.now.groups c.requires.gathered
    (map upward (all_edges ts)) refl c.loop-half.half way_low c.index.result.now c.bucket-alike.result.now c.index.ensures c.bucket-alike.ensures in
    taken_finds ts c.requires.three c.args.twins.now c.loop-half.twins c.loop-half.labels.items c.loop-half.half low c.loop-half.invariant.taken
    c.deref_mut.result.now c.bucket-alike.result.now c.deref_mut.ensures.value group g found

pub loop-half-preserved : goal.loop-half-preserved
loop-half-preserved c =
    let ts = triples_of c.args.triples.now in
    let low : c.loop-half.half < length (all_edges ts) = omega (arith, c.loop-half-test.true, edge_count c.args.triples.now, c.requires.few) in
    let way_low : c.loop-half.half < length (map upward (all_edges (triples_of c.args.triples.now))) =
    omega (arith, low, length-map (all_edges (triples_of c.args.triples.now)) upward) in
    let group = read_group (map upward (all_edges (triples_of c.args.triples.now))) c.args.gathered.now.firsts.items c.args.gathered.now.groups c.requires.gathered
    (map upward (all_edges ts)) refl c.loop-half.half way_low c.index.result.now c.bucket-alike.result.now c.index.ensures c.bucket-alike.ensures in
    let taken = taken_step ts c.requires.three c.args.twins.now c.loop-half.twins c.loop-half.labels.items c.loop-half.half low c.loop-half.invariant.taken
    c.deref_mut.result.now c.bucket-alike.result.now c.deref_mut.ensures.value group c.take.new.twins c.take.new.labels c.take.ensures.none c.take.ensures.some in
    let full : length c.take.new.labels ≡ c.loop-half.labels.len =
    taken.labels_are.full ∙ taken.paired.full ∙ sym c.loop-half.invariant.taken.paired.full ∙ sym c.loop-half.invariant.taken.labels_are.full ∙ sym c.loop-half.labels.ok.0 in
    record {
      full = taken.paired.full ∙ sym c.requires.twins.full;
      taken = subst (λ l. AreTaken ts c.args.twins.now c.take.new.twins l (c.loop-half.half + 1)) (sym (with_items_is c.loop-half.labels c.take.new.labels full)) taken;
    }
