use Rattle.std.proofs.Common.{◌≡◌, ◌∙◌, ap, arith, get_or, length, take}
use Rattle.std.specs.List.{position_or_len}
use Rattle.std.specs.Prelude.{bytes_eq}
use Rattle.std.proofs.lemmas.List.{get_or_default, length-map, length-take, take_all}
use Rattle.mesh_terms.specs.Labels.{label_at}
use Rattle.sheet_terms.specs.Places.{firsts}
use Rattle.edge_cutting.proofs.Numbered.{numbers}
use Rattle.plane_groups.proofs.Labelled.{bytes_like, keys_more, labels_at, number_few, numbers_tell, of_more}
use Rattle.plane_groups.proofs.labels.numbered.Goals as goal

pub overflow_cast-number : goal.overflow_cast-number
overflow_cast-number c =
    let labels = c.args.labels.now in
    let sources = c.args.sources.now in
    let i = c.loop-source.source-index in
    let few = number_few labels sources i c.in_ok-number.number c.get.result c.loop-source.seen.keys c.loop-source.invariant.keys c.in_ok-number.ensures.index in
    record { fits = omega (arith, few, length-take i sources, c.requires) }

pub loop-source-preserved : goal.loop-source-preserved
loop-source-preserved c =
    let labels = c.args.labels.now in
    let sources = c.args.sources.now in
    let i = c.loop-source.source-index in
    let t = get_or sources i 0 in
    let k = c.get.result in
    let keys = c.loop-source.seen.keys in
    let low = c.loop-source-test.true in
    let is : t ≡ get_or sources i t = get_or_default sources i 0 t low in
    let inv = c.loop-source.invariant in
    record {
      keys = keys_more labels sources i t k keys c.insert_full.new.self.keys low is c.get.ensures.value inv.keys c.in_ok-number.ensures.keys;
      of = c.in_ok-push.ensures.items ∙ of_more labels sources i t c.in_ok-number.number k keys c.loop-source.numbers.items low is c.get.ensures.value inv.keys
          c.in_ok-number.ensures.index inv.of;
    }

pub returns-clause-full : goal.returns-clause-full
returns-clause-full c =
    let labels = c.args.labels.now in
    let sources = c.args.sources.now in
    let read = take c.loop-source.source-index sources in
    let xs = labels_at labels read in
    ap length c.loop-source.invariant.of ∙ length-map xs (λ x. position_or_len (bytes_eq x) (firsts bytes_eq xs)) ∙ length-map read (label_at labels)
    ∙ ap length (take_all c.loop-source.source-index sources c.loop-source-test.false)

pub returns-clause-same : goal.returns-clause-same
returns-clause-same c =
    let labels = c.args.labels.now in
    let sources = c.args.sources.now in
    let all = take_all c.loop-source.source-index sources c.loop-source-test.false in
    numbers_tell labels sources c.loop-source.numbers.items (c.loop-source.invariant.of ∙ ap (λ l. numbers bytes_eq bytes_like (labels_at labels l)) all)
