use Rattle.std.proofs.Common.{◌-◌, ◌++◌, List, length, refl, ap, subst, ◌∙◌, arith, rules}
use Rattle.std.specs.List.{flat_map}
use Rattle.std.specs.Option.{option_map}
use Rattle.std.proofs.lemmas.List.{take_all}
use Rattle.std.proofs.lemmas.Result.{err_from_is_err_and}
use Rattle.run_terms.specs.Files.{Rose}
use Rattle.report_lines.proofs.Joined.{none_added, none_taken, one_more_added, one_more_taken, part_of_next}
use Rattle.report_lines.proofs.report.say.Goals as goal

pub loop-i-init : goal.loop-i-init
loop-i-init g c = record { told = none_added _; room = none_taken _; count = refl }

pub loop-i-preserved : goal.loop-i-preserved
loop-i-preserved g c =
    let inv = c.loop-i.invariant in
    let e = c.in_ok-write_all.ensures in
    record {
      told = one_more_added (λ t. t.now) c.args.texts.now c.loop-i.i _ _ _ _ (search rules) inv.told e.added;
      room = one_more_taken (λ t. t.now) c.args.texts.now c.loop-i.i _ _ _ _ (search rules) inv.room e.less;
      count = e.count.ok (search rules) ∙ inv.count;
    }

pub returns-in_err-write_all : goal.returns-in_err-write_all
returns-in_err-write_all g c =
    let p = err_from_is_err_and c.from_residual.result c.from_residual.ensures.1 in
    let inv = c.loop-i.invariant in
    let count = c.in_err-write_all.ensures.count in
    rw p.1 (record {
      added = tt;
      less = tt;
      part = part_of_next (λ t. t.now) c.args.texts.now c.loop-i.i _ _ _ _ _ _ _ (search rules) inv.told inv.room c.in_err-write_all.ensures.part;
      count = record {
        later = omega (arith, inv.count, count.later);
        ok = λ ok. absurd (search rules);
        failed = λ _. subst (λ n. Rose n (g.K.Sink.faults c.write_all.new.sink)) inv.count (count.failed (search rules));
      };
    })

pub returns : goal.returns
returns g c =
    let all = take_all c.loop-i.i c.args.texts.now (search rules) in
    let same = c.loop-i.invariant.count in
    record {
      added = c.loop-i.invariant.told ∙ ap (λ (l : List _). option_map (λ held. held ++ flat_map (λ t. t.now) l) (g.K.Sink.told c.args.sink.now)) all;
      less = c.loop-i.invariant.room ∙ ap (λ (l : List _). option_map (λ free. free - length (flat_map (λ t. t.now) l)) (g.K.Sink.room c.args.sink.now)) all;
      part = tt;
      count = record { later = omega (arith, same); ok = λ _. same; failed = λ e. absurd (search rules) };
    }
