use Rattle.std.proofs.Common.{◌∙◌, ℕ, ◌-◌, List, le_antisymm, arith, ap, rules, ◌≡◌, ◌≤◌, ◌++◌, length}
use Rattle.std.specs.Option.{option_map}
use Rattle.std.proofs.lemmas.List.{take_all}
use Rattle.std.proofs.lemmas.Result.{err_from_is_err_and}
use Rattle.mb_outside.proofs.Adds.{first_taken, lowered_twice, told_on}
use Rattle.mb_outside.proofs.writing.write_all.Goals as goal

pub loop-done-preserved : goal.loop-done-preserved
loop-done-preserved g c =
    let inv = c.loop-done.invariant in
    let e = c.in_ok-done.ensures in
    record {
      within = omega (arith, e.within, c.split_at.ensures.back_len, inv.within);
      idle = λ none. absurd (omega (arith, none, c.loop-done-test.true));
      told = told_on _ _ _ c.args.text.now _ c.loop-done.done c.in_ok-done.field-0 c.split_at.ensures.back inv.told e.added;
      count = e.count.ok (search rules) ∙ inv.count;
      kept = record {
        other = e.other ∙ inv.kept.other;
        second = e.second ∙ inv.kept.second;
        rest = e.rest ∙ inv.kept.rest;
        loan = e.loan ∙ inv.kept.loan;
        other_spare = e.other_spare ∙ inv.kept.other_spare;
      };
      room = lowered_twice _ _ _ c.loop-done.done c.in_ok-done.field-0 inv.room e.less;
    }

pub returns-in_err-done-clause-sure : goal.returns-in_err-done-clause-sure
returns-in_err-done-clause-sure g c free is fits =
    let fits_rest : length c.split_at.result.1.now ≤ free - c.loop-done.done = omega (arith, c.split_at.ensures.back_len, c.loop-done.invariant.within, fits) in
    let left = c.loop-done.invariant.room ∙ ap (option_map (λ (n : ℕ). n - c.loop-done.done)) is in
    let ok = c.in_err-done.ensures.sure (free - c.loop-done.done) left fits_rest in
    cc

pub returns-in_err-done-clause-part : goal.returns-in_err-done-clause-part
returns-in_err-done-clause-part g c =
    let p = err_from_is_err_and c.from_residual.result c.from_residual.ensures.1 in
    let inv = c.loop-done.invariant in
    let e = c.in_err-done.ensures in
    rw p.1 (first_taken c.args.text.now c.loop-done.done _ _ _ _ inv.within (e.kept ∙ inv.told) (e.room ∙ inv.room))

pub returns-clause-added : goal.returns-clause-added
returns-clause-added g c =
    let all = take_all c.loop-done.done c.args.text.now c.loop-done-test.false in
    c.loop-done.invariant.told ∙ ap (λ (text : List ℕ). option_map (λ (held : List ℕ). held ++ text) (g.K.Sink.told c.args.sink.now)) all

pub returns-clause-less : goal.returns-clause-less
returns-clause-less g c =
    let all : c.loop-done.done ≡ length c.args.text.now = le_antisymm c.loop-done.invariant.within c.loop-done-test.false in
    c.loop-done.invariant.room ∙ ap (λ (n : ℕ). option_map (λ (free : ℕ). free - n) (g.K.Sink.room c.args.sink.now)) all
