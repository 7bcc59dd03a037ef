use Rattle.std.proofs.Common.{◌++◌, ◌∷◌, [], get_or, append-nil, ap, sym, ◌∙◌}
use Rattle.std.proofs.lemmas.List.{take_all, take_more}
use Rattle.edge_pairing.specs.Entries.{ends_of, starts_of}
use Rattle.cross_section.proofs.Listed.{more_end, more_start, same_ends, same_starts}
use Rattle.cross_section.proofs.segments.fill_entries.Goals as goal

pub loop-from-preserved : goal.loop-from-preserved
loop-from-preserved c =
    let starts = c.args.starts.now in
    let i = c.loop-from.from-index in
    let es = c.loop-from.entries.items in
    let v = get_or starts i 0 in
    record {
      starts = ap starts_of c.in_ok-push.ensures.items ∙ more_start es v ∙ ap (λ l. l ++ v ∷ []) c.loop-from.invariant.starts ∙ sym (take_more starts i 0 c.loop-from-test.true);
      ends = ap ends_of c.in_ok-push.ensures.items ∙ same_ends es v ∙ append-nil (ends_of es) ∙ c.loop-from.invariant.ends;
    }

pub loop-to-init : goal.loop-to-init
loop-to-init c = record { starts = c.loop-from.invariant.starts ∙ take_all c.loop-from.from-index c.args.starts.now c.loop-from-test.false; ends = c.loop-from.invariant.ends }

pub loop-to-preserved : goal.loop-to-preserved
loop-to-preserved c =
    let ends = c.args.ends.now in
    let i = c.loop-to.to-index in
    let es = c.loop-to.entries.items in
    let v = get_or ends i 0 in
    record {
      starts = ap starts_of c.in_ok-push-2.ensures.items ∙ same_starts es v ∙ append-nil (starts_of es) ∙ c.loop-to.invariant.starts;
      ends = ap ends_of c.in_ok-push-2.ensures.items ∙ more_end es v ∙ ap (λ l. l ++ v ∷ []) c.loop-to.invariant.ends ∙ sym (take_more ends i 0 c.loop-to-test.true);
    }

pub returns-clause-ends : goal.returns-clause-ends
returns-clause-ends c = c.loop-to.invariant.ends ∙ take_all c.loop-to.to-index c.args.ends.now c.loop-to-test.false
