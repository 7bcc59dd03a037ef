use Rattle.std.proofs.Common.{◌≡◌, ◌+◌, ◌<◌, ◌∙◌, ℕ, List, [], Ok, arith, ap, get_or, length, map, subst, sym}
use Rattle.std.proofs.lemmas.List.{get_or-map, length-map}
use Rattle.std.proofs.lemmas.Result.{err_from_is_err_and}
use Rattle.mb_base.specs.declared.kernel_kind.KernelKind.{KernelKind}
use Rattle.mb_base.specs.declared.kernel_kind.KernelKind.TheVariants.{Grid}
use Rattle.mb_outside.specs.Seen.{on_output, on_shelf, seen_of}
use Rattle.play_terms.specs.Scripts.{script}
use Rattle.play_terms.specs.Sound.{AreSound}
use Rattle.run_terms.specs.Files.{Bytes}
use Rattle.script_lang.specs.Faults.{IsFaultOf}
use Rattle.script_lang.specs.Steps.{line_of}
use Rattle.script_lang.specs.declared.steps.Line.{Line}
use Rattle.script_runs.specs.Names.{named_in, state_in}
use Rattle.script_runs.specs.Operations.{meanings}
use Rattle.script_runs.proofs.Progress.{HasDone, end_spent, ends, line_done, next_numbers, next_taken, none_done, stop_spent, stops}
use Rattle.script_runs.proofs.Reading.{script_read, script_spent, script_unread, text_done, text_refused, text_spent, text_stopped}
use Rattle.script_runs.proofs.WritesBack.{script_back}
use Rattle.script_runs.proofs.running.run_script.Goals as goal

-- the line of a turn
line_at : (xs : List Line) (i : ℕ) (x : Line) → i < length xs → x ≡ get_or xs i x → get_or (map line_of xs) i (line_of x) ≡ line_of x
line_at xs i x below is = get_or-map line_of xs i x (line_of x) below ∙ ap line_of (sym is)

pub returns-in_err-bytes-clause-meets : goal.returns-in_err-bytes-clause-meets
returns-in_err-bytes-clause-meets g c =
    let e = err_from_is_err_and c.from_residual.result c.from_residual.ensures.1 in
    let k = c.args.settings.now.digits in
    let limits = c.args.settings.now.limits.now in
    let name = c.args.name.now in
    let before = on_shelf g.S.Shelf c.args.shelf.now in
    let mid = on_shelf g.S.Shelf c.read_named_file.new.shelf in
    let out = on_output g.O.Sink c.args.out.now in
    rw (e.1, e.2) (script_unread meanings k limits name before mid out _ c.in_err-bytes.ensures.meets)

pub returns-in-Err-clause-meets : goal.returns-in-Err-clause-meets
returns-in-Err-clause-meets g c =
    let k = c.args.settings.now.digits in
    let limits = c.args.settings.now.limits.now in
    let name = c.args.name.now in
    let before = on_shelf g.S.Shelf c.args.shelf.now in
    let mid = on_shelf g.S.Shelf c.read_named_file.new.shelf in
    let out = on_output g.O.Sink c.args.out.now in
    let bytes = c.in_ok-bytes.field-0.items in
    let now = seen_of g.S.Shelf g.O.Sink c.read_named_file.new.shelf c.args.out.now in
    let fault = subst (λ (b : Bytes). IsFaultOf (script k b) c.in-Err.fault) c.deref.ensures.value c.in-Err.ensures.fault in
    rw c.halt_of.ensures.why
    (script_read meanings k limits name bytes before mid out now _ c.in_ok-bytes.ensures.meets
    (text_refused meanings k limits name bytes c.in-Err.fault now fault))

pub loop-line-init : goal.loop-line-init
loop-line-init g c =
    none_done meanings c.args.settings.now.digits c.args.settings.now.limits.now c.args.name.now (map line_of c.lines-line-items.result.now) (state_in Grid c.none-names.result)
    (seen_of g.S.Shelf g.O.Sink c.read_named_file.new.shelf c.args.out.now) c.args.sums.now
    (subst (AreSound []) (sym c.lines-line-items.ensures.lines) c.lines-line-items.ensures.sound)

pub do_step-requires-clause-taken : goal.do_step-requires-clause-taken
do_step-requires-clause-taken g c =
    let k = c.args.settings.now.digits in
    let limits = c.args.settings.now.limits.now in
    let name = c.args.name.now in
    let lines = map line_of c.lines-line-items.result.now in
    let x = c.line-item.result in
    let i = c.loop-line.line-index in
    let below : i < length c.lines-line-items.result.now = omega (arith, c.loop-line-test.true) in
    let start = seen_of g.S.Shelf g.O.Sink c.read_named_file.new.shelf c.args.out.now in
    let here = seen_of g.S.Shelf g.O.Sink c.loop-line.shelf c.loop-line.out in
    next_taken meanings k limits name lines (state_in Grid c.none-names.result) start c.args.sums.now
    i (line_of x) (state_in c.loop-line.kernels c.loop-line.names) here c.loop-line.sums
    (omega (arith, below, length-map c.lines-line-items.result.now line_of)) (line_at c.lines-line-items.result.now i x below c.line-item.is) c.loop-line.invariant

pub do_step-requires-clause-numbers : goal.do_step-requires-clause-numbers
do_step-requires-clause-numbers g c =
    let k = c.args.settings.now.digits in
    let limits = c.args.settings.now.limits.now in
    let name = c.args.name.now in
    let lines = map line_of c.lines-line-items.result.now in
    let x = c.line-item.result in
    let i = c.loop-line.line-index in
    let below : i < length c.lines-line-items.result.now = omega (arith, c.loop-line-test.true) in
    let start = seen_of g.S.Shelf g.O.Sink c.read_named_file.new.shelf c.args.out.now in
    let here = seen_of g.S.Shelf g.O.Sink c.loop-line.shelf c.loop-line.out in
    next_numbers meanings k limits name lines (state_in Grid c.none-names.result) start c.args.sums.now
    i (line_of x) (state_in c.loop-line.kernels c.loop-line.names) here c.loop-line.sums
    (omega (arith, below, length-map c.lines-line-items.result.now line_of)) (line_at c.lines-line-items.result.now i x below c.line-item.is) c.loop-line.invariant

pub returns-in_err-do_step-clause-meets : goal.returns-in_err-do_step-clause-meets
returns-in_err-do_step-clause-meets g c =
    let e = err_from_is_err_and c.from_residual-in_err-do_step.result c.from_residual-in_err-do_step.ensures.1 in
    let k = c.args.settings.now.digits in
    let limits = c.args.settings.now.limits.now in
    let name = c.args.name.now in
    let before = on_shelf g.S.Shelf c.args.shelf.now in
    let mid = on_shelf g.S.Shelf c.read_named_file.new.shelf in
    let out = on_output g.O.Sink c.args.out.now in
    let bytes = c.in_ok-bytes.field-0.items in
    let lines = map line_of c.lines-line-items.result.now in
    let is : script k bytes ≡ Ok lines = ap (script k) (sym c.deref.ensures.value) ∙ c.in-Ok.ensures.script ∙ ap Ok (sym c.lines-line-items.ensures.lines) in
    let x = c.line-item.result in
    let i = c.loop-line.line-index in
    let below : i < length c.lines-line-items.result.now = omega (arith, c.loop-line-test.true) in
    let start = seen_of g.S.Shelf g.O.Sink c.read_named_file.new.shelf c.args.out.now in
    let here = seen_of g.S.Shelf g.O.Sink c.loop-line.shelf c.loop-line.out in
    let there = seen_of g.S.Shelf g.O.Sink c.do_step.new.shelf c.do_step.new.out in
    rw (e.1, e.2)
    (script_read meanings k limits name bytes before mid out there _ c.in_ok-bytes.ensures.meets
    (text_stopped meanings k limits name bytes lines _ _ start there c.none-names.ensures is
    (stops meanings k limits name lines (state_in Grid c.none-names.result) start c.args.sums.now
    i (line_of x) (state_in c.loop-line.kernels c.loop-line.names) here c.loop-line.sums
    (omega (arith, below, length-map c.lines-line-items.result.now line_of)) (line_at c.lines-line-items.result.now i x below c.line-item.is) c.loop-line.invariant
    there c.do_step.new.sums c.in_err-do_step.ensures.cost _ c.in_err-do_step.ensures.meets)))

pub returns-in_err-do_step-clause-cost : goal.returns-in_err-do_step-clause-cost
returns-in_err-do_step-clause-cost g c =
    let k = c.args.settings.now.digits in
    let limits = c.args.settings.now.limits.now in
    let name = c.args.name.now in
    let before = on_shelf g.S.Shelf c.args.shelf.now in
    let mid = on_shelf g.S.Shelf c.read_named_file.new.shelf in
    let out = on_output g.O.Sink c.args.out.now in
    let bytes = c.in_ok-bytes.field-0.items in
    let lines = map line_of c.lines-line-items.result.now in
    let is : script k bytes ≡ Ok lines = ap (script k) (sym c.deref.ensures.value) ∙ c.in-Ok.ensures.script ∙ ap Ok (sym c.lines-line-items.ensures.lines) in
    let x = c.line-item.result in
    let i = c.loop-line.line-index in
    let below : i < length c.lines-line-items.result.now = omega (arith, c.loop-line-test.true) in
    let start = seen_of g.S.Shelf g.O.Sink c.read_named_file.new.shelf c.args.out.now in
    let here = seen_of g.S.Shelf g.O.Sink c.loop-line.shelf c.loop-line.out in
    let there = seen_of g.S.Shelf g.O.Sink c.do_step.new.shelf c.do_step.new.out in
    script_spent meanings k limits name bytes before mid out c.args.sums.now c.do_step.new.sums c.in_ok-bytes.ensures.meets
    (λ told. text_spent meanings k limits name bytes lines _ mid.files c.args.sums.now c.do_step.new.sums c.none-names.ensures is
    (stop_spent meanings k limits name lines (state_in Grid c.none-names.result) start c.args.sums.now
    i (line_of x) (state_in c.loop-line.kernels c.loop-line.names) here c.loop-line.sums
    (omega (arith, below, length-map c.lines-line-items.result.now line_of)) (line_at c.lines-line-items.result.now i x below c.line-item.is) c.loop-line.invariant
    there c.do_step.new.sums c.in_err-do_step.ensures.cost told))

pub loop-line-preserved : goal.loop-line-preserved
loop-line-preserved g c =
    let k = c.args.settings.now.digits in
    let limits = c.args.settings.now.limits.now in
    let name = c.args.name.now in
    let lines = map line_of c.lines-line-items.result.now in
    let x = c.line-item.result in
    let i = c.loop-line.line-index in
    let below : i < length c.lines-line-items.result.now = omega (arith, c.loop-line-test.true) in
    let start = seen_of g.S.Shelf g.O.Sink c.read_named_file.new.shelf c.args.out.now in
    let here = seen_of g.S.Shelf g.O.Sink c.loop-line.shelf c.loop-line.out in
    let there = seen_of g.S.Shelf g.O.Sink c.do_step.new.shelf c.do_step.new.out in
    let P : KernelKind → Type 0 = λ kernels. HasDone meanings k limits name lines (state_in Grid c.none-names.result) start c.args.sums.now
    (i + 1) (state_in kernels c.do_step.new.names) there c.do_step.new.sums in
    subst P (sym c.kernels_after-kernels.ensures)
    (line_done meanings k limits name lines (state_in Grid c.none-names.result) start c.args.sums.now
    i (line_of x) (state_in c.loop-line.kernels c.loop-line.names) here c.loop-line.sums
    (omega (arith, below, length-map c.lines-line-items.result.now line_of)) (line_at c.lines-line-items.result.now i x below c.line-item.is) c.loop-line.invariant
    there c.do_step.new.sums c.in_ok-do_step.ensures.cost
    (named_in c.do_step.new.names) c.in_ok-do_step.ensures.meets c.in_ok-do_step.ensures.named)

pub returns-clause-meets : goal.returns-clause-meets
returns-clause-meets g c =
    let k = c.args.settings.now.digits in
    let limits = c.args.settings.now.limits.now in
    let name = c.args.name.now in
    let before = on_shelf g.S.Shelf c.args.shelf.now in
    let mid = on_shelf g.S.Shelf c.read_named_file.new.shelf in
    let out = on_output g.O.Sink c.args.out.now in
    let bytes = c.in_ok-bytes.field-0.items in
    let lines = map line_of c.lines-line-items.result.now in
    let is : script k bytes ≡ Ok lines = ap (script k) (sym c.deref.ensures.value) ∙ c.in-Ok.ensures.script ∙ ap Ok (sym c.lines-line-items.ensures.lines) in
    let start = seen_of g.S.Shelf g.O.Sink c.read_named_file.new.shelf c.args.out.now in
    let here = seen_of g.S.Shelf g.O.Sink c.loop-line.shelf c.loop-line.out in
    script_read meanings k limits name bytes before mid out here _ c.in_ok-bytes.ensures.meets
    (text_done meanings k limits name bytes lines _ _ start here c.none-names.ensures is
    (ends meanings k limits name lines (state_in Grid c.none-names.result) start c.args.sums.now c.loop-line.line-index
    (state_in c.loop-line.kernels c.loop-line.names) here
    c.loop-line.sums (omega (arith, c.loop-line-test.false, length-map c.lines-line-items.result.now line_of)) c.loop-line.invariant))

pub returns-clause-cost : goal.returns-clause-cost
returns-clause-cost g c =
    let k = c.args.settings.now.digits in
    let limits = c.args.settings.now.limits.now in
    let name = c.args.name.now in
    let before = on_shelf g.S.Shelf c.args.shelf.now in
    let mid = on_shelf g.S.Shelf c.read_named_file.new.shelf in
    let out = on_output g.O.Sink c.args.out.now in
    let bytes = c.in_ok-bytes.field-0.items in
    let lines = map line_of c.lines-line-items.result.now in
    let is : script k bytes ≡ Ok lines = ap (script k) (sym c.deref.ensures.value) ∙ c.in-Ok.ensures.script ∙ ap Ok (sym c.lines-line-items.ensures.lines) in
    let start = seen_of g.S.Shelf g.O.Sink c.read_named_file.new.shelf c.args.out.now in
    let here = seen_of g.S.Shelf g.O.Sink c.loop-line.shelf c.loop-line.out in
    script_spent meanings k limits name bytes before mid out c.args.sums.now c.loop-line.sums c.in_ok-bytes.ensures.meets
    (λ told. text_spent meanings k limits name bytes lines _ mid.files c.args.sums.now c.loop-line.sums c.none-names.ensures is
    (end_spent meanings k limits name lines (state_in Grid c.none-names.result) start c.args.sums.now c.loop-line.line-index
    (state_in c.loop-line.kernels c.loop-line.names) here
    c.loop-line.sums c.loop-line.invariant told))

pub returns-in_err-bytes-clause-back : goal.returns-in_err-bytes-clause-back
returns-in_err-bytes-clause-back g c =
    script_back c.args.settings.now.digits c.args.settings.now.limits.now c.args.name.now c.requires.digits c.in_err-bytes.ensures.lawful c.operations_are_readable.ensures.readable

pub returns-in-Err-clause-back : goal.returns-in-Err-clause-back
returns-in-Err-clause-back g c =
    script_back c.args.settings.now.digits c.args.settings.now.limits.now c.args.name.now c.requires.digits c.in_ok-bytes.ensures.lawful c.operations_are_readable.ensures.readable

pub returns-in_err-do_step-clause-back : goal.returns-in_err-do_step-clause-back
returns-in_err-do_step-clause-back g c =
    script_back c.args.settings.now.digits c.args.settings.now.limits.now c.args.name.now c.requires.digits c.in_ok-bytes.ensures.lawful c.operations_are_readable.ensures.readable

pub returns-clause-back : goal.returns-clause-back
returns-clause-back g c =
    script_back c.args.settings.now.digits c.args.settings.now.limits.now c.args.name.now c.requires.digits c.in_ok-bytes.ensures.lawful c.operations_are_readable.ensures.readable
