use Rattle.std.proofs.Common.{◌≡◌, ◌∙◌, List, Bor, Ok, true, get_or, map, sym, ap, length, arith}
use Rattle.std.proofs.lemmas.List.{length-map}
use Rattle.std.proofs.lemmas.Result.{err_from_is_err_and}
use Rattle.run_terms.specs.Files.{Bytes}
use Rattle.play_terms.specs.Operands.{new_name_fault}
use Rattle.play_terms.specs.ScriptCommands.{are_pairs, at}
use Rattle.play_terms.specs.Steps.{Polygon}
use Rattle.script_lang.proofs.RingWords.{drawn, pairs_known, refused, word_at}
use Rattle.script_lang.proofs.polygons.polygon_step.Goals as goal

-- as many words
many_words : (ops : List (Bor Bytes)) → are_pairs (length ops) ≡ true → are_pairs (length (map (λ w. w.now) ops)) ≡ true
many_words ops many = ap are_pairs (length-map ops (λ w. w.now)) ∙ many

-- the first of them
first_word : (ops : List (Bor Bytes)) (d : Bor Bytes) → are_pairs (length ops) ≡ true → at (map (λ w. w.now) ops) 0 ≡ (get_or ops 0 d).now
first_word ops d many = let few = (pairs_known (length ops) many).0 in sym (word_at ops 0 d (omega (arith, few)))

pub returns-in_err-ring-clause-fault : goal.returns-in_err-ring-clause-fault
returns-in_err-ring-clause-fault c before =
    let many = sym c.are_pairs.ensures ∙ c.if-not-are_pairs.false in
    let name = ap new_name_fault (first_word c.args.operands.now _ many) ∙ c.in-Ok.ensures.name in
    let bad = refused c.args.digits c.args.line before (map (λ w. w.now) c.args.operands.now)
    c.in_err-ring.field-0.0 (many_words c.args.operands.now many) name c.in_err-ring.ensures.fault in
    let p = err_from_is_err_and c.from_residual.result c.from_residual.ensures.1 in
    rw (p.1, p.2) bad

pub returns-clause-step : goal.returns-clause-step
returns-clause-step c before =
    let k = c.args.digits in
    let many = sym c.are_pairs.ensures ∙ c.if-not-are_pairs.false in
    let first = first_word c.args.operands.now _ many in
    let name = ap new_name_fault first ∙ c.in-Ok.ensures.name in
    let word = first ∙ sym c.in-Ok.ensures.text ∙ sym c.of.ensures in
    drawn k before (map (λ w. w.now) c.args.operands.now) (many_words c.args.operands.now many) name c.in_ok-ring.ensures.sound
    ∙ (λ i. Ok (Polygon (word i) (sym c.in_ok-ring.ensures.ring i)))
