use Rattle.std.proofs.Common.{◌≡◌, ◌∷◌, [], ◌++◌, sym, ap, ◌∙◌, append_assoc, append-nil, arith, map, string_bytes}
use Rattle.std.proofs.lemmas.List.{nil_from_length}
use Rattle.std.specs.Vec.Iter.{into_iter_items}
use Rattle.program_runs.proofs.words.add_all.Goals as goal

pub loop-word-preserved : goal.loop-word-preserved
loop-word-preserved c =
    let at = c.loop-word in
    let left = map string_bytes (into_iter_items c.next.new.self) in
    let added = c.in_ok-push.ensures.added ∙ ap (λ word. at.list ++ word ∷ []) c.as_str.ensures.value in
    ap (λ list. list ++ left) added ∙ append_assoc at.list (string_bytes c.in-Some.word ∷ []) left
    ∙ ap (λ items. at.list ++ map string_bytes items) (sym c.in-Some.ensures.cases.0) ∙ at.invariant

pub returns : goal.returns
returns c =
    let at = c.loop-word in
    let none : into_iter_items at.rest ≡ [] = nil_from_length _ (omega (arith, c.in_default.ensures.cases.0, at.rest.rest.ok.0)) in
    sym (append-nil at.list) ∙ ap (λ items. at.list ++ map string_bytes items) (sym none) ∙ at.invariant
