use Rattle.std.proofs.Common.{◌≡◌, [], ◌++◌, sym, ap, ◌∙◌, arith, drop, map, string_bytes}
use Rattle.std.proofs.lemmas.List.{nil_from_length}
use Rattle.std.specs.Vec.Iter.{into_iter_items}
use Rattle.program_runs.proofs.words.all_but_first.Goals as goal

pub returns-in_default : goal.returns-in_default
returns-in_default c =
    let none : into_iter_items c.args.words ≡ [] = nil_from_length _ (omega (arith, c.in_default.ensures.cases.0, c.args.words.rest.ok.0)) in
    c.start-list.ensures ∙ ap (λ items. map string_bytes (drop 1 items)) (sym none)

pub returns : goal.returns
returns c =
    let left = map string_bytes (into_iter_items c.next.new.self) in
    c.in_ok-add_all.ensures ∙ ap (λ list. list ++ left) c.start-list.ensures ∙ ap (λ items. map string_bytes (drop 1 items)) (sym c.in-Some.ensures.cases.0)
