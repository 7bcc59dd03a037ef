use Rattle.std.proofs.Common.{◌≡◌, ◌++◌, List, [], ℕ, get_or, set, ap, ◌∙◌, sym, arith, get_or-set_other}
use Rattle.std.proofs.lemmas.List.{length-set}
use Rattle.mesh_tidy.proofs.StarLists.{held, on_err, read_at, same_at, written_at}
use Rattle.mesh_tidy.proofs.stars.Stars.join.Goals as goal

pub returns-in_err-reserve-clause-kept : goal.returns-in_err-reserve-clause-kept
returns-in_err-reserve-clause-kept c =
    let lists = c.self.inside.lists.items in
    let old = c.args.self.now in
    on_err c.from_residual.result
    (same_at lists old c.self.view_is c.args.first c.reserve.new.self
    (c.in_err-reserve.ensures.items ∙ read_at lists old c.self.view_is c.args.first c.index_mut.result.now c.requires.first c.index_mut.ensures.value))

pub returns-clause-joined : goal.returns-clause-joined
returns-clause-joined c =
    let lists = c.self.inside.lists.items in
    let old = c.args.self.now in
    let a = c.args.first in
    let b = c.args.second in
    let one : List _ = set lists a c.reserve.new.self in
    let two : List _ = set one b c.replace-moved.new.dest in
    let first = same_at lists old c.self.view_is a c.reserve.new.self
    (c.in_ok-reserve.ensures.items ∙ read_at lists old c.self.view_is a c.index_mut.result.now c.requires.first c.index_mut.ensures.value) in
    let second = written_at one old first b c.replace-moved.new.dest [] (ap (λ v. v.items) c.replace-moved.ensures.after ∙ c.new.ensures.items) in
    let without = set old b [] in
    let here = read_at two without second a c.index_mut-3.result.now (omega (arith, c.requires.first, length-set old b [])) c.index_mut-3.ensures.value
    ∙ get_or-set_other old b a [] [] c.requires.apart in
    let moved = c.deref.ensures.value ∙ ap (λ v. v.items) c.replace-moved.ensures.value
    ∙ read_at one old first b c.index_mut-2.result.now c.requires.second c.index_mut-2.ensures.value in
    written_at two without second a c.extend_from_slice.new.self (get_or old a [] ++ get_or old b []) (c.in_ok-extend_from_slice.ensures.items ∙ (λ i. here i ++ moved i))
