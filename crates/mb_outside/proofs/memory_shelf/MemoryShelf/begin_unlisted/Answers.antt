use Rattle.std.proofs.Common.{◌≡◌, [], Bool, sym, ap, ◌∙◌}
use Rattle.std.specs.Prelude.{◌||◌}
use Rattle.std.proofs.lemmas.Result.{on_ok_weaker, on_err_weaker}
use Rattle.mb_outside.specs.Calls.{Calls}
use Rattle.mb_outside.specs.Store.{Store, is_unplaced, written}
use Rattle.mb_outside.specs.ShelfState.{ShelfState}
use Rattle.mb_outside.proofs.memory_shelf.MemoryShelf.begin_unlisted.Goals as goal

pub returns-then-listed-clause-exact : goal.returns-then-listed-clause-exact
returns-then-listed-clause-exact c =
    rw (← c.self.view_is) (ap (λ (b : Bool). b || is_unplaced c.self.inside.places c.args.name.now) (sym c.if-listed.true ∙ c.fails_now-listed.ensures.listed))

pub returns-then-listed-clause-kept : goal.returns-then-listed-clause-kept
returns-then-listed-clause-kept c =
    let s = c.self.inside in
    let later : Store → Calls → ShelfState = λ store calls. record { store = store; most = s.most; calls = calls; read_faults = s.read_faults; write_faults = s.write_faults } in
    rw (← c.self.view_is) (ap (later s.places) c.fails_now-listed.ensures.counted)

pub returns-clause-exact : goal.returns-clause-exact
returns-clause-exact c =
    let unplaced = is_unplaced c.self.inside.places c.args.name.now in
    rw (← c.self.view_is) (c.begin.ensures.exact ∙ ap (λ (b : Bool). b || unplaced) (sym c.if-listed.false ∙ c.fails_now-listed.ensures.listed))

pub returns-clause-begun : goal.returns-clause-begun
returns-clause-begun c =
    let s = c.self.inside in
    let begun = written c.args.name.now [] s.places in
    let later : Store → Calls → ShelfState = λ store calls. record { store = store; most = s.most; calls = calls; read_faults = s.read_faults; write_faults = s.write_faults } in
    rw (← c.self.view_is)
    (on_ok_weaker c.begin.result
    (λ (is : c.begin.new.self ≡ begun). ap (λ (store : Store). later store c.fails_now-listed.new.self) is ∙ ap (later begun) c.fails_now-listed.ensures.counted)
    c.begin.ensures.begun)

pub returns-clause-kept : goal.returns-clause-kept
returns-clause-kept c =
    let s = c.self.inside in
    let later : Store → Calls → ShelfState = λ store calls. record { store = store; most = s.most; calls = calls; read_faults = s.read_faults; write_faults = s.write_faults } in
    rw (← c.self.view_is)
    (on_err_weaker c.begin.result
    (λ (is : c.begin.new.self ≡ s.places). ap (λ (store : Store). later store c.fails_now-listed.new.self) is ∙ ap (later s.places) c.fails_now-listed.ensures.counted)
    c.begin.ensures.kept)
