use Rattle.std.proofs.Common.{◌≡◌, sym, ap, ◌++◌, ◌-◌, ◌∷◌, [], arith, vec_len}
use Rattle.std.proofs.lemmas.Grind.{common_steps}
use Rattle.mb_outside.specs.Store.{Store}
use Rattle.mb_outside.proofs.Lookup.{written_new}
use Rattle.mb_outside.proofs.stored_files.StoredFiles.start.Goals as goal

pub returns-clause-started : goal.returns-clause-started
returns-clause-started c =
    let store : Store = c.args.self.now in
    let same : store.room ≡ c.self.inside.room = ap (λ (s : Store). s.room) (sym c.self.view_is) in
    let room : c.in-Some.place ≡ store.room = grind (arith, common_steps) in
    let files : c.push.new.self.items ≡ store.files ++ (record { name = c.args.name.now; bytes = c.args.bytes.now; limit = store.room }) ∷ [] =
    grind (arith, room, c.in-Ok.ensures.items, c.filled.ensures) in
    let free : vec_len c.pop.new.self ≡ store.free - 1 = grind (arith) in
    rw (files, free, ← same) (written_new store c.args.name.now c.args.bytes.now c.requires)
