use Rattle.std.proofs.Common.{◌≡◌, vec_len}
use Rattle.std.specs.List.{All}
use Rattle.mb_outside.proofs.stored_files.free_places.Given as goal

abbrev pub invariant-loop : goal.invariant-loop
invariant-loop l = record {
  count : vec_len l.free ≡ l.counter;
  rooms : All (λ r. r ≡ l.room) l.free.items;
}
