use Rattle.std.proofs.Common.{◌-◌, ◌≡◌, ◌≤◌, take, IsTrue, vec_len}
use Rattle.run_terms.specs.Files.{text_of}
use Rattle.mb_outside.specs.Seen.{on_shelf}
use Rattle.mesh_files.proofs.files.read_to.Given as goal

abbrev pub invariant-loop-have : goal.invariant-loop-have
invariant-loop-have g l = record {
  within : l.have ≤ l.size;
  room : vec_len l.bytes ≡ l.size;
  same : on_shelf g.S.Shelf l.shelf ≡ on_shelf g.S.Shelf l.initial.shelf;
  files : g.S.Shelf.files l.shelf ≡ g.S.Shelf.files l.initial.shelf;
  bytes : IsTrue (g.S.Shelf.tells l.initial.shelf) → take l.have l.bytes.items ≡ take l.have (text_of (g.S.Shelf.files l.initial.shelf l.name));
  stated : g.S.Shelf.stated l.shelf ≡ g.S.Shelf.stated l.initial.shelf;
  spare : g.S.Shelf.spare l.shelf ≡ g.S.Shelf.spare l.initial.shelf;
}

abbrev pub decreases-loop-have : goal.decreases-loop-have
decreases-loop-have g l = l.size - l.have
