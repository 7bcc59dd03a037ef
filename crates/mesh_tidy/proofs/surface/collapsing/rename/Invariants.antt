use Rattle.std.proofs.Common.{◌≡◌, length, take}
use Rattle.std.specs.List.{All}
use Rattle.mesh_terms.specs.Meshes.{triples_of}
use Rattle.mesh_tidy.specs.TidySurface.{IsRenamed}
use Rattle.mesh_tidy.proofs.surface.collapsing.rename.Given as goal

-- those so far
abbrev pub invariant-loop-half : goal.invariant-loop-half
invariant-loop-half l = record {
  count : length l.triples ≡ length l.initial.triples;
  rows : All (λ row. length row ≡ 3) l.triples;
  renamed : IsRenamed (triples_of l.initial.triples) (triples_of l.triples) (take l.half-index l.halves) l.old l.new;
}
