use Rattle.std.proofs.Common.{cond, map}
use Rattle.chain_terms.specs.Sums.{upto}
use Rattle.source_faces.specs.Adding.{IsAdded, copy_triple, is_flat}
use Rattle.source_faces.proofs.plain.push_copies.Given as goal

-- the copies so far are added, and all are counted where they are forced
abbrev pub invariant-loop-i : goal.invariant-loop-i
invariant-loop-i l =
    IsAdded l.source (record { triples = map (copy_triple l.a l.b l.c) (upto l.i); forced = cond (is_flat l.side l.face) l.a.count 0 }) l.fn.all l.all
