use Rattle.std.proofs.Common.{◌<◌, ℕ, List, [], length, get_or, subst, arith}
use Rattle.std.specs.List.{All}
use Rattle.std.proofs.lemmas.List.Elements.{All-get_or}
use Rattle.std.proofs.lemmas.List.{get_or-map, length-map}
use Rattle.mesh_terms.specs.Meshes.{IsBelow, triple_of, triples_of}
use Rattle.mesh_boolean.proofs.auditing.origins.named_triples.Goals as goal

-- each triangle's vertices are below
below : (n : ℕ) (ts : List (List ℕ)) (i : ℕ) → i < length ts → All (IsBelow n) (triples_of ts) → IsBelow n (triple_of (get_or ts i []))
below n ts i low all = subst (IsBelow n) (get_or-map triple_of ts i [] (0, 0, 0) low)
    (All-get_or (IsBelow n) (triples_of ts) i (0, 0, 0) (omega (arith, low, length-map ts triple_of)) all)

pub bounds-from-a : goal.bounds-from-a
bounds-from-a c = (below (length c.args.from.now) c.args.triples.now c.loop-a.a-index c.loop-a-test.true c.requires).a

pub bounds-from-b : goal.bounds-from-b
bounds-from-b c = (below (length c.args.from.now) c.args.triples.now c.loop-a.a-index c.loop-a-test.true c.requires).b

pub bounds-from-c : goal.bounds-from-c
bounds-from-c c = (below (length c.args.from.now) c.args.triples.now c.loop-a.a-index c.loop-a-test.true c.requires).c
