use Rattle.std.proofs.Common.{arith}
use Rattle.std.proofs.lemmas.Int.{ints}
use Rattle.std.proofs.Common.{◌≡◌, subst, Option, IfSome}
use Rattle.side_terms.specs.Corners.{corner_at}
use Rattle.shadow_kernels.specs.declared.Meet.{Meet}
use Rattle.edge_face.proofs.Faced.{faced}
use Rattle.edge_face.proofs.Kept.{known_kept, known_none}
use Rattle.edge_face.proofs.pairs.face_pair.Goals as goal

pub returns-then-count-eq0 : goal.returns-then-count-eq0
returns-then-count-eq0 g c = record { count = known_kept c.requires.known; mark = known_none c.requires.known (omega (arith, ints, c.if-count-eq0.true)) }

pub returns : goal.returns
returns g c =
    record {
      count = known_kept c.requires.known;
      mark = subst (λ (o : Option Meet). IfSome o (λ n. n.above ≡ c.is_over_face-above.result))
          (faced c.args.of c.other.result _ _ (corner_at c.args.vertex.now 0) (corner_at c.args.face.now 0) (corner_at c.args.face.now 1)
          (corner_at c.args.face.now 2) c.other.ensures) c.is_over_face-above.ensures;
    }
