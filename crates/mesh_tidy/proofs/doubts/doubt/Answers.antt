use Rattle.std.proofs.Common.{ℕ, List, ◌*◌, ◌<◌, length, min, sym, ap, subst, arith}
use Rattle.std.specs.List.{All, Contains}
use Rattle.mesh_tidy.specs.Doubts.{AreHalves}
use Rattle.mesh_tidy.proofs.DoubtSet.{added_there, all_added, one_more_there, others_there}
use Rattle.mesh_tidy.proofs.doubts.doubt.Goals as goal

pub returns-in_ok-insert-clause-halves : goal.returns-in_ok-insert-clause-halves
returns-in_ok-insert-clause-halves c = λ halves.
    let ts = c.args.surface.now.triples in
    let low : c.min.result < 3 * length ts = omega (arith, c.min.ensures, c.requires.has.0, c.twin.ensures.there.0) in
    subst (AreHalves ts) (sym c.in_ok-insert.ensures.keys) (all_added (λ h. h < 3 * length ts) c.args.doubts.now.keys c.min.result halves low)

pub returns-in_ok-insert-clause-stay : goal.returns-in_ok-insert-clause-stay
returns-in_ok-insert-clause-stay c = λ x inside. subst (λ ks. Contains ks x) (sym c.in_ok-insert.ensures.keys) (others_there c.args.doubts.now.keys c.min.result x inside)

pub returns-in_ok-insert-clause-count : goal.returns-in_ok-insert-clause-count
returns-in_ok-insert-clause-count c = omega (arith, ap length c.in_ok-insert.ensures.keys, one_more_there c.args.doubts.now.keys c.min.result)

pub returns-in_ok-insert-clause-lesser : goal.returns-in_ok-insert-clause-lesser
returns-in_ok-insert-clause-lesser c = λ one.
    let there : Contains c.insert.new.self.keys c.min.result = subst (λ ks. Contains ks c.min.result) (sym c.in_ok-insert.ensures.keys)
    (added_there c.args.doubts.now.keys c.min.result) in
    record { other = c.twin.result; pair = c.twin.ensures; among = subst (Contains c.insert.new.self.keys) c.min.ensures there }
