use Rattle.std.proofs.Common.{◌≡◌, ℕ, List, Global, Vec, subst}
use Rattle.std.specs.Prelude.{IfOk}
use Rattle.std.specs.List.{All}
use Rattle.mesh_terms.specs.Meshes.{IsBelow, triples_of}
use Rattle.sheet_terms.specs.Vertices.{settled}
use Rattle.angle_pairing.proofs.Whole.{angle_paired}
use Rattle.angle_pairing.proofs.parting.settled_twins.Goals as goal

pub settle-requires-clause-twins : goal.settle-requires-clause-twins
settle-requires-clause-twins c = angle_paired c.args.points.now (triples_of c.args.triples.now) c.requires c.in_ok-first.first.items c.in_ok-first.ensures

pub returns : goal.returns
returns c =
    let ts = triples_of c.args.triples.now in
    subst (λ (given : List ℕ). IfOk c.settle.result (λ (t : Vec ℕ Global). (n : ℕ) → All (IsBelow n) ts → t.items ≡ settled n ts given)) c.in_ok-first.ensures
    c.settle.ensures
