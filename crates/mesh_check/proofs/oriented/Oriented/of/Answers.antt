use Rattle.std.proofs.Common.{◌≡◌, ◌<◌, ◌&&◌, ◌∙◌, ℕ, Bool, nat_lt, if◌then◌else◌, ap, sym}
use Rattle.std.proofs.lemmas.Bool.{lt-ltb}
use Rattle.mesh_terms.specs.Meshes.{triple_of}
use Rattle.mesh_check.specs.Orientations.{least_first}
use Rattle.mesh_check.proofs.oriented.Oriented.of.Goals as goal

-- the second of three numbers is the least
second_least : (a b c : ℕ) → b < a → b < c → (b, c, a) ≡ least_first (a, b, c)
second_least a b c h k =
    sym (ap (λ (x : Bool). if x then (b, c, a) else if nat_lt c a && nat_lt c b then (c, a, b) else (a, b, c))
    (ap (λ (x : Bool). x && nat_lt b c) (lt-ltb b a h) ∙ lt-ltb b c k))

pub returns-then-b-c-clause-vertices : goal.returns-then-b-c-clause-vertices
returns-then-b-c-clause-vertices c = let t = triple_of c.args.triple.now in second_least t.0 t.1 t.2 c.if-b-a.true c.if-b-c.true
