-- Triangles that are turned over.
use Rattle.std.proofs.Common.{◌≡◌, ℕ, Bool, true, false, List, [], ◌∷◌, map, refl, sym, ◌∙◌, ap, arith}
use Rattle.std.specs.Prelude.{◌||◌, ◌==◌}
use Rattle.std.proofs.lemmas.List.{length-map}
use Rattle.std.proofs.lemmas.List.Elements.{All-map}
use Rattle.chain_laws.specs.Triples.{closed-opposite_triples}
use Rattle.made_terms.specs.Motions.{turned_over}
use Rattle.mesh_terms.specs.Meshes.{Triple, HasThree, IsBelow, IsAccepted, has, is_used}

-- the last two of three tests in the other order
last_exchanged : (a b c : Bool) → ((a || c) || b) ≡ ((a || b) || c)
last_exchanged true b c = refl
last_exchanged false true true = refl
last_exchanged false true false = refl
last_exchanged false false true = refl
last_exchanged false false false = refl

-- the same points are used
used_turned : (ts : List Triple) (v : ℕ) → is_used (map turned_over ts) v ≡ is_used ts v
used_turned [] v = refl
used_turned (t ∷ ts) v = ap (λ b. b || is_used (map turned_over ts) v) (last_exchanged (t.0 == v) (t.1 == v) (t.2 == v)) ∙ ap (λ b. has t v || b) (used_turned ts v)

-- an accepted mesh is accepted with its triangles turned over
pub turned_accepted : (n : ℕ) (ts : List Triple) → IsAccepted n ts → IsAccepted n (map turned_over ts)
turned_accepted n ts m = record {
  mesh = record {
    three = All-map HasThree turned_over ts (λ k d low. let t = m.mesh.three k d low in record { ab = λ e. t.ca (sym e); bc = λ e. t.bc (sym e); ca = λ e. t.ab (sym e) });
    below = All-map (IsBelow n) turned_over ts (λ k d low. let t = m.mesh.below k d low in record { a = t.a; b = t.c; c = t.b });
    used = λ v low. used_turned ts v ∙ m.mesh.used v low;
    few_points = m.mesh.few_points;
    few_triples = omega (arith, m.mesh.few_triples, length-map ts turned_over);
  };
  closed = closed-opposite_triples ts m.closed;
}
