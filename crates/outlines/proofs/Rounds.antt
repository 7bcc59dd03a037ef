-- Rounds taken from a place on, and outlines of one loop.
use Rattle.std.proofs.Common.{◌≡◌, ℕ, ◌≤◌, ℤ, pos, List, [], ◌∷◌, ◌++◌, length, map, refl, sym, subst, arith, append-nil}
use Rattle.std.specs.List.{All, concat}
use Rattle.std.specs.List.Sorted.{IsPermutation}
use Rattle.std.proofs.lemmas.List.{length-map}
use Rattle.std.proofs.lemmas.List.Elements.{All-cons, All-map, All-nil}
use Rattle.std.proofs.lemmas.List.Sorted.{IsPermutation-refl}
use Rattle.chain_terms.specs.Paths.{last_of, path}
use Rattle.chain_terms.specs.Sums.{upto}
use Rattle.chain_laws.proofs.Places.{length-up_from}
use Rattle.mesh_terms.specs.Points.{coordinate_of}
use Rattle.outline_terms.specs.Outlines.{IsOutline, flat_at_zero, ring_of}

-- the edges from x along the vertices that follow, and back to the first
abbrev pub round_from : ℕ → ℕ → List ℕ → List (ℕ × ℕ)
round_from first x r = path x r ++ (last_of x r, first) ∷ []

-- numbers that are also those of a list of one list
one_loop : (n m : ℕ) → m ≡ n → IsPermutation (upto m) (upto n ++ [])
one_loop n m e = rw e (subst (IsPermutation (upto n)) (sym (append-nil (upto n))) (IsPermutation-refl (upto n)))

-- one loop through three points or more is an outline
pub ring_outline : (ps : List (List ℤ)) → 3 ≤ length ps → length ps ≤ 64 → IsOutline (ring_of ps)
ring_outline ps some few = record {
  each = one_loop (length ps) (length (map flat_at_zero ps)) (length-map ps flat_at_zero);
  long = All-cons (λ loop. 3 ≤ length loop) (upto (length ps)) [] (omega (arith, some, length-up_from 0 (length ps))) (All-nil (λ loop. 3 ≤ length loop));
  flat = All-map (λ p. coordinate_of p 2 ≡ pos 0) flat_at_zero ps (λ k d low. refl);
  few = omega (arith, few, length-map ps flat_at_zero);
}
