-- Paths and rounds: joined, turned, and the differences along them.
use Rattle.std.specs.Prelude.{◌≡◌, ℕ, ℤ, ◌+ℤ◌, List, [], ◌∷◌, ◌++◌, length}
use Rattle.std.specs.List.Sorted.{IsPermutation}
use Rattle.std.proofs.Common.{arith, refl, sym, ap, subst, ◌∙◌}
use Rattle.std.proofs.lemmas.Int.{ints}
use Rattle.std.proofs.lemmas.List.{length-append}
use Rattle.std.proofs.lemmas.List.Sorted.{IsPermutation-refl, IsPermutation-to_front}
use Rattle.chain_terms.specs.Sums.{total}
use Rattle.chain_laws.specs.Sums.{total-append}
use Rattle.chain_terms.specs.Paths.{path, last_of, round_edges}

-- a longer list of vertices ends where its second part ends
pub last_of-append : (x : ℕ) (s : List ℕ) (y : ℕ) (t : List ℕ) → last_of x (s ++ y ∷ t) ≡ last_of y t
last_of-append x [] y t = refl
last_of-append x (z ∷ s) y t = last_of-append z s y t

-- the path along two lists of vertices
pub path-append : (x : ℕ) (s : List ℕ) (y : ℕ) (t : List ℕ) → path x (s ++ y ∷ t) ≡ path x s ++ (last_of x s, y) ∷ path y t
path-append x [] y t = refl
path-append x (z ∷ s) y t = ap (λ es. (x, z) ∷ es) (path-append z s y t)

-- a sum once round is the sum along the path and the last step
pub total-round_edges : (g : (ℕ × ℕ) → ℤ) (x : ℕ) (r : List ℕ) → total g (round_edges (x ∷ r)) ≡ total g (path x r) +ℤ g (last_of x r, x)
total-round_edges g x r = omega (arith, ints, total-append g (path x r) ((last_of x r, x) ∷ []))

-- a round that begins one vertex later has the same edges, the first at the end
pub round_edges-later : (x y : ℕ) (s : List ℕ) → round_edges (y ∷ (s ++ x ∷ [])) ≡ (path y s ++ (last_of y s, x) ∷ []) ++ (x, y) ∷ []
round_edges-later x y s =
    ap (λ es. es ++ (last_of y (s ++ x ∷ []), y) ∷ []) (path-append y s x []) ∙ ap (λ v. (path y s ++ (last_of y s, x) ∷ []) ++ (v, y) ∷ []) (last_of-append y s x [])

-- a round may begin at any vertex
pub round_edges-turned : (x : ℕ) (r : List ℕ) → IsPermutation (round_edges (r ++ x ∷ [])) (round_edges (x ∷ r))
round_edges-turned x [] = IsPermutation-refl (round_edges (x ∷ []))
round_edges-turned x (y ∷ s) =
    subst (λ es. IsPermutation es (round_edges (x ∷ y ∷ s))) (sym (round_edges-later x y s)) (IsPermutation-to_front (path y s ++ (last_of y s, x) ∷ []) (x, y))

-- a path has an edge for each vertex after the first
pub length-path : (x : ℕ) (r : List ℕ) → length (path x r) ≡ length r
length-path x [] = refl
length-path x (y ∷ r) = omega (arith, length-path y r)

-- a round has an edge for each vertex
pub length-round_edges : (r : List ℕ) → length (round_edges r) ≡ length r
length-round_edges [] = refl
length-round_edges (x ∷ r) = omega (arith, length-append (path x r) ((last_of x r, x) ∷ []), length-path x r)
