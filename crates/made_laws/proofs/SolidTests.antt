-- Solids that are given as lists, by tests that compute.
use Rattle.std.proofs.Common.{◌≡◌, ◌≢◌, ◌<◌, ◌≤◌, ℕ, Bool, true, not, List, length, refl, sym, ◌∙◌, ap, subst, inl, inr, arith}
use Rattle.std.specs.Prelude.{◌&&◌, ◌==◌, nat_lt}
use Rattle.std.specs.List.{All, Contains, list_all}
use Rattle.std.proofs.lemmas.Bool.{and_parts, eqb-true, eq-eqb, cases_lt}
use Rattle.std.proofs.lemmas.Bool.Decides.{nat_tests}
use Rattle.std.proofs.lemmas.List.Sums.{AllPass-from_list_all}
use Rattle.chain_terms.specs.Chains.{dir, all_edges, IsClosed}
use Rattle.chain_terms.specs.Sums.{upto}
use Rattle.chain_laws.specs.Chains.{dir_contains}
use Rattle.chain_laws.proofs.Places.{get_or-up_from, length-up_from}
use Rattle.made_terms.specs.Solids.{box_triples, tetra_triples, prism_triples}
use Rattle.mesh_terms.specs.Limits.{most_points, most_triangles}
use Rattle.mesh_terms.specs.Meshes.{Triple, HasThree, IsBelow, IsAccepted, is_used}
use Rattle.made_laws.specs.Solids.{IsSolid}

-- where all members of a list pass, each does
passes_inside : {X : Type 0} (p : X → Bool) (xs : List X) (x : X) → list_all p xs ≡ true → Contains xs x → p x ≡ true
passes_inside p xs x h (k, low, at) = subst (λ z. p z ≡ true) at (AllPass-from_list_all p xs h k x low)

-- so what passing means holds of each
all_by_test : {X : Type 0} (p : X → Bool) (P : X → Type 0) → ((x : X) → p x ≡ true → P x) → (xs : List X) → list_all p xs ≡ true → All P xs
all_by_test p P means xs h k d low = means _ (AllPass-from_list_all p xs h k d low)

-- numbers that a test tells apart differ
differ : (a b : ℕ) → not (a == b) ≡ true → a ≢ b
differ a b h e = let k : not true ≡ true = sym (ap not (eq-eqb a b e)) ∙ h in cc

abbrev three_test : Triple → Bool
three_test t = not (t.0 == t.1) && (not (t.1 == t.2) && not (t.2 == t.0))

three_means : (t : Triple) → three_test t ≡ true → HasThree t
three_means t h =
    let first = and_parts (not (t.0 == t.1)) (not (t.1 == t.2) && not (t.2 == t.0)) h in
    let rest = and_parts (not (t.1 == t.2)) (not (t.2 == t.0)) first.1 in
    record { ab = differ t.0 t.1 first.0; bc = differ t.1 t.2 rest.0; ca = differ t.2 t.0 rest.1 }

abbrev below_test : ℕ → Triple → Bool
below_test n t = nat_lt t.0 n && (nat_lt t.1 n && nat_lt t.2 n)

lower : (a n : ℕ) → nat_lt a n ≡ true → a < n
lower a n h = grind (arith, nat_tests, h)

below_means : (n : ℕ) (t : Triple) → below_test n t ≡ true → IsBelow n t
below_means n t h =
    let first = and_parts (nat_lt t.0 n) (nat_lt t.1 n && nat_lt t.2 n) h in
    let rest = and_parts (nat_lt t.1 n) (nat_lt t.2 n) first.1 in
    record { a = lower t.0 n first.0; b = lower t.1 n rest.0; c = lower t.2 n rest.1 }

-- each edge of the chain runs as often as its reverse
abbrev even_test : List (ℕ × ℕ) → (ℕ × ℕ) → Bool
even_test es e = dir es e.0 e.1 == dir es e.1 e.0

-- then so does each other
closed_by_test : (es : List (ℕ × ℕ)) → list_all (even_test es) es ≡ true → IsClosed es
closed_by_test es h a b = elim (cases_lt 0 (dir es a b)) as (λ _. dir es a b ≡ dir es b a) [
  | inl some ↦ eqb-true (dir es a b) (dir es b a) (passes_inside (even_test es) es (a, b) h (dir_contains es a b some))
  | inr none ↦ elim (cases_lt 0 (dir es b a)) as (λ _. dir es a b ≡ dir es b a) [
    | inl some ↦ sym (eqb-true (dir es b a) (dir es a b) (passes_inside (even_test es) es (b, a) h (dir_contains es b a some)))
    | inr nor ↦ omega (arith, none, nor)
  ]
]

-- a number below n is one of those below n
inside_upto : (n v : ℕ) → v < n → Contains (upto n) v
inside_upto n v low = (v, omega (arith, low, length-up_from 0 n), let e = get_or-up_from 0 n v v low in omega (arith, e))

abbrev solid_test : ℕ → List Triple → Bool
solid_test n ts = list_all three_test ts && (list_all (below_test n) ts && (list_all (is_used ts) (upto n) && list_all (even_test (all_edges ts)) (all_edges ts)))

-- a list that passes the test is a solid
solid_by_test : (n : ℕ) (ts : List Triple) → solid_test n ts ≡ true → IsSolid n ts
solid_by_test n ts h =
    let even = list_all (even_test (all_edges ts)) (all_edges ts) in
    let first = and_parts (list_all three_test ts) (list_all (below_test n) ts && (list_all (is_used ts) (upto n) && even)) h in
    let second = and_parts (list_all (below_test n) ts) (list_all (is_used ts) (upto n) && even) first.1 in
    let third = and_parts (list_all (is_used ts) (upto n)) even second.1 in
    record {
      three = all_by_test three_test HasThree three_means ts first.0;
      below = all_by_test (below_test n) (IsBelow n) (below_means n) ts second.0;
      used = λ v low. passes_inside (is_used ts) (upto n) v third.0 (inside_upto n v low);
      closed = closed_by_test (all_edges ts) third.1;
    }

pub box_solid : IsSolid 8 box_triples
box_solid = solid_by_test 8 box_triples refl

pub tetra_solid : IsSolid 4 tetra_triples
tetra_solid = solid_by_test 4 tetra_triples refl

pub prism_solid : IsSolid 6 prism_triples
prism_solid = solid_by_test 6 prism_triples refl

-- a solid with few points and triangles is accepted
pub solid_accepted : (n : ℕ) (ts : List Triple) → IsSolid n ts → n ≤ most_points → length ts ≤ most_triangles → IsAccepted n ts
solid_accepted n ts s few_points few_triples = record {
  mesh = record { three = s.three; below = s.below; used = s.used; few_points = few_points; few_triples = few_triples };
  closed = s.closed;
}
