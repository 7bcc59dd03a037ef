-- How the copies of prescribed vertices stand in the lists of two sides.
use Rattle.std.specs.Prelude.{◌≡◌, ℕ, ◌+◌, ◌<◌, ◌⊎◌, pos, List, length, get_or, int_lt, count_by}
use Rattle.std.specs.List.{All, sum_by}
use Rattle.chain_terms.specs.Chains.{all_edges}
use Rattle.chain_terms.specs.Sums.{upto}
use Rattle.side_terms.specs.Conservation.{half_number, EdgeIdentity, PairIdentity}
use Rattle.side_terms.specs.Sides.{Side}
use Rattle.side_terms.specs.Lists.{Copy, ListName, IsListOf, ends, lists_of_p, lists_of_q, standing, starts}
use Rattle.side_terms.specs.Prescribed.{Numbers}

-- of how many of the lists the copy is a start, and of how many an end
abbrev pub start_count : Side → Side → List ListName → Copy → ℕ
start_count p q names c = count_by (λ name. int_lt (pos 0) (standing (all_edges p.triples) (all_edges q.triples) name c)) names

abbrev pub end_count : Side → Side → List ListName → Copy → ℕ
end_count p q names c = count_by (λ name. int_lt (standing (all_edges p.triples) (all_edges q.triples) name c) (pos 0)) names

-- the copy stands in none of the lists
pub record StandsInNone (p q : Side) (names : List ListName) (c : Copy) : Type 0 where
  pub no_start : start_count p q names c ≡ 0
  pub no_end : end_count p q names c ≡ 0

-- it is a start of exactly one of the lists, and an end of exactly one, which is another
pub record StandsInTwo (p q : Side) (names : List ListName) (c : Copy) : Type 0 where
  pub one_start : start_count p q names c ≡ 1
  pub one_end : end_count p q names c ≡ 1

-- it stands in none or two of them
abbrev pub StandsInNoneOrTwo : Side → Side → List ListName → Copy → Type 0
StandsInNoneOrTwo p q names c = StandsInNone p q names c ⊎ StandsInTwo p q names c

-- it stands in two lists of some source face
abbrev pub StandsSomewhere : Side → Side → Copy → Type 0
StandsSomewhere p q c =
    ((f : ℕ) × (f < length p.triples) × StandsInTwo p q (lists_of_p (length q.triples) f) c)
    ⊎ ((g : ℕ) × (g < length q.triples) × StandsInTwo p q (lists_of_q (length p.triples) g) c)

-- each copy stands in none or two of the lists of each source face, and in two of some face
pub record StandInLists (p q : Side) (cs : List Copy) : Type 0 where
  pub p_faces : (f : ℕ) → f < length p.triples → All (StandsInNoneOrTwo p q (lists_of_p (length q.triples) f)) cs
  pub q_faces : (g : ℕ) → g < length q.triples → All (StandsInNoneOrTwo p q (lists_of_q (length p.triples) g)) cs
  pub somewhere : All (StandsSomewhere p q) cs

-- the starts of some lists, counted
abbrev pub count_starts : Side → Side → List Copy → List ListName → ℕ
count_starts p q cs names = sum_by (λ name. length (starts (all_edges p.triples) (all_edges q.triples) cs name)) names

-- those of all lists of all source faces
abbrev pub count_all_starts : Side → Side → List Copy → ℕ
count_all_starts p q cs =
    sum_by (λ f. count_starts p q cs (lists_of_p (length q.triples) f)) (upto (length p.triples)) + sum_by
    (λ g. count_starts p q cs (lists_of_q (length p.triples) g)) (upto (length q.triples))

-- each list has as many starts as ends
pub record IsBalanced (p q : Side) (cs : List Copy) : Type 0 where
  pub even : (name : ListName) → IsListOf (length p.triples) (length q.triples) name →
      length (starts (all_edges p.triples) (all_edges q.triples) cs name) ≡ length (ends (all_edges p.triples) (all_edges q.triples) cs name)

-- winding numbers change along the half-edges by the numbers of the hits, and these agree for each pair of faces
pub record AreConserved (p q : Side) (n : Numbers) : Type 0 where
  pub p_edges : EdgeIdentity (all_edges p.triples) (length q.triples) (λ v. get_or n.w03 v (pos 0)) (half_number (all_edges p.triples) n.x12)
  pub q_edges : EdgeIdentity (all_edges q.triples) (length p.triples) (λ v. get_or n.w30 v (pos 0)) (half_number (all_edges q.triples) n.x21)
  pub pairs : PairIdentity (length p.triples) (length q.triples) (half_number (all_edges p.triples) n.x12) (half_number (all_edges q.triples) n.x21)
