-- The lists of a source face, and how the copies of prescribed vertices stand in them.
use Rattle.std.specs.Prelude.{ℕ, ◌+◌, ◌*◌, ◌<◌, ℤ, pos, neg_ℤ, ◌-ℤ◌, List, [], ◌++◌, Bool, false, cond, map, filter, ◌==◌, length, get_or, int_lt}
use Rattle.chain_terms.specs.Ranks.{start, finish, twin}
use Rattle.chain_terms.specs.Sums.{total, upto}
use Rattle.mb_base.specs.declared.results.Origin.{Origin}
use Rattle.mb_base.specs.declared.results.Origin.TheVariants.{PVertex, QVertex, PEdge, QEdge}

-- of a half-edge of P or Q, and of a face of each, seen from the one of P or from the one of Q
pub data ListName : Type 0 where
  HalfP : (half : ℕ) → ListName
  HalfQ : (half : ℕ) → ListName
  PairP : (f g : ℕ) → ListName
  PairQ : (g f : ℕ) → ListName

-- 1 where the two are the same
abbrev pub at_same : ℕ → ℕ → ℤ
at_same a b = cond (a == b) (pos 1) (pos 0)

-- 1 where the half-edge starts at the vertex, -1 where it ends there
abbrev pub at_end : List (ℕ × ℕ) → ℕ → ℕ → ℤ
at_end es h v = at_same (start es h) v -ℤ at_same (finish es h) v

-- 1 where the half-edge is the lower one of edge e, which names the edge, and -1 where it is that one's twin
abbrev pub way : List (ℕ × ℕ) → ℕ → ℕ → ℤ
way es h e = at_same h e -ℤ at_same h (twin es e)

-- that of the three half-edges of a face, added up
abbrev pub way_round : List (ℕ × ℕ) → ℕ → ℕ → ℤ
way_round es f e = total (λ i. way es (3 * f + i) e) (upto 3)

-- how what a copy comes from stands in the list of half-edge a→b of P: a vertex at a as a start and at b as an end, a
-- crossing of the edge, taken along the half-edge, as an end
abbrev pub in_half_p : List (ℕ × ℕ) → ℕ → Origin → ℤ
in_half_p p h (PVertex v) = at_end p h v
in_half_p p h (QVertex v) = pos 0
in_half_p p h (PEdge e face) = neg_ℤ (way p h e)
in_half_p p h (QEdge e face) = pos 0

-- the same for a half-edge of Q
abbrev pub in_half_q : List (ℕ × ℕ) → ℕ → Origin → ℤ
in_half_q q h (PVertex v) = pos 0
in_half_q q h (QVertex v) = at_end q h v
in_half_q q h (PEdge e face) = pos 0
in_half_q q h (QEdge e face) = neg_ℤ (way q h e)

-- in the list of a face pair, seen from the face of P: a crossing of an edge of P round f with g, taken along f, as a
-- start, and one of an edge of Q round g with f, taken along g, as an end
abbrev pub in_pair : (p q : List (ℕ × ℕ)) → ℕ → ℕ → Origin → ℤ
in_pair p q f g (PVertex v) = pos 0
in_pair p q f g (QVertex v) = pos 0
in_pair p q f g (PEdge e face) = cond (face == g) (way_round p f e) (pos 0)
in_pair p q f g (QEdge e face) = cond (face == f) (neg_ℤ (way_round q g e)) (pos 0)

-- in any list, where the number is above 0: from the face of Q a pair is seen the other way
abbrev pub incidence : (p q : List (ℕ × ℕ)) → ListName → Origin → ℤ
incidence p q (HalfP h) x = in_half_p p h x
incidence p q (HalfQ h) x = in_half_q q h x
incidence p q (PairP f g) x = in_pair p q f g x
incidence p q (PairQ g f) x = neg_ℤ (in_pair p q f g x)

-- a prescribed vertex: what it is a copy of, whether that is prescribed a negative number of times, and the point
pub record Copy : Type 0 where
  pub origin : Origin
  pub negative : Bool
  pub point : List ℤ

-- 1 where the copy is a start of the list, -1 where it is an end, 0 where it is not in it
abbrev pub standing : (p q : List (ℕ × ℕ)) → ListName → Copy → ℤ
standing p q name c = cond c.negative (neg_ℤ (incidence p q name c.origin)) (incidence p q name c.origin)

-- of a face of P: its three half-edges, then its pairs with all faces of Q
abbrev pub lists_of_p : ℕ → ℕ → List ListName
lists_of_p q_faces f = map (λ i. HalfP (3 * f + i)) (upto 3) ++ map (PairP f) (upto q_faces)

-- and of a face of Q
abbrev pub lists_of_q : ℕ → ℕ → List ListName
lists_of_q p_faces g = map (λ i. HalfQ (3 * g + i)) (upto 3) ++ map (PairQ g) (upto p_faces)

-- the list is one of sides with so many faces
abbrev pub IsListOf : (p_faces q_faces : ℕ) → ListName → Type 0
IsListOf m n (HalfP h) = h < 3 * m
IsListOf m n (HalfQ h) = h < 3 * n
IsListOf m n (PairP f g) = (f < m) × (g < n)
IsListOf m n (PairQ g f) = (g < n) × (f < m)

abbrev pub no_copy : Copy
no_copy = record { origin = PVertex 0; negative = false; point = [] }

-- the numbers of the copies that are starts of the list, and of those that are ends
abbrev pub starts : (p q : List (ℕ × ℕ)) → List Copy → ListName → List ℕ
starts p q cs name = filter (λ v. int_lt (pos 0) (standing p q name (get_or cs v no_copy))) (upto (length cs))

abbrev pub ends : (p q : List (ℕ × ℕ)) → List Copy → ListName → List ℕ
ends p q cs name = filter (λ v. int_lt (standing p q name (get_or cs v no_copy)) (pos 0)) (upto (length cs))
