-- The lists by number, P's edges first, then Q's, and in which of them each copy stands.
use Rattle.std.specs.Prelude.{◌≡◌, ℕ, ◌<◌, ◌≤◌, ◌+◌, ◌*◌, ◌==◌, ◌++◌, ℤ, pos, ◌+ℤ◌, ◌*ℤ◌, List, cond, int_lt, length, map, nat_abs, replicate}
use Rattle.std.specs.List.{All, flat_map, position_or_len}
use Rattle.mb_base.specs.declared.op.Op.{Op}
use Rattle.outline_pair_terms.specs.Balance.{AreConserved}
use Rattle.outline_pair_terms.specs.Lists.{FlatCopy, FlatOrigin, OfBoth, OfP, OfQ, constant}
use Rattle.outline_pair_terms.specs.Numbers.{FlatNumbers}
use Rattle.outline_terms.specs.Outlines.{Outline, most_vertices, outline_edges}
use Rattle.cross_section.specs.declared.copies.FlatCopies.{FlatCopies}
use Rattle.cross_section.specs.declared.operand.Operand.{Operand}
use Rattle.cross_section.specs.declared.operand.Operand.TheVariants.{P, Q}

-- how often a vertex with a winding number is prescribed, and a crossing with a number
abbrev pub vertex_number : Op → Operand → ℤ → ℤ
vertex_number op P w = constant op 0 +ℤ constant op 2 *ℤ w
vertex_number op Q w = constant op 1 +ℤ constant op 2 *ℤ w

abbrev pub hit_number : Op → ℤ → ℤ
hit_number op n = constant op 2 *ℤ n

-- the place of the first edge that starts at a vertex, and of the first that ends there
abbrev pub leaving : List (ℕ × ℕ) → ℕ → ℕ
leaving es v = position_or_len (λ e. e.0 == v) es

abbrev pub entering : List (ℕ × ℕ) → ℕ → ℕ
entering es v = position_or_len (λ e. e.1 == v) es

-- the list in which what a copy is a copy of is a start, and that in which it is an end
abbrev pub list_from : (p q : List (ℕ × ℕ)) → FlatOrigin → ℕ
list_from p q (OfP v) = leaving p v
list_from p q (OfQ v) = length p + leaving q v
list_from p q (OfBoth i j) = i

abbrev pub list_to : (p q : List (ℕ × ℕ)) → FlatOrigin → ℕ
list_to p q (OfP v) = entering p v
list_to p q (OfQ v) = length p + entering q v
list_to p q (OfBoth i j) = length p + j

-- the list in which a copy is a start, and that in which it is an end: a negative one the other way round
abbrev pub start_list : (p q : List (ℕ × ℕ)) → FlatCopy → ℕ
start_list p q c = cond c.negative (list_to p q c.origin) (list_from p q c.origin)

abbrev pub end_list : (p q : List (ℕ × ℕ)) → FlatCopy → ℕ
end_list p q c = cond c.negative (list_from p q c.origin) (list_to p q c.origin)

-- each of some things as often as the size of its number
abbrev pub repeated : {X Y : Type 0} → (X → ℤ) → (X → Y) → List X → List Y
repeated number what xs = flat_map (λ x. replicate (nat_abs (number x)) (what x)) xs

-- the second where a number is below 0, else the first
abbrev pub by_sign : ℤ → ℕ → ℕ → ℕ
by_sign number from to = cond (int_lt number (pos 0)) to from

-- a small winding number for each of n vertices, and for each the places of the edges that start and end at it
pub record FitVertices (n : ℕ) (ws : List ℤ) (leaving entering : List ℕ) : Type 0 where
  pub windings : length ws ≡ n
  pub small : All (λ w. nat_abs w ≤ most_vertices) ws
  pub starts : length leaving ≡ n
  pub ends : length entering ≡ n
  pub starts_below : All (λ k. k ≤ most_vertices) leaving
  pub ends_below : All (λ k. k ≤ most_vertices) entering

-- copies of some things, each as often as the size of its number, were added with their points and lists
pub record AreAdded {X : Type 0} (old new : FlatCopies) (number : X → ℤ) (at : X → List ℤ) (from to : X → ℕ) (xs : List X) : Type 0 where
  pub points : new.points.items ≡ old.points.items ++ repeated number at xs
  pub starts : new.starts.items ≡ old.starts.items ++ repeated number (λ x. by_sign (number x) (from x) (to x)) xs
  pub ends : new.ends.items ≡ old.ends.items ++ repeated number (λ x. by_sign (number x) (to x) (from x)) xs

-- the points of copies, and their lists
pub record AreCopies (p q : List (ℕ × ℕ)) (cs : List FlatCopy) (at : List (List ℤ)) (from to : List ℕ) : Type 0 where
  pub points : at ≡ map (λ c. c.point) cs
  pub starts : from ≡ map (start_list p q) cs
  pub ends : to ≡ map (end_list p q) cs

-- numbers of two outlines: one for each vertex, of which none is greater in size than an outline has edges, and
-- hits of two edges
pub record AreNumbers (p q : Outline) (n : FlatNumbers) : Type 0 where
  pub conserved : AreConserved (outline_edges p) (outline_edges q) n
  pub w02_long : length n.w02 ≡ length p.points
  pub w20_long : length n.w20 ≡ length q.points
  pub w02_small : All (λ w. nat_abs w ≤ most_vertices) n.w02
  pub w20_small : All (λ w. nat_abs w ≤ most_vertices) n.w20
  pub on_p : All (λ h. h.p_edge < length (outline_edges p)) n.hits
  pub on_q : All (λ h. h.q_edge < length (outline_edges q)) n.hits
  pub small : All (λ h. nat_abs h.number ≤ 1) n.hits
  pub few : length n.hits ≤ most_vertices * most_vertices
