-- What the code is given of copies: their lists, and the buckets of these.
use Rattle.std.proofs.Common.{◌≡◌, ℕ, ◌+◌, ◌<◌, ◌==◌, ℤ, List, [], ◌++◌, length, get_or, map, sym, ap, subst, ◌∙◌, arith}
use Rattle.std.specs.List.{All, flat_map}
use Rattle.std.proofs.lemmas.List.{length-map}
use Rattle.std.proofs.lemmas.List.Elements.{All-filter, All-map}
use Rattle.chain_terms.specs.Sums.{upto}
use Rattle.places_by_key.specs.Buckets.{places_of}
use Rattle.mb_base.specs.declared.op.Op.{Op}
use Rattle.outlines.proofs.Written.{values_long}
use Rattle.face_loops.specs.Standings.{AreEven}
use Rattle.outline_terms.proofs.Once.{edge_ends}
use Rattle.outline_pair_terms.proofs.Even.{are_even}
use Rattle.outline_pair_terms.proofs.Exchange.{all_upto}
use Rattle.outline_pair_terms.specs.Lists.{flat_copies, flat_lists, flat_segments, flat_standing}
use Rattle.outline_pair_terms.specs.Numbers.{FlatNumbers}
use Rattle.outline_terms.specs.Outlines.{IsOutline, Outline, outline_edges}
use Rattle.cross_section.specs.Copies.{AreCopies, AreNumbers, end_list, start_list}
use Rattle.cross_section.proofs.Copied.{known_copies}
use Rattle.cross_section.proofs.Segmented.{all_ends, all_segments, all_starts, edges_segments, ends_below, p_even, q_even, starts_below}

-- the members of buckets are places
pub places_below : (keys : List ℕ) (n m : ℕ) → length keys ≡ m → All (λ l. All (λ v. v < m) l) (map (places_of keys) (upto n))
places_below keys n m long =
    All-map (λ l. All (λ v. v < m) l) (places_of keys) (upto n)
    (λ k d low. All-filter (λ i. get_or keys i 0 == get_or (upto n) k d) (λ v. v < m) (upto (length keys)) (all_upto (λ v. v < m) (length keys) (λ v l. omega (arith, l, long))))

-- as many buckets as lists
pub buckets_long : (keys : List ℕ) (n : ℕ) → length (map (places_of keys) (upto n)) ≡ n
buckets_long keys n = values_long (places_of keys) n

-- every list has as many starts as ends
pub lists_even : (op : Op) (p q : Outline) → IsOutline p → IsOutline q → (n : FlatNumbers) → AreNumbers p q n →
    AreEven (flat_standing (outline_edges p) (outline_edges q) (flat_copies op p q n)) (length (flat_copies op p q n)) (flat_lists (outline_edges p) (outline_edges q))
lists_even op p q p_is q_is n are = are_even op p q n are.conserved (edge_ends p p_is) (edge_ends q q_is)

module _ (op : Op) (p q : Outline) (p_is : IsOutline p) (q_is : IsOutline q) (n : FlatNumbers) (are : AreNumbers p q n)
    (points : List (List ℤ)) (starts ends : List ℕ) (given : AreCopies (outline_edges p) (outline_edges q) (flat_copies op p q n) points starts ends) where
  -- their lists are there
  pub given_starts : All (λ l. l < length (outline_edges p) + length (outline_edges q)) starts
  given_starts = subst (All (λ l. l < length (outline_edges p) + length (outline_edges q)))
      (sym given.starts) (starts_below p q p_is q_is (flat_copies op p q n) (known_copies op p q n are))

  pub given_ends : All (λ l. l < length (outline_edges p) + length (outline_edges q)) ends
  given_ends = subst (All (λ l. l < length (outline_edges p) + length (outline_edges q)))
      (sym given.ends) (ends_below p q p_is q_is (flat_copies op p q n) (known_copies op p q n are))

  -- as many as points
  pub starts_long : length starts ≡ length points
  starts_long = ap length given.starts ∙ length-map (flat_copies op p q n) (start_list (outline_edges p) (outline_edges q))
      ∙ sym (ap length given.points ∙ length-map (flat_copies op p q n) (λ c. c.point))

  pub ends_long : length ends ≡ length points
  ends_long = ap length given.ends ∙ length-map (flat_copies op p q n) (end_list (outline_edges p) (outline_edges q))
      ∙ sym (ap length given.points ∙ length-map (flat_copies op p q n) (λ c. c.point))

-- the buckets of the code are those of all lists
module _ (op : Op) (p q : Outline) (p_is : IsOutline p) (q_is : IsOutline q) (n : FlatNumbers) (are : AreNumbers p q n)
    (points : List (List ℤ)) (starts ends : List ℕ) (given : AreCopies (outline_edges p) (outline_edges q) (flat_copies op p q n) points starts ends)
    (p_edges q_edges : List (ℕ × ℕ)) (p_same : p_edges ≡ outline_edges p) (q_same : q_edges ≡ outline_edges q) (heads tails : List (List ℕ))
    (heads_are : heads ≡ map (places_of starts) (upto (length p_edges + length q_edges))) (tails_are : tails ≡ map (places_of ends) (upto (length p_edges + length q_edges))) where
  pub given_heads : heads ≡ all_starts p q p_is q_is (flat_copies op p q n) (known_copies op p q n are)
  given_heads = heads_are ∙ (λ i. map (places_of (given.starts i)) (upto (length (p_same i) + length (q_same i))))

  pub given_tails : tails ≡ all_ends p q p_is q_is (flat_copies op p q n) (known_copies op p q n are)
  given_tails = tails_are ∙ (λ i. map (places_of (given.ends i)) (upto (length (p_same i) + length (q_same i))))

  -- each has as many starts as ends
  pub p_balanced : (k : ℕ) → k < length p_edges → length (get_or heads (0 + k) []) ≡ length (get_or tails (0 + k) [])
  p_balanced k low =
      ap (λ (l : List (List ℕ)). length (get_or l (0 + k) [])) given_heads
      ∙ p_even p q p_is q_is (flat_copies op p q n) (known_copies op p q n are) (lists_even op p q p_is q_is n are) k (subst (λ (l : List (ℕ × ℕ)). k < length l) p_same low)
      ∙ sym (ap (λ (l : List (List ℕ)). length (get_or l (0 + k) [])) given_tails)

  pub q_balanced : (k : ℕ) → k < length q_edges → length (get_or heads (length p_edges + k) []) ≡ length (get_or tails (length p_edges + k) [])
  q_balanced k low =
      (λ i. length (get_or (given_heads i) (length (p_same i) + k) []))
      ∙ q_even p q p_is q_is (flat_copies op p q n) (known_copies op p q n are) (lists_even op p q p_is q_is n are) k (subst (λ (l : List (ℕ × ℕ)). k < length l) q_same low)
      ∙ sym (λ i. length (get_or (given_tails i) (length (p_same i) + k) []))

  -- and all segments are those of the lists
  pub given_segments : flat_map (edges_segments p.points p_edges points heads tails 0)
      (upto (length p_edges)) ++ flat_map (edges_segments q.points q_edges points heads tails (length p_edges)) (upto (length q_edges))
      ≡ flat_segments p q (flat_copies op p q n)
  given_segments =
      (λ i. flat_map (edges_segments p.points (p_same i) (given.points i) (given_heads i) (given_tails i) 0) (upto (length (p_same i)))
      ++ flat_map (edges_segments q.points (q_same i) (given.points i) (given_heads i) (given_tails i) (length (p_same i))) (upto (length (q_same i))))
      ∙ all_segments p q p_is q_is (flat_copies op p q n) (known_copies op p q n are)
