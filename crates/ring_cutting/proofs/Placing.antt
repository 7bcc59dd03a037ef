-- The nodes of places in an order.
use Rattle.std.specs.Prelude.{◌≡◌, ◌≢◌, ℕ, ◌+◌, ◌-◌, ◌*◌, ◌<◌, ◌≤◌, List, Bool, true, false, length, get_or, set, replicate}
use Rattle.std.specs.List.{All, Contains}
use Rattle.std.specs.List.Sorted.{IsPermutation}
use Rattle.std.proofs.Common.{arith, sym, subst, ap, ◌∙◌, inl, inr}
use Rattle.std.proofs.lemmas.Bool.{cases_eq}
use Rattle.std.proofs.lemmas.List.{get_or-set_same, get_or-set_other, get_or_default, get_or-replicate, length-replicate}
use Rattle.std.proofs.lemmas.List.Elements.{Contains-get_or}
use Rattle.std.proofs.lemmas.List.Sorted.{All-permutation, Contains-permutation, length_permutation}
use Rattle.chain_laws.proofs.Places.{length-up_from, get_or-up_from}
use Rattle.chain_terms.specs.Sums.{upto}
use Rattle.ring_cutting.specs.declared.place.Place.{Place}
use Rattle.ring_cutting.specs.declared.span.Span.{Span}
use Rattle.ring_cutting.specs.Left.{place_of}
use Rattle.ring_cutting.specs.Spans.{IsIn, IsWithin, no_span, span_of, below, AreNested, node_of, HasNode}
use Rattle.ring_cutting.proofs.Trees.{nodes_apart}

-- the numbers below n in another order
pub order_long : (n : ℕ) (order : List ℕ) → IsPermutation (upto n) order → length order ≡ n
order_long n order moved = length_permutation (upto n) order moved ∙ length-up_from 0 n

pub order_low : (n : ℕ) (order : List ℕ) → IsPermutation (upto n) order → (k : ℕ) → k < n → get_or order k 0 < n
order_low n order moved k h =
    All-permutation (λ i. i < n) (upto n) order moved below k 0 (omega (arith, h, order_long n order moved))
  where
    below : All (λ i. i < n) (upto n)
    below i d l = omega (arith, get_or-up_from 0 n i d (omega (arith, l, length-up_from 0 n)), l, length-up_from 0 n)

-- where each of them stands
pub record Stands (order : List ℕ) (i : ℕ) : Type 0 where
  pub at : ℕ
  pub within : at < length order
  pub is : get_or order at 0 ≡ i

pub stands : (n : ℕ) (order : List ℕ) → IsPermutation (upto n) order → (i : ℕ) → i < n → Stands order i
stands n order moved i h =
    let first : Contains (upto n) i =
    subst (Contains (upto n)) (get_or-up_from 0 n i 0 h ∙ omega arith) (Contains-get_or (upto n) i 0 (omega (arith, h, length-up_from 0 n))) in
    let there = Contains-permutation (upto n) order i moved first in
    record { at = there.0; within = there.1; is = get_or_default order there.0 0 i there.1 ∙ there.2 }

-- one more place of the order has its node
pub node_on : (n : ℕ) (order nodes new : List ℕ) (k i : ℕ) → k < n → length order ≡ n → length nodes ≡ n → i ≡ get_or order k 0 → i < n →
    new ≡ set nodes i (n + k) →
    ((j : ℕ) → j < k → HasNode n order nodes (get_or order j 0)) → (j : ℕ) → j < k + 1 → HasNode n order new (get_or order j 0)
node_on n order nodes new k i within long many is low e before j h =
    elim (cases_eq (get_or order j 0) i) as (λ _. HasNode n order new (get_or order j 0)) [
      | inl same ↦
          let node : node_of new (get_or order j 0) ≡ n + k =
          ap (node_of new) same ∙ ap (λ (l : List ℕ). node_of l i) e ∙ get_or-set_same nodes i (n + k) 0 (omega (arith, low, many)) in
          let at : node_of new (get_or order j 0) - n ≡ k = omega (arith, node) in
          record {
            least = omega (arith, node);
            most = omega (arith, node, within);
            here = ap (λ (m : ℕ). get_or order m n) at ∙ get_or_default order k n 0 (omega (arith, within, long)) ∙ sym is ∙ sym same;
          }
      | inr apart ↦
          let old = before j (earlier apart) in
          let node : node_of new (get_or order j 0) ≡ node_of nodes (get_or order j 0) =
          ap (λ (l : List ℕ). node_of l (get_or order j 0)) e ∙ get_or-set_other nodes i (get_or order j 0) (n + k) 0 apart in
          record {
            least = omega (arith, node, old.least);
            most = omega (arith, node, old.most);
            here = ap (λ (m : ℕ). get_or order (m - n) n) node ∙ old.here;
          }
    ]
  where
    earlier : get_or order j 0 ≢ i → j < k
    earlier apart = elim (cases_eq j k) as (λ _. j < k) [
      | inl e ↦ absurd (apart (ap (λ (m : ℕ). get_or order m 0) e ∙ sym is))
      | inr d ↦ omega (arith, h, d)
    ]

pub nodes_all : (n : ℕ) (order nodes : List ℕ) → IsPermutation (upto n) order →
    ((j : ℕ) → j < n → HasNode n order nodes (get_or order j 0)) → (i : ℕ) → i < n → HasNode n order nodes i
nodes_all n order nodes moved all i h =
    let s = stands n order moved i h in
    subst (HasNode n order nodes) s.is (all s.at (omega (arith, s.within, order_long n order moved)))

-- a tree without anything in it
pub nested_none : (m : ℕ) (ss : List Span) → ss ≡ replicate m no_span → AreNested ss
nested_none m ss e j b some low =
    let long : length ss ≡ m = ap length e ∙ length-replicate m no_span in
    subst (λ (s : Span). IsWithin s (span_of ss j)) (sym (none (below b j) (omega (arith, low, long))))
    (subst (IsWithin no_span) (sym (none j (omega (arith, over b j some low, long)))) (λ x h. h))
  where
    none : (k : ℕ) → k < m → span_of ss k ≡ no_span
    none k h = ap (λ (l : List Span). span_of l k) e ∙ get_or-replicate m k no_span no_span h

    over : (b : Bool) (j : ℕ) → 0 < j → below b j < length ss → j < length ss
    over true j some low = omega (arith, low)
    over false j some low = omega (arith, low)

-- one more place has its rectangle
pub placed_on : (n : ℕ) (ps : List Place) (order nodes : List ℕ) (old new : List Span) (i : ℕ) → length ps ≡ n → i < n →
    length old ≡ n + n → ((j : ℕ) → j < n → HasNode n order nodes j) →
    IsIn (span_of new (node_of nodes i)) (place_of ps i).at → ((k : ℕ) → length old ≤ 2 * k → k ≢ node_of nodes i → span_of new k ≡ span_of old k) →
    ((j : ℕ) → j < i → IsIn (span_of old (node_of nodes j)) (place_of ps j).at) → (j : ℕ) → j < i + 1 →
    IsIn (span_of new (node_of nodes j)) (place_of ps j).at
placed_on n ps order nodes old new i many within long each here others before j h =
    elim (cases_eq j i) as (λ _. IsIn (span_of new (node_of nodes j)) (place_of ps j).at) [
      | inl e ↦ subst (λ (m : ℕ). IsIn (span_of new (node_of nodes m)) (place_of ps m).at) (sym e) here
      | inr d ↦
          let node = each j (omega (arith, h, within)) in
          subst (λ (s : Span). IsIn s (place_of ps j).at)
          (sym (others (node_of nodes j) (omega (arith, node.least, long)) (nodes_apart n order nodes i j (each i within) node d)))
          (before j (omega (arith, h, d)))
    ]

-- the nodes of places by an order that is the same
pub has_nodes : (n : ℕ) (order rest nodes : List ℕ) → rest ≡ order → length order ≡ n →
    ((i : ℕ) → i < length rest → HasNode (length rest) rest nodes i) → (i : ℕ) → i < n → HasNode n order nodes i
has_nodes n order rest nodes same long h =
    subst (λ (m : ℕ). (i : ℕ) → i < m → HasNode m order nodes i) long
    (subst (λ (l : List ℕ). (i : ℕ) → i < length l → HasNode (length l) l nodes i) same h)
