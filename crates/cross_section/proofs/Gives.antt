-- What an operation gives is an outline.
use Rattle.std.proofs.Common.{◌≡◌, ℕ, ◌+◌, ◌<◌, ◌≤◌, ℤ, pos, List, length, get_or, min, nat_lt, if◌then◌else◌, refl, sym, ap, subst, ◌∙◌, inl, inr, arith, rules}
use Rattle.std.specs.Prelude.{◌*◌, nat_abs, Option, None, Some, Ok, Err}
use Rattle.std.proofs.lemmas.Bool.{le-ltb, lt-ltb}
use Rattle.std.specs.List.{All, concat, sum_by}
use Rattle.std.specs.List.Sorted.{IsPermutation}
use Rattle.std.proofs.lemmas.List.{length-map}
use Rattle.std.proofs.lemmas.List.Elements.{All-map, All-weaker}
use Rattle.chain_terms.specs.Cycles.{cycles}
use Rattle.chain_terms.specs.Sums.{upto}
use Rattle.chain_laws.proofs.Places.{length-up_from}
use Rattle.mb_base.specs.declared.fault.Counted.TheVariants.{Points}
use Rattle.mb_base.specs.declared.op.Op.{Op}
use Rattle.mesh_terms.specs.Limits.{Limits}
use Rattle.mesh_terms.specs.Points.{coordinate_of}
use Rattle.outline_terms.proofs.Edges.{edges_long}
use Rattle.outline_pair_terms.proofs.Prescribed.{IsHit, all_hits}
use Rattle.outline_pair_terms.proofs.Whole.{conserved, each_whole, loops_whole, once_whole, p_corners, q_corners}
use Rattle.outline_pair_terms.specs.Lists.{copy_count, flat_copies, flat_segments, hits_prescribed, p_prescribed, q_prescribed}
use Rattle.outline_pair_terms.specs.declared.FlatHit.{FlatHit}
use Rattle.outline_pair_terms.specs.Numbers.{FlatNumbers, FlatTests, LiftEdges, edge_at, ends_of, flat_hit, flat_hits_along, flat_numbers, flat_winding, flat_winding_back, p_flat, q_flat}
use Rattle.outline_terms.specs.Outlines.{IsOutline, Outline, most_vertices, outline_edges}
use Rattle.cross_section.specs.Copies.{AreNumbers, hit_number, vertex_number}
use Rattle.cross_section.specs.Outcome.{GivesOutline, IsRefusedFor, Outcome, outcome_fault, outcome_of}
use Rattle.cross_section.specs.declared.operand.Operand.TheVariants.{P, Q}
use Rattle.cross_section.specs.declared.fault.OutlineFault.{OutlineFault}
use Rattle.cross_section.specs.declared.fault.OutlineFault.TheVariants.{NoMemory, Over}
use Rattle.cross_section.proofs.Copied.{count_copies, count_hits, count_p, count_q, flat_copies_flat}
use Rattle.cross_section.proofs.Joined.{joined_few, kept_few}

module _ (t : FlatTests) (settle : ℤ → ℤ) (op : Op) (p q : Outline) (p_is : IsOutline p) (q_is : IsOutline q) (lift : LiftEdges t (p_flat op p).corners (q_flat q).corners) where
  abbrev n : FlatNumbers
  n = flat_numbers t settle (p_flat op p) (q_flat q)

  -- hits are of edges of both, and lie at height 0
  hits_are : All (IsHit t settle (p_flat op p) (q_flat q)) n.hits
  hits_are = all_hits t settle (p_flat op p) (q_flat q)

  -- there are no more of them than pairs of edges
  hits_few : length n.hits ≤ most_vertices * most_vertices
  hits_few =
      let ps = p_flat op p in
      let qs = q_flat q in
      let each : (i : ℕ) → length (flat_hits_along t.edge_edge settle ps qs i) ≤ most_vertices =
      λ i. omega (
        arith,
        kept_few (λ j. flat_hit settle i j (t.edge_edge (ends_of ps (edge_at ps i)) (ends_of qs (edge_at qs j))))
            (upto (length qs.edges)),
        length-up_from 0 (length qs.edges),
        edges_long q q_is,
        q_is.few,
      ) in
      omega (
        arith,
        joined_few (flat_hits_along t.edge_edge settle ps qs) most_vertices (upto (length ps.edges))
            (λ k d low. each (get_or (upto (length ps.edges)) k d)),
        length-up_from 0 (length ps.edges),
        edges_long p p_is,
        p_is.few,
      )

  -- the numbers are of these outlines, where they are small
  pub numbers_are : All (λ w. nat_abs w ≤ length (outline_edges q)) n.w02 →
      All (λ w. nat_abs w ≤ length (outline_edges p)) n.w20 → All (λ h. nat_abs h.number ≤ 1) n.hits → AreNumbers p q n
  numbers_are p_size q_size small = record {
    conserved = conserved t settle op p q p_is q_is lift;
    w02_long = length-map (p_flat op p).corners (λ c. flat_winding t c (q_flat q)) ∙ p_corners op p;
    w20_long = length-map (q_flat q).corners (λ c. flat_winding_back t (p_flat op p) c) ∙ q_corners q;
    w02_small = All-weaker (λ w. nat_abs w ≤ length (outline_edges q)) (λ w. nat_abs w ≤ most_vertices) (λ w l. omega (arith, l, edges_long q q_is, q_is.few)) n.w02 p_size;
    w20_small = All-weaker (λ w. nat_abs w ≤ length (outline_edges p)) (λ w. nat_abs w ≤ most_vertices) (λ w l. omega (arith, l, edges_long p p_is, p_is.few)) n.w20 q_size;
    on_p = All-weaker (IsHit t settle (p_flat op p) (q_flat q)) (λ h. h.p_edge < length (outline_edges p)) (λ h is. is.on_p) n.hits hits_are;
    on_q = All-weaker (IsHit t settle (p_flat op p) (q_flat q)) (λ h. h.q_edge < length (outline_edges q)) (λ h is. is.on_q) n.hits hits_are;
    small = small;
    few = hits_few;
  }

  -- and few copies give an outline
  pub gives_outline : length (flat_copies op p q n) ≤ most_vertices → GivesOutline op p q n
  gives_outline few =
      let cs = flat_copies op p q n in
      record {
        once = once_whole t settle op p q p_is q_is lift;
        outline = record {
          each = subst (λ k. IsPermutation (upto k) (concat (cycles (flat_segments p q cs)))) (sym (length-map cs (λ c. c.point))) (each_whole t settle op p q p_is q_is lift);
          long = loops_whole t settle op p q p_is q_is lift;
          flat = All-map (λ (x : List ℤ). coordinate_of x 2 ≡ pos 0) (λ c. c.point) cs
              (flat_copies_flat op p q n p_is q_is
              (All-weaker (IsHit t settle (p_flat op p) (q_flat q)) (λ h. coordinate_of h.at 2 ≡ pos 0) (λ h is. is.flat) n.hits hits_are));
          few = omega (arith, few, length-map cs (λ c. c.point));
        };
      }

-- too many vertices are the reason, and otherwise there is none
pub too_many : (limits : Limits) (o : Outcome) (seen : ℕ) → o.p_kept + o.q_kept + o.crossings ≡ seen →
    min limits.points most_vertices < seen → outcome_fault limits o ≡ Some (Over Points seen)
too_many limits o seen e high =
    ap (λ k. if nat_lt (min limits.points most_vertices) k then Some (Over Points k) else None) e
    ∙ ap (λ b. if b then Some (Over Points seen) else None) (lt-ltb (min limits.points most_vertices) seen high)

pub not_too_many : (limits : Limits) (o : Outcome) (seen : ℕ) → o.p_kept + o.q_kept + o.crossings ≡ seen → seen ≤ min limits.points most_vertices → outcome_fault limits o ≡ None
not_too_many limits o seen e low =
    ap (λ k. if nat_lt (min limits.points most_vertices) k then Some (Over Points k) else None) e
    ∙ ap (λ b. if b then Some (Over Points seen) else None) (le-ltb (min limits.points most_vertices) seen low)

-- the answer for a reason
pub refused_by : (X : Type 0) (why : Option OutlineFault) (fault : OutlineFault) → why ≡ Some fault → IsRefusedFor {X = X} why (Err fault)
refused_by X None fault e = absurd (cc)
refused_by X (Some w) fault e = inl (cc)

pub all_done : {X : Type 0} (why : Option OutlineFault) (x : X) → why ≡ None → IsRefusedFor {X = X} why (Ok x)
all_done None x e = inl (search rules)
all_done (Some w) x e = absurd (cc)

-- want of memory may always be the answer
pub memory_wants : (X : Type 0) (why : Option OutlineFault) → IsRefusedFor {X = X} why (Err NoMemory)
memory_wants X None = inr refl
memory_wants X (Some why) = inr refl

-- so many copies of vertices and of crossings as an outcome has
pub record AreCounted (o : Outcome) (p_kept q_kept crossings : ℕ) : Type 0 where
  pub of_p : p_kept ≡ o.p_kept
  pub of_q : q_kept ≡ o.q_kept
  pub of_hits : crossings ≡ o.crossings

-- the sums over the numbers that were found
pub counted : (op : Op) (p q : Outline) (n m : FlatNumbers) → n ≡ m → AreNumbers p q n →
    (ws vs : List ℤ) (hs : List FlatHit) → ws ≡ n.w02 → vs ≡ n.w20 → hs ≡ n.hits → (a b k : ℕ) →
    a ≡ sum_by (λ w. nat_abs (vertex_number op P w)) ws → b ≡ sum_by (λ w. nat_abs (vertex_number op Q w)) vs →
    k ≡ sum_by (λ (h : FlatHit). nat_abs (hit_number op h.number)) hs → AreCounted (outcome_of op p q m) a b k
counted op p q n m e are ws vs hs w v h a b k sum_p sum_q sum_hits = record {
  of_p = sum_p ∙ ap (λ l. sum_by (λ w. nat_abs (vertex_number op P w)) l) w ∙ count_p op p q n are.w02_long ∙ ap (λ x. copy_count (p_prescribed op p x)) e;
  of_q = sum_q ∙ ap (λ l. sum_by (λ w. nat_abs (vertex_number op Q w)) l) v ∙ count_q op p q n are.w20_long ∙ ap (λ x. copy_count (q_prescribed op q x)) e;
  of_hits = sum_hits ∙ ap (λ l. sum_by (λ (h : FlatHit). nat_abs (hit_number op h.number)) l) h ∙ count_hits op p q n ∙ ap (λ x. copy_count (hits_prescribed op x)) e;
}

-- all of them together
pub all_counted : (op : Op) (p q : Outline) (n : FlatNumbers) (a b k : ℕ) → AreCounted (outcome_of op p q n) a b k → length (flat_copies op p q n) ≡ a + b + k
all_counted op p q n a b k are = omega (arith, count_copies op p q n, are.of_p, are.of_q, are.of_hits)
