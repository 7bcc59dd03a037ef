-- A half-edge can be collapsed just where its twin can.
use Rattle.std.proofs.Common.{◌≡◌, ℕ, ◌*◌, ◌<◌, ◌⊎◌, inl, inr, true, ℤ, List, [], length, get_or, sym, ap, ◌∙◌, arith}
use Rattle.std.specs.Prelude.{◌&&◌}
use Rattle.std.specs.Ordering.{int_eq}
use Rattle.std.proofs.lemmas.Bool.{and_from, and_parts}
use Rattle.std.proofs.lemmas.Bool.Decides.{Decides-int_eq}
use Rattle.chain_terms.specs.Chains.{all_edges}
use Rattle.chain_terms.specs.Ranks.{start, finish, twin}
use Rattle.chain_laws.proofs.Twins.{twin_runs_back, twin_twin}
use Rattle.halfedge.proofs.Edges.{length-all_edges}
use Rattle.mesh_check.specs.Opposites.{third_vertex}
use Rattle.mesh_terms.specs.Meshes.{Triple}
use Rattle.mesh_terms.specs.Points.{coordinate_of}
use Rattle.tidy_terms.specs.Collapsible.{is_collapsible}
use Rattle.tidy_terms.specs.PointTriples.{same_point}
use Rattle.tidy_laws.specs.Conditions.{CanCollapse}
use Rattle.tidy_laws.proofs.Back.{can_back}
use Rattle.tidy_laws.proofs.Tidying.{AreGood, are_met, can_of}

-- two points are one both ways
pub same_turned : (p q : List ℤ) → same_point p q ≡ true → same_point q p ≡ true
same_turned p q same =
    let s1 = and_parts (int_eq (coordinate_of p 0) (coordinate_of q 0) && int_eq (coordinate_of p 1) (coordinate_of q 1)) (int_eq (coordinate_of p 2) (coordinate_of q 2)) same in
    let s0 = and_parts (int_eq (coordinate_of p 0) (coordinate_of q 0)) (int_eq (coordinate_of p 1) (coordinate_of q 1)) s1.0 in
    and_from (int_eq (coordinate_of q 0) (coordinate_of p 0) && int_eq (coordinate_of q 1) (coordinate_of p 1)) (int_eq (coordinate_of q 2) (coordinate_of p 2))
    (and_from (int_eq (coordinate_of q 0) (coordinate_of p 0)) (int_eq (coordinate_of q 1) (coordinate_of p 1)) (on 0 s0.0) (on 1 s0.1)) (on 2 s1.1)
  where
    on : (i : ℕ) → int_eq (coordinate_of p i) (coordinate_of q i) ≡ true → int_eq (coordinate_of q i) (coordinate_of p i) ≡ true
    on i e = (Decides-int_eq (coordinate_of q i) (coordinate_of p i)).1 (sym ((Decides-int_eq (coordinate_of p i) (coordinate_of q i)).0 e))

-- the conditions, seen from the other triangle
pub can_turned : (ts : List Triple) (h a b c d : ℕ) → CanCollapse ts h a b c d → CanCollapse ts (twin (all_edges ts) h) b a d c
can_turned ts h a b c d can =
    let es = all_edges ts in
    let back = twin_runs_back es can.closed h can.below in
    record {
      three = can.three;
      closed = can.closed;
      below = back.within;
      starts = back.from ∙ can.ends;
      ends = back.to ∙ can.starts;
      third = can.across;
      across = ap (third_vertex ts) (twin_twin es can.closed h can.below) ∙ can.third;
      distinct = λ e. can.distinct (sym e);
      differ = λ e. can.differ (sym e);
      ab = sym (can.closed a b) ∙ can.ab;
      ac = can.bd;
      ad = can.bc;
      bc = can.ad;
      bd = can.ac;
      only = λ v p q. elim (can.only v q p) as (λ _. (v ≡ d) ⊎ (v ≡ c)) [
        | inl e ↦ inr e
        | inr e ↦ inl e
      ];
    }

pub collapsible_turned : (points : List (List ℤ)) (ts : List Triple) → AreGood (length points) ts → (h : ℕ) → h < 3 * length ts → is_collapsible points ts h ≡ true →
    is_collapsible points ts (twin (all_edges ts) h) ≡ true
collapsible_turned points ts good h low can =
    let es = all_edges ts in
    let g = twin es h in
    let a = start es h in
    let b = finish es h in
    let c = third_vertex ts h in
    let d = third_vertex ts g in
    let inside : h < length es = omega (arith, low, length-all_edges ts) in
    let back = twin_runs_back es good.closed h inside in
    let turned = can_turned ts h a b c d (can_of points ts good h low can) in
    let met = are_met points es a b c d can in
    let other = can_turned_back points ts g b a d c turned (same_turned (get_or points a []) (get_or points b []) met.at_one) in
    other
  where
    can_turned_back : (points : List (List ℤ)) (ts : List Triple) (g b a d c : ℕ) → CanCollapse ts g b a d c →
        same_point (get_or points b []) (get_or points a []) ≡ true → is_collapsible points ts g ≡ true
    can_turned_back points ts g b a d c turned same =
        let es = all_edges ts in
        let s : start es g ≡ b = turned.starts in
        let f : finish es g ≡ a = turned.ends in
        let own : CanCollapse ts g (start es g) (finish es g) (third_vertex ts g) (third_vertex ts (twin es g)) =
        rw turned.starts (rw turned.ends (rw turned.third (rw turned.across turned))) in
        can_back points ts g (start es g) (finish es g) (third_vertex ts g) (third_vertex ts (twin es g)) own
        ((λ i. same_point (get_or points (s i) []) (get_or points (f i) [])) ∙ same)
