-- A half-edge is asked condition by condition.
use Rattle.std.proofs.Common.{◌≡◌, ◌≢◌, ◌<◌, ◌&&◌, ℕ, Bool, true, false, ℤ, List, [], get_or, length, refl, sym, ap, subst, ◌∙◌, arith}
use Rattle.std.specs.Prelude.{◌↔◌, IsTrue, not, ◌==◌}
use Rattle.std.proofs.lemmas.Bool.{and_from, and_parts, both_ways, eq-eqb, eqb-true}
use Rattle.chain_terms.specs.Chains.{all_edges, dir}
use Rattle.chain_terms.specs.Ranks.{start, finish}
use Rattle.mesh_check.specs.Opposites.{third_vertex}
use Rattle.tidy_terms.specs.Collapsible.{is_collapsible}
use Rattle.tidy_terms.specs.PointTriples.{same_point}
use Rattle.tidy_laws.proofs.Tidying.{AreGood}
use Rattle.mesh_tidy.specs.Neighbours.{MeetOnly, are_single}
use Rattle.mesh_tidy.specs.TidySurface.{TidySurface, Has, IsSurface, IsTwin, left_of, number_of}
use Rattle.mesh_tidy.proofs.Asking.{AreAsked, asked_no, asked_yes}
use Rattle.mesh_tidy.proofs.Compared.{compared, equal_on}
use Rattle.mesh_tidy.proofs.Queue.{surface_good}

-- the five numbers of edges
pub record AreOne (es : List (ℕ × ℕ)) (a b c d : ℕ) : Type 0 where
  pub ab : dir es a b ≡ 1
  pub ac : dir es a c ≡ 1
  pub ad : dir es a d ≡ 1
  pub bc : dir es b c ≡ 1
  pub bd : dir es b d ≡ 1

pub one_each : (es : List (ℕ × ℕ)) (a b c d : ℕ) → are_single es a b c d ≡ true → AreOne es a b c d
one_each es a b c d e =
    let four = and_parts ((dir es a b == 1) && (dir es a c == 1) && (dir es a d == 1) && (dir es b c == 1)) (dir es b d == 1) e in
    let three = and_parts ((dir es a b == 1) && (dir es a c == 1) && (dir es a d == 1)) (dir es b c == 1) four.0 in
    let two = and_parts ((dir es a b == 1) && (dir es a c == 1)) (dir es a d == 1) three.0 in
    let one = and_parts (dir es a b == 1) (dir es a c == 1) two.0 in
    record {
      ab = eqb-true (dir es a b) 1 one.0;
      ac = eqb-true (dir es a c) 1 one.1;
      ad = eqb-true (dir es a d) 1 two.1;
      bc = eqb-true (dir es b c) 1 three.1;
      bd = eqb-true (dir es b d) 1 four.1;
    }

pub each_one : (es : List (ℕ × ℕ)) (a b c d : ℕ) → AreOne es a b c d → are_single es a b c d ≡ true
each_one es a b c d o =
    let one = and_from (dir es a b == 1) (dir es a c == 1) (eq-eqb (dir es a b) 1 o.ab) (eq-eqb (dir es a c) 1 o.ac) in
    let two = and_from ((dir es a b == 1) && (dir es a c == 1)) (dir es a d == 1) one (eq-eqb (dir es a d) 1 o.ad) in
    let three = and_from ((dir es a b == 1) && (dir es a c == 1) && (dir es a d == 1)) (dir es b c == 1) two (eq-eqb (dir es b c) 1 o.bc) in
    and_from ((dir es a b == 1) && (dir es a c == 1) && (dir es a d == 1) && (dir es b c == 1)) (dir es b d == 1) three (eq-eqb (dir es b d) 1 o.bd)

not_twice : (b : Bool) → not (not b) ≡ b
not_twice true = refl
not_twice false = refl

module _ (points : List (List ℤ)) (s : TidySurface) (whole : IsSurface s) (size : length points ≡ s.vertices) (h g : ℕ) (has : Has s h) (pair : IsTwin s h g)
    (a b c d : ℕ) (a_is : a ≡ start (all_edges s.triples) h) (b_is : b ≡ finish (all_edges s.triples) h) (c_is : c ≡ third_vertex s.triples h)
    (d_is : d ≡ third_vertex s.triples g) where
  good : AreGood (length points) (left_of s)
  good = surface_good s (length points) (sym size) whole

  abbrev pub collapsible : Bool
  collapsible = is_collapsible points (left_of s) (number_of s h)

  pub asked_true : AreAsked s points a b c d → collapsible ≡ true
  asked_true m = asked_yes points s good h g has pair named where
    named : AreAsked s points (start (all_edges s.triples) h) (finish (all_edges s.triples) h) (third_vertex s.triples h) (third_vertex s.triples g)
    named =
        subst (λ v. AreAsked s points (start (all_edges s.triples) h) (finish (all_edges s.triples) h) (third_vertex s.triples h) v) d_is
        (subst (λ v. AreAsked s points (start (all_edges s.triples) h) (finish (all_edges s.triples) h) v d) c_is
        (subst (λ v. AreAsked s points (start (all_edges s.triples) h) v c d) b_is (subst (λ v. AreAsked s points v b c d) a_is m)))

  pub asked_false : (AreAsked s points a b c d → ⊥) → collapsible ≡ false
  asked_false none = asked_no points s good h g has pair (λ m. none (back m)) where
    back : AreAsked s points (start (all_edges s.triples) h) (finish (all_edges s.triples) h) (third_vertex s.triples h) (third_vertex s.triples g) → AreAsked s points a b c d
    back m =
        subst (λ v. AreAsked s points a b c v) (sym d_is)
        (subst (λ v. AreAsked s points a b v (third_vertex s.triples g)) (sym c_is)
        (subst (λ v. AreAsked s points a v (third_vertex s.triples h) (third_vertex s.triples g)) (sym b_is)
        (subst (λ v. AreAsked s points v (finish (all_edges s.triples) h) (third_vertex s.triples h) (third_vertex s.triples g)) (sym a_is) m)))

  -- the points of both ends, compared
  module _ (a_low : a < s.vertices) (b_low : b < s.vertices) (p q : List ℤ) (p_is : p ≡ get_or points a p) (q_is : q ≡ get_or points b q) (r : Bool)
      (r_is : r ≡ not (equal_on 0 p q && (equal_on 1 p q && equal_on 2 p q))) where
    same : not r ≡ same_point (get_or points a []) (get_or points b [])
    same =
        compared points a b p q (omega (arith, a_low, size)) (omega (arith, b_low, size)) p_is q_is (not r)
        (ap not r_is ∙ not_twice (equal_on 0 p q && (equal_on 1 p q && equal_on 2 p q)))

    pub points_differ : r ≡ true → false ≡ collapsible
    points_differ e = sym (asked_false (λ m. both_ways (same_point (get_or points a []) (get_or points b [])) (sym same ∙ ap not e) m.at_one))

    pub thirds_same : c ≡ d → false ≡ collapsible
    thirds_same e = sym (asked_false (λ m. m.differ e))

    pub more_edges : are_single (all_edges (left_of s)) a b c d ≡ false → false ≡ collapsible
    more_edges e =
        sym (asked_false (λ m. both_ways (are_single (all_edges (left_of s)) a b c d) e
        (each_one (all_edges (left_of s)) a b c d (record { ab = m.ab; ac = m.ac; ad = m.ad; bc = m.bc; bd = m.bd }))))

    pub joined_only : r ≡ false → c ≢ d → are_single (all_edges (left_of s)) a b c d ≡ true → (only : Bool) → IsTrue only ↔
        MeetOnly (all_edges (left_of s)) a b c d → only ≡ collapsible
    joined_only e differ single true told =
        let o = one_each (all_edges (left_of s)) a b c d single in
        sym (asked_true (record { at_one = sym same ∙ ap not e; differ = differ; ab = o.ab; ac = o.ac; ad = o.ad; bc = o.bc; bd = o.bd; only = told.0 refl }))
    joined_only e differ single false told = sym (asked_false (λ m. both_ways false refl (told.1 m.only)))
