-- The conditions of a collapse as one test: where they hold, the test passes.
use Rattle.std.proofs.Common.{◌≡◌, ℕ, ◌+◌, ◌<◌, ◌⊎◌, inl, inr, Bool, true, false, ℤ, List, [], ◌∷◌, length, get_or, refl, arith}
use Rattle.std.specs.Prelude.{◌==◌, ◌&&◌, ◌||◌, not, if◌then◌else◌}
use Rattle.std.specs.List.{list_all}
use Rattle.std.proofs.lemmas.Bool.{and_from, and_parts, both_ways, eqb-true, eq-eqb}
use Rattle.std.proofs.lemmas.Bool.Decides.{Decides-ltb}
use Rattle.chain_terms.specs.Chains.{all_edges, dir}
use Rattle.chain_terms.specs.Sums.{upto}
use Rattle.mesh_terms.specs.Meshes.{Triple}
use Rattle.tidy_terms.specs.Collapsible.{are_joined, can_collapse, join_only}
use Rattle.tidy_terms.specs.PointTriples.{same_point}
use Rattle.tidy_laws.specs.Conditions.{CanCollapse}

-- a test that passes always passes on each member
all_pass : {X : Type 0} (p : X → Bool) (xs : List X) → ((x : X) → p x ≡ true) → list_all p xs ≡ true
all_pass p [] each = refl
all_pass p (x ∷ xs) each = and_from (p x) (list_all p xs) (each x) (all_pass p xs each)

module _ (points : List (List ℤ)) (ts : List Triple) (h a b c d : ℕ) (can : CanCollapse ts h a b c d) (same : same_point (get_or points a []) (get_or points b []) ≡ true) where
  abbrev pub es : List (ℕ × ℕ)
  es = all_edges ts

  -- an edge joins its ends
  joined : (u v : ℕ) → dir es u v ≡ 1 → are_joined es u v ≡ true
  joined u v one = (Decides-ltb 0 (dir es u v + dir es v u)).1 (omega (arith, one))

  -- what is joined is so by an edge that runs there
  runs_there : (u v : ℕ) → are_joined es u v ≡ true → 0 < dir es u v
  runs_there u v on = omega (arith, (Decides-ltb 0 (dir es u v + dir es v u)).0 on, can.closed u v)

  abbrev pub is_third : ℕ → Bool
  is_third v = (v == c) || (v == d)

  -- what is joined to both is a third vertex
  one_of : (v : ℕ) → (v ≡ c) ⊎ (v ≡ d) → is_third v ≡ true
  one_of v (inl e) = by (v == c) (eq-eqb v c e) where
    by : (x : Bool) → x ≡ true → (x || (v == d)) ≡ true
    by true k = refl
    by false k = absurd (both_ways false refl k)
  one_of v (inr e) = by (v == c) (v == d) (eq-eqb v d e) where
    by : (x y : Bool) → y ≡ true → (x || y) ≡ true
    by true y k = refl
    by false true k = refl
    by false false k = absurd (both_ways false refl k)

  -- and a third vertex is joined to both
  are_both : (v : ℕ) → (v ≡ c) ⊎ (v ≡ d) → (are_joined es a v && are_joined es b v) ≡ true
  are_both v (inl e) = rw e (and_from (are_joined es a c) (are_joined es b c) (joined a c can.ac) (joined b c can.bc))
  are_both v (inr e) = rw e (and_from (are_joined es a d) (are_joined es b d) (joined a d can.ad) (joined b d can.bd))

  told : (v : ℕ) → is_third v ≡ true → (v ≡ c) ⊎ (v ≡ d)
  told v e = by (v == c) (v == d) refl refl e where
    by : (x y : Bool) → (v == c) ≡ x → (v == d) ≡ y → (x || y) ≡ true → (v ≡ c) ⊎ (v ≡ d)
    by true y ex ey k = inl (eqb-true v c ex)
    by false true ex ey k = inr (eqb-true v d ey)
    by false false ex ey k = absurd (both_ways false refl k)

  -- so the two tests agree
  agree : (v : ℕ) → (if are_joined es a v && are_joined es b v then is_third v else not (is_third v)) ≡ true
  agree v = by (are_joined es a v && are_joined es b v) (is_third v) refl refl where
    by : (x y : Bool) → (are_joined es a v && are_joined es b v) ≡ x → is_third v ≡ y → (if x then y else not y) ≡ true
    by true true ex ey = refl
    by false false ex ey = refl
    by true false ex ey =
        let both = and_parts (are_joined es a v) (are_joined es b v) ex in
        absurd (both_ways (is_third v) ey (one_of v (can.only v (runs_there a v both.0) (runs_there b v both.1))))
    by false true ex ey = absurd (both_ways (are_joined es a v && are_joined es b v) ex (are_both v (told v ey)))

  differ : not (c == d) ≡ true
  differ = by (c == d) refl where
    by : (x : Bool) → (c == d) ≡ x → not x ≡ true
    by true e = absurd (can.differ (eqb-true c d e))
    by false e = refl

  -- the record of the conditions gives the test
  pub can_back : can_collapse points es a b c d ≡ true
  can_back =
      let s = same_point (get_or points a []) (get_or points b []) in
      let ab = dir es a b == 1 in
      let n = not (c == d) in
      let o = join_only es (length points) a b c d in
      let ac = dir es a c == 1 in
      let ad = dir es a d == 1 in
      let bc = dir es b c == 1 in
      let bd = dir es b d == 1 in
      let only : o ≡ true = all_pass (λ v. if are_joined es a v && are_joined es b v then is_third v else not (is_third v)) (upto (length points)) agree in
      let p2 = and_from s ab same (eq-eqb (dir es a b) 1 can.ab) in
      let p3 = and_from (s && ab) n p2 differ in
      let p4 = and_from (s && ab && n) o p3 only in
      let p5 = and_from (s && ab && n && o) ac p4 (eq-eqb (dir es a c) 1 can.ac) in
      let p6 = and_from (s && ab && n && o && ac) ad p5 (eq-eqb (dir es a d) 1 can.ad) in
      let p7 = and_from (s && ab && n && o && ac && ad) bc p6 (eq-eqb (dir es b c) 1 can.bc) in
      and_from (s && ab && n && o && ac && ad && bc) bd p7 (eq-eqb (dir es b d) 1 can.bd)
