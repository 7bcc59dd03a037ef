-- The edges of a triangle one after the other: signs decide whether one meets another triangle beyond what both share.
use Rattle.std.specs.Prelude.{◌≡◌, ◌≢◌, ℤ, pos, neg_ℤ, ◌+ℤ◌, ◌-ℤ◌, ◌*ℤ◌, ◌≤ℤ◌, ◌<ℤ◌, ◌⊎◌, Bool, true, false, not, ◌&&◌, ◌||◌}
use Rattle.std.proofs.Common.{arith, refl, sym, ap, subst, inl, inr, ◌∙◌}
use Rattle.std.proofs.lemmas.Int.{ints}
use Rattle.chain_laws.specs.Products.{neg-mul, pos_mul}
use Rattle.plane_laws.specs.Decisions.{Vector}
use Rattle.plane_laws.specs.Moved.{times_zero}
use Rattle.plane_laws.specs.Signs.{signed_mul}
use Rattle.solid_terms.specs.Solids.{volume}
use Rattle.inspection_terms.specs.Cuts.{IsMean, IsInTriangle, IsOnEdge, IsInShared, HasCorner, EdgeMeets}
use Rattle.inspection_terms.specs.Inspected.{has_corner}
use Rattle.inspection_terms.specs.Triangles.{Corners}
use Rattle.inspection_laws.specs.Signs.{turn, agree, corners_in, edges_in, goes_across, goes_through, is_corner_in, is_edge_in, is_zero, lies_inside, lies_within, reaches_by}
use Rattle.inspection_laws.proofs.Across.{IsAcross, over, within, across_point, common_back, end_inside, tells_across}
use Rattle.inspection_laws.proofs.Commons.{IsCommon, common_of, corner_volume, levels, meets}
use Rattle.inspection_laws.proofs.Numbers.{by_sign, zero_times, other_zero}
use Rattle.inspection_laws.proofs.Seen.{IsSeen, IsSum}
use Rattle.inspection_laws.proofs.Spread.{IsSpread}
use Rattle.inspection_laws.proofs.Tests.{Opposite, rising, falling, HaveWeak, yes_agree, both, and, either}
use Rattle.inspection_laws.proofs.Tests.{or_left, or_right, zero_yes, yes_zero, corner_yes, yes_corner, is_not, no}
use Rattle.inspection_laws.proofs.Through.{HasPoint, tells_through, through_point}

-- the corners from the next one on
abbrev pub on : Corners → Corners
on t = (t.1, t.2, t.0)

mean_on : (k : ℤ) (x : Vector) (t : Corners) (a b c : ℤ) → IsMean k x t a b c → IsMean k x (on t) b c a
mean_on k x t a b c m = record {
  first = m.second;
  second = m.third;
  third = m.first;
  some = omega (arith, ints, m.some);
  on_x = moved x.x t.0.x t.1.x t.2.x m.on_x;
  on_y = moved x.y t.0.y t.1.y t.2.y m.on_y;
  on_z = moved x.z t.0.z t.1.z t.2.z m.on_z;
}
  where
    moved : (z u v w : ℤ) → (a +ℤ b +ℤ c) *ℤ z ≡ k *ℤ (a *ℤ u +ℤ b *ℤ v +ℤ c *ℤ w) → (b +ℤ c +ℤ a) *ℤ z ≡ k *ℤ (b *ℤ v +ℤ c *ℤ w +ℤ a *ℤ u)
    moved z u v w e =
        let l : b +ℤ c +ℤ a ≡ a +ℤ b +ℤ c = omega (arith, ints) in
        let r : a *ℤ u +ℤ b *ℤ v +ℤ c *ℤ w ≡ b *ℤ v +ℤ c *ℤ w +ℤ a *ℤ u = omega (arith, ints) in
        ap (λ (s : ℤ). s *ℤ z) l ∙ e ∙ ap (λ (s : ℤ). k *ℤ s) r

shared_on : (k : ℤ) (x : Vector) (t o : Corners) → IsInShared k x t o → IsInShared k x (on t) o
shared_on k x t o h = record { a = h.b; b = h.c; c = h.a; mean = mean_on k x t h.a h.b h.c h.mean; first = h.second; second = h.third; third = h.first }

edge_on : (k : ℤ) (x : Vector) (t : Corners) → IsOnEdge k x t → IsOnEdge k x (on t)
edge_on k x t h = record { a = h.b; b = h.c; c = h.a; mean = mean_on k x t h.a h.b h.c h.mean; opposite = moved h.opposite } where
  moved : {A B C : Type 0} → A ⊎ (B ⊎ C) → B ⊎ (C ⊎ A)
  moved (inl e) = inr (inr e)
  moved (inr (inl e)) = inl e
  moved (inr (inr e)) = inr (inl e)

meets_on : (t o : Corners) → EdgeMeets t o → EdgeMeets (on t) o
meets_on t o h = record {
  k = h.k;
  x = h.x;
  above = h.above;
  on_edge = edge_on h.k h.x t h.on_edge;
  inside = h.inside;
  beyond = λ s. h.beyond (shared_on h.k h.x (on (on t)) o (shared_on h.k h.x (on t) o s));
}

spread_on : (t : Corners) → IsSpread t → IsSpread (on t)
spread_on t s = record {
  first = λ a b c w x y z. let e = s.first c a b (omega (arith, ints, w)) (omega (arith, ints, x)) (omega (arith, ints, y)) (omega (arith, ints, z)) in (e.1, e.2, e.0);
}

-- a corner that lies in the other triangle
corner_meets : (f : Vector → Vector) (t o : Corners) → IsSpread t → IsSeen f o → is_corner_in f t.0 o ≡ true → EdgeMeets t o
corner_meets f t o spread seen e =
    let h = both (is_zero (volume t.0 o.0 o.1 o.2)) (lies_inside f t.0 o) e in
    let k = both (not (has_corner o t.0)) (lies_within f t.0 o) h.1 in
    let w = yes_agree _ _ _ k.1 in
    by _ _ _ _ w.0 seen.some w.1 (seen.sum t.0 (yes_zero _ h.0)) (λ c. contrary _ (is_not _ k.0) (corner_yes o t.0 c))
  where
    contrary : (b : Bool) → b ≡ false → b ≡ true → ⊥
    contrary b e f = absurd (cc)

    kept : (m n p q : ℤ) → m ≡ n *ℤ p → m ≡ n *ℤ p +ℤ pos 0 *ℤ q
    kept m n p q e = omega (arith, ints, e, zero_times q)

    turned : (a b c u v w n p q : ℤ) → a *ℤ u +ℤ b *ℤ v +ℤ c *ℤ w ≡ n *ℤ p → neg_ℤ a *ℤ u +ℤ neg_ℤ b *ℤ v +ℤ neg_ℤ c *ℤ w ≡ neg_ℤ n *ℤ p +ℤ pos 0 *ℤ q
    turned a b c u v w n p q e = omega (arith, ints, e, neg-mul a u, neg-mul b v, neg-mul c w, neg-mul n p, zero_times q)

    by : (n a b c : ℤ) (s : Bool) → n ≢ pos 0 → HaveWeak s a b c → IsSum n t.0 o a b c → (HasCorner o t.0 → ⊥) → EdgeMeets t o
    by n a b c true some w s no =
        let l : pos 0 <ℤ n = by_sign n (λ l. omega (arith, ints, l, w.first, w.second, w.third, s.whole)) (λ l. absurd (some l)) (λ l. l) in
        meets t o n (pos 0) a b c spread (record {
          start = omega (arith, ints, l);
          end = omega (arith, ints);
          first = w.first;
          second = w.second;
          third = w.third;
          some = omega (arith, ints, l);
          whole = omega (arith, ints, s.whole);
          x = kept _ n t.0.x t.1.x s.x;
          y = kept _ n t.0.y t.1.y s.y;
          z = kept _ n t.0.z t.1.z s.z;
        }) (λ first second. no (first l))
    by n a b c false some w s no =
        let l : n <ℤ pos 0 = by_sign n (λ l. l) (λ l. absurd (some l)) (λ l. omega (arith, ints, l, w.first, w.second, w.third, s.whole)) in
        let m : pos 0 <ℤ neg_ℤ n = omega (arith, ints, l) in
        meets t o (neg_ℤ n) (pos 0) (neg_ℤ a) (neg_ℤ b) (neg_ℤ c) spread (record {
          start = omega (arith, ints, l);
          end = omega (arith, ints);
          first = omega (arith, ints, w.first);
          second = omega (arith, ints, w.second);
          third = omega (arith, ints, w.third);
          some = omega (arith, ints, l);
          whole = omega (arith, ints, s.whole);
          x = turned a b c _ _ _ n t.0.x t.1.x s.x;
          y = turned a b c _ _ _ n t.0.y t.1.y s.y;
          z = turned a b c _ _ _ n t.0.z t.1.z s.z;
        }) (λ first second. no (first m))

-- an edge that meets it between its ends
edge_meets : (f : Vector → Vector) (t o : Corners) → IsSpread t → IsSeen f o → is_edge_in f t.0 t.1 o ≡ true → EdgeMeets t o
edge_meets f t o spread seen e = by (either (goes_through t.0 t.1 o) (goes_across f t.0 t.1 o) e) where
  some : (a b : ℤ) → Opposite a b → a ≡ pos 0 → ⊥
  some a b (rising h k) e = omega (arith, ints, h, e)
  some a b (falling h k) e = omega (arith, ints, h, e)

  by : (goes_through t.0 t.1 o ≡ true) ⊎ (goes_across f t.0 t.1 o ≡ true) → EdgeMeets t o
  by (inl h) =
      let p = through_point t.0 t.1 o h in
      meets t o p.1.P p.1.Q p.1.A p.1.B p.1.C spread p.1.common (λ first second. some _ _ p.0 (corner_volume o t.0 (first p.1.inner.0)))
  by (inr h) =
      let p = across_point f t.0 t.1 o seen h in
      meets t o p.0.P p.0.Q p.0.A p.0.B p.0.C spread p.0.common (λ first second. p.1 (first p.0.inner.0) (second p.0.inner.1))

-- so where signs say yes, the point is written down
pub reaches_meets : (f : Vector → Vector) (t o : Corners) → IsSpread t → IsSeen f o → reaches_by f t o ≡ true → EdgeMeets t o
reaches_meets f t o spread seen e = by (either (corners_in f t o) (edges_in f t o) e) where
  s1 : IsSpread (on t)
  s1 = spread_on t spread

  s2 : IsSpread (on (on t))
  s2 = spread_on (on t) s1

  back1 : EdgeMeets (on t) o → EdgeMeets t o
  back1 m = meets_on (on (on t)) o (meets_on (on t) o m)

  back2 : EdgeMeets (on (on t)) o → EdgeMeets t o
  back2 m = meets_on (on (on t)) o m

  two_corners : (is_corner_in f t.0 o ≡ true) ⊎ (is_corner_in f t.1 o ≡ true) → EdgeMeets t o
  two_corners (inl h) = corner_meets f t o spread seen h
  two_corners (inr h) = back1 (corner_meets f (on t) o s1 seen h)

  corners : ((is_corner_in f t.0 o || is_corner_in f t.1 o) ≡ true) ⊎ (is_corner_in f t.2 o ≡ true) → EdgeMeets t o
  corners (inl h) = two_corners (either (is_corner_in f t.0 o) (is_corner_in f t.1 o) h)
  corners (inr h) = back2 (corner_meets f (on (on t)) o s2 seen h)

  two_edges : (is_edge_in f t.0 t.1 o ≡ true) ⊎ (is_edge_in f t.1 t.2 o ≡ true) → EdgeMeets t o
  two_edges (inl h) = edge_meets f t o spread seen h
  two_edges (inr h) = back1 (edge_meets f (on t) o s1 seen h)

  edges : ((is_edge_in f t.0 t.1 o || is_edge_in f t.1 t.2 o) ≡ true) ⊎ (is_edge_in f t.2 t.0 o ≡ true) → EdgeMeets t o
  edges (inl h) = two_edges (either (is_edge_in f t.0 t.1 o) (is_edge_in f t.1 t.2 o) h)
  edges (inr h) = back2 (edge_meets f (on (on t)) o s2 seen h)

  by : (corners_in f t o ≡ true) ⊎ (edges_in f t o ≡ true) → EdgeMeets t o
  by (inl h) = corners (either (is_corner_in f t.0 o || is_corner_in f t.1 o) (is_corner_in f t.2 o) h)
  by (inr h) = edges (either (is_edge_in f t.0 t.1 o || is_edge_in f t.1 t.2 o) (is_edge_in f t.2 t.0 o) h)

-- what signs say of an edge: an end lies in the other triangle, or the edge meets it between them
pub data Tells (f : Vector → Vector) (p q : Vector) (o : Corners) : Type 0 where
  at_start : is_corner_in f p o ≡ true → Tells f p q o
  at_end : is_corner_in f q o ≡ true → Tells f p q o
  between : is_edge_in f p q o ≡ true → Tells f p q o

by_test : {R : Type 0} (b : Bool) → (b ≡ true → R) → (b ≡ false → R) → R
by_test true f g = f refl
by_test false f g = g refl

corner_in : (f : Vector → Vector) (p : Vector) (o : Corners) → has_corner o p ≡ false → volume p o.0 o.1 o.2 ≡ pos 0 →
    agree (turn (f o.1) (f o.2) (f p)) (turn (f o.2) (f o.0) (f p)) (turn (f o.0) (f o.1) (f p)) ≡ true → is_corner_in f p o ≡ true
corner_in f p o h level inside = and _ _ (zero_yes _ level) (and _ _ (ap not h) inside)

-- where a weight is 0 the other end is the point
level_of : (P Q d e : ℤ) → pos 0 <ℤ P → Q ≡ pos 0 → P *ℤ d +ℤ Q *ℤ e ≡ pos 0 → d ≡ pos 0
level_of P Q d e h z l =
    let no : Q *ℤ e ≡ pos 0 = ap (λ (t : ℤ). t *ℤ e) z ∙ zero_times e in
    other_zero P d (λ n. absurd (omega (arith, ints, h, n))) (omega (arith, ints, l, no))

-- the ends of an edge that has a point in the plane between them lie on two sides of it, or both in it
by_levels : {R : Type 0} (P Q d e : ℤ) → pos 0 <ℤ P → pos 0 <ℤ Q → P *ℤ d +ℤ Q *ℤ e ≡ pos 0 → (Opposite d e → R) → (d ≡ pos 0 → e ≡ pos 0 → R) → R
by_levels P Q d e hP hQ l f g = by_sign d
    (λ m. let u = signed_mul true false P d hP m in
    by_sign e (λ n. let v = signed_mul true false Q e hQ n in absurd (omega (arith, ints, u, v, l))) (λ n. let v = none Q e n in absurd (omega (arith, ints, u, v, l)))
    (λ n. f (rising m n)))
    (λ m. let v = none P d m in g m (other_zero Q e (λ z. absurd (omega (arith, ints, hQ, z))) (omega (arith, ints, v, l))))
    (λ m. let u = signed_mul true true P d hP m in
    by_sign e (λ n. f (falling m n)) (λ n. let v = none Q e n in absurd (omega (arith, ints, u, v, l)))
    (λ n. let v = signed_mul true true Q e hQ n in absurd (omega (arith, ints, u, v, l))))
  where
    none : (n z : ℤ) → z ≡ pos 0 → n *ℤ z ≡ pos 0
    none n z e = ap (λ (t : ℤ). n *ℤ t) e ∙ times_zero n

-- a point on the first edge beyond what is shared
edge_tells : (f : Vector → Vector) (t o : Corners) (k : ℤ) (x : Vector) (a b : ℤ) → IsSpread t → IsSpread o → IsSeen f o → pos 0 <ℤ k → IsMean k x t a b (pos 0) →
    IsInTriangle k x o →
    (IsInShared k x t o → ⊥) → Tells f t.0 t.1 o
edge_tells f t o k x a b spread other seen above mean inside beyond = by where
  S : ℤ
  S = inside.a +ℤ inside.b +ℤ inside.c

  h : IsCommon t.0 t.1 o ((inside.a +ℤ inside.b +ℤ inside.c) *ℤ a) ((inside.a +ℤ inside.b +ℤ inside.c) *ℤ b) ((a +ℤ b +ℤ pos 0) *ℤ inside.a) ((a +ℤ b +ℤ pos 0) *ℤ inside.b)
      ((a +ℤ b +ℤ pos 0) *ℤ inside.c)
  h = common_of k x t o a b inside.a inside.b inside.c above mean inside.mean

  level : ((inside.a +ℤ inside.b +ℤ inside.c) *ℤ a) *ℤ volume t.0 o.0 o.1 o.2 +ℤ ((inside.a +ℤ inside.b +ℤ inside.c) *ℤ b) *ℤ volume t.1 o.0 o.1 o.2 ≡ pos 0
  level = levels t.0 t.1 o _ _ _ _ _ h

  no_weight : (z : ℤ) → (inside.a +ℤ inside.b +ℤ inside.c) *ℤ z ≡ pos 0 → pos 0 <ℤ z → ⊥
  no_weight z e l = let m = pos_mul (inside.a +ℤ inside.b +ℤ inside.c) z inside.mean.some l in omega (arith, ints, m, e)

  shared : (pos 0 <ℤ a → HasCorner o t.0) → (pos 0 <ℤ b → HasCorner o t.1) → ⊥
  shared f g = beyond (record { a = a; b = b; c = pos 0; mean = mean; first = f; second = g; third = λ l. absurd (omega (arith, ints, l)) })

  start : pos 0 <ℤ ((inside.a +ℤ inside.b +ℤ inside.c) *ℤ a) → (inside.a +ℤ inside.b +ℤ inside.c) *ℤ b ≡ pos 0 → Tells f t.0 t.1 o
  start hP hQ =
      let d = level_of _ _ _ _ hP hQ level in
      by_test (has_corner o t.0) (λ c. absurd (shared (λ _. yes_corner o t.0 c) (λ l. absurd (no_weight b hQ l))))
      (λ c. at_start (corner_in f t.0 o c d (end_inside f t.0 t.1 o _ _ _ _ _ seen other d h hQ)))

  end : (inside.a +ℤ inside.b +ℤ inside.c) *ℤ a ≡ pos 0 → pos 0 <ℤ ((inside.a +ℤ inside.b +ℤ inside.c) *ℤ b) → Tells f t.0 t.1 o
  end hP hQ =
      let d = level_of _ _ _ (volume t.0 o.0 o.1 o.2) hQ hP (omega (arith, ints, level)) in
      by_test (has_corner o t.1) (λ c. absurd (shared (λ l. absurd (no_weight a hP l)) (λ _. yes_corner o t.1 c)))
      (λ c. at_end (corner_in f t.1 o c d (end_inside f t.1 t.0 o _ _ _ _ _ seen other d (common_back t.0 t.1 o _ _ _ _ _ h) hP)))

  through : Opposite (volume t.0 o.0 o.1 o.2) (volume t.1 o.0 o.1 o.2) → Tells f t.0 t.1 o
  through p = between (or_left _ _ (tells_through t.0 t.1 o _ _ _ _ _ other h p))

  across : volume t.0 o.0 o.1 o.2 ≡ pos 0 → volume t.1 o.0 o.1 o.2 ≡ pos 0 → IsAcross f t.0 t.1 o → Tells f t.0 t.1 o
  across d e (over g) = between (or_right (goes_through t.0 t.1 o) _ g)
  across d e (within i j) =
      by_test (has_corner o t.0)
      (λ c. by_test (has_corner o t.1) (λ c'. absurd (shared (λ _. yes_corner o t.0 c) (λ _. yes_corner o t.1 c'))) (λ c'. at_end (corner_in f t.1 o c' e j)))
      (λ c. at_start (corner_in f t.0 o c d i))

  inner : pos 0 <ℤ ((inside.a +ℤ inside.b +ℤ inside.c) *ℤ a) → pos 0 <ℤ ((inside.a +ℤ inside.b +ℤ inside.c) *ℤ b) → Tells f t.0 t.1 o
  inner hP hQ = by_levels ((inside.a +ℤ inside.b +ℤ inside.c) *ℤ a) ((inside.a +ℤ inside.b +ℤ inside.c) *ℤ b) (volume t.0 o.0 o.1 o.2) (volume t.1 o.0 o.1 o.2) hP hQ level through
      (λ d e. across d e (tells_across f t.0 t.1 o _ _ _ _ _ seen other d e h hP hQ))

  by : Tells f t.0 t.1 o
  by = by_sign ((inside.a +ℤ inside.b +ℤ inside.c) *ℤ a)
      (λ l. absurd (let m = h.start in omega (arith, ints, l, m)))
      (λ l. end l (let m = h.some in omega (arith, ints, m, l)))
      (λ l. by_sign ((inside.a +ℤ inside.b +ℤ inside.c) *ℤ b) (λ m. absurd (let n = h.end in omega (arith, ints, m, n))) (λ m. start l m) (λ m. inner l m))

-- so where they say no, there is none
pub meets_reaches : (f : Vector → Vector) (t o : Corners) → IsSpread t → IsSpread o → IsSeen f o → EdgeMeets t o → reaches_by f t o ≡ true
unfolding edge_on
meets_reaches f t o spread other seen m = by m.on_edge.opposite where
  on_first : (s : Corners) → IsSpread s → EdgeMeets s o → (e : IsOnEdge m.k m.x s) → e.c ≡ pos 0 → (IsInShared m.k m.x s o → ⊥) → Tells f s.0 s.1 o
  on_first s spread h e z beyond =
      let P : ℤ → Type 0 = λ c. IsMean m.k m.x s e.a e.b c in edge_tells f s o m.k m.x e.a e.b spread other seen m.above (subst P z e.mean) m.inside beyond

  six : (c0 c1 c2 e0 e1 e2 : Bool) → (c0 ≡ true) ⊎ ((c1 ≡ true) ⊎ ((c2 ≡ true) ⊎ ((e0 ≡ true) ⊎ ((e1 ≡ true) ⊎ (e2 ≡ true))))) → ((c0 || c1 || c2) || (e0 || e1 || e2)) ≡ true
  six c0 c1 c2 e0 e1 e2 (inl h) = or_left _ _ (or_left _ _ (or_left c0 c1 h))
  six c0 c1 c2 e0 e1 e2 (inr (inl h)) = or_left _ _ (or_left _ _ (or_right c0 c1 h))
  six c0 c1 c2 e0 e1 e2 (inr (inr (inl h))) = or_left _ _ (or_right (c0 || c1) c2 h)
  six c0 c1 c2 e0 e1 e2 (inr (inr (inr (inl h)))) = or_right (c0 || c1 || c2) _ (or_left _ _ (or_left e0 e1 h))
  six c0 c1 c2 e0 e1 e2 (inr (inr (inr (inr (inl h))))) = or_right (c0 || c1 || c2) _ (or_left _ _ (or_right e0 e1 h))
  six c0 c1 c2 e0 e1 e2 (inr (inr (inr (inr (inr h))))) = or_right (c0 || c1 || c2) _ (or_right (e0 || e1) e2 h)

  edge01 : Tells f t.0 t.1 o → reaches_by f t o ≡ true
  edge01 (at_start h) = six (is_corner_in f t.0 o) (is_corner_in f t.1 o) (is_corner_in f t.2 o) (is_edge_in f t.0 t.1 o) (is_edge_in f t.1 t.2 o) (is_edge_in f t.2 t.0 o) (inl h)
  edge01 (at_end h) = six (is_corner_in f t.0 o) (is_corner_in f t.1 o) (is_corner_in f t.2 o) (is_edge_in f t.0 t.1 o) (is_edge_in f t.1 t.2 o) (is_edge_in f t.2 t.0 o)
      (inr (inl h))
  edge01 (between h) = six (is_corner_in f t.0 o) (is_corner_in f t.1 o) (is_corner_in f t.2 o) (is_edge_in f t.0 t.1 o) (is_edge_in f t.1 t.2 o) (is_edge_in f t.2 t.0 o)
      (inr (inr (inr (inl h))))

  edge12 : Tells f t.1 t.2 o → reaches_by f t o ≡ true
  edge12 (at_start h) = six (is_corner_in f t.0 o) (is_corner_in f t.1 o) (is_corner_in f t.2 o) (is_edge_in f t.0 t.1 o) (is_edge_in f t.1 t.2 o) (is_edge_in f t.2 t.0 o)
      (inr (inl h))
  edge12 (at_end h) = six (is_corner_in f t.0 o) (is_corner_in f t.1 o) (is_corner_in f t.2 o) (is_edge_in f t.0 t.1 o) (is_edge_in f t.1 t.2 o) (is_edge_in f t.2 t.0 o)
      (inr (inr (inl h)))
  edge12 (between h) = six (is_corner_in f t.0 o) (is_corner_in f t.1 o) (is_corner_in f t.2 o) (is_edge_in f t.0 t.1 o) (is_edge_in f t.1 t.2 o) (is_edge_in f t.2 t.0 o)
      (inr (inr (inr (inr (inl h)))))

  edge20 : Tells f t.2 t.0 o → reaches_by f t o ≡ true
  edge20 (at_start h) = six (is_corner_in f t.0 o) (is_corner_in f t.1 o) (is_corner_in f t.2 o) (is_edge_in f t.0 t.1 o) (is_edge_in f t.1 t.2 o) (is_edge_in f t.2 t.0 o)
      (inr (inr (inl h)))
  edge20 (at_end h) = six (is_corner_in f t.0 o) (is_corner_in f t.1 o) (is_corner_in f t.2 o) (is_edge_in f t.0 t.1 o) (is_edge_in f t.1 t.2 o) (is_edge_in f t.2 t.0 o) (inl h)
  edge20 (between h) = six (is_corner_in f t.0 o) (is_corner_in f t.1 o) (is_corner_in f t.2 o) (is_edge_in f t.0 t.1 o) (is_edge_in f t.1 t.2 o) (is_edge_in f t.2 t.0 o)
      (inr (inr (inr (inr (inr h)))))

  by : (m.on_edge.a ≡ pos 0) ⊎ ((m.on_edge.b ≡ pos 0) ⊎ (m.on_edge.c ≡ pos 0)) → reaches_by f t o ≡ true
  by (inr (inr z)) = edge01 (on_first t spread m m.on_edge z m.beyond)
  by (inl z) =
      edge12 (on_first (on t) (spread_on t spread) (meets_on t o m) (edge_on m.k m.x t m.on_edge) z
      (λ s. m.beyond (shared_on m.k m.x (on (on t)) o (shared_on m.k m.x (on t) o s))))
  by (inr (inl z)) =
      edge20 (on_first (on (on t)) (spread_on (on t) (spread_on t spread)) (meets_on (on t) o (meets_on t o m)) (edge_on m.k m.x (on t) (edge_on m.k m.x t m.on_edge)) z
      (λ s. m.beyond (shared_on m.k m.x (on (on t)) o s)))
