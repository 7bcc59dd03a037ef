-- Which places are needless is told by what edges there are, whatever their order.
use Rattle.std.specs.Prelude.{◌≡◌, ◌≢◌, ◌⊎◌, ℕ, ◌==◌, ℤ, List, [], ◌∷◌, ◌++◌, Bool, true, false, not, ◌&&◌, ◌||◌, cond}
use Rattle.std.specs.List.{AllPairs, flat_map, list_any}
use Rattle.std.proofs.Common.{arith, refl, sym, ap, ◌∙◌, inl, inr}
use Rattle.std.proofs.lemmas.Bool.{both_ways, cases_Bool, eq-eqb, eqb-true}
use Rattle.std.proofs.lemmas.List.Folds.{list_any-append}
use Rattle.face_plane.specs.Planes.{point_at}
use Rattle.sheet_laws.proofs.InLine.{from_line, line_back, line_of, line_round}
use Rattle.sheet_terms.specs.Chains.{same_edge}
use Rattle.sheet_terms.specs.Cuts.{are_in_line}
use Rattle.sheet_terms.specs.Needless.{are_two_in_line, is_needless, neighbours, other_end}
use Rattle.sheet_terms.specs.Places.{firsts}
use Rattle.tidy_terms.specs.PointTriples.{same_point}
use Rattle.edge_cutting.proofs.Numbered.{IsLike, any_firsts, firsts_apart}
use Rattle.plan_laws.specs.Needless.{HaveSameEdges, NeedlessByEdges}

-- tests joined
left : (a b : Bool) → (a && b) ≡ true → a ≡ true
left true b h = refl
left false b h = h

right : (a b : Bool) → (a && b) ≡ true → b ≡ true
right true b h = h
right false b h = absurd (both_ways false refl h)

or_none : (a : Bool) → (a || false) ≡ a
or_none true = refl
or_none false = refl

and_turned : (a b : Bool) → (a && b) ≡ (b && a)
and_turned true true = refl
and_turned true false = refl
and_turned false true = refl
and_turned false false = refl

or_four : (a b c d : Bool) → ((a || b) || (c || d)) ≡ ((a || c) || (b || d))
or_four true b c d = refl
or_four false true true d = refl
or_four false true false d = refl
or_four false false true d = refl
or_four false false false d = refl

iff_same : (b c : Bool) → (b ≡ true → c ≡ true) → (c ≡ true → b ≡ true) → b ≡ c
iff_same true c h k = sym (h refl)
iff_same false true h k = k refl
iff_same false false h k = refl

eq_turned : (x y : ℕ) → (x == y) ≡ (y == x)
eq_turned x y = iff_same (x == y) (y == x) (λ h. eq-eqb y x (sym (eqb-true x y h))) (λ h. eq-eqb x y (sym (eqb-true y x h)))

-- equality of numbers tells like ones
numbers_like : IsLike (λ (a b : ℕ). a == b)
numbers_like = record {
  self = λ x. eq-eqb x x refl;
  back = λ x y h. eq-eqb y x (sym (eqb-true x y h));
  on = λ x y z h k. eq-eqb x z (eqb-true x y h ∙ eqb-true y z k);
}

-- the other end of an edge
one_end : (v y : ℕ) (e : ℕ × ℕ) → list_any (λ n. y == n) (other_end v e) ≡ (same_edge (v, y) e || same_edge (y, v) e)
one_end v y e =
    by (e.0 == v) (e.1 == v) ∙ (λ i. (eq_turned e.0 v i && (y == e.1)) || (eq_turned e.1 v i && (y == e.0)))
    ∙ ap (λ b. ((v == e.0) && (y == e.1)) || b) (and_turned (v == e.1) (y == e.0))
  where
    by : (s t : Bool) → list_any (λ n. y == n) (cond s (e.1 ∷ []) [] ++ cond t (e.0 ∷ []) []) ≡ ((s && (y == e.1)) || (t && (y == e.0)))
    by true true = ap (λ b. (y == e.1) || b) (or_none (y == e.0))
    by true false = refl
    by false true = or_none (y == e.0)
    by false false = refl

-- the neighbours of v are told by the edges from it and to it
member_is : (v y : ℕ) (es : List (ℕ × ℕ)) → list_any (λ n. y == n) (flat_map (other_end v) es) ≡ (list_any (same_edge (v, y)) es || list_any (same_edge (y, v)) es)
member_is v y [] = refl
member_is v y (e ∷ es) =
    list_any-append (λ n. y == n) (other_end v e) (flat_map (other_end v) es) ∙ (λ i. one_end v y e i || member_is v y es i)
    ∙ or_four (same_edge (v, y) e) (same_edge (y, v) e) (list_any (same_edge (v, y)) es) (list_any (same_edge (y, v)) es)

-- lists of different places with the same members
record AreAlike (ns ms : List ℕ) : Type 0 where
  same : (y : ℕ) → list_any (λ n. y == n) ns ≡ list_any (λ n. y == n) ms
  apart : AllPairs (λ x y. (y == x) ≡ false) ns
  apart_too : AllPairs (λ x y. (y == x) ≡ false) ms

-- two neighbours in the other order
two_turned : (points : List (List ℤ)) (v a b : ℕ) → are_two_in_line points v (a ∷ b ∷ []) ≡ true → are_two_in_line points v (b ∷ a ∷ []) ≡ true
two_turned points v a b h =
    let p = point_at points v in
    let q = point_at points a in
    let r = point_at points b in
    let s = not (same_point p q) in
    let t = not (same_point p r) in
    let u = are_in_line p q r in
    let line = from_line p r q (line_round q p r (line_round r q p (line_back p q r (line_of p q r (right (s && t) u h))))) in
    λ i. right s t (left (s && t) u h) i && left s t (left (s && t) u h) i && line i

first_in : (a b : ℕ) → list_any (λ n. a == n) (a ∷ b ∷ []) ≡ true
first_in a b = λ i. eq-eqb a a refl i || ((a == b) || false)

second_in : (a b : ℕ) → list_any (λ n. b == n) (a ∷ b ∷ []) ≡ true
second_in a b = (λ i. (b == a) || (eq-eqb b b refl i || false)) ∙ by (b == a)
  where
    by : (t : Bool) → (t || (true || false)) ≡ true
    by true = refl
    by false = refl

-- one of two
of_two : (x a b : ℕ) → list_any (λ n. x == n) (a ∷ b ∷ []) ≡ true → (x ≡ a) ⊎ (x ≡ b)
of_two x a b h = by (x == a) (x == b) refl refl h
  where
    by : (s t : Bool) → (x == a) ≡ s → (x == b) ≡ t → (s || (t || false)) ≡ true → (x ≡ a) ⊎ (x ≡ b)
    by true t e f g = inl (eqb-true x a e)
    by false true e f g = inr (eqb-true x b f)
    by false false e f g = absurd (both_ways false refl g)

differ : (x y : ℕ) → (y == x) ≡ false → x ≢ y
differ x y h e = both_ways (y == x) h (eq-eqb y x (sym e))

-- they are the only two on a line in one list where they are in the other
two_alike : (points : List (List ℤ)) (v : ℕ) (ns ms : List ℕ) → AreAlike ns ms → are_two_in_line points v ns ≡ true → are_two_in_line points v ms ≡ true
two_alike points v [] ms alike h = absurd (both_ways false refl h)
two_alike points v (a ∷ []) ms alike h = absurd (both_ways false refl h)
two_alike points v (a ∷ b ∷ []) ms alike h = by ms alike.same alike.apart_too
  where
    ab : a ≢ b
    ab = differ a b (alike.apart 0 1 0 (omega arith) (omega arith))

    by : (ms : List ℕ) → ((y : ℕ) → list_any (λ n. y == n) (a ∷ b ∷ []) ≡ list_any (λ n. y == n) ms) → AllPairs (λ x y. (y == x) ≡ false) ms →
        are_two_in_line points v ms ≡ true
    by [] same apart = absurd (both_ways false refl (sym (same a) ∙ first_in a b))
    by (x ∷ []) same apart =
        let one : (z : ℕ) → list_any (λ n. z == n) (x ∷ []) ≡ true → z ≡ x = λ z k. eqb-true z x (sym (or_none (z == x)) ∙ k) in
        absurd (ab (one a (sym (same a) ∙ first_in a b) ∙ sym (one b (sym (same b) ∙ second_in a b))))
    by (x ∷ y ∷ []) same apart = pick (of_two a x y (sym (same a) ∙ first_in a b)) (of_two b x y (sym (same b) ∙ second_in a b))
      where
        pick : (a ≡ x) ⊎ (a ≡ y) → (b ≡ x) ⊎ (b ≡ y) → are_two_in_line points v (x ∷ y ∷ []) ≡ true
        pick (inl p) (inl q) = absurd (ab (p ∙ sym q))
        pick (inl p) (inr q) = sym (λ i. are_two_in_line points v (p i ∷ q i ∷ [])) ∙ h
        pick (inr p) (inl q) = sym (λ i. are_two_in_line points v (q i ∷ p i ∷ [])) ∙ two_turned points v a b h
        pick (inr p) (inr q) = absurd (ab (p ∙ sym q))
    by (x ∷ y ∷ z ∷ rest) same apart =
        let xy = differ x y (apart 0 1 0 (omega arith) (omega arith)) in
        let xz = differ x z (apart 0 2 0 (omega arith) (omega arith)) in
        let yz = differ y z (apart 1 2 0 (omega arith) (omega arith)) in
        let x_in : list_any (λ n. x == n) (x ∷ y ∷ z ∷ rest) ≡ true = λ i. eq-eqb x x refl i || list_any (λ n. x == n) (y ∷ z ∷ rest) in
        let y_in : list_any (λ n. y == n) (x ∷ y ∷ z ∷ rest) ≡ true = (λ i. (y == x) || (eq-eqb y y refl i || list_any (λ n. y == n) (z ∷ rest))) ∙ or_true (y == x) in
        let z_in : list_any (λ n. z == n) (x ∷ y ∷ z ∷ rest) ≡ true =
        (λ i. (z == x) || ((z == y) || (eq-eqb z z refl i || list_any (λ n. z == n) rest))) ∙ ap (λ t. (z == x) || t) (or_true (z == y)) ∙ or_true (z == x) in
        three (of_two x a b (same x ∙ x_in)) (of_two y a b (same y ∙ y_in)) (of_two z a b (same z ∙ z_in)) xy xz yz
      where
        or_true : (t : Bool) → (t || true) ≡ true
        or_true true = refl
        or_true false = refl

        three : (x ≡ a) ⊎ (x ≡ b) → (y ≡ a) ⊎ (y ≡ b) → (z ≡ a) ⊎ (z ≡ b) → x ≢ y → x ≢ z → y ≢ z → are_two_in_line points v (x ∷ y ∷ z ∷ rest) ≡ true
        three (inl p) (inl q) r xy xz yz = absurd (xy (p ∙ sym q))
        three (inr p) (inr q) r xy xz yz = absurd (xy (p ∙ sym q))
        three (inl p) (inr q) (inl r) xy xz yz = absurd (xz (p ∙ sym r))
        three (inl p) (inr q) (inr r) xy xz yz = absurd (yz (q ∙ sym r))
        three (inr p) (inl q) (inl r) xy xz yz = absurd (yz (q ∙ sym r))
        three (inr p) (inl q) (inr r) xy xz yz = absurd (xz (p ∙ sym r))
two_alike points v (a ∷ b ∷ c ∷ ns) ms alike h = absurd (both_ways false refl h)

pub needless_by_edges : NeedlessByEdges
needless_by_edges points es ms same = λ i v. by v i
  where
    member : (ds : List (ℕ × ℕ)) (v y : ℕ) → list_any (λ n. y == n) (neighbours ds v) ≡ (list_any (same_edge (v, y)) ds || list_any (same_edge (y, v)) ds)
    member ds v y = any_firsts (λ (a b : ℕ). a == b) numbers_like y (flat_map (other_end v) ds) ∙ member_is v y ds

    apart : (ds : List (ℕ × ℕ)) (v : ℕ) → AllPairs (λ x y. (y == x) ≡ false) (neighbours ds v)
    apart ds v = firsts_apart (λ (a b : ℕ). a == b) (flat_map (other_end v) ds)

    both : (v y : ℕ) → list_any (λ n. y == n) (neighbours es v) ≡ list_any (λ n. y == n) (neighbours ms v)
    both v y = member es v y ∙ (λ i. same (v, y) i || same (y, v) i) ∙ sym (member ms v y)

    by : (v : ℕ) → is_needless points es v ≡ is_needless points ms v
    by v =
        iff_same (is_needless points es v) (is_needless points ms v)
        (two_alike points v (neighbours es v) (neighbours ms v) (record { same = both v; apart = apart es v; apart_too = apart ms v }))
        (two_alike points v (neighbours ms v) (neighbours es v) (record { same = λ y. sym (both v y); apart = apart ms v; apart_too = apart es v }))
