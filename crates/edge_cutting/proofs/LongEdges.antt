-- Pairs that are lists, edges that may be cut.
use Rattle.std.specs.Prelude.{◌≡◌, ◌≢◌, ◌⊎◌, ℕ, ◌+◌, ◌*◌, ◌<◌, ◌≤◌, ℤ, pos, ◌-ℤ◌, ◌*ℤ◌, List, [], ◌∷◌, ◌++◌, false, int_div, get_or, length, take, unsigned_abs}
use Rattle.std.specs.Int.{◌∣◌, IsGcd}
use Rattle.std.specs.List.{All, Contains}
use Rattle.std.proofs.Common.{arith, refl, sym, ap, subst, ◌∙◌, inl, inr}
use Rattle.std.proofs.Math.Nat.{one-dvd}
use Rattle.std.proofs.lemmas.Bool.{both_ways, cases_lt, false_from_ne_true}
use Rattle.std.proofs.lemmas.Int.{ints, unsigned_abs-mul}
use Rattle.std.proofs.lemmas.Grind.{flat_map-append}
use Rattle.std.proofs.lemmas.List.{append-nil, append_assoc, get_or-map, length-map, map-append, take_all, take_more}
use Rattle.chain_terms.specs.Chains.{all_edges, edges}
use Rattle.mesh_terms.specs.Meshes.{IsBelow, triple_of, triples_of}
use Rattle.std.proofs.lemmas.List.Elements.{All-push, Contains-append_left, Contains-push, Contains-push_cases}
use Rattle.std.proofs.lemmas.Nat.Gcd.{dvd_trans, le_of_dvd}
use Rattle.face_plane.specs.Planes.{point_at}
use Rattle.mesh_terms.specs.Points.{coordinate_of}
use Rattle.sheet_terms.specs.Cuts.{is_inside}
use Rattle.edge_cutting.specs.Edges.{AreLong, HasNone, IsUpBelow}
use Rattle.edge_cutting.specs.Inside.{AreApart}
use Rattle.edge_cutting.specs.Spans.{AreInSteps, AreMultiples, IsCommonStep, LeadsTo, step_on}
use Rattle.edge_cutting.specs.declared.steps.Steps.{Steps}
use Rattle.edge_cutting.proofs.CommonDivisors.{divides_difference, euclid, of_three, times_none, whole_quotient}
use Rattle.tidy_terms.specs.PointTriples.{same_point}
use Rattle.edge_cutting.proofs.Nearer.{inner}
use Rattle.edge_cutting.proofs.Parts.{leads_to, no_step}

-- no edges were looked at
pub long_none : (points : List (List ℤ)) → AreLong points [] []
long_none points = record { up = λ k d low. absurd (omega (arith, low)); complete = λ e h up. absurd (omega (arith, h.1)) }

-- an edge that is added
pub long_more : (points : List (List ℤ)) (seen es : List (ℕ × ℕ)) (e : ℕ × ℕ) → IsUpBelow (length points) e → AreLong points seen es →
    AreLong points (seen ++ e ∷ []) (es ++ e ∷ [])
long_more points seen es e up h = record {
  up = All-push (IsUpBelow (length points)) es e h.up up;
  complete = λ d there rises. elim (Contains-push_cases seen e d there) as (λ _. HasNone points d ⊎ Contains (es ++ e ∷ []) d) [
    | inl was ↦ elim (h.complete d was rises) as (λ _. HasNone points d ⊎ Contains (es ++ e ∷ []) d) [
      | inl none ↦ inl none
      | inr some ↦ inr (Contains-append_left es (e ∷ []) d some)
    ]
    | inr is ↦ inr (subst (λ f. Contains (es ++ e ∷ []) f) is (Contains-push es e))
  ];
}

-- one that is not
pub long_same : (points : List (List ℤ)) (seen es : List (ℕ × ℕ)) (e : ℕ × ℕ) → (e.0 < e.1 → HasNone points e) → AreLong points seen es → AreLong points (seen ++ e ∷ []) es
long_same points seen es e none h = record {
  up = h.up;
  complete = λ d there rises. elim (Contains-push_cases seen e d there) as (λ _. HasNone points d ⊎ Contains es d) [
    | inl was ↦ h.complete d was rises
    | inr is ↦ inl (subst (λ f. HasNone points f) is (none (subst (λ f. f.0 < f.1) (sym is) rises)))
  ];
}

-- all steps are multiples of what the steps from the first point are multiples of
pub in_steps : (unit : ℕ) (points : List (List ℤ)) → ((v : ℕ) → v < length points → AreMultiples unit (point_at points 0) (point_at points v)) → AreInSteps unit points
in_steps unit points h = record {
  each = λ v w lv lw.
      let o = point_at points 0 in
      let p = point_at points v in
      let q = point_at points w in
      record {
        x = between o p q 0 (h v lv).x (h w lw).x;
        y = between o p q 1 (h v lv).y (h w lw).y;
        z = between o p q 2 (h v lv).z (h w lw).z;
      };
}
  where
    between : (o p q : List ℤ) (i : ℕ) → unit ∣ step_on o p i → unit ∣ step_on o q i → unit ∣ step_on p q i
    between o p q i d e =
        let a = coordinate_of p i -ℤ coordinate_of o i in
        let b = coordinate_of q i -ℤ coordinate_of o i in
        let same : b -ℤ a ≡ coordinate_of q i -ℤ coordinate_of p i = omega (arith, ints) in
        subst (λ t. unit ∣ unsigned_abs t) same (divides_difference unit b a e d)

-- one more point
pub steps_more : (points : List (List ℤ)) (unit g new n : ℕ) → IsGcd unit g new → IsCommonStep (point_at points 0) (point_at points n) g →
    ((v : ℕ) → v < n → AreMultiples unit (point_at points 0) (point_at points v)) → (v : ℕ) → v < n + 1 → AreMultiples new (point_at points 0) (point_at points v)
steps_more points unit g new n h common before v low = elim (cases_lt v n) as (λ _. AreMultiples new (point_at points 0) (point_at points v)) [
  | inl l ↦ let was = before v l in record { x = dvd_trans new h.0 was.x; y = dvd_trans new h.0 was.y; z = dvd_trans new h.0 was.z }
  | inr l ↦
      let same : n ≡ v = omega (arith, l, low) in
      subst (λ w. AreMultiples new (point_at points 0) (point_at points w)) same
      (record { x = dvd_trans new h.1 common.first; y = dvd_trans new h.1 common.second; z = dvd_trans new h.1 common.third })
]

-- 1 divides all
pub in_ones : (points : List (List ℤ)) → AreInSteps 1 points
in_ones points = record { each = λ v w lv lw. record { x = one-dvd _; y = one-dvd _; z = one-dvd _ } }

-- the steps between two points as their parts
pub steps_of : (p q : List ℤ) → ℕ → Steps
steps_of p q g =
    let part : ℕ → ℤ = λ i. int_div (coordinate_of q i -ℤ coordinate_of p i) (pos g) in
    record { start = p; step = part 0 ∷ part 1 ∷ part 2 ∷ []; count = g }

pub leads : (p q : List ℤ) (g : ℕ) → 0 < g → IsCommonStep p q g → LeadsTo p q (steps_of p q g)
unfolding steps_of
leads p q g some common =
    let way : ℕ → ℤ = λ i. coordinate_of q i -ℤ coordinate_of p i in
    leads_to p q (steps_of p q g) some common refl refl refl (sym (whole_quotient (way 0) g common.first)) (sym (whole_quotient (way 1) g common.second))
    (sym (whole_quotient (way 2) g common.third))

-- two points that are not one have steps between them
pub record HasSteps (p q : List ℤ) : Type 0 where
  pub steps : Steps
  pub some : 0 < steps.count
  pub leads : LeadsTo p q steps

pub steps_between : (p q : List ℤ) → same_point p q ≡ false → HasSteps p q
unfolding steps_of
steps_between p q apart =
    let size : ℕ → ℕ = step_on p q in
    let two = euclid (size 1) (size 0) (size 1) (omega arith) in
    let all = euclid two.0 (size 2) two.0 (omega arith) in
    let common : IsCommonStep p q all.0 = of_three (size 0) (size 1) (size 2) two.0 all.0 two.1 all.1 in
    let some : 0 < all.0 = elim (cases_lt 0 all.0) as (λ _. 0 < all.0) [ inl l ↦ l | inr l ↦ absurd (both_ways (same_point p q) apart (no_step p q all.0 common l)) ] in
    record { steps = steps_of p q all.0; some = some; leads = leads p q all.0 some common }

-- where the common divisor of an edge's steps is no greater than the unit of all steps, no place lies inside it
pub none_inside : (points : List (List ℤ)) (unit a b g : ℕ) → AreApart points → AreInSteps unit points → a < length points → b < length points → a ≢ b →
    IsCommonStep (point_at points a) (point_at points b) g → g ≤ unit → HasNone points (a, b)
unfolding steps_of
none_inside points unit a b g apart steps la lb differ common low v lv = false_from_ne_true (is_inside points a b v) (λ inside.
    let p = point_at points a in
    let q = point_at points b in
    let some : 0 < g = elim (cases_lt 0 g) as (λ _. 0 < g) [ inl l ↦ l | inr l ↦ absurd (differ (apart.apart a b la lb (no_step p q g common l))) ] in
    let s = steps_of p q g in
    let h = leads p q g some common in
    let i = inner points a b s some h apart la lb v lv inside in
    let whole = unit_divides unit g (common.most unit (steps.each a b la lb).x (steps.each a b la lb).y (steps.each a b la lb).z) some low in
    let size : ℕ → ℕ = λ j. unsigned_abs (coordinate_of s.step j) in
    let times : (j : ℕ) → coordinate_of (point_at points v) j -ℤ coordinate_of p j ≡ pos i.steps *ℤ coordinate_of s.step j → unit ∣ step_on p (point_at points v) j →
    g ∣ i.steps * size j = λ j e d.
    subst (λ t. g ∣ t) (ap unsigned_abs e ∙ unsigned_abs-mul (pos i.steps) (coordinate_of s.step j)) (subst (λ t. t ∣ step_on p (point_at points v) j) (sym whole) d) in
    let all = steps.each a v la lv in
    let divides : g ∣ i.steps =
    times_none i.steps (size 0) (size 1) (size 2) h.least g (times 0 i.stands.x all.x) (times 1 i.stands.y all.y) (times 2 i.stands.z all.z) in
    omega (arith, le_of_dvd i.more divides, i.less))
  where
    unit_divides : (unit g : ℕ) → unit ∣ g → 0 < g → g ≤ unit → g ≡ unit
    unit_divides unit g d some low = omega (arith, le_of_dvd some d, low)

-- the edges of triangles that are read one by one
pub edges_more : (ts : List (List ℕ)) (i : ℕ) (t : List ℕ) → i < length ts → t ≡ get_or ts i t →
    all_edges (triples_of (take (i + 1) ts)) ≡ all_edges (triples_of (take i ts)) ++ edges (triple_of t)
edges_more ts i t low is =
    let more : take (i + 1) ts ≡ take i ts ++ t ∷ [] = take_more ts i t low ∙ ap (λ x. take i ts ++ x ∷ []) (sym is) in
    ap (λ l. all_edges (triples_of l)) more ∙ ap all_edges (map-append triple_of (take i ts) (t ∷ [])) ∙ flat_map-append edges (triples_of (take i ts)) (triple_of t ∷ [])
    ∙ ap (λ l. all_edges (triples_of (take i ts)) ++ l) (append-nil (edges (triple_of t)))

pub edges_all : (ts : List (List ℕ)) (i : ℕ) → length ts ≤ i → all_edges (triples_of (take i ts)) ≡ all_edges (triples_of ts)
edges_all ts i high = ap (λ l. all_edges (triples_of l)) (take_all i ts high)

-- the places of a triangle that is read
pub below_at : (n : ℕ) (ts : List (List ℕ)) (i : ℕ) (t : List ℕ) → All (IsBelow n) (triples_of ts) → i < length ts → t ≡ get_or ts i t → IsBelow n (triple_of t)
below_at n ts i t all low is =
    subst (IsBelow n) (get_or-map triple_of ts i t (0, 0, 0) low ∙ ap triple_of (sym is)) (all i (0, 0, 0) (omega (arith, low, length-map ts triple_of)))

-- three edges that are added one by one
pub three_more : (seen : List (ℕ × ℕ)) (d e f : ℕ × ℕ) → ((seen ++ d ∷ []) ++ e ∷ []) ++ f ∷ [] ≡ seen ++ (d ∷ e ∷ f ∷ [])
three_more seen d e f = simp append_assoc
