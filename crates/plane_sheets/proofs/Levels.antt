-- The edges of one label and level among those that are dealt out.
use Rattle.std.proofs.Common.{arith, ◌≡◌, ℕ, zero, suc, ◌+◌, ◌-◌, ◌<◌, ◌≤◌, ◌==◌, ◌&&◌, min, ℤ, List, [], ◌∷◌, ◌++◌, Bool, true, false, cond, filter, map, nat_le, nat_lt, refl, sym, ap, ◌∙◌, inl, inr, append-nil}
use Rattle.std.specs.List.{All}
use Rattle.std.proofs.lemmas.Bool.{cases_eq, cases_lt, eq-eqb, ne_eqb, lt-ltb, le-ltb, le-leb, lt-leb}
use Rattle.std.proofs.lemmas.List.{map-append}
use Rattle.std.proofs.lemmas.List.Elements.{All-append, All-cons, All-head, All-nil, All-tail, filter-append}
use Rattle.chain_terms.specs.Sums.{up_from}
use Rattle.plane_chains.specs.EdgeBoxes.{pair_of}
use Rattle.sheet_terms.specs.Numbers.{above_zero}
use Rattle.plane_sheets.specs.declared.borders.RegionEdge.{RegionEdge}
use Rattle.plane_sheets.specs.declared.side_numbers.SideNumbers.{SideNumbers}
use Rattle.plane_sheets.specs.Dealt.{dealt_edges, edges_in, levels, run, share}
use Rattle.plane_sheets.specs.Sides.{RiseFrom, lefts, rights}
use Rattle.plane_sheets.proofs.Shares.{share_later, share_here}

-- those of two lists
pub edges_in-append : (j k : ℕ) (xs ys : List RegionEdge) → edges_in j k (xs ++ ys) ≡ edges_in j k xs ++ edges_in j k ys
edges_in-append j k xs ys =
    ap (map (λ (e : RegionEdge). pair_of e.ends)) (filter-append (λ (e : RegionEdge). (e.label == j) && (e.level == k)) xs ys)
    ∙ map-append (λ (e : RegionEdge). pair_of e.ends) (filter (λ (e : RegionEdge). (e.label == j) && (e.level == k)) xs)
    (filter (λ (e : RegionEdge). (e.label == j) && (e.level == k)) ys)

-- an edge where a test holds
abbrev pub one_edge : Bool → ℕ × ℕ → List (ℕ × ℕ)
one_edge b e = cond b (e ∷ []) []

-- one edge in front
in_front : (j k : ℕ) (e : RegionEdge) (es : List RegionEdge) → edges_in j k (e ∷ es) ≡ one_edge ((e.label == j) && (e.level == k)) (pair_of e.ends) ++ edges_in j k es
in_front j k e es = front ((e.label == j) && (e.level == k)) e (filter (λ (e : RegionEdge). (e.label == j) && (e.level == k)) es)
  where
    front : (b : Bool) (e : RegionEdge) (fs : List RegionEdge) →
        map (λ (e : RegionEdge). pair_of e.ends) (cond b (e ∷ fs) fs) ≡ one_edge b (pair_of e.ends) ++ map (λ (e : RegionEdge). pair_of e.ends) fs
    front true e fs = refl
    front false e fs = refl

-- a run of another label has none
pub run_other : (j k l low n : ℕ) (e : List ℕ) → (l ≡ j → ⊥) → edges_in j k (map (λ i. record { label = l; level = i + 1; ends = e }) (up_from low n)) ≡ []
run_other j k l low zero e d = refl
run_other j k l low (suc n) e d =
    in_front j k (record { label = l; level = low + 1; ends = e }) (map (λ i. record { label = l; level = i + 1; ends = e }) (up_from (suc low) n))
    ∙ ap (λ b. one_edge (b && (low + 1 == k)) (pair_of e) ++ edges_in j k (map (λ i. record { label = l; level = i + 1; ends = e }) (up_from (suc low) n))) (ne_eqb l j d)
    ∙ run_other j k l (suc low) n e d

-- tests of an order are the same where the orders are
same_lt : (a b c d : ℕ) → (a < b → c < d) → (c < d → a < b) → nat_lt a b ≡ nat_lt c d
same_lt a b c d f g = elim (cases_lt a b) as (λ _. nat_lt a b ≡ nat_lt c d) [
  | inl low ↦ lt-ltb a b low ∙ sym (lt-ltb c d (f low))
  | inr high ↦ le-ltb a b high ∙ sym (elim (cases_lt c d) as (λ _. nat_lt c d ≡ false) [
    | inl l ↦ absurd (omega (arith, g l, high))
    | inr h ↦ le-ltb c d h
  ])
]

-- a run of the label has one at each of its levels
pub run_same : (j k low n : ℕ) (e : List ℕ) →
    edges_in j k (map (λ i. record { label = j; level = i + 1; ends = e }) (up_from low n)) ≡ one_edge (nat_lt low k && nat_le k (low + n)) (pair_of e)
run_same j k low zero e = elim (cases_lt low k) as (λ _. [] ≡ one_edge (nat_lt low k && nat_le k (low + 0)) (pair_of e)) [
  | inl l ↦ sym (ap (λ b. one_edge (nat_lt low k && b) (pair_of e)) (lt-leb k (low + 0) (omega (arith, l))) ∙ never (nat_lt low k) (pair_of e))
  | inr h ↦ sym (ap (λ b. one_edge (b && nat_le k (low + 0)) (pair_of e)) (le-ltb low k h))
]
  where
    never : (b : Bool) (e : ℕ × ℕ) → one_edge (b && false) e ≡ []
    never true e = refl
    never false e = refl
run_same j k low (suc n) e =
    let rest : List RegionEdge = map (λ (i : ℕ). record { label = j; level = i + 1; ends = e }) (up_from (suc low) n) in
    in_front j k (record { label = j; level = low + 1; ends = e }) rest
    ∙ ap (λ b. one_edge (b && (low + 1 == k)) (pair_of e) ++ edges_in j k rest) (eq-eqb j j refl)
    ∙ ap (λ l. one_edge (low + 1 == k) (pair_of e) ++ l) (run_same j k (suc low) n e)
    ∙ (elim (cases_eq (low + 1) k) as (λ _. one_edge (low + 1 == k) (pair_of e) ++ one_edge (nat_lt (suc low) k && nat_le k (suc low + n)) (pair_of e)
    ≡ one_edge (nat_lt low k && nat_le k (low + suc n)) (pair_of e)) [
      | inl same ↦
          ap (λ b. one_edge b (pair_of e) ++ one_edge (nat_lt (suc low) k && nat_le k (suc low + n)) (pair_of e)) (eq-eqb (low + 1) k same)
          ∙ ap (λ b. pair_of e ∷ one_edge (b && nat_le k (suc low + n)) (pair_of e)) (le-ltb (suc low) k (omega (arith, same)))
          ∙ sym (ap (λ b. one_edge (b && nat_le k (low + suc n)) (pair_of e)) (lt-ltb low k (omega (arith, same)))
          ∙ ap (λ b. one_edge b (pair_of e)) (le-leb k (low + suc n) (omega (arith, same))))
      | inr other ↦
          let shift : suc low + n ≡ low + suc n = omega arith in
          ap (λ b. one_edge b (pair_of e) ++ one_edge (nat_lt (suc low) k && nat_le k (suc low + n)) (pair_of e)) (ne_eqb (low + 1) k other)
          ∙ ap (λ b. one_edge (b && nat_le k (suc low + n)) (pair_of e)) (same_lt (suc low) k low k (λ l. omega (arith, l)) (λ l. omega (arith, l, other)))
          ∙ ap (λ m. one_edge (nat_lt low k && nat_le k m) (pair_of e)) shift
    ])

-- the edge where at least k sheets lie at one side and fewer at the other
abbrev pub edge_by : ℕ → ℕ → ℕ → ℕ → ℕ → List (ℕ × ℕ)
edge_by k x y a b = cond (nat_le k x && nat_lt y k) ((a, b) ∷ []) (cond (nat_le k y && nat_lt x k) ((b, a) ∷ []) [])

-- runs cut off at a level that is not above the most
run_cut : (j k most low high : ℕ) (e : List ℕ) → k ≤ most → edges_in j k (run j (min low most) (min high most) e) ≡ one_edge (nat_le k high && nat_lt low k) (pair_of e)
run_cut j k most low high e few =
    run_same j k (min low most) (min high most - min low most) e
    ∙ ap (λ b. one_edge (b && nat_le k (min low most + (min high most - min low most))) (pair_of e))
    (same_lt (min low most) k low k (λ l. omega (arith, l, few)) (λ l. omega (arith, l)))
    ∙ (elim (cases_lt low k) as (λ _. one_edge (nat_lt low k && nat_le k (min low most + (min high most - min low most))) (pair_of e)
    ≡ one_edge (nat_le k high && nat_lt low k) (pair_of e)) [
      | inr h ↦ ap (λ b. one_edge (b && nat_le k (min low most + (min high most - min low most))) (pair_of e)) (le-ltb low k h)
          ∙ sym (ap (λ b. one_edge (nat_le k high && b) (pair_of e)) (le-ltb low k h) ∙ never (nat_le k high) (pair_of e))
      | inl l ↦
          ap (λ b. one_edge (b && nat_le k (min low most + (min high most - min low most))) (pair_of e)) (lt-ltb low k l)
          ∙ (elim (cases_lt high k) as (λ _. one_edge (nat_le k (min low most + (min high most - min low most))) (pair_of e)
          ≡ one_edge (nat_le k high && nat_lt low k) (pair_of e)) [
            | inl less ↦ ap (λ b. one_edge b (pair_of e)) (lt-leb k (min low most + (min high most - min low most)) (omega (arith, less, l)))
                ∙ sym (ap (λ b. one_edge (b && nat_lt low k) (pair_of e)) (lt-leb k high less))
            | inr more ↦ ap (λ b. one_edge b (pair_of e)) (le-leb k (min low most + (min high most - min low most)) (omega (arith, more, l, few)))
                ∙ sym (ap (λ b. one_edge (b && nat_lt low k) (pair_of e)) (le-leb k high more) ∙ ap (λ b. one_edge b (pair_of e)) (lt-ltb low k l))
          ])
    ])
  where
    never : (b : Bool) (e : ℕ × ℕ) → one_edge (b && false) e ≡ []
    never true e = refl
    never false e = refl

-- of two tests that don't both hold one alone may tell an edge
one_of : (p q : Bool) (d e : ℕ × ℕ) → (p ≡ true → q ≡ false) → one_edge p d ++ one_edge q e ≡ cond p (d ∷ []) (cond q (e ∷ []) [])
one_of true q d e h = ap (λ b. d ∷ one_edge b e) (h refl)
one_of false true d e h = refl
one_of false false d e h = refl

false_not_true : (b : Bool) → (false && b) ≡ true → ⊥
false_not_true b h = cc

and_false : (b : Bool) → (b && false) ≡ false
and_false true = refl
and_false false = refl

one_side : (k x y : ℕ) → (nat_le k x && nat_lt y k) ≡ true → (nat_le k y && nat_lt x k) ≡ false
one_side k x y h = elim (cases_lt x k) as (λ _. (nat_le k y && nat_lt x k) ≡ false) [
  | inl less ↦ absurd (false_not_true (nat_lt y k) (ap (λ b. b && nat_lt y k) (sym (lt-leb k x less)) ∙ h))
  | inr more ↦ ap (λ b. nat_le k y && b) (le-ltb x k more) ∙ and_false (nat_le k y)
]

-- both runs of an edge
pub levels_same : (j k most x y a b : ℕ) → k ≤ most → edges_in j k (levels j (min x most) (min y most) a b) ≡ edge_by k x y a b
levels_same j k most x y a b few =
    edges_in-append j k (run j (min y most) (min x most) (a ∷ b ∷ [])) (run j (min x most) (min y most) (b ∷ a ∷ []))
    ∙ ap (λ l. l ++ edges_in j k (run j (min x most) (min y most) (b ∷ a ∷ []))) (run_cut j k most y x (a ∷ b ∷ []) few)
    ∙ ap (λ l. one_edge (nat_le k x && nat_lt y k) (a, b) ++ l) (run_cut j k most x y (b ∷ a ∷ []) few)
    ∙ one_of (nat_le k x && nat_lt y k) (nat_le k y && nat_lt x k) (a, b) (b, a) (one_side k x y)

pub levels_other : (j k l x y a b : ℕ) → (l ≡ j → ⊥) → edges_in j k (levels l x y a b) ≡ []
levels_other j k l x y a b d =
    edges_in-append j k (run l y x (a ∷ b ∷ [])) (run l x y (b ∷ a ∷ []))
    ∙ ap (λ m. m ++ edges_in j k (run l x y (b ∷ a ∷ []))) (run_other j k l y (x - y) (a ∷ b ∷ []) d) ∙ run_other j k l x (y - x) (b ∷ a ∷ []) d

-- before the first label there is none
dealt_none : (most a b left right j k s : ℕ) (ss : List SideNumbers) → j < s → RiseFrom s (lefts ss) → edges_in j k (dealt_edges most a b left right ss) ≡ []
dealt_none most a b left right j k s [] h r = refl
dealt_none most a b left right j k s (t ∷ ss) h r =
    let low = r.0 in
    let x = min left (above_zero t.left) in
    let y = min right (above_zero t.right) in
    edges_in-append j k (levels t.label (min x most) (min y most) a b) (dealt_edges most a b (left - x) (right - y) ss)
    ∙ ap (λ l. l ++ edges_in j k (dealt_edges most a b (left - x) (right - y) ss)) (levels_other j k t.label (min x most) (min y most) a b (λ q. omega (arith, h, low, q)))
    ∙ dealt_none most a b (left - x) (right - y) j k (suc t.label) ss (omega (arith, h, low)) r.1

-- the edges of a label and a level among those that are dealt out
pub dealt_class : (most a b left right j k s : ℕ) (ss : List SideNumbers) → 0 < k → k ≤ most → RiseFrom s (lefts ss) →
    edges_in j k (dealt_edges most a b left right ss) ≡ edge_by k (share left (lefts ss) j) (share right (rights ss) j) a b
dealt_class most a b left right j k s [] some few r = sym (none k a b some)
  where
    none : (k a b : ℕ) → 0 < k → edge_by k 0 0 a b ≡ []
    none k a b h =
        ap (λ t. cond (t && nat_lt 0 k) ((a, b) ∷ []) (cond (nat_le k 0 && nat_lt 0 k) ((b, a) ∷ []) [])) (lt-leb k 0 h)
        ∙ ap (λ t. cond (t && nat_lt 0 k) ((b, a) ∷ []) []) (lt-leb k 0 h)
dealt_class most a b left right j k s (t ∷ ss) some few r =
    let x = min left (above_zero t.left) in
    let y = min right (above_zero t.right) in
    let rest = dealt_edges most a b (left - x) (right - y) ss in
    edges_in-append j k (levels t.label (min x most) (min y most) a b) rest
    ∙ (elim (cases_eq t.label j) as (λ _. edges_in j k (levels t.label (min x most) (min y most) a b) ++ edges_in j k rest
    ≡ edge_by k (share left (lefts (t ∷ ss)) j) (share right (rights (t ∷ ss)) j) a b) [
      | inl e ↦
          ap (λ l. edges_in j k (levels l (min x most) (min y most) a b) ++ edges_in j k rest) e
          ∙ ap (λ l. l ++ edges_in j k rest) (levels_same j k most x y a b few)
          ∙ ap (λ l. edge_by k x y a b ++ l) (dealt_none most a b (left - x) (right - y) j k (suc t.label) ss (omega (arith, e)) r.1)
          ∙ append-nil (edge_by k x y a b)
          ∙ sym (ap (λ z. edge_by k z (share right (rights (t ∷ ss)) j) a b) (share_here left j (t.label, t.left) (lefts ss) e)
          ∙ ap (λ z. edge_by k x z a b) (share_here right j (t.label, t.right) (rights ss) e))
      | inr d ↦
          ap (λ l. l ++ edges_in j k rest) (levels_other j k t.label (min x most) (min y most) a b d)
          ∙ dealt_class most a b (left - x) (right - y) j k (suc t.label) ss some few r.1
          ∙ sym (ap (λ z. edge_by k z (share right (rights (t ∷ ss)) j) a b) (share_later left j (t.label, t.left) (lefts ss) d)
          ∙ ap (λ z. edge_by k (share (left - x) (lefts ss) j) z a b) (share_later right j (t.label, t.right) (rights ss) d))
    ])

-- a fact of all edges of a run, and of all that are dealt out
pub all_run : (P : RegionEdge → Type 0) (l low n : ℕ) (e : List ℕ) → ((i : ℕ) → low ≤ i → i < low + n → P (record { label = l; level = i + 1; ends = e })) →
    All P (map (λ i. record { label = l; level = i + 1; ends = e }) (up_from low n))
all_run P l low zero e h = All-nil P
all_run P l low (suc n) e h =
    All-cons P (record { label = l; level = low + 1; ends = e }) (map (λ i. record { label = l; level = i + 1; ends = e }) (up_from (suc low) n))
    (h low (omega arith) (omega arith))
    (all_run P l (suc low) n e (λ i a b. h i (omega (arith, a)) (omega (arith, b))))

pub all_dealt : (P : RegionEdge → Type 0) (L : ℕ → Type 0) (most a b left right : ℕ) (ss : List SideNumbers) → All (λ p. L p.0) (lefts ss) →
    ((l i : ℕ) → L l → i < most → P (record { label = l; level = i + 1; ends = a ∷ b ∷ [] })) →
    ((l i : ℕ) → L l → i < most → P (record { label = l; level = i + 1; ends = b ∷ a ∷ [] })) →
    All P (dealt_edges most a b left right ss)
all_dealt P L most a b left right [] few f g = All-nil P
all_dealt P L most a b left right (t ∷ ss) few f g =
    let x = min left (above_zero t.left) in
    let y = min right (above_zero t.right) in
    let own : L t.label = All-head (λ (p : ℕ × ℤ). L p.0) (t.label, t.left) (lefts ss) few in
    All-append P (levels t.label (min x most) (min y most) a b) (dealt_edges most a b (left - x) (right - y) ss)
    (All-append P (run t.label (min y most) (min x most) (a ∷ b ∷ [])) (run t.label (min x most) (min y most) (b ∷ a ∷ []))
    (all_run P t.label (min y most) (min x most - min y most) (a ∷ b ∷ []) (λ i l h. f t.label i own (omega (arith, l, h))))
    (all_run P t.label (min x most) (min y most - min x most) (b ∷ a ∷ []) (λ i l h. g t.label i own (omega (arith, l, h)))))
    (all_dealt P L most a b (left - x) (right - y) ss (All-tail (λ (p : ℕ × ℤ). L p.0) (t.label, t.left) (lefts ss) few) f g)
