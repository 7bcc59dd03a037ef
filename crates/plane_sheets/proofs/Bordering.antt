-- The edges that are dealt out at an edge of a chain are those of the definition's border.
use Rattle.std.proofs.Common.{arith, ◌≡◌, ℕ, zero, suc, ◌+◌, ◌<◌, ◌≤◌, ℤ, pos, ◌+ℤ◌, ◌-ℤ◌, ◌*ℤ◌, List, [], ◌∷◌, ◌++◌, true, cond, get_or, length, map, refl, sym, ap, subst, ◌∙◌, inl, inr}
use Rattle.std.specs.List.{All}
use Rattle.std.specs.Ordering.{int_eq}
use Rattle.std.proofs.lemmas.Int.{ints}
use Rattle.std.proofs.lemmas.Bool.{cases_Bool, eq-eqb, ne_eqb}
use Rattle.std.proofs.lemmas.List.{get_or-map, length-map}
use Rattle.std.proofs.lemmas.List.Elements.{All-cons, All-map, All-nil, All-weaker}
use Rattle.chain_terms.specs.Sums.{total, upto}
use Rattle.chain_laws.proofs.Places.{total-places, total-upto_same}
use Rattle.face_plane.specs.Planes.{Plane}
use Rattle.plane_chains.specs.EdgeBoxes.{pair_of}
use Rattle.plane_chains.specs.Nets.{IsStored, edge_list, nonzero, nonzero_from}
use Rattle.plane_chains.specs.declared.nets.LabelNumber.{LabelNumber}
use Rattle.sheet_terms.specs.Chains.{ChainEdge}
use Rattle.sheet_terms.specs.Numbers.{above_zero, border, crossing, dealt, differences, left_number, sheets}
use Rattle.sheet_terms.specs.Regions.{edge_at}
use Rattle.plane_sheets.specs.declared.side_numbers.SideNumbers.{SideNumbers}
use Rattle.plane_sheets.specs.Dealt.{dealt_edges, edges_in, share}
use Rattle.plane_sheets.specs.Found.{AreCounted, HasCrossing}
use Rattle.plane_sheets.specs.Sides.{AreBelow, HasSums, all_held, crosses, held, left_sum_of, lefts, listed, right_sum_of, rights}
use Rattle.plane_sheets.proofs.Levels.{dealt_class, edge_by}
use Rattle.plane_sheets.proofs.Shares.{all_listed, differences-map, map-up_from_same, shares}

-- the edge that is read where there is none
abbrev pub no_edge : ChainEdge
no_edge = record { edge = (0, 0); counts = [] }

-- what is stored of a chain, its edges read as pairs
pub record IsRead (cs : List ChainEdge) (es : List (ℕ × ℕ)) (ns : List (List LabelNumber)) : Type 0 where
  pub edges : es ≡ map (λ c. c.edge) cs
  pub nets : ns ≡ map (λ c. nonzero c.counts) cs

pub as_read : (cs : List ChainEdge) (rows : List (List ℕ)) (nets : List (List LabelNumber)) → IsStored cs rows nets → IsRead cs (map pair_of rows) nets
as_read cs rows nets stored = record { edges = ap (map pair_of) stored.edges ∙ pairs cs; nets = stored.nets }
  where
    pairs : (cs : List ChainEdge) → map pair_of (map (λ c. edge_list c.edge) cs) ≡ map (λ c. c.edge) cs
    pairs [] = refl
    pairs (c ∷ cs) = ap (λ l. c.edge ∷ l) (pairs cs)

-- a number that is 0
is_zero : (n : ℤ) → int_eq n (pos 0) ≡ true → n ≡ pos 0
is_zero n h = grind (arith, ints, h)

-- labels before the first have no listed number
listed_none : (j s : ℕ) (ns : List ℤ) → j < s → listed (nonzero_from s ns) j ≡ pos 0
unfolding nonzero_from
listed_none j s [] h = refl
listed_none j s (n ∷ ns) h = elim (cases_Bool (int_eq n (pos 0))) as (λ _. listed (nonzero_from s (n ∷ ns)) j ≡ pos 0) [
  | inl nothing ↦ ap (λ b. listed (cond b [] (record { label = s; number = n } ∷ []) ++ nonzero_from (suc s) ns) j) nothing ∙ listed_none j (suc s) ns (omega (arith, h))
  | inr some ↦
      ap (λ b. listed (cond b [] (record { label = s; number = n } ∷ []) ++ nonzero_from (suc s) ns) j) some
      ∙ ap (λ b. cond b n (pos 0) +ℤ listed (nonzero_from (suc s) ns) j) (ne_eqb s j (λ e. omega (arith, e, h)))
      ∙ ap (λ z. pos 0 +ℤ z) (listed_none j (suc s) ns (omega (arith, h)))
]

-- the others have theirs
listed_at : (k s : ℕ) (ns : List ℤ) → listed (nonzero_from s ns) (s + k) ≡ get_or ns k (pos 0)
unfolding nonzero_from
listed_at k s [] = refl
listed_at zero s (n ∷ ns) = elim (cases_Bool (int_eq n (pos 0))) as (λ _. listed (nonzero_from s (n ∷ ns)) (s + 0) ≡ n) [
  | inl nothing ↦ ap (λ b. listed (cond b [] (record { label = s; number = n } ∷ []) ++ nonzero_from (suc s) ns) (s + 0)) nothing
      ∙ listed_none (s + 0) (suc s) ns (omega arith) ∙ sym (is_zero n nothing)
  | inr some ↦
      ap (λ b. listed (cond b [] (record { label = s; number = n } ∷ []) ++ nonzero_from (suc s) ns) (s + 0)) some
      ∙ ap (λ b. cond b n (pos 0) +ℤ listed (nonzero_from (suc s) ns) (s + 0)) (eq-eqb s (s + 0) (omega arith))
      ∙ ap (λ z. n +ℤ z) (listed_none (s + 0) (suc s) ns (omega arith)) ∙ alone n
]
  where
    alone : (n : ℤ) → n +ℤ pos 0 ≡ n
    alone n = omega (arith, ints)
listed_at (suc k) s (n ∷ ns) =
    let shift : suc s + k ≡ s + suc k = omega arith in
    let rest : listed (nonzero_from (suc s) ns) (s + suc k) ≡ get_or ns k (pos 0) = ap (listed (nonzero_from (suc s) ns)) (sym shift) ∙ listed_at k (suc s) ns in
    elim (cases_Bool (int_eq n (pos 0))) as (λ _. listed (nonzero_from s (n ∷ ns)) (s + suc k) ≡ get_or ns k (pos 0)) [
      | inl nothing ↦ ap (λ b. listed (cond b [] (record { label = s; number = n } ∷ []) ++ nonzero_from (suc s) ns) (s + suc k)) nothing ∙ rest
      | inr some ↦
          ap (λ b. listed (cond b [] (record { label = s; number = n } ∷ []) ++ nonzero_from (suc s) ns) (s + suc k)) some
          ∙ ap (λ b. cond b n (pos 0) +ℤ listed (nonzero_from (suc s) ns) (s + suc k)) (ne_eqb s (s + suc k) (λ e. omega (arith, e)))
          ∙ ap (λ z. pos 0 +ℤ z) rest ∙ alone (get_or ns k (pos 0))
    ]
  where
    alone : (n : ℤ) → pos 0 +ℤ n ≡ n
    alone n = omega (arith, ints)

pub listed_nonzero : (ns : List ℤ) (k : ℕ) → listed (nonzero ns) k ≡ get_or ns k (pos 0)
listed_nonzero ns k = let shift : 0 + k ≡ k = omega arith in ap (listed (nonzero ns)) (sym shift) ∙ listed_at k 0 ns

-- and no other labels are listed
labels_within : (s m : ℕ) (ns : List ℤ) → s + length ns ≤ m → All (λ l. l.label < m) (nonzero_from s ns)
unfolding nonzero_from
labels_within s m [] h = All-nil (λ (l : LabelNumber). l.label < m)
labels_within s m (n ∷ ns) h = elim (cases_Bool (int_eq n (pos 0))) as (λ _. All (λ l. l.label < m) (nonzero_from s (n ∷ ns))) [
  | inl nothing ↦ subst (λ b. All (λ l. l.label < m) (cond b [] (record { label = s; number = n } ∷ []) ++ nonzero_from (suc s) ns)) (sym nothing)
      (labels_within (suc s) m ns (omega (arith, h)))
  | inr some ↦
      subst (λ b. All (λ l. l.label < m) (cond b [] (record { label = s; number = n } ∷ []) ++ nonzero_from (suc s) ns)) (sym some)
      (All-cons (λ (l : LabelNumber). l.label < m) (record { label = s; number = n }) (nonzero_from (suc s) ns) (omega (arith, h)) (labels_within (suc s) m ns (omega (arith, h))))
]

pub stored_below : (labels : List (List ℕ)) (cs : List ChainEdge) (es : List (ℕ × ℕ)) (nets : List (List LabelNumber)) → IsRead cs es nets →
    AreCounted labels cs → AreBelow (length labels) nets
stored_below labels cs es nets stored counted =
    subst (AreBelow (length labels)) (sym stored.nets)
    (All-map (λ ns. All (λ (m : LabelNumber). m.label < length labels) ns) (λ (c : ChainEdge). nonzero c.counts) cs
    (All-weaker (λ (c : ChainEdge). length c.counts ≡ length labels) (λ c. All (λ (m : LabelNumber). m.label < length labels) (nonzero c.counts))
    (λ c e. labels_within 0 (length labels) c.counts (omega (arith, e))) cs counted))

-- the sums that were found are the definition's
module _ (at : Plane) (labels : List (List ℕ)) (cs : List ChainEdge) (es : List (ℕ × ℕ)) (nets : List (List LabelNumber)) (stored : IsRead cs es nets) where
  edge_stored : (i : ℕ) → i < length cs → get_or es i (0, 0) ≡ (get_or cs i no_edge).edge
  edge_stored i h = ap (λ l. get_or l i (0, 0)) stored.edges ∙ get_or-map (λ (c : ChainEdge). c.edge) cs i no_edge (0, 0) h

  net_stored : (i : ℕ) → i < length cs → get_or nets i [] ≡ nonzero (get_or cs i no_edge).counts
  net_stored i h = ap (λ l. get_or l i []) stored.nets ∙ get_or-map (λ (c : ChainEdge). nonzero c.counts) cs i no_edge [] h

  number_stored : (i k : ℕ) → i < length cs → listed (get_or nets i []) k ≡ get_or (get_or cs i no_edge).counts k (pos 0)
  number_stored i k h = ap (λ ns. listed ns k) (net_stored i h) ∙ listed_nonzero (get_or cs i no_edge).counts k

  left_is : (e : ℕ) (near : List ℕ) (k : ℕ) → e < length cs → HasCrossing at es e near → left_sum_of at es nets e near k ≡ left_number at cs (get_or cs e no_edge).edge k
  left_is e near k h found =
      let own = (get_or cs e no_edge).edge in
      let term : ChainEdge → ℤ = λ c. get_or c.counts k (pos 0) *ℤ crossing (at own.0) (at own.1) (at c.edge.0) (at c.edge.1) in
      let count : length es ≡ length cs = ap (λ l. length l) stored.edges ∙ length-map cs (λ (c : ChainEdge). c.edge) in
      let same : (i : ℕ) → i < length cs → listed (get_or nets i []) k *ℤ crosses at es e i ≡ term (get_or cs i no_edge) =
      λ i l. ap (λ z. z *ℤ crosses at es e i) (number_stored i k l)
      ∙ ap (λ (d : ℕ × ℕ). get_or (get_or cs i no_edge).counts k (pos 0) *ℤ crossing (at d.0) (at d.1) (at (get_or es i (0, 0)).0) (at (get_or es i (0, 0)).1)) (edge_stored e h)
      ∙ ap (λ (d : ℕ × ℕ). get_or (get_or cs i no_edge).counts k (pos 0) *ℤ crossing (at own.0) (at own.1) (at d.0) (at d.1)) (edge_stored i l) in
      found.sums (λ i. listed (get_or nets i []) k) ∙ ap (λ n. total (λ i. listed (get_or nets i []) k *ℤ crosses at es e i) (upto n)) count
      ∙ total-upto_same (λ i. listed (get_or nets i []) k *ℤ crosses at es e i) (λ i. term (get_or cs i no_edge)) (length cs) same ∙ sym (total-places term no_edge cs)

-- what a dealing to listed labels gives to label j
dealt_share : (n : ℕ) (f : ℕ → ℤ) (ps : List (ℕ × ℤ)) (nets : List (List LabelNumber)) (g : ℕ → ℤ) (w j : ℕ) → HasSums nets g w ps → AreBelow n nets →
    ((k : ℕ) → g k ≡ f k) → j < n →
    get_or (sheets (map f (upto n))) j 0 ≡ share (above_zero (all_held ps)) ps j
dealt_share n f ps nets g w j sums few same below =
    let numbers : map f (upto n) ≡ map (λ k. held k ps) (upto n) = map-up_from_same f (λ k. held k ps) 0 n (λ k l h. sym (sums.value k ∙ same k)) in
    let whole = all_listed n ps (sums.below n few) in
    let shift : 0 + j ≡ j = omega arith in
    ap (λ ns. get_or (sheets ns) j 0) numbers ∙ ap (λ t. get_or (dealt (above_zero t) (map (λ k. held k ps) (upto n))) j 0) whole
    ∙ shares n 0 (above_zero (all_held ps)) ps sums.rise j below ∙ ap (share (above_zero (all_held ps)) ps) shift

-- so an edge is one of the same regions
pub border_step : (most : ℕ) (at : Plane) (labels : List (List ℕ)) (cs : List ChainEdge) (es : List (ℕ × ℕ)) (nets : List (List LabelNumber)) (e : ℕ)
    (near : List ℕ) (ss : List SideNumbers)
    (v w j k : ℕ) → IsRead cs es nets → AreCounted labels cs → e < length cs → HasCrossing at es e near →
    HasSums nets (left_sum_of at es nets e near) v (lefts ss) → HasSums nets (right_sum_of at es nets e near) w (rights ss) → j < length labels → 0 < k → k ≤ most →
    edges_in j k (dealt_edges most (get_or es e (0, 0)).0 (get_or es e (0, 0)).1 (above_zero (all_held (lefts ss))) (above_zero (all_held (rights ss))) ss)
    ≡ edge_at j k (border at labels cs (get_or cs e no_edge))
border_step most at labels cs es nets e near ss v w j k stored counted inside found left right below some few =
    let c = get_or cs e no_edge in
    let n = length labels in
    let within = stored_below labels cs es nets stored counted in
    let number : ℕ → ℤ = left_number at cs c.edge in
    let is_left : (i : ℕ) → left_sum_of at es nets e near i ≡ number i = λ i. left_is at labels cs es nets stored e near i inside found in
    let is_right : (i : ℕ) → right_sum_of at es nets e near i ≡ number i -ℤ get_or c.counts i (pos 0) =
    λ i. ap (λ z. z -ℤ listed (get_or nets e []) i) (is_left i) ∙ ap (λ z. number i -ℤ z) (number_stored at labels cs es nets stored e i inside) in
    let long : length c.counts ≡ n = counted e no_edge inside in
    let fewer : differences (map number (upto n)) c.counts ≡ map (λ i. number i -ℤ get_or c.counts i (pos 0)) (upto n) =
    differences-map number (λ i. number i -ℤ get_or c.counts i (pos 0)) 0 n c.counts long
    (λ i h. let shift : 0 + i ≡ i = omega arith in ap (λ m. number (0 + i) -ℤ get_or c.counts m (pos 0)) shift) in
    let x = dealt_share n number (lefts ss) nets (left_sum_of at es nets e near) v j left within is_left below in
    let y = dealt_share n (λ i. number i -ℤ get_or c.counts i (pos 0)) (rights ss) nets (right_sum_of at es nets e near) w j right within is_right below in
    dealt_class most (get_or es e (0, 0)).0 (get_or es e (0, 0)).1 (above_zero (all_held (lefts ss))) (above_zero (all_held (rights ss))) j k 0 ss some few left.rise
    ∙ ap (λ (d : ℕ × ℕ). edge_by k (share (above_zero (all_held (lefts ss))) (lefts ss) j) (share (above_zero (all_held (rights ss))) (rights ss) j) d.0 d.1)
    (edge_stored at labels cs es nets stored e inside)
    ∙ ap (λ z. edge_by k z (share (above_zero (all_held (rights ss))) (rights ss) j) c.edge.0 c.edge.1) (sym x)
    ∙ ap (λ z. edge_by k (get_or (sheets (map number (upto n))) j 0) z c.edge.0 c.edge.1) (sym y)
    ∙ ap (λ ms. edge_by k (get_or (sheets (map number (upto n))) j 0) (get_or (sheets ms) j 0) c.edge.0 c.edge.1) (sym fewer)
