-- The edges of regions so far, with those of one more edge of a chain.
use Rattle.std.proofs.Common.{arith, ◌≡◌, ℕ, ◌+◌, ◌<◌, ◌≤◌, ℤ, List, [], ◌∷◌, ◌++◌, get_or, length, map, take, sym, ap, subst, ◌∙◌, append-nil}
use Rattle.std.specs.List.{All, flat_map}
use Rattle.std.proofs.lemmas.List.{get_or-map, get_or_read, length-map, map-append, take_all, take_more}
use Rattle.std.proofs.lemmas.List.Concat.{flat_map-append}
use Rattle.std.proofs.lemmas.List.Elements.{All-append, All-cons, All-nil}
use Rattle.face_plane.specs.Planes.{Plane}
use Rattle.plane_chains.specs.EdgeBoxes.{pair_of}
use Rattle.plane_chains.specs.Nets.{IsStored, edge_list}
use Rattle.plane_chains.specs.declared.nets.LabelNumber.{LabelNumber}
use Rattle.sheet_terms.specs.Chains.{ChainEdge}
use Rattle.sheet_terms.specs.Numbers.{above_zero, border}
use Rattle.sheet_terms.specs.Regions.{edge_at}
use Rattle.plane_sheets.specs.declared.borders.RegionEdge.{RegionEdge}
use Rattle.plane_sheets.specs.declared.side_numbers.SideNumbers.{SideNumbers}
use Rattle.plane_sheets.specs.Dealt.{dealt_edges, edges_in}
use Rattle.plane_sheets.specs.Found.{AreCounted, AreWithin, HasCrossing, IsWithin}
use Rattle.plane_sheets.specs.Sides.{HasSums, all_held, left_sum_of, lefts, right_sum_of, rights}
use Rattle.plane_sheets.proofs.Bordering.{IsRead, border_step, no_edge}
use Rattle.plane_sheets.proofs.Levels.{all_dealt, edges_in-append}

-- the edges of a label and a level
pub border_more : (most : ℕ) (at : Plane) (es : List (ℕ × ℕ)) (nets : List (List LabelNumber)) (e : ℕ) (near : List ℕ) (ss : List SideNumbers) (v w a b : ℕ)
    (old new : List RegionEdge) →
    e < length es → HasCrossing at es e near → HasSums nets (left_sum_of at es nets e near) v (lefts ss) → HasSums nets (right_sum_of at es nets e near) w (rights ss) →
    a ≡ (get_or es e (0, 0)).0 → b ≡ (get_or es e (0, 0)).1 →
    new ≡ old ++ dealt_edges most a b (above_zero (all_held (lefts ss))) (above_zero (all_held (rights ss))) ss →
    (labels : List (List ℕ)) (cs : List ChainEdge) → IsRead cs es nets →
    AreCounted labels cs → (j k : ℕ) → j < length labels → 0 < k → k ≤ most → edges_in j k old ≡ flat_map (edge_at j k) (map (border at labels cs) (take e cs)) →
    edges_in j k new ≡ flat_map (edge_at j k) (map (border at labels cs) (take (e + 1) cs))
border_more most at es nets e near ss v w a b old new below found left right from to grown labels cs stored counted j k label some few before =
    let x = above_zero (all_held (lefts ss)) in
    let y = above_zero (all_held (rights ss)) in
    let count : length es ≡ length cs = ap (λ l. length l) stored.edges ∙ length-map cs (λ (c : ChainEdge). c.edge) in
    let inside : e < length cs = omega (arith, below, count) in
    let step = border_step most at labels cs es nets e near ss v w j k stored counted inside found left right label some few in
    let one = border at labels cs (get_or cs e no_edge) in
    ap (edges_in j k) grown ∙ edges_in-append j k old (dealt_edges most a b x y ss) ∙ ap (λ l. l ++ edges_in j k (dealt_edges most a b x y ss)) before
    ∙ ap (λ n. flat_map (edge_at j k) (map (border at labels cs) (take e cs)) ++ edges_in j k (dealt_edges most n b x y ss)) from
    ∙ ap (λ n. flat_map (edge_at j k) (map (border at labels cs) (take e cs)) ++ edges_in j k (dealt_edges most (get_or es e (0, 0)).0 n x y ss)) to
    ∙ ap (λ l. flat_map (edge_at j k) (map (border at labels cs) (take e cs)) ++ l) (step ∙ sym (append-nil (edge_at j k one)))
    ∙ sym (ap (λ l. flat_map (edge_at j k) (map (border at labels cs) l)) (take_more cs e no_edge inside)
    ∙ ap (flat_map (edge_at j k)) (map-append (border at labels cs) (take e cs) (get_or cs e no_edge ∷ []))
    ∙ flat_map-append (edge_at j k) (map (border at labels cs) (take e cs)) (one ∷ []))

-- all edges have labels and levels that there are
pub within_more : (most : ℕ) (nets : List (List LabelNumber)) (f : ℕ → ℤ) (v a b x y : ℕ) (ss : List SideNumbers) (old new : List RegionEdge) → HasSums nets f v (lefts ss) →
    new ≡ old ++ dealt_edges most a b x y ss → AreWithin most nets old → AreWithin most nets new
within_more most nets f v a b x y ss old new s grown before n few =
    subst (All (IsWithin n most)) (sym grown) (All-append (IsWithin n most) old (dealt_edges most a b x y ss) (before n few)
    (all_dealt (IsWithin n most) (λ l. l < n) most a b x y ss (s.below n few)
    (λ l i h below. record { label = h; low = omega arith; high = omega (arith, below) }) (λ l i h below. record { label = h; low = omega arith; high = omega (arith, below) })))

-- and ends among the places
pub places_more : (most n a b x y : ℕ) (ss : List SideNumbers) (old new : List RegionEdge) → a < n → b < n → new ≡ old ++ dealt_edges most a b x y ss →
    All (λ e. All (λ v. v < n) e.ends) old →
    All (λ e. All (λ v. v < n) e.ends) new
places_more most n a b x y ss old new from to grown before =
    let inside : RegionEdge → Type 0 = λ e. All (λ v. v < n) e.ends in
    let two : (c d : ℕ) → c < n → d < n → All (λ v. v < n) (c ∷ d ∷ []) = λ c d h l. All-cons (λ v. v < n) c (d ∷ []) h (All-cons (λ v. v < n) d [] l (All-nil (λ v. v < n))) in
    subst (All inside) (sym grown) (All-append inside old (dealt_edges most a b x y ss) before
    (all_dealt inside (λ l. Unit {0}) most a b x y ss (λ k d h. tt) (λ l i h below. two a b from to) (λ l i h below. two b a to from)))

-- the ends of an edge, read as a pair
pub end_read : (rows : List (List ℕ)) (e : ℕ) (ends : List ℕ) → e < length rows → ends ≡ get_or rows e ends → pair_of ends ≡ get_or (map pair_of rows) e (0, 0)
end_read rows e ends below is = ap pair_of (get_or_read rows e ends below is []) ∙ sym (get_or-map pair_of rows e [] (0, 0) below)

-- and where they are among the places
pub end_inside : (rows used : List (List ℕ)) (n e i : ℕ) (ends : List ℕ) → i < 2 → e < length rows → ends ≡ get_or rows e ends → used ≡ rows → All (λ v. v < n) (get_or used e []) →
    length (get_or used e []) ≡ 2 → get_or ends i 0 < n
end_inside rows used n e i ends low below is same inside two =
    let own : get_or used e [] ≡ ends = ap (λ (l : List (List ℕ)). get_or l e []) same ∙ sym (get_or_read rows e ends below is []) in
    subst (λ (l : List ℕ). get_or l i 0 < n) own (inside i 0 (omega (arith, low, two)))

-- all of a chain
pub border_all : (at : Plane) (labels : List (List ℕ)) (cs : List ChainEdge) (rows : List (List ℕ)) (nets : List (List LabelNumber)) (j k n : ℕ) (found : List RegionEdge) →
    IsStored cs rows nets →
    length rows ≤ n → edges_in j k found ≡ flat_map (edge_at j k) (map (border at labels cs) (take n cs)) →
    edges_in j k found ≡ flat_map (edge_at j k) (map (border at labels cs) cs)
border_all at labels cs rows nets j k n found stored end so_far =
    let count : length rows ≡ length cs = ap (λ (l : List (List ℕ)). length l) stored.edges ∙ length-map cs (λ (c : ChainEdge). edge_list c.edge) in
    so_far ∙ ap (λ l. flat_map (edge_at j k) (map (border at labels cs) l)) (take_all n cs (omega (arith, end, count)))
