-- An edge is asked with the edges whose boxes touch its own: with the others it has no crossing.
use Rattle.std.proofs.Common.{◌≡◌, ◌∙◌, ℕ, zero, suc, ◌<◌, ◌+◌, ℤ, List, [], ◌∷◌, ◌++◌, Option, Some, None, false, Bool, length, get_or, take, refl, sym, ap, arith, subst, inl, inr, append-nil, append_assoc}
use Rattle.std.specs.List.{All, cons_option, filter, filter_map, flat_map}
use Rattle.std.proofs.lemmas.List.{get_or-map, length-map, take_more}
use Rattle.std.proofs.lemmas.List.Concat.{flat_map-append}
use Rattle.std.proofs.lemmas.Int.{ints}
use Rattle.std.proofs.lemmas.List.Elements.{All-cons, All-head, All-nil, All-tail, filter_map-append}
use Rattle.chain_terms.specs.Sums.{upto}
use Rattle.chain_laws.proofs.Places.{get_or-up_from, length-up_from, upto_more}
use Rattle.mb_base.specs.Boxes.{box_of}
use Rattle.mb_base.specs.declared.point.Corner.{Corner}
use Rattle.side_terms.specs.Boxes.{AreApart}
use Rattle.side_terms.specs.Corners.{AllFine, blank_corner, corner_at}
use Rattle.shadow_kernels.specs.ShadowLaws.{ShadowTest}
use Rattle.box_tree.specs.Touching.{box_at, no_box, touches, touching_numbers}
use Rattle.lean.proofs.Apart.{boxes_apart}
use Rattle.lean.proofs.Corners.{edge_fine}
use Rattle.box_tree.proofs.NearNumbers.{filter_map-filter}
use Rattle.outline_pair_terms.specs.declared.FlatHit.{FlatHit}
use Rattle.outline_pair_terms.specs.Numbers.{FlatSide, edge_at, ends_of, flat_hit, flat_hits_along}
use Rattle.cross_section.specs.Apart.{apart_back}
use Rattle.cross_section.specs.Sides.{IsFlatSide, IsLevel, edge_boxes}

-- as many boxes as edges
pub many_boxes : (side : FlatSide) → length (edge_boxes side) ≡ length side.edges
many_boxes side = length-map side.edges (λ (e : ℕ × ℕ). box_of (ends_of side e))

-- the box of an edge
pub edge_box : (side : FlatSide) (k : ℕ) → k < length side.edges → box_at (edge_boxes side) k ≡ box_of (ends_of side (edge_at side k))
edge_box side k below = get_or-map (λ (e : ℕ × ℕ). box_of (ends_of side e)) side.edges k (0, 0) no_box below

-- the corners of an edge are fine
pub ends_fine : (side : FlatSide) → IsFlatSide side → (e : ℕ × ℕ) → AllFine (ends_of side e)
ends_fine side is e = edge_fine side.corners is.fine e.0 e.1

-- corners at one height are not apart on z
level_at : (cs : List Corner) → All IsLevel cs → (i : ℕ) → IsLevel (corner_at cs i)
level_at [] h i = refl
level_at (c ∷ cs) h zero = All-head IsLevel c cs h
level_at (c ∷ cs) h (suc i) = level_at cs (All-tail IsLevel c cs h) i

pub ends_level : (side : FlatSide) → IsFlatSide side → (e : ℕ × ℕ) → All IsLevel (ends_of side e)
ends_level side is e =
    All-cons IsLevel (corner_at side.corners e.0) (corner_at side.corners e.1 ∷ []) (level_at side.corners is.level e.0)
    (All-cons IsLevel (corner_at side.corners e.1) [] (level_at side.corners is.level e.1) (All-nil IsLevel))

not_apart : (p q : List Corner) → 0 < length p → 0 < length q → All IsLevel p → All IsLevel q → AreApart 2 p q → ⊥
not_apart p q some others ps qs (inl h) = omega (arith, ints, h.below 0 blank_corner some 0 blank_corner others, ps 0 blank_corner some, qs 0 blank_corner others)
not_apart p q some others ps qs (inr h) = omega (arith, ints, h.below 0 blank_corner others 0 blank_corner some, ps 0 blank_corner some, qs 0 blank_corner others)

-- what is None where edges are apart on x or y
abbrev pub Separates : {X : Type 0} → X → (List Corner → List Corner → X) → Type 0
Separates none test = (p q : List Corner) (i : ℕ) → length p ≡ 2 → length q ≡ 2 → AllFine p → AllFine q → i < 2 → AreApart i p q → test p q ≡ none

-- is so with an edge whose box does not touch the other's
pub none_beyond : {X : Type 0} (none : X) (test : List Corner → List Corner → X) → Separates none test → (side : FlatSide) →
    IsFlatSide side → (p : List Corner) → length p ≡ 2 → AllFine p → All IsLevel p → (k : ℕ) → k < length side.edges →
    touches (box_at (edge_boxes side) k) (box_of p) ≡ false → test p (ends_of side (edge_at side k)) ≡ none
none_beyond none test apart side is p two fine level k below far =
    let q = ends_of side (edge_at side k) in
    let a = boxes_apart q p (omega arith) (omega (arith, two)) (subst (λ b. touches b (box_of p) ≡ false) (edge_box side k below) far) in
    by a.0 a.1 (apart_back a.0 q p a.2)
  where
    by : (i : ℕ) → i < 3 → AreApart i p (ends_of side (edge_at side k)) → test p (ends_of side (edge_at side k)) ≡ none
    by zero low h = apart p (ends_of side (edge_at side k)) 0 two refl fine (ends_fine side is (edge_at side k)) (omega arith) h
    by (suc zero) low h = apart p (ends_of side (edge_at side k)) 1 two refl fine (ends_fine side is (edge_at side k)) (omega arith) h
    by (suc (suc zero)) low h = absurd (not_apart p (ends_of side (edge_at side k)) (omega (arith, two)) (omega arith) level (ends_level side is (edge_at side k)) h)
    by (suc (suc (suc i))) low h = absurd (omega (arith, low))

-- the hits of an edge with some of the others
abbrev pub hits_with : ShadowTest → (ℤ → ℤ) → FlatSide → FlatSide → ℕ → List ℕ → List FlatHit
hits_with test settle p q i js = filter_map (λ j. flat_hit settle i j (test (ends_of p (edge_at p i)) (ends_of q (edge_at q j)))) js

-- all of them are with those whose boxes touch its own
pub hits_near : (test : ShadowTest) (settle : ℤ → ℤ) (p q : FlatSide) → Separates None test → IsFlatSide p → IsFlatSide q → (i : ℕ) →
    hits_with test settle p q i (touching_numbers (edge_boxes q) (box_of (ends_of p (edge_at p i)))) ≡ flat_hits_along test settle p q i
hits_near test settle p q apart p_is q_is i =
    let n = length q.edges in
    let own = ends_of p (edge_at p i) in
    let f : ℕ → Option FlatHit = λ j. flat_hit settle i j (test own (ends_of q (edge_at q j))) in
    let t : ℕ → Bool = λ j. touches (box_at (edge_boxes q) j) (box_of own) in
    let each : All (λ j. t j ≡ false → f j ≡ None) (upto n) =
    λ k d below.
    let inside : k < n = omega (arith, below, length-up_from 0 n) in
    let here : k ≡ get_or (upto n) k d = omega (arith, get_or-up_from 0 n k d inside) in
    subst (λ j. t j ≡ false → f j ≡ None) here
    (λ far. ap (flat_hit settle i k) (none_beyond None test apart q q_is own refl (ends_fine p p_is (edge_at p i)) (ends_level p p_is (edge_at p i)) k inside far)) in
    ap (λ m. filter_map f (filter t (upto m))) (many_boxes q) ∙ filter_map-filter f t (upto n) each

-- one edge more
along_more : (test : ShadowTest) (settle : ℤ → ℤ) (p q : FlatSide) (i : ℕ) (js : List ℕ) (k : ℕ) → k < length js →
    hits_with test settle p q i (take (k + 1) js) ≡ hits_with test settle p q i
    (take k js) ++ cons_option (flat_hit settle i (get_or js k 0) (test (ends_of p (edge_at p i)) (ends_of q (edge_at q (get_or js k 0))))) []
along_more test settle p q i js k below =
    let f : ℕ → Option FlatHit = λ j. flat_hit settle i j (test (ends_of p (edge_at p i)) (ends_of q (edge_at q j))) in
    ap (filter_map f) (take_more js k 0 below) ∙ filter_map-append f (take k js) (get_or js k 0 ∷ [])

-- the hit of the next edge
abbrev pub next_hit : ShadowTest → (ℤ → ℤ) → FlatSide → FlatSide → ℕ → List ℕ → ℕ → Option FlatHit
next_hit test settle p q i js k = flat_hit settle i (get_or js k 0) (test (ends_of p (edge_at p i)) (ends_of q (edge_at q (get_or js k 0))))

pub along_none : (test : ShadowTest) (settle : ℤ → ℤ) (p q : FlatSide) (i : ℕ) (js : List ℕ) (k : ℕ) (before : List FlatHit) →
    k < length js → None ≡ next_hit test settle p q i js k →
    before ++ hits_with test settle p q i (take k js) ≡ before ++ hits_with test settle p q i (take (k + 1) js)
along_none test settle p q i js k before below e =
    ap (λ l. before ++ l) (sym (along_more test settle p q i js k below
    ∙ ap (λ o. hits_with test settle p q i (take k js) ++ cons_option o []) (sym e) ∙ append-nil (hits_with test settle p q i (take k js))))

pub along_some : (test : ShadowTest) (settle : ℤ → ℤ) (p q : FlatSide) (i : ℕ) (js : List ℕ) (k : ℕ)
    (before : List FlatHit) (h : FlatHit) → k < length js → Some h ≡ next_hit test settle p q i js k →
    (before ++ hits_with test settle p q i (take k js)) ++ h ∷ [] ≡ before ++ hits_with test settle p q i (take (k + 1) js)
along_some test settle p q i js k before h below e =
    append_assoc before (hits_with test settle p q i (take k js)) (h ∷ [])
    ∙ ap (λ l. before ++ l) (sym (along_more test settle p q i js k below ∙ ap (λ o. hits_with test settle p q i (take k js) ++ cons_option o []) (sym e)))

-- the hits of the first n edges of P, and one more
abbrev pub hits_before : ShadowTest → (ℤ → ℤ) → FlatSide → FlatSide → ℕ → List FlatHit
hits_before test settle p q n = flat_map (flat_hits_along test settle p q) (upto n)

pub hits_more : (test : ShadowTest) (settle : ℤ → ℤ) (p q : FlatSide) (n : ℕ) →
    hits_before test settle p q (n + 1) ≡ hits_before test settle p q n ++ flat_hits_along test settle p q n
hits_more test settle p q n =
    ap (flat_map (flat_hits_along test settle p q)) (upto_more n) ∙ flat_map-append (flat_hits_along test settle p q) (upto n) (n ∷ [])
    ∙ ap (λ r. hits_before test settle p q n ++ r) (append-nil (flat_hits_along test settle p q n))
