-- The hits of an edge as a run of the list, and sums along half-edges.
use Rattle.std.proofs.Common.{◌≡◌, ◌≢◌, ◌<◌, ◌≤◌, ◌+◌, ◌-◌, ◌*◌, ◌/◌, ◌^◌, ◌==◌, ◌&&◌, ◌++◌, [], ◌∷◌, ℕ, zero, suc, ℤ, pos, neg_ℤ, nat_lt, nat_le, refl, sym, ◌∙◌, ap, inl, inr, arith}
use Rattle.std.proofs.Common.{Bool, true, false, cond, if◌then◌else◌, Option, Some, None, List, length, get_or, take, drop, filter, set, length-append}
use Rattle.std.specs.List.{All, cons_option, filter_map, flat_map}
use Rattle.std.specs.List.Sorted.{IsPartitionPoint}
use Rattle.std.proofs.Math.Nat.{mul-le-mul}
use Rattle.std.proofs.lemmas.Bool.{cases_Bool, cases_eq, cases_lt, eq-eqb, leb-true, leb-false, ltb-true, ltb-false, ne_eqb}
use Rattle.std.proofs.lemmas.List.{append-nil, get_or-drop, get_or-set_same, get_or-take, length-drop, length-set, length-take-le, take-append-drop}
use Rattle.std.proofs.lemmas.List.Elements.{All-head, All-nil, All-push, All-tail, All-weaker, filter-append}
use Rattle.std.proofs.lemmas.List.Sums.{count_by-le-length, length-filter}
use Rattle.chain_terms.specs.Chains.{all_edges}
use Rattle.chain_terms.specs.Ranks.{twin}
use Rattle.chain_terms.specs.Sums.{total, upto}
use Rattle.chain_laws.specs.Sums.{total-neg, total-same, total-same_all, total-swap, total-zero}
use Rattle.chain_laws.proofs.Ascending.{total-filter}
use Rattle.chain_laws.proofs.Places.{length-up_from, one_hit, where_same}
use Rattle.halfedge.proofs.Edges.{length-all_edges}
use Rattle.mesh_terms.specs.Limits.{most_triangles}
use Rattle.mb_base.specs.declared.results.Hit.{Hit}
use Rattle.side_terms.specs.Conservation.{half_number, hit_number}
use Rattle.side_terms.specs.Hits.{lower_halves}
use Rattle.side_terms.specs.Sides.{Side, edge_at, face_at}
use Rattle.crossings.specs.Hits.{CrossingTest, hit_of, hits_along, hits_of}
use Rattle.winding.specs.Along.{AreCrossed, edge_total, half_total, hits_on}

-- what no member passes keeps none
filter_none : {X : Type 0} (p : X → Bool) (xs : List X) → All (λ x. p x ≡ false) xs → filter p xs ≡ []
filter_none p [] fails = refl
filter_none p (x ∷ xs) fails =
    ap (λ b. cond b (x ∷ filter p xs) (filter p xs)) (All-head (λ y. p y ≡ false) x xs fails) ∙ filter_none p xs (All-tail (λ y. p y ≡ false) x xs fails)

-- what each member passes keeps all
filter_all : {X : Type 0} (p : X → Bool) (xs : List X) → All (λ x. p x ≡ true) xs → filter p xs ≡ xs
filter_all p [] passes = refl
filter_all p (x ∷ xs) passes =
    ap (λ b. cond b (x ∷ filter p xs) (filter p xs)) (All-head (λ y. p y ≡ true) x xs passes)
    ∙ ap (λ l. x ∷ l) (filter_all p xs (All-tail (λ y. p y ≡ true) x xs passes))

-- the place before which all edges are below e
abbrev pub IsStart : List Hit → ℕ → ℕ → Type 0
IsStart hits e from = IsPartitionPoint (λ h. nat_lt h.edge e ≡ true) (λ h. nat_lt h.edge e ≡ false) hits from

-- and the one before which none is above it
abbrev pub IsEnd : List Hit → ℕ → ℕ → Type 0
IsEnd hits e to = IsPartitionPoint (λ h. nat_le h.edge e ≡ true) (λ h. nat_le h.edge e ≡ false) hits to

-- the first is not behind the second
pub start_first : (hits : List Hit) (e from to : ℕ) → from ≤ length hits → IsStart hits e from → IsEnd hits e to → from ≤ to
start_first hits e from to inside starts ends = elim (cases_lt to from) as (λ _. from ≤ to) [
  | inr g ↦ g
  | inl l ↦
      let hit : Hit = get_or hits to no_hit in
      let low = ltb-true hit.edge e (starts.0 to no_hit (omega arith) l) in
      let high = leb-false hit.edge e (ends.1 to no_hit (omega arith) (omega (arith, l, inside))) in
      absurd (omega (arith, low, high))
]
  where
    no_hit : Hit
    no_hit = record { edge = 0; face = 0; number = pos 0; at = [] }

-- between them stand the hits of the edge
pub run_is : (hits : List Hit) (e from to : ℕ) → from ≤ length hits → to ≤ length hits → IsStart hits e from → IsEnd hits e to →
    take (to - from) (drop from hits) ≡ hits_on hits e
run_is hits e from to inside within starts ends = sym (
    ap on_e (sym (take-append-drop from hits)) ∙ filter-append is_e front later ∙ ap (λ l. l ++ on_e later) (filter_none is_e front front_fails)
    ∙ ap on_e (sym (take-append-drop (to - from) later)) ∙ filter-append is_e run back ∙ ap (λ l. on_e run ++ l) (filter_none is_e back back_fails)
    ∙ append-nil (on_e run) ∙ filter_all is_e run run_passes
    )
  where
    is_e : Hit → Bool
    is_e h = h.edge == e

    on_e : List Hit → List Hit
    on_e l = filter is_e l

    front : List Hit
    front = take from hits

    later : List Hit
    later = drop from hits

    run : List Hit
    run = take (to - from) later

    back : List Hit
    back = drop (to - from) later

    ordered : from ≤ to
    ordered = start_first hits e from to inside starts ends

    front_fails : All (λ h. is_e h ≡ false) front
    front_fails k d low =
        let inside_front : k < from = omega (arith, low, length-take-le from hits inside) in
        let edge = (get_or hits k d).edge in
        ap is_e (get_or-take from hits k d inside_front) ∙ ne_eqb edge e (λ q. omega (arith, q, ltb-true edge e (starts.0 k d (omega arith) inside_front)))

    run_passes : All (λ h. is_e h ≡ true) run
    run_passes k d low =
        let inside_run : k < to - from = omega (arith, low, length-take-le (to - from) later (omega (arith, ordered, within, length-drop from hits))) in
        let edge = (get_or hits (from + k) d).edge in
        let low_enough = leb-true edge e (ends.0 (from + k) d (omega arith) (omega (arith, inside_run, ordered))) in
        let high_enough = ltb-false edge e (starts.1 (from + k) d (omega arith) (omega (arith, inside_run, ordered, within))) in
        ap is_e (get_or-take (to - from) later k d inside_run ∙ get_or-drop from hits k d) ∙ eq-eqb edge e (omega (arith, low_enough, high_enough))

    back_fails : All (λ h. is_e h ≡ false) back
    back_fails k d low =
        let place = from + (to - from + k) in
        let edge = (get_or hits place d).edge in
        let inside_back : place < length hits = omega (arith, low, ordered, within, length-drop (to - from) later, length-drop from hits) in
        let above = leb-false edge e (ends.1 place d (omega (arith, ordered)) inside_back) in
        ap is_e (get_or-drop (to - from) later k d ∙ get_or-drop from hits (to - from + k) d) ∙ ne_eqb edge e (λ q. omega (arith, q, above))

-- a sum over faces of what a hit adds to the number of its edge with its face
over_faces : (b : Bool) (face faces : ℕ) (n : ℤ) → face < faces → total (λ f. cond (b && (face == f)) n (pos 0)) (upto faces) ≡ cond b n (pos 0)
over_faces true face faces n below =
    total-same (λ f. cond (face == f) n (pos 0)) (λ f. where_same f face n) (λ f. ap (λ b. cond b n (pos 0)) (turned face f)) (upto faces)
    ∙ one_hit n face faces below
  where
    turned : (a b : ℕ) → (a == b) ≡ (b == a)
    turned a b = elim (cases_eq a b) as (λ _. (a == b) ≡ (b == a)) [
      | inl e ↦ eq-eqb a b e ∙ sym (eq-eqb b a (sym e))
      | inr d ↦ ne_eqb a b d ∙ sym (ne_eqb b a (λ e. d (sym e)))
    ]
over_faces false face faces n below = total-zero (upto faces)

-- the numbers of an edge with all faces add up to the numbers of its hits
edge_sum : (faces : ℕ) (hits : List Hit) (e : ℕ) → All (λ k. k.face < faces) hits → total (hit_number hits e) (upto faces) ≡ edge_total hits e
edge_sum faces hits e below =
    total-swap (λ f k. adds k f) (upto faces) hits ∙ total-same_all over here hits (All-weaker (λ k. k.face < faces) (λ k. over k ≡ here k) same hits below)
    ∙ sym (total-filter (λ k. k.number) (λ k. k.edge == e) hits)
  where
    adds : Hit → ℕ → ℤ
    adds k f = cond ((k.edge == e) && (k.face == f)) k.number (pos 0)

    over : Hit → ℤ
    over k = total (adds k) (upto faces)

    here : Hit → ℤ
    here k = cond (k.edge == e) k.number (pos 0)

    same : (k : Hit) → k.face < faces → over k ≡ here k
    same k low = over_faces (k.edge == e) k.face faces k.number low

-- so do those of a half-edge
pub half_sum : (es : List (ℕ × ℕ)) (faces : ℕ) (hits : List Hit) (h : ℕ) → All (λ k. k.face < faces) hits →
    total (half_number es hits h) (upto faces) ≡ half_total es hits h
half_sum es faces hits h below = elim (cases_Bool (nat_lt h t)) as (λ _. total number (upto faces) ≡ half_total es hits h) [
  | inl y ↦ total-same number (hit_number hits h) (λ f. ap (either f) y) (upto faces) ∙ edge_sum faces hits h below ∙ sym (ap sum y)
  | inr n ↦
      total-same number (λ f. neg_ℤ (hit_number hits t f)) (λ f. ap (either f) n) (upto faces) ∙ total-neg (hit_number hits t) (upto faces)
      ∙ ap neg_ℤ (edge_sum faces hits t below) ∙ sym (ap sum n)
]
  where
    t : ℕ
    t = twin es h

    number : ℕ → ℤ
    number = half_number es hits h

    either : ℕ → Bool → ℤ
    either f b = if b then hit_number hits h f else neg_ℤ (hit_number hits t f)

    sum : Bool → ℤ
    sum b = if b then edge_total hits h else neg_ℤ (edge_total hits t)

-- an edge without hits
edge_none : (hits : List Hit) (e : ℕ) → All (λ k. k.edge ≢ e) hits → edge_total hits e ≡ pos 0
edge_none hits e none =
    let fails = All-weaker (λ k. k.edge ≢ e) (λ k. (k.edge == e) ≡ false) (λ k d. ne_eqb k.edge e d) hits none in
    ap (total (λ k. k.number)) (filter_none (λ k. k.edge == e) hits fails)

-- a half-edge of a triangle without a mark has no hit
pub not_crossed : (es : List (ℕ × ℕ)) (hits : List Hit) (crossed : List Bool) (h : ℕ) → twin es (twin es h) ≡ h → AreCrossed es hits crossed →
    get_or crossed (h / 3) false ≡ false → half_total es hits h ≡ pos 0
not_crossed es hits crossed h back are free = elim (cases_Bool (nat_lt h t)) as (λ _. half_total es hits h ≡ pos 0) [
  | inl y ↦ ap (λ b. if b then edge_total hits h else neg_ℤ (edge_total hits t)) y ∙ edge_none hits h here
  | inr n ↦ ap (λ b. if b then edge_total hits h else neg_ℤ (edge_total hits t)) n ∙ ap neg_ℤ (edge_none hits t there)
]
  where
    t : ℕ
    t = twin es h

    here : All (λ k. k.edge ≢ h) hits
    here i d low e = let m = are.here i d low in let same = ap (λ n. get_or crossed (n / 3) false) e in cc

    there : All (λ k. k.edge ≢ t) hits
    there i d low e = let m = are.beyond i d low in let same = ap (λ n. get_or crossed (n / 3) false) (ap (twin es) e ∙ back) in cc

-- so many members at most
length-filter_le : {X : Type 0} (p : X → Bool) (xs : List X) → length (filter p xs) ≤ length xs
length-filter_le p xs = omega (arith, length-filter p xs, count_by-le-length p xs)

length-filter_map_le : {X Y : Type 0} (f : X → Option Y) (xs : List X) → length (filter_map f xs) ≤ length xs
length-filter_map_le f [] = omega arith
length-filter_map_le f (x ∷ xs) = omega (arith, at_most_one (f x) (filter_map f xs), length-filter_map_le f xs)
  where
    at_most_one : {Y : Type 0} (o : Option Y) (ys : List Y) → length (cons_option o ys) ≤ 1 + length ys
    at_most_one None ys = omega arith
    at_most_one (Some y) ys = omega arith

length-flat_map_le : {X Y : Type 0} (f : X → List Y) (n : ℕ) → ((x : X) → length (f x) ≤ n) → (xs : List X) → length (flat_map f xs) ≤ n * length xs
length-flat_map_le f n each [] = omega arith
length-flat_map_le f n each (x ∷ xs) = omega (arith, each x, length-append (f x) (flat_map f xs), length-flat_map_le f n each xs)

-- an edge has no more hits than there are
pub few_on : (hits : List Hit) (e : ℕ) → length (hits_on hits e) ≤ length hits
few_on hits e = length-filter_le (λ h. h.edge == e) hits

-- all hits of two meshes are few enough to count
pub few_hits : (test : CrossingTest) (edges faces : Side) → length edges.triples ≤ most_triangles → length faces.triples ≤ most_triangles →
    length (hits_of test edges faces) ≤ 2 ^ 55
few_hits test edges faces few_edges few_faces =
    let es = all_edges edges.triples in
    let n = length faces.triples in
    let along : (h : ℕ) → length (hits_along test edges faces h) ≤ n =
    λ h. omega (arith, length-filter_map_le (λ f. hit_of h f (test (edge_at edges h) (face_at faces f))) (upto n), length-up_from 0 n) in
    let lower : length (lower_halves es) ≤ 3 * most_triangles =
    omega (arith, length-filter_le (λ h. nat_lt h (twin es h)) (upto (length es)), length-up_from 0 (length es), length-all_edges edges.triples, few_edges) in
    let most : n * length (lower_halves es) ≤ most_triangles * (3 * most_triangles) = mul-le-mul few_faces lower in
    omega (arith, most, length-flat_map_le (hits_along test edges faces) n along (lower_halves es))

-- a mark that is set stands
marked_here : (marks : List Bool) (i : ℕ) → i < length marks → get_or (set marks i true) i false ≡ true
marked_here marks i low = get_or-set_same marks i true false low

-- and the others stay
marked_kept : (marks : List Bool) (i k : ℕ) → get_or marks k false ≡ true → get_or (set marks i true) k false ≡ true
marked_kept [] i k m = m
marked_kept (b ∷ marks) zero zero m = refl
marked_kept (b ∷ marks) zero (suc k) m = m
marked_kept (b ∷ marks) (suc i) zero m = m
marked_kept (b ∷ marks) (suc i) (suc k) m = marked_kept marks i k m

-- the triangles on both sides of one more hit's edge get their marks
pub crossed_more : (es : List (ℕ × ℕ)) (hits : List Hit) (h : Hit) (crossed : List Bool) → AreCrossed es hits crossed →
    h.edge / 3 < length crossed → twin es h.edge / 3 < length crossed → AreCrossed es (hits ++ h ∷ []) (set (set crossed (h.edge / 3) true) (twin es h.edge / 3) true)
crossed_more es hits h crossed are low high = record {
  full = omega (arith, are.full, length-set crossed near true, length-set once far true);
  here = All-push (λ k. IsMarked (k.edge / 3)) hits h (All-weaker (λ k. WasMarked (k.edge / 3)) (λ k. IsMarked (k.edge / 3)) (λ k m. kept (k.edge / 3) m) hits are.here)
      (marked_kept once far near (marked_here crossed near low));
  beyond = All-push (λ k. IsMarked (other k)) hits h (All-weaker (λ k. WasMarked (other k)) (λ k. IsMarked (other k)) (λ k m. kept (other k) m) hits are.beyond)
      (marked_here once far (omega (arith, high, length-set crossed near true)));
}
  where
    near : ℕ
    near = h.edge / 3

    other : Hit → ℕ
    other k = twin es k.edge / 3

    far : ℕ
    far = other h

    once : List Bool
    once = set crossed near true

    WasMarked : ℕ → Type 0
    WasMarked i = get_or crossed i false ≡ true

    IsMarked : ℕ → Type 0
    IsMarked i = get_or (set once far true) i false ≡ true

    kept : (i : ℕ) → WasMarked i → IsMarked i
    kept i m = marked_kept once far i (marked_kept crossed near i m)

-- no hit has marks yet
pub crossed_none : (es : List (ℕ × ℕ)) (crossed : List Bool) → 3 * length crossed ≡ length es → AreCrossed es [] crossed
crossed_none es crossed full = record {
  full = full;
  here = All-nil (λ k. get_or crossed (k.edge / 3) false ≡ true);
  beyond = All-nil (λ k. get_or crossed (twin es k.edge / 3) false ≡ true);
}
