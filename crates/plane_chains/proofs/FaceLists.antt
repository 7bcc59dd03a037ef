-- The ways along the rims of triangles make the chain of the triangles.
use Rattle.std.proofs.Common.{add-one, ◌≡◌, ◌<◌, ◌≤◌, ◌++◌, ◌∙◌, ◌==◌, ℕ, ℤ, Bool, List, [], ◌∷◌, true, false, ap, arith, bytes_eq, cond, filter, get_or, length, map, pos, refl, subst, suc, sym, zero, ◌+ℤ◌, ◌-ℤ◌}
use Rattle.std.specs.Prelude.{if◌then◌else◌, max, min, nat_lt, neg_ℤ, not, take}
use Rattle.std.specs.Cmp.Lexicographic.{bytes_decides}
use Rattle.std.specs.List.{All, flat_map, list_any, position_or_len}
use Rattle.std.specs.Ordering.{int_eq}
use Rattle.std.proofs.lemmas.Bool.Decides.{nat_tests}
use Rattle.std.proofs.lemmas.Int.{ints}
use Rattle.std.proofs.lemmas.List.{get_or-map, length-map, map-append, same_lists, take_all, take_more}
use Rattle.std.proofs.lemmas.List.Elements.{All-append, All-cons, All-filter, All-map, All-nil}
use Rattle.std.proofs.lemmas.List.Folds.{flat_map-map}
use Rattle.chain_laws.proofs.Places.{get_or-up_from, length-up_from}
use Rattle.chain_laws.specs.Chains.{dir-append}
use Rattle.chain_laws.specs.Sums.{total-append, total-map, total-same, total-zero}
use Rattle.chain_terms.specs.Chains.{boundary, is_edge, one_if}
use Rattle.chain_terms.specs.Paths.{round_edges}
use Rattle.chain_terms.specs.Sums.{total, upto}
use Rattle.sheet_terms.specs.Chains.{ChainEdge, chain, chain_edge, same_edge, upward}
use Rattle.sheet_terms.specs.Faces.{Face, labelled, labels_of, rim_edges}
use Rattle.sheet_terms.specs.Places.{firsts, firsts_after}
use Rattle.plane_chains.specs.declared.chain.Way.{Way}
use Rattle.plane_chains.specs.Listed.{chosen, face_at, label_number, no_face}
use Rattle.plane_chains.specs.Placed.{ArePlaced}
use Rattle.plane_chains.specs.Ways.{counted, marked, net_count, way_along, way_chain, way_edge, way_up, ways_of, ways_round}
use Rattle.plane_chains.proofs.FirstKeys.{IsEqual, map_agree, place_within, placed_at, placed_more, placed_none, firsts_push}
use Rattle.plane_chains.proofs.GridPoints.{upto_below}

-- the ways along the rims of triangles
abbrev pub face_ways : List Face → List Face → List Way
face_ways fs cs = flat_map (λ f. ways_round f.rim (label_number fs f)) cs

flat_map_agree : {X Y : Type 0} (f g : X → List Y) (xs : List X) → All (λ x. f x ≡ g x) xs → flat_map f xs ≡ flat_map g xs
flat_map_agree f g [] h = refl
flat_map_agree f g (x ∷ xs) h = λ i. h 0 x (omega arith) i ++ flat_map_agree f g xs (λ k d low. h (suc k) d (omega (arith, low))) i

pub marked_below : (marks : List Bool) (n : ℕ) → All (λ i. i < n) (marked marks n)
marked_below marks n = All-filter (λ i. get_or marks i false) (λ i. i < n) (upto n) (upto_below n)

pub ways_listed : (fs : List Face) (rims : List (List ℕ)) (numbers : List ℕ) (marks : List Bool) → rims ≡ map (λ f. f.rim) fs → numbers ≡ map (label_number fs) fs →
    ways_of rims numbers marks ≡ face_ways fs (chosen marks fs)
ways_listed fs rims numbers marks same labels =
    ap (λ n. flat_map (λ i. ways_round (get_or rims i []) (get_or numbers i 0)) (marked marks n)) (ap length same ∙ length-map fs (λ (f : Face). f.rim))
    ∙ flat_map_agree (λ i. ways_round (get_or rims i []) (get_or numbers i 0)) (λ i. ways_round (face_at fs i).rim (label_number fs (face_at fs i))) (marked marks (length fs)) at
    ∙ sym (flat_map-map (λ (f : Face). ways_round f.rim (label_number fs f)) (face_at fs) (marked marks (length fs)))
  where
    at : All (λ i. ways_round (get_or rims i []) (get_or numbers i 0) ≡ ways_round (face_at fs i).rim (label_number fs (face_at fs i))) (marked marks (length fs))
    at k d low =
        let i = get_or (marked marks (length fs)) k d in
        let inside : i < length fs = marked_below marks (length fs) k d low in
        let rim : get_or rims i [] ≡ (face_at fs i).rim = ap (λ rs. get_or rs i []) same ∙ get_or-map (λ (f : Face). f.rim) fs i no_face [] inside in
        let label : get_or numbers i 0 ≡ label_number fs (face_at fs i) = ap (λ ns. get_or ns i 0) labels ∙ get_or-map (label_number fs) fs i no_face 0 inside in
        λ j. ways_round (rim j) (label j)

-- their edges are those of the rims
round_up : (label : ℕ) (es : List (ℕ × ℕ)) → map way_up (map (way_along label) es) ≡ map upward es
round_up label [] = refl
round_up label (e ∷ es) = λ i. upward e ∷ round_up label es i

pub ways_up : (fs cs : List Face) → map way_up (face_ways fs cs) ≡ map upward (rim_edges cs)
ways_up fs [] = refl
ways_up fs (c ∷ cs) =
    map-append way_up (ways_round c.rim (label_number fs c)) (face_ways fs cs) ∙ (λ i. round_up (label_number fs c) (round_edges c.rim) i ++ ways_up fs cs i)
    ∙ sym (map-append upward (round_edges c.rim) (rim_edges cs))

-- how often one edge runs along another less how often it runs back
abbrev edge_step : (ℕ × ℕ) → ℤ
edge_step d = if nat_lt d.0 d.1 then pos 1 else if nat_lt d.1 d.0 then neg_ℤ (pos 1) else pos 0

edge_count : (e d : ℕ × ℕ) → e.0 ≤ e.1 →
    pos (one_if (is_edge d e.0 e.1)) -ℤ pos (one_if (is_edge d e.1 e.0)) ≡ cond (same_edge (upward d) e) (edge_step d) (pos 0)
edge_count e d up = grind (arith, ints, nat_tests)

boundary_total : (es : List (ℕ × ℕ)) (e : ℕ × ℕ) → e.0 ≤ e.1 → boundary es e.0 e.1 ≡ total (λ d. cond (same_edge (upward d) e) (edge_step d) (pos 0)) es
boundary_total [] e up = omega (arith, ints)
boundary_total (d ∷ es) e up = omega (arith, ints, edge_count e d up, boundary_total es e up)

-- of one rim, and of all
rim_count : (k label : ℕ) (e : ℕ × ℕ) (es : List (ℕ × ℕ)) (b : Bool) → (label == k) ≡ b →
    total (λ w. cond (same_edge (way_up w) e) (counted k w) (pos 0)) (map (way_along label) es)
    ≡ cond b (total (λ d. cond (same_edge (upward d) e) (edge_step d) (pos 0)) es) (pos 0)
rim_count k label e es b h =
    total-map (λ w. cond (same_edge (way_up w) e) (counted k w) (pos 0)) (way_along label) es
    ∙ ap (λ t. total (λ (d : ℕ × ℕ). cond (same_edge (upward d) e) (cond t (edge_step d) (pos 0)) (pos 0)) es) h ∙ by b where
      same_zero : (t : Bool) → cond t (pos 0) (pos 0) ≡ pos 0
      same_zero true = refl
      same_zero false = refl

      by : (t : Bool) → total (λ (d : ℕ × ℕ). cond (same_edge (upward d) e) (cond t (edge_step d) (pos 0)) (pos 0)) es
          ≡ cond t (total (λ d. cond (same_edge (upward d) e) (edge_step d) (pos 0)) es) (pos 0)
      by true = refl
      by false = total-same (λ (d : ℕ × ℕ). cond (same_edge (upward d) e) (pos 0) (pos 0)) (λ (d : ℕ × ℕ). pos 0) (λ d. same_zero (same_edge (upward d) e)) es ∙ total-zero es

boundary_append : (es ms : List (ℕ × ℕ)) (a b : ℕ) → boundary (es ++ ms) a b ≡ boundary es a b +ℤ boundary ms a b
boundary_append es ms a b = omega (arith, ints, dir-append es ms a b, dir-append es ms b a)

count_more : (b : Bool) (c : Face) (cs : List Face) (e : ℕ × ℕ) →
    boundary (rim_edges (cond b (c ∷ cs) cs)) e.0 e.1 ≡ cond b (boundary (round_edges c.rim) e.0 e.1) (pos 0) +ℤ boundary (rim_edges cs) e.0 e.1
count_more true c cs e = boundary_append (round_edges c.rim) (rim_edges cs) e.0 e.1
count_more false c cs e = omega (arith, ints)

-- a label is told by its number
abbrev pub IsTold : List Face → List ℕ → ℕ → Face → Type 0
IsTold fs label k f = bytes_eq f.label label ≡ (label_number fs f == k)

pub counts_listed : (fs cs : List Face) (label : List ℕ) (k : ℕ) (e : ℕ × ℕ) → e.0 ≤ e.1 → All (IsTold fs label k) cs →
    boundary (rim_edges (labelled label cs)) e.0 e.1 ≡ net_count (face_ways fs cs) e k
counts_listed fs [] label k e up h = omega (arith, ints)
counts_listed fs (c ∷ cs) label k e up h =
    by (bytes_eq c.label label) refl (counts_listed fs cs label k e up (λ j d low. h (suc j) d (omega (arith, low)))) where
      g : Way → ℤ
      g w = cond (same_edge (way_up w) e) (counted k w) (pos 0)

      by : (b : Bool) → bytes_eq c.label label ≡ b → boundary (rim_edges (labelled label cs)) e.0 e.1 ≡ net_count (face_ways fs cs) e k →
          boundary (rim_edges (cond b (c ∷ labelled label cs) (labelled label cs))) e.0 e.1 ≡ net_count (face_ways fs (c ∷ cs)) e k
      by b is rest =
          count_more b c (labelled label cs) e
          ∙ (λ j. cond b (boundary_total (round_edges c.rim) e up j) (pos 0) +ℤ rest j)
          ∙ (λ j. sym (rim_count k (label_number fs c) e (round_edges c.rim) b (sym (h 0 c (omega arith)) ∙ is)) j +ℤ net_count (face_ways fs cs) e k)
          ∙ sym (total-append (λ w. cond (same_edge (way_up w) e) (counted k w) (pos 0)) (ways_round c.rim (label_number fs c)) (face_ways fs cs))

-- the first of members with some property have it too
pub firsts_all : {X : Type 0} (P : X → Type 0) (like : X → X → Bool) (before xs : List X) → All P xs → All P (firsts_after like before xs)
firsts_all P like before [] h = All-nil P
firsts_all P like before (x ∷ xs) h =
    All-append P (cond (list_any (like x) before) [] (x ∷ [])) (firsts_after like (before ++ x ∷ []) xs) (by (list_any (like x) before))
    (firsts_all P like (before ++ x ∷ []) xs (λ k d low. h (suc k) d (omega (arith, low))))
  where
    by : (b : Bool) → All P (cond b [] (x ∷ []))
    by true = All-nil P
    by false = All-cons P x [] (h 0 x (omega arith)) (All-nil P)

all_up : (es : List (ℕ × ℕ)) → All (λ (e : ℕ × ℕ). e.0 ≤ e.1) (map upward es)
all_up es = All-map (λ (e : ℕ × ℕ). e.0 ≤ e.1) upward es (λ k d low. lesser (get_or es k d)) where
  lesser : (e : ℕ × ℕ) → min e.0 e.1 ≤ max e.0 e.1
  lesser e = omega arith

-- a list by its places
pub map_upto : {X Y : Type 0} (f : X → Y) (xs : List X) (x : X) → map f xs ≡ map (λ k. f (get_or xs k x)) (upto (length xs))
map_upto {Y = Y} f xs x =
    same_lists (map f xs) (map (λ k. f (get_or xs k x)) (upto (length xs)))
    (length-map xs f ∙ sym (length-up_from 0 (length xs)) ∙ sym (length-map (upto (length xs)) (λ k. f (get_or xs k x)))) at
  where
    at : (k : ℕ) (d : Y) → k < length (map f xs) → get_or (map f xs) k d ≡ get_or (map (λ i. f (get_or xs i x)) (upto (length xs))) k d
    at k d low =
        let inside : k < length xs = omega (arith, low, length-map xs f) in
        get_or-map f xs k x d inside
        ∙ ap (λ i. f (get_or xs i x)) (sym (get_or-up_from 0 (length xs) k 0 inside ∙ omega arith))
        ∙ sym (get_or-map (λ i. f (get_or xs i x)) (upto (length xs)) k 0 d (omega (arith, inside, length-up_from 0 (length xs))))

-- the chain of ways is that of the triangles
pub chain_listed : (fs cs : List Face) → ((k : ℕ) → k < length (labels_of fs) → All (IsTold fs (get_or (labels_of fs) k []) k) cs) →
    way_chain (length (labels_of fs)) (face_ways fs cs) ≡ chain (labels_of fs) cs
unfolding way_chain
chain_listed fs cs told =
    ap (filter (λ (c : ChainEdge). list_any (λ n. not (int_eq n (pos 0))) c.counts))
    (ap (λ es. map (way_edge (length (labels_of fs)) (face_ways fs cs)) (firsts same_edge es)) (ways_up fs cs)
    ∙ map_agree (way_edge (length (labels_of fs)) (face_ways fs cs)) (chain_edge (labels_of fs) cs) (firsts same_edge (map upward (rim_edges cs)))
    (λ k d low. λ j. record {
      edge = get_or (firsts same_edge (map upward (rim_edges cs))) k d;
      counts = counts (get_or (firsts same_edge (map upward (rim_edges cs))) k d) (firsts_all (λ (e : ℕ × ℕ). e.0 ≤ e.1) same_edge [] (map upward (rim_edges cs)) (all_up (rim_edges cs)) k d low) j;
    }))
  where
    counts : (e : ℕ × ℕ) → e.0 ≤ e.1 →
        map (net_count (face_ways fs cs) e) (upto (length (labels_of fs))) ≡ map (λ l. boundary (rim_edges (labelled l cs)) e.0 e.1) (labels_of fs)
    counts e up =
        map_agree (net_count (face_ways fs cs) e) (λ k. boundary (rim_edges (labelled (get_or (labels_of fs) k []) cs)) e.0 e.1) (upto (length (labels_of fs)))
        (λ k d low.
        let m = get_or (upto (length (labels_of fs))) k d in
        sym (counts_listed fs cs (get_or (labels_of fs) m []) m e up (told m (upto_below (length (labels_of fs)) k d low))))
        ∙ sym (map_upto (λ l. boundary (rim_edges (labelled l cs)) e.0 e.1) (labels_of fs) [])

-- equal labels
bytes_equal : IsEqual bytes_eq
bytes_equal = record { itself = λ x. (bytes_decides x x).1 refl; same = λ x y h. (bytes_decides x y).0 h }

placed_first : {X : Type 0} (eq : X → X → Bool) → IsEqual eq → (xs : List X) (d : X) (n : ℕ) → n ≤ length xs → (of : List ℕ) × ArePlaced eq (take n xs) (firsts eq (take n xs)) of
placed_first eq equal xs d zero low = ([], placed_none eq equal)
placed_first eq equal xs d (suc n) low =
    let p = placed_first eq equal xs d n (omega (arith, low)) in
    let x = get_or xs n d in
    let keys = firsts eq (take n xs) in
    let longer : take n xs ++ x ∷ [] ≡ take (suc n) xs = sym (take_more xs n d (omega (arith, low))) ∙ ap (λ m. take m xs) (add-one n) in (
      p.0 ++ position_or_len (eq x) keys ∷ [],
      subst (λ ys. ArePlaced eq ys (firsts eq ys) (p.0 ++ position_or_len (eq x) keys ∷ [])) longer
          (placed_more eq equal (take n xs) keys (firsts eq (take n xs ++ x ∷ [])) p.0 x (position_or_len (eq x) keys) p.1 (firsts_push eq equal (take n xs) x) refl),
    )

placed_all : {X : Type 0} (eq : X → X → Bool) → IsEqual eq → (xs : List X) → X → (of : List ℕ) × ArePlaced eq xs (firsts eq xs) of
placed_all eq equal xs d =
    let p = placed_first eq equal xs d (length xs) (omega arith) in (p.0, subst (λ ys. ArePlaced eq ys (firsts eq ys) p.0) (take_all (length xs) xs (omega arith)) p.1)

-- the number of a label is below how many there are
pub label_below : (fs : List Face) (k : ℕ) (d : Face) → k < length fs → label_number fs (get_or fs k d) < length (labels_of fs)
label_below fs k d low =
    let p = placed_all bytes_eq bytes_equal (map (λ (f : Face). f.label) fs) [] in
    let at : get_or (map (λ (f : Face). f.label) fs) k [] ≡ (get_or fs k d).label = get_or-map (λ (f : Face). f.label) fs k d [] low in
    place_within (bytes_eq (get_or fs k d).label) (labels_of fs)
    (ap (λ l. list_any (bytes_eq l) (labels_of fs)) (sym at) ∙ p.1.there k [] (omega (arith, low, length-map fs (λ (f : Face). f.label))))

-- so the labels of triangles are told by their numbers
pub face_told : (fs : List Face) (i k : ℕ) → i < length fs → k < length (labels_of fs) → IsTold fs (get_or (labels_of fs) k []) k (face_at fs i)
face_told fs i k low inside =
    let p = placed_all bytes_eq bytes_equal (map (λ (f : Face). f.label) fs) [] in
    let there : list_any (bytes_eq (face_at fs i).label) (labels_of fs) ≡ true =
    ap (λ l. list_any (bytes_eq l) (labels_of fs)) (sym (get_or-map (λ (f : Face). f.label) fs i no_face [] low))
    ∙ p.1.there i [] (omega (arith, low, length-map fs (λ (f : Face). f.label))) in
    sym (placed_at bytes_eq bytes_equal (map (λ (f : Face). f.label) fs) (labels_of fs) p.0 (face_at fs i).label k [] p.1 there inside)

pub chosen_told : (fs : List Face) (marks : List Bool) (k : ℕ) → k < length (labels_of fs) → All (IsTold fs (get_or (labels_of fs) k []) k) (chosen marks fs)
chosen_told fs marks k inside =
    All-map (IsTold fs (get_or (labels_of fs) k []) k) (face_at fs) (marked marks (length fs))
    (λ j d low. face_told fs (get_or (marked marks (length fs)) j d) k (marked_below marks (length fs) j d low) inside)

-- all in all
pub chosen_chain : (fs : List Face) (rims : List (List ℕ)) (numbers : List ℕ) (marks : List Bool) → rims ≡ map (λ f. f.rim) fs → numbers ≡ map (label_number fs) fs →
    way_chain (length (labels_of fs)) (ways_of rims numbers marks) ≡ chain (labels_of fs) (chosen marks fs)
chosen_chain fs rims numbers marks same labels =
    ap (way_chain (length (labels_of fs))) (ways_listed fs rims numbers marks same labels) ∙ chain_listed fs (chosen marks fs) (chosen_told fs marks)
