-- Lists of pairs of edges that cross.
use Rattle.std.proofs.Common.{◌≡◌, ◌<◌, ◌+◌, ◌++◌, ◌∙◌, ℕ, Bool, List, [], ◌∷◌, true, false, ap, append_assoc, arith, cond, filter, get_or, length, map, sym, take}
use Rattle.std.specs.List.{flat_map}
use Rattle.std.proofs.lemmas.List.{append-nil, flat_map_more, get_or-map, length-map, map-append, take_more}
use Rattle.std.proofs.lemmas.List.Elements.{filter-append}
use Rattle.box_tree.specs.Touching.{box_at, no_box, touches}
use Rattle.chain_laws.proofs.Places.{upto_more}
use Rattle.chain_terms.specs.Sums.{upto}
use Rattle.face_plane.specs.Planes.{Plane}
use Rattle.mb_base.specs.declared.point.Box3.{Box3}
use Rattle.sheet_terms.specs.Chains.{cross}
use Rattle.plane_chains.specs.EdgeBoxes.{HasTouching, edge_box, edge_boxes, pair_of}
use Rattle.plane_chains.specs.Pairs.{edge_at, pairs_among}
use Rattle.plane_chains.proofs.Crossing.{boxes_touch}

-- one edge more
among_more : (at : Plane) (es : List (ℕ × ℕ)) (i : ℕ) (js : List ℕ) (k : ℕ) → k < length js →
    pairs_among at es i (take (k + 1) js)
    ≡ pairs_among at es i (take k js) ++ map (λ j. (i, j)) (cond (cross at (edge_at es i) (edge_at es (get_or js k 0))) (get_or js k 0 ∷ []) [])
among_more at es i js k low =
    let pair : ℕ → ℕ × ℕ = λ j. (i, j) in
    let crosses : ℕ → Bool = λ j. cross at (edge_at es i) (edge_at es j) in
    ap (λ xs. map pair (filter crosses xs)) (take_more js k 0 low)
    ∙ ap (map pair) (filter-append crosses (take k js) (get_or js k 0 ∷ [])) ∙ map-append pair (filter crosses (take k js)) (filter crosses (get_or js k 0 ∷ []))

-- an edge by its place
pub edge_is : (edges : List (List ℕ)) (i : ℕ) → i < length edges → edge_at (map pair_of edges) i ≡ pair_of (get_or edges i [])
edge_is edges i low = get_or-map pair_of edges i [] (0, 0) low

module _ (at : Plane) (edges : List (List ℕ)) (number : ℕ) (near : List ℕ) (initial : List (List ℕ)) (here : number < length edges) (k : ℕ) (low : k < length near)
    (there : get_or near k 0 < length edges) (test : Bool) (is : test ≡ cross at (pair_of (get_or edges number [])) (pair_of (get_or edges (get_or near k 0) [])))
    (pairs now : List (List ℕ))
    (before : map pair_of pairs ≡ map pair_of initial ++ pairs_among at (map pair_of edges) number (take k near)) where
  same_test : cross at (edge_at (map pair_of edges) number) (edge_at (map pair_of edges) (get_or near k 0)) ≡ test
  same_test = (λ j. cross at (edge_is edges number here j) (edge_is edges (get_or near k 0) there j)) ∙ sym is

  after : Bool → List (ℕ × ℕ)
  after b = map (λ j. (number, j)) (cond b (get_or near k 0 ∷ []) [])

  more : pairs_among at (map pair_of edges) number (take (k + 1) near) ≡ pairs_among at (map pair_of edges) number (take k near) ++ map (λ j. (number, j)) (cond test (get_or near k 0 ∷ []) [])
  more =
      among_more at (map pair_of edges) number near k low
      ∙ ap (λ b. pairs_among at (map pair_of edges) number (take k near) ++ map (λ j. (number, j)) (cond b (get_or near k 0 ∷ []) [])) same_test

  pub pair_pushed : test ≡ true → now ≡ pairs ++ (number ∷ get_or near k 0 ∷ []) ∷ [] →
      map pair_of now ≡ map pair_of initial ++ pairs_among at (map pair_of edges) number (take (k + 1) near)
  pair_pushed holds pushed =
      ap (map pair_of) pushed ∙ map-append pair_of pairs ((number ∷ get_or near k 0 ∷ []) ∷ [])
      ∙ ap (λ xs. xs ++ (number, get_or near k 0) ∷ []) before
      ∙ append_assoc (map pair_of initial) (pairs_among at (map pair_of edges) number (take k near)) ((number, get_or near k 0) ∷ [])
      ∙ ap (λ xs. map pair_of initial ++ xs)
      (ap (λ b. pairs_among at (map pair_of edges) number (take k near) ++ map (λ j. (number, j)) (cond b (get_or near k 0 ∷ []) [])) (sym holds) ∙ sym more)

  pub pair_left : test ≡ false → now ≡ pairs → map pair_of now ≡ map pair_of initial ++ pairs_among at (map pair_of edges) number (take (k + 1) near)
  pair_left fails left =
      ap (map pair_of) left ∙ before
      ∙ ap (λ xs. map pair_of initial ++ xs)
      (sym (append-nil (pairs_among at (map pair_of edges) number (take k near)))
      ∙ ap (λ b. pairs_among at (map pair_of edges) number (take k near) ++ map (λ j. (number, j)) (cond b (get_or near k 0 ∷ []) [])) (sym fails) ∙ sym more)

-- those among edges whose boxes touch are those among all
row_found : (at : Plane) (edges : List (List ℕ)) (boxes : List Box3) (area : Box3) (near : List ℕ) (i : ℕ) → i < length edges → boxes ≡ edge_boxes at edges →
    area ≡ edge_box at (pair_of (get_or edges i [])) → HasTouching boxes area near →
    pairs_among at (map pair_of edges) i near ≡ pairs_among at (map pair_of edges) i (upto (length edges))
row_found at edges boxes area near i low same round has =
    ap (map (λ j. (i, j)))
    (has.same crosses touch ∙ ap (λ n. filter crosses (upto n)) many)
  where
    crosses : ℕ → Bool
    crosses j = cross at (edge_at (map pair_of edges) i) (edge_at (map pair_of edges) j)

    many : length boxes ≡ length edges
    many = ap length same ∙ length-map edges (λ e. edge_box at (pair_of e))

    touch : (k : ℕ) → k < length boxes → cross at (edge_at (map pair_of edges) i) (edge_at (map pair_of edges) k) ≡ true → touches (box_at boxes k) area ≡ true
    touch k inside holds =
        let there : k < length edges = omega (arith, inside, many) in
        let box_is : box_at boxes k ≡ edge_box at (pair_of (get_or edges k [])) =
        ap (λ bs. box_at bs k) same ∙ get_or-map (λ e. edge_box at (pair_of e)) edges k [] no_box there in
        (λ j. touches (box_is j) (round j))
        ∙ boxes_touch at (pair_of (get_or edges i [])) (pair_of (get_or edges k [])) ((λ j. cross at (sym (edge_is edges i low) j) (sym (edge_is edges k there) j)) ∙ holds)

-- the pairs of one edge more
pub rows_more : (at : Plane) (edges : List (List ℕ)) (boxes : List Box3) (area : Box3) (near read : List ℕ) (i : ℕ) (pairs now : List (List ℕ)) → i < length edges →
    boxes ≡ edge_boxes at edges → area ≡ edge_box at (pair_of (get_or edges i [])) → HasTouching boxes area near →
    map pair_of pairs ≡ flat_map (λ n. pairs_among at (map pair_of edges) n (upto (length edges))) (upto i) →
    read ≡ near → map pair_of now ≡ map pair_of pairs ++ pairs_among at (map pair_of edges) i read →
    map pair_of now ≡ flat_map (λ n. pairs_among at (map pair_of edges) n (upto (length edges))) (upto (i + 1))
rows_more at edges boxes area near read i pairs now low same round has before is pushed =
    let row : ℕ → List (ℕ × ℕ) = λ n. pairs_among at (map pair_of edges) n (upto (length edges)) in
    pushed ∙ ap (λ xs. map pair_of pairs ++ pairs_among at (map pair_of edges) i xs) is ∙ (λ j. before j ++ row_found at edges boxes area near i low same round has j)
    ∙ flat_map_more row [] (upto i) i ∙ ap (flat_map row) (sym (upto_more i))
