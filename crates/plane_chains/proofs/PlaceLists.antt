-- The places of the edges of a chain are those of the rims.
use Rattle.std.proofs.Common.{◌≡◌, ◌<◌, ◌+◌, ◌∙◌, ℕ, Bool, List, [], ◌∷◌, false, ap, arith, get_or, length, map, pos, subst, suc, sym, zero}
use Rattle.std.specs.Prelude.{not}
use Rattle.std.specs.List.{All, list_any}
use Rattle.std.specs.Ordering.{int_eq}
use Rattle.std.proofs.lemmas.List.{length-map}
use Rattle.std.proofs.lemmas.List.Elements.{All-append, All-cons, All-filter, All-map, All-nil}
use Rattle.chain_terms.specs.Paths.{last_of, path, round_edges}
use Rattle.chain_terms.specs.Sums.{upto}
use Rattle.sheet_terms.specs.Chains.{ChainEdge, same_edge}
use Rattle.sheet_terms.specs.Places.{firsts}
use Rattle.plane_chains.specs.declared.chain.Way.{Way}
use Rattle.plane_chains.specs.declared.nets.LabelNumber.{LabelNumber}
use Rattle.plane_chains.specs.Nets.{IsStored, edge_list, nonzero}
use Rattle.plane_chains.specs.Ways.{marked, way_along, way_chain, way_edge, way_up, ways_of, ways_round}
use Rattle.plane_chains.proofs.FaceLists.{firsts_all}
use Rattle.plane_chains.proofs.GridPoints.{flat_map_all, upto_below}

-- both ends of an edge are below m
abbrev pub AreLow : ℕ → (ℕ × ℕ) → Type 0
AreLow m e = (e.0 < m) × (e.1 < m)

last_low : (m x : ℕ) (r : List ℕ) → x < m → All (λ v. v < m) r → last_of x r < m
last_low m x [] h all = h
last_low m x (y ∷ r) h all = last_low m y r (all 0 y (omega arith)) (λ k d low. all (suc k) d (omega (arith, low)))

path_low : (m x : ℕ) (r : List ℕ) → x < m → All (λ v. v < m) r → All (AreLow m) (path x r)
path_low m x [] h all = All-nil (AreLow m)
path_low m x (y ∷ r) h all =
    All-cons (AreLow m) (x, y) (path y r) (h, all 0 y (omega arith)) (path_low m y r (all 0 y (omega arith)) (λ k d low. all (suc k) d (omega (arith, low))))

round_low : (m : ℕ) (r : List ℕ) → All (λ v. v < m) r → All (AreLow m) (round_edges r)
round_low m [] all = All-nil (AreLow m)
round_low m (x ∷ r) all =
    let here : x < m = all 0 x (omega arith) in
    let rest : All (λ v. v < m) r = λ k d low. all (suc k) d (omega (arith, low)) in
    All-append (AreLow m) (path x r) ((last_of x r, x) ∷ []) (path_low m x r here rest) (All-cons (AreLow m) (last_of x r, x) [] (last_low m x r here rest, here) (All-nil (AreLow m)))

ways_low : (m : ℕ) (rims : List (List ℕ)) (labels : List ℕ) (marks : List Bool) → All (λ rim. All (λ v. v < m) rim) rims → All (λ (w : Way). AreLow m (w.from, w.to)) (ways_of rims labels marks)
ways_low m rims labels marks all =
    flat_map_all (λ (w : Way). AreLow m (w.from, w.to)) (λ i. ways_round (get_or rims i []) (get_or labels i 0)) (marked marks (length rims))
    (λ k d low.
    let i = get_or (marked marks (length rims)) k d in
    let inside : i < length rims = All-filter (λ j. get_or marks j false) (λ j. j < length rims) (upto (length rims)) (upto_below (length rims)) k d low in
    All-map (λ (w : Way). AreLow m (w.from, w.to)) (way_along (get_or labels i 0)) (round_edges (get_or rims i [])) (round_low m (get_or rims i []) (all i [] inside)))

up_low : (m : ℕ) (w : Way) → AreLow m (w.from, w.to) → AreLow m (way_up w)
up_low m w h = (omega (arith, h.0, h.1), omega (arith, h.0, h.1))

chain_low : (m n : ℕ) (ws : List Way) → All (λ (w : Way). AreLow m (w.from, w.to)) ws → All (λ (c : ChainEdge). AreLow m c.edge) (way_chain n ws)
unfolding way_chain
chain_low m n ws all =
    All-filter (λ (c : ChainEdge). list_any (λ k. not (int_eq k (pos 0))) c.counts) (λ (c : ChainEdge). AreLow m c.edge) (map (way_edge n ws) (firsts same_edge (map way_up ws)))
    (All-map (λ (c : ChainEdge). AreLow m c.edge) (way_edge n ws) (firsts same_edge (map way_up ws))
    (firsts_all (AreLow m) same_edge [] (map way_up ws) (All-map (AreLow m) way_up ws (λ k d low. up_low m (get_or ws k d) (all k d low)))))

pub chain_places : (m n : ℕ) (rims : List (List ℕ)) (labels : List ℕ) (marks : List Bool) (es : List (List ℕ)) (ns : List (List LabelNumber)) →
    All (λ rim. All (λ v. v < m) rim) rims → IsStored (way_chain n (ways_of rims labels marks)) es ns → All (λ e. All (λ v. v < m) e) es
chain_places m n rims labels marks es ns all is =
    subst (λ ds. All (λ e. All (λ v. v < m) e) ds) (sym is.edges)
    (All-map (λ e. All (λ v. v < m) e) (λ (c : ChainEdge). edge_list c.edge) (way_chain n (ways_of rims labels marks))
    (λ k d low.
    let e = (get_or (way_chain n (ways_of rims labels marks)) k d).edge in
    let h = chain_low m n (ways_of rims labels marks) (ways_low m rims labels marks all) k d low in
    All-cons (λ v. v < m) e.0 (e.1 ∷ []) h.0 (All-cons (λ v. v < m) e.1 [] h.1 (All-nil (λ v. v < m)))))

pub chain_full : (n : ℕ) (ws : List Way) (es : List (List ℕ)) (ns : List (List LabelNumber)) → IsStored (way_chain n ws) es ns → length ns ≡ length es
chain_full n ws es ns is =
    ap length is.nets ∙ length-map (way_chain n ws) (λ (c : ChainEdge). nonzero c.counts) ∙ sym (ap length is.edges ∙ length-map (way_chain n ws) (λ (c : ChainEdge). edge_list c.edge))

-- numbers are below one more than their sum
abbrev pub sum_of : List ℕ → ℕ
sum_of [] = 0
sum_of (l ∷ ls) = l + sum_of ls

pub below_sum : (ls : List ℕ) → All (λ l. l < suc (sum_of ls)) ls
below_sum [] k d low = absurd (omega (arith, low))
below_sum (l ∷ ls) zero d low = omega arith
below_sum (l ∷ ls) (suc k) d low = let r = below_sum ls k d (omega (arith, low)) in omega (arith, r)
