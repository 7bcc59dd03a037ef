-- The walks of regions run along the edges of their chain: so their places are below the number of points.
use Rattle.std.proofs.Common.{◌≡◌, ◌∙◌, ◌<◌, ◌≤◌, ◌+◌, ◌==◌, ℕ, Bool, List, [], ◌∷◌, true, false, ap, arith, cond, filter, get_or, inl, inr, length, map, refl, subst, suc, sym, zero, Option, Some, None}
use Rattle.std.specs.Prelude.{◌&&◌, if◌then◌else◌, nat_le, nat_lt, not, pos}
use Rattle.std.specs.List.{All, flat_map, list_any}
use Rattle.std.specs.Ordering.{int_eq}
use Rattle.std.proofs.lemmas.Bool.{both_ways, cases_Bool, eqb-true}
use Rattle.std.proofs.lemmas.List.{get_or-map, length-map}
use Rattle.std.proofs.lemmas.List.Elements.{All-append, All-cons, All-filter, All-get_or, All-head, All-map, All-nil, All-tail, All-weaker}
use Rattle.chain_terms.specs.Chains.{boundary}
use Rattle.chain_terms.specs.Cycles.{cycles, cycles_within, end_from, follow, on_end, put_first, without_from}
use Rattle.chain_terms.specs.Ranks.{start}
use Rattle.chain_terms.specs.Sums.{up_from, upto}
use Rattle.face_plane.specs.Planes.{Plane}
use Rattle.plane_chains.specs.Nets.{IsStored, edge_list}
use Rattle.plane_chains.specs.declared.nets.LabelNumber.{LabelNumber}
use Rattle.plane_sheets.specs.Found.{AreCounted, has_walks, region_in}
use Rattle.plane_sheets.specs.declared.regions.SheetRegion.{SheetRegion}
use Rattle.sheet_terms.specs.Chains.{ChainEdge, chain, chain_edge, same_edge, upward}
use Rattle.sheet_terms.specs.Faces.{Face, labelled, rim_edges}
use Rattle.sheet_terms.specs.Numbers.{Border, border}
use Rattle.sheet_terms.specs.Places.{firsts}
use Rattle.sheet_terms.specs.Regions.{Region, edge_at, region, regions_within}
use Rattle.sheet_terms.specs.Walks.{follower, walks}

-- an edge starts below n, or both its ends are
abbrev Starts : ℕ → (ℕ × ℕ) → Type 0
Starts n e = e.0 < n

abbrev pub IsEdgeBelow : ℕ → (ℕ × ℕ) → Type 0
IsEdgeBelow n e = (e.0 < n) × (e.1 < n)

abbrev Below : ℕ → ℕ → Type 0
Below n v = v < n

-- from where the first edge starts
abbrev there : Option ℕ → Bool
there None = false
there (Some w) = true

from_low : (n v w : ℕ) (es : List (ℕ × ℕ)) → All (Starts n) es → end_from v es ≡ Some w → v < n
from_low n v w [] h e = absurd (both_ways (there None) refl (ap there e))
from_low n v w (d ∷ es) h e = elim (cases_Bool (d.0 == v)) as (λ _. v < n) [
  | inl y ↦ omega (arith, eqb-true d.0 v y, All-head (Starts n) d es h)
  | inr out ↦ from_low n v w es (All-tail (Starts n) d es h) (sym (ap (λ b. cond b (Some d.1) (end_from v es)) out) ∙ e)
]

without_low : (n v : ℕ) (es : List (ℕ × ℕ)) → All (Starts n) es → All (Starts n) (without_from v es)
without_low n v [] h = h
without_low n v (d ∷ es) h =
    by (d.0 == v) (without_low n v es (All-tail (Starts n) d es h))
  where
    by : (b : Bool) → All (Starts n) (without_from v es) → All (Starts n) (cond b es (d ∷ without_from v es))
    by true rest = All-tail (Starts n) d es h
    by false rest = All-cons (Starts n) d (without_from v es) (All-head (Starts n) d es h) rest

-- the vertices on the way, and the edges that are left
abbrev AreLow : ℕ → (List ℕ × List (ℕ × ℕ)) → Type 0
AreLow n r = All (Below n) r.0 × All (Starts n) r.1

follow_low : (n k v : ℕ) (es : List (ℕ × ℕ)) → All (Starts n) es → AreLow n (follow k v es)
follow_low n zero v es h = (All-nil (Below n), h)
follow_low n (suc k) v es h = by (end_from v es) refl (λ w. follow_low n k w (without_from v es) (without_low n v es h))
  where
    by : (o : Option ℕ) → end_from v es ≡ o → ((w : ℕ) → AreLow n (follow k w (without_from v es))) →
        AreLow n (on_end o ([], es) (λ w. put_first v (follow k w (without_from v es))))
    by None e rest = (All-nil (Below n), h)
    by (Some w) e rest = (All-cons (Below n) v (follow k w (without_from v es)).0 (from_low n v w es h e) (rest w).0, (rest w).1)

cycles_low : (n k : ℕ) (es : List (ℕ × ℕ)) → All (Starts n) es → All (All (Below n)) (cycles_within k es)
cycles_low n zero es h = All-nil (All (Below n))
cycles_low n (suc k) [] h = All-nil (All (Below n))
cycles_low n (suc k) (e ∷ es) h =
    let r = follow (length es) e.1 es in
    let low = follow_low n (length es) e.1 es (All-tail (Starts n) e es h) in
    All-cons (All (Below n)) (e.0 ∷ r.0) (cycles_within k r.1) (All-cons (Below n) e.0 r.0 (All-head (Starts n) e es h) low.0) (cycles_low n k r.1 low.1)

numbered_low : (f : ℕ → ℕ) (n k m : ℕ) → k + m ≤ n → All (Starts n) (map (λ i. (i, f i)) (up_from k m))
numbered_low f n k zero h = All-nil (Starts n)
numbered_low f n k (suc m) h = All-cons (Starts n) (k, f k) (map (λ i. (i, f i)) (up_from (suc k) m)) (omega (arith, h)) (numbered_low f n (suc k) m (omega (arith, h)))

-- the places of walks are those at which their edges start
pub walks_low : (n : ℕ) (at : Plane) (es : List (ℕ × ℕ)) → All (IsEdgeBelow n) es → All (All (Below n)) (walks at es)
walks_low n at es h =
    let numbered = map (λ i. (i, follower at es i)) (upto (length es)) in
    All-map (All (Below n)) (map (start es)) (cycles numbered)
    (All-weaker (All (Below (length es))) (λ c. All (Below n) (map (start es) c))
    (λ c low. All-map (Below n) (start es) c (All-weaker (Below (length es)) (λ i. start es i < n) (λ i l. (All-get_or (IsEdgeBelow n) es i (0, 0) l h).0) c low))
    (cycles numbered) (cycles_low (length es) (length numbered) numbered (numbered_low (follower at es) (length es) 0 (length es) (omega arith))))

-- the edges of regions are those of the chain
edge_low : (n j k : ℕ) (b : Border) → IsEdgeBelow n b.edge → All (IsEdgeBelow n) (edge_at j k b)
edge_low n j k b h =
    by (nat_le k (get_or b.left j 0) && nat_lt (get_or b.right j 0) k) (nat_le k (get_or b.right j 0) && nat_lt (get_or b.left j 0) k)
  where
    by : (x y : Bool) → All (IsEdgeBelow n) (if x then b.edge ∷ [] else if y then (b.edge.1, b.edge.0) ∷ [] else [])
    by true y = All-cons (IsEdgeBelow n) b.edge [] h (All-nil (IsEdgeBelow n))
    by false true = All-cons (IsEdgeBelow n) (b.edge.1, b.edge.0) [] (h.1, h.0) (All-nil (IsEdgeBelow n))
    by false false = All-nil (IsEdgeBelow n)

edges_low : (n j k : ℕ) (bs : List Border) → All (λ b. IsEdgeBelow n b.edge) bs → All (IsEdgeBelow n) (flat_map (edge_at j k) bs)
edges_low n j k [] h = All-nil (IsEdgeBelow n)
edges_low n j k (b ∷ bs) h =
    All-append (IsEdgeBelow n) (edge_at j k b) (flat_map (edge_at j k) bs) (edge_low n j k b (All-head (λ (b : Border). IsEdgeBelow n b.edge) b bs h))
    (edges_low n j k bs (All-tail (λ (b : Border). IsEdgeBelow n b.edge) b bs h))

-- so the places of the walks of regions are low
abbrev pub AreWalksBelow : ℕ → Region → Type 0
AreWalksBelow n g = All (All (λ v. v < n)) g.walks

module _ (n : ℕ) (at : Plane) (labels : List (List ℕ)) (bs : List Border) (h : All (λ b. IsEdgeBelow n b.edge) bs) where
  label_low : (j k m : ℕ) → All (AreWalksBelow n) (map (region at labels bs j) (up_from k m))
  label_low j k zero = All-nil (AreWalksBelow n)
  label_low j k (suc m) =
      All-cons (AreWalksBelow n) (region at labels bs j k) (map (region at labels bs j) (up_from (suc k) m)) (walks_low n at (flat_map (edge_at j k) bs) (edges_low n j k bs h))
      (label_low j (suc k) m)

  regions_low : (most k m : ℕ) → All (AreWalksBelow n) (flat_map (λ j. map (region at labels bs j) (up_from 1 most)) (up_from k m))
  regions_low most k zero = All-nil (AreWalksBelow n)
  regions_low most k (suc m) =
      All-append (AreWalksBelow n) (map (region at labels bs k) (up_from 1 most)) (flat_map (λ j. map (region at labels bs j) (up_from 1 most)) (up_from (suc k) m))
      (label_low k 1 most) (regions_low most (suc k) m)

-- the edges of a chain, by what is stored of it
pub stored_low : (n : ℕ) (cs : List ChainEdge) (es : List (List ℕ)) (ns : List (List LabelNumber)) → IsStored cs es ns → All (λ e. All (λ v. v < n) e) es →
    All (λ c. IsEdgeBelow n c.edge) cs
stored_low n cs es ns stored low k d inside =
    let h : All (λ v. v < n) (edge_list (get_or cs k d).edge) =
    subst (All (λ v. v < n)) (ap (λ (l : List (List ℕ)). get_or l k []) stored.edges ∙ get_or-map (λ (c : ChainEdge). edge_list c.edge) cs k d [] inside)
    (low k [] (omega (arith, inside, ap length stored.edges, length-map cs (λ (c : ChainEdge). edge_list c.edge)))) in
    (h 0 0 (omega arith), h 1 0 (omega arith))

-- the regions that were found
pub found_low : (n most : ℕ) (at : Plane) (labels : List (List ℕ)) (cs : List ChainEdge) (rs : List SheetRegion) → All (λ c. IsEdgeBelow n c.edge) cs →
    map (region_in labels) rs ≡ filter has_walks (regions_within most at labels (map (border at labels cs) cs)) → All (λ r. All (All (λ v. v < n)) r.walks.items) rs
found_low n most at labels cs rs h made k d inside =
    let all : All (AreWalksBelow n) (map (region_in labels) rs) =
    subst (All (AreWalksBelow n)) (sym made)
    (All-filter has_walks (AreWalksBelow n) (regions_within most at labels (map (border at labels cs) cs))
    (regions_low n at labels (map (border at labels cs) cs) (All-map (λ (b : Border). IsEdgeBelow n b.edge) (border at labels cs) cs h) most 0 (length labels))) in
    subst (AreWalksBelow n) (get_or-map (region_in labels) rs k d (region_in labels d) inside)
    (all k (region_in labels d) (omega (arith, inside, length-map rs (region_in labels))))

-- a chain has a number for each label
pub chain_counted : (labels : List (List ℕ)) (fs : List Face) → AreCounted labels (chain labels fs)
chain_counted labels fs =
    let es = firsts same_edge (map upward (rim_edges fs)) in
    All-filter (λ (c : ChainEdge). list_any (λ n. not (int_eq n (pos 0))) c.counts) (λ c. length c.counts ≡ length labels) (map (chain_edge labels fs) es)
    (All-map (λ (c : ChainEdge). length c.counts ≡ length labels) (chain_edge labels fs) es
    (λ k d low. length-map labels (λ l. boundary (rim_edges (labelled l fs)) (get_or es k d).0 (get_or es k d).1)))
