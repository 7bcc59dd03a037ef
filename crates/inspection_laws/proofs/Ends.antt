-- The ends of edges between first points are points; and there are three edges a triangle.
use Rattle.std.specs.Prelude.{◌≡◌, ℕ, zero, suc, ◌+◌, ◌*◌, ◌<◌, ◌≤◌, List, [], ◌∷◌, ◌++◌, Bool, true, false, cond, ◌==◌, nat_lt, map, length, get_or}
use Rattle.std.specs.List.{All}
use Rattle.std.proofs.Common.{arith, refl, sym, ap, ◌∙◌, replicate}
use Rattle.std.proofs.lemmas.List.{get_or-map, length-append, length-map}
use Rattle.std.proofs.lemmas.List.Elements.{All-append, All-cons, All-filter, All-map, All-nil}
use Rattle.std.proofs.lemmas.List.Sums.{count_by-le-length, length-filter}
use Rattle.chain_terms.specs.Sums.{upto}
use Rattle.chain_laws.proofs.Places.{get_or-up_from, length-up_from}
use Rattle.mesh_terms.specs.Meshes.{IsBelow, Mesh, Triple}
use Rattle.places_by_key.specs.Buckets.{places_of}
use Rattle.inspection_terms.specs.Triangles.{corners_at, is_flat}
use Rattle.inspection_laws.specs.Sharing.{AreFirsts, edge_between, edges_between, edges_upto, full_edges}

-- both ends are below n
record EndsBelow (n : ℕ) (e : ℕ × ℕ) : Type 0 where
  low : e.0 < n
  high : e.1 < n

between_below : (n a b : ℕ) → a < n → b < n → EndsBelow n (edge_between a b)
between_below n a b ha hb = by (nat_lt a b) where
  by : (l : Bool) → EndsBelow n (cond l (a, b) (b, a))
  by true = record { low = ha; high = hb }
  by false = record { low = hb; high = ha }

three_below : (n a b c : ℕ) → a < n → b < n → c < n → All (EndsBelow n) (edges_between a b c)
three_below n a b c ha hb hc =
    All-cons (EndsBelow n) (edge_between a b) (edge_between b c ∷ edge_between c a ∷ []) (between_below n a b ha hb)
    (All-cons (EndsBelow n) (edge_between b c) (edge_between c a ∷ []) (between_below n b c hb hc)
    (All-cons (EndsBelow n) (edge_between c a) [] (between_below n c a hc ha) (All-nil (EndsBelow n))))

module _ (m : Mesh) (firsts : List ℕ) (are : AreFirsts m.points firsts) (low : All (IsBelow (length m.points)) m.triples) where
  first_below : (v : ℕ) → v < length m.points → get_or firsts v 0 < length m.points
  first_below v h = let is = are.each v h in omega (arith, is.before, h)

  full_below : (k : ℕ) → k < length m.triples → All (EndsBelow (length m.points)) (full_edges m firsts k)
  full_below k within = by (is_flat (corners_at m k)) where
    below : IsBelow (length m.points) (get_or m.triples k (0, 0, 0))
    below = low k (0, 0, 0) within

    by : (flat : Bool) → All (EndsBelow (length m.points)) (
        cond flat []
        (edges_between (get_or firsts (get_or m.triples k (0, 0, 0)).0 0) (get_or firsts (get_or m.triples k (0, 0, 0)).1 0) (get_or firsts (get_or m.triples k (0, 0, 0)).2 0))
        )
    by true = All-nil (EndsBelow (length m.points))
    by false = three_below (length m.points) _ _ _ (first_below _ below.a) (first_below _ below.b) (first_below _ below.c)

  edges_below : (k : ℕ) → k ≤ length m.triples → All (EndsBelow (length m.points)) (edges_upto m firsts k)
  edges_below zero h = All-nil (EndsBelow (length m.points))
  edges_below (suc k) h =
      All-append (EndsBelow (length m.points)) (edges_upto m firsts k) (full_edges m firsts k) (edges_below k (omega (arith, h))) (full_below k (omega (arith, h)))

  pub lows_below : All (λ x. x < length m.points) (map (λ e. e.0) (edges_upto m firsts (length m.triples)))
  lows_below = All-map (λ x. x < length m.points) (λ (e : ℕ × ℕ). e.0) (edges_upto m firsts (length m.triples))
      (λ k d h. (edges_below (length m.triples) (omega arith) k d h).low)

  pub highs_below : All (λ x. x < length m.points) (map (λ e. e.1) (edges_upto m firsts (length m.triples)))
  highs_below = All-map (λ x. x < length m.points) (λ (e : ℕ × ℕ). e.1) (edges_upto m firsts (length m.triples))
      (λ k d h. (edges_below (length m.triples) (omega arith) k d h).high)

-- three edges a triangle, at most
few_full : (m : Mesh) (firsts : List ℕ) (k : ℕ) → length (full_edges m firsts k) ≤ 3
few_full m firsts k = by (is_flat (corners_at m k)) where
  by : (flat : Bool) → length (
      cond flat []
      (edges_between (get_or firsts (get_or m.triples k (0, 0, 0)).0 0) (get_or firsts (get_or m.triples k (0, 0, 0)).1 0) (get_or firsts (get_or m.triples k (0, 0, 0)).2 0))
      ) ≤ 3
  by true = omega arith
  by false = omega arith

pub few_edges : (m : Mesh) (firsts : List ℕ) (k : ℕ) → length (edges_upto m firsts k) ≤ 3 * k
few_edges m firsts zero = omega arith
few_edges m firsts (suc k) = omega (arith, length-append (edges_upto m firsts k) (full_edges m firsts k), few_edges m firsts k, few_full m firsts k)

-- the places with one key are places of the list, and no more than these
pub places_below : (keys : List ℕ) (k : ℕ) → All (λ p. p < length keys) (places_of keys k)
places_below keys k = All-filter (λ i. get_or keys i 0 == k) (λ p. p < length keys) (upto (length keys)) all where
  all : All (λ p. p < length keys) (upto (length keys))
  all i d h =
      let low : i < length keys = omega (arith, h, length-up_from 0 (length keys)) in
      omega (arith, get_or-up_from 0 (length keys) i d low, low)

pub places_few : (keys : List ℕ) (k : ℕ) → length (places_of keys k) ≤ length keys
places_few keys k =
    omega (
      arith,
      length-filter (λ i. get_or keys i 0 == k) (upto (length keys)),
      count_by-le-length (λ i. get_or keys i 0 == k) (upto (length keys)),
      length-up_from 0 (length keys),
    )

-- the bucket of a key
pub bucket_is : (keys : List ℕ) (n v : ℕ) → v < n → get_or (map (places_of keys) (upto n)) v [] ≡ places_of keys v
bucket_is keys n v h =
    let same : get_or (upto n) v 0 ≡ v = omega (arith, get_or-up_from 0 n v 0 h) in
    get_or-map (places_of keys) (upto n) v 0 [] (omega (arith, h, length-up_from 0 n)) ∙ ap (places_of keys) same

-- as many lesser ends as greater ones
pub ends_same : (edges : List (ℕ × ℕ)) (lows highs : List ℕ) → lows ≡ map (λ e. e.0) edges → highs ≡ map (λ e. e.1) edges → length lows ≡ length highs
ends_same edges lows highs l h = ap length l ∙ length-map edges (λ e. e.0) ∙ sym (ap length h ∙ length-map edges (λ e. e.1))

-- nothing but 0
pub zeros : (n s : ℕ) → ◌≡◌ {A = ℕ} (get_or (replicate n 0) s 0) 0
zeros zero s = refl
zeros (suc n) zero = refl
zeros (suc n) (suc s) = zeros n s
