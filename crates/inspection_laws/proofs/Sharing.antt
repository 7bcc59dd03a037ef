-- Edges of triangles that are not flat, between first points at their places: how many lie between two is how many triangles have both places.
use Rattle.std.specs.Prelude.{◌≡◌, ℕ, zero, suc, ◌+◌, ◌*◌, ◌<◌, ◌≤◌, ℤ, pos, negsuc, ◌+ℤ◌, ◌*ℤ◌, List, [], ◌∷◌, ◌++◌, Bool, true, false, not, cond, ◌&&◌, ◌||◌, ◌==◌, nat_lt, map, length, count_by, get_or}
use Rattle.std.specs.List.{All, list_any}
use Rattle.std.proofs.Common.{arith, refl, sym, ap, ◌∙◌, add-one, inl, inr}
use Rattle.std.proofs.lemmas.Bool.{and_right, both_ways, cases_order, eq-eqb, eqb-true, ne_eqb}
use Rattle.std.proofs.lemmas.Int.{ints}
use Rattle.std.proofs.lemmas.List.{get_or-map, length-map, map-append}
use Rattle.std.proofs.lemmas.List.Folds.{list_any_at}
use Rattle.chain_terms.specs.Sums.{upto}
use Rattle.chain_laws.proofs.Places.{get_or-up_from, length-up_from}
use Rattle.mesh_terms.specs.Meshes.{IsBelow, Mesh, Triple}
use Rattle.places_by_key.specs.Buckets.{places_of}
use Rattle.inspection_terms.specs.Inspected.{has_corner, has_earlier, is_touching, pairs_below, same_place}
use Rattle.inspection_terms.specs.Triangles.{Corners, corners_at, is_flat, place_at}
use Rattle.inspection_laws.specs.Sharing.{AreFirsts, IsFirst, edges_between, edges_upto, full_edges}
use Rattle.inspection_laws.proofs.Between.{edges_count, is_edge}
use Rattle.inspection_laws.proofs.Counting.{count-append, count-below, count-filter, count-same, pairs_more}
use Rattle.inspection_laws.proofs.Near.{count-upto_more}
use Rattle.inspection_laws.proofs.Spread.{spread}
use Rattle.inspection_laws.proofs.Tests.{place_yes, yes_place}
use Rattle.inspection_laws.proofs.Uses.{count-nothing, count-places}

-- the corners of a triangle that is not flat lie at three places
pub first_apart : (t : Corners) → is_flat t ≡ false → t.0 ≡ t.1 → ⊥
first_apart t full e =
    let s = (spread t full).first (pos 1) (negsuc 0) (pos 0) (omega (arith, ints)) (even t.0.x t.1.x t.2.x (λ i. (e i).x))
    (even t.0.y t.1.y t.2.y (λ i. (e i).y)) (even t.0.z t.1.z t.2.z (λ i. (e i).z)) in
    omega (arith, ints, s.0)
  where
    even : (u v w : ℤ) → u ≡ v → pos 1 *ℤ u +ℤ negsuc 0 *ℤ v +ℤ pos 0 *ℤ w ≡ pos 0
    even u v w e = omega (arith, ints, e)

pub second_apart : (t : Corners) → is_flat t ≡ false → t.1 ≡ t.2 → ⊥
second_apart t full e =
    let s = (spread t full).first (pos 0) (pos 1) (negsuc 0) (omega (arith, ints)) (even t.0.x t.1.x t.2.x (λ i. (e i).x))
    (even t.0.y t.1.y t.2.y (λ i. (e i).y)) (even t.0.z t.1.z t.2.z (λ i. (e i).z)) in
    omega (arith, ints, s.1)
  where
    even : (u v w : ℤ) → v ≡ w → pos 0 *ℤ u +ℤ pos 1 *ℤ v +ℤ negsuc 0 *ℤ w ≡ pos 0
    even u v w e = omega (arith, ints, e)

pub third_apart : (t : Corners) → is_flat t ≡ false → t.2 ≡ t.0 → ⊥
third_apart t full e =
    let s = (spread t full).first (negsuc 0) (pos 0) (pos 1) (omega (arith, ints)) (even t.0.x t.1.x t.2.x (λ i. (e i).x))
    (even t.0.y t.1.y t.2.y (λ i. (e i).y)) (even t.0.z t.1.z t.2.z (λ i. (e i).z)) in
    omega (arith, ints, s.2)
  where
    even : (u v w : ℤ) → w ≡ u → negsuc 0 *ℤ u +ℤ pos 0 *ℤ v +ℤ pos 1 *ℤ w ≡ pos 0
    even u v w e = omega (arith, ints, e)

-- a point behind another at its place has an earlier one
later : (points : List (List ℤ)) (w s : ℕ) → w < s → place_at points w ≡ place_at points s → has_earlier points s ≡ true
later points w s less e =
    let is : get_or (upto s) w 0 ≡ w = omega (arith, get_or-up_from 0 s w 0 less) in
    list_any_at (λ x. same_place (place_at points x) (place_at points s)) (upto s) w 0 (omega (arith, less, length-up_from 0 s))
    (place_yes (place_at points (get_or (upto s) w 0)) (place_at points s) (ap (place_at points) is ∙ e))

-- of the points at one place only one is the first
same_first : (points : List (List ℤ)) (w s : ℕ) → has_earlier points w ≡ false → has_earlier points s ≡ false → place_at points w ≡ place_at points s → w ≡ s
same_first points w s hw hs e = elim (cases_order w s) as (λ _. w ≡ s) [
  | inl same ↦ same
  | inr (inl less) ↦ absurd (both_ways (has_earlier points s) hs (later points w s less e))
  | inr (inr less) ↦ absurd (both_ways (has_earlier points w) hw (later points s w less (sym e)))
]

-- tests that say the same
same_test : (a b : Bool) → (a ≡ true → b ≡ true) → (b ≡ true → a ≡ true) → a ≡ b
same_test true b f g = sym (f refl)
same_test false true f g = absurd (let e : false ≡ true = g refl in cc)
same_test false false f g = refl

module _ (points : List (List ℤ)) (v w : ℕ) (is : IsFirst points v w) (s : ℕ) where
  -- the first point at a place is another first point exactly where that lies there
  first_is : has_earlier points s ≡ false → (w == s) ≡ same_place (place_at points s) (place_at points v)
  first_is first = same_test (w == s) (same_place (place_at points s) (place_at points v))
      (λ e. place_yes (place_at points s) (place_at points v) (sym (ap (place_at points) (eqb-true w s e)) ∙ is.there))
      (λ e. eq-eqb w s (same_first points w s is.first first (is.there ∙ sym (yes_place (place_at points s) (place_at points v) e))))

  -- and it is no point that is not the first at its place
  never_is : has_earlier points s ≡ true → (w == s) ≡ false
  never_is earlier = ne_eqb w s (λ e. both_ways (has_earlier points w) is.first (ap (has_earlier points) e ∙ earlier))

-- triangle t is not flat, and the places of points v and w are corners of it
abbrev pub shares : Mesh → ℕ → ℕ → ℕ → Bool
shares m v w t = not (is_flat (corners_at m t)) && has_corner (corners_at m t) (place_at m.points v) && has_corner (corners_at m t) (place_at m.points w)

-- v is less than w, and both are the first at their places
abbrev pub are_firsts : Mesh → ℕ → ℕ → Bool
are_firsts m v w = nat_lt v w && (not (has_earlier m.points v) && not (has_earlier m.points w))

-- flags in another order
shuffle : (l ns nt hs ht : Bool) → (l && ((ns && hs) && (nt && ht))) ≡ ((l && (ns && nt)) && (hs && ht))
shuffle false ns nt hs ht = refl
shuffle true false nt hs ht = refl
shuffle true true false true ht = refl
shuffle true true false false ht = refl
shuffle true true true hs ht = refl

module _ (points : List (List ℤ)) (a b c v w u : ℕ) (is_a : IsFirst points a v) (is_b : IsFirst points b w) (is_c : IsFirst points c u) where
  -- a point that is the first at its place is among the first points of a triangle exactly where a corner lies there
  pub hits : (s : ℕ) →
      (((v == s) || (w == s)) || (u == s)) ≡ (not (has_earlier points s) && has_corner (place_at points a, place_at points b, place_at points c) (place_at points s))
  hits s = by (has_earlier points s) refl where
    by : (e : Bool) → has_earlier points s ≡ e →
        (((v == s) || (w == s)) || (u == s)) ≡ (not (has_earlier points s) && has_corner (place_at points a, place_at points b, place_at points c) (place_at points s))
    by false q =
        (λ i. (first_is points a v is_a s q i || first_is points b w is_b s q i) || first_is points c u is_c s q i)
        ∙ ap (λ (h : Bool). not h && has_corner (place_at points a, place_at points b, place_at points c) (place_at points s)) (sym q)
    by true q =
        (λ i. (never_is points a v is_a s q i || never_is points b w is_b s q i) || never_is points c u is_c s q i)
        ∙ ap (λ (h : Bool). not h && has_corner (place_at points a, place_at points b, place_at points c) (place_at points s)) (sym q)

  -- so many of the edges between them lie between two numbers, where the triangle is not flat
  pub full_count : (s t : ℕ) → is_flat (place_at points a, place_at points b, place_at points c) ≡ false →
      count_by (is_edge s t) (edges_between v w u)
      ≡ cond (
      (nat_lt s t && (not (has_earlier points s) && not (has_earlier points t)))
      && (
      has_corner (place_at points a, place_at points b, place_at points c) (place_at points s)
      && has_corner (place_at points a, place_at points b, place_at points c) (place_at points t)
      )
      ) 1 0
  full_count s t full =
      edges_count v w u s t
      (λ e. first_apart (place_at points a, place_at points b, place_at points c) full (sym is_a.there ∙ ap (place_at points) e ∙ is_b.there))
      (λ e. second_apart (place_at points a, place_at points b, place_at points c) full (sym is_b.there ∙ ap (place_at points) e ∙ is_c.there))
      (λ e. third_apart (place_at points a, place_at points b, place_at points c) full (sym is_c.there ∙ ap (place_at points) e ∙ is_a.there))
      ∙ (λ i. cond (nat_lt s t && (hits s i && hits t i)) 1 0)
      ∙ ap (λ (x : Bool). cond x 1 0)
      (shuffle (nat_lt s t) (not (has_earlier points s)) (not (has_earlier points t))
      (has_corner (place_at points a, place_at points b, place_at points c) (place_at points s))
      (has_corner (place_at points a, place_at points b, place_at points c) (place_at points t)))

module _ (m : Mesh) (firsts : List ℕ) (are : AreFirsts m.points firsts) (low : All (IsBelow (length m.points)) m.triples) where
  -- so many of the edges of a triangle lie between two numbers
  module _ (k s t : ℕ) (within : k < length m.triples) where
    abbrev v : Triple
    v = get_or m.triples k (0, 0, 0)

    abbrev edges : List (ℕ × ℕ)
    edges = edges_between (get_or firsts v.0 0) (get_or firsts v.1 0) (get_or firsts v.2 0)

    abbrev flag : Bool → ℕ
    flag f = cond (are_firsts m s t && (not f && has_corner (corners_at m k) (place_at m.points s) && has_corner (corners_at m k) (place_at m.points t))) 1 0

    below : IsBelow (length m.points) v
    below = low k (0, 0, 0) within

    by_flat : (flat : Bool) → is_flat (corners_at m k) ≡ flat → count_by (is_edge s t) (full_edges m firsts k) ≡ flag (is_flat (corners_at m k))
    by_flat true e =
        ap (λ (f : Bool). count_by (is_edge s t) (cond f [] edges)) e
        ∙ sym (ap flag e ∙ ap (λ (x : Bool). cond x 1 0) (and_right (are_firsts m s t) false refl))
    by_flat false e =
        ap (λ (f : Bool). count_by (is_edge s t) (cond f [] edges)) e
        ∙ full_count m.points v.0 v.1 v.2 (get_or firsts v.0 0) (get_or firsts v.1 0)
        (get_or firsts v.2 0) (are.each v.0 below.a) (are.each v.1 below.b) (are.each v.2 below.c) s t e
        ∙ sym (ap flag e)

    triangle_edges : count_by (is_edge s t) (full_edges m firsts k) ≡ cond (are_firsts m s t && shares m s t k) 1 0
    triangle_edges = by_flat (is_flat (corners_at m k)) refl

  -- and of the edges of the first triangles
  edges_total : (n s t : ℕ) → n ≤ length m.triples → count_by (is_edge s t) (edges_upto m firsts n) ≡ count_by (λ k. are_firsts m s t && shares m s t k) (upto n)
  edges_total zero s t h = refl
  edges_total (suc n) s t h =
      count-append (is_edge s t) (edges_upto m firsts n) (full_edges m firsts n)
      ∙ (λ i. edges_total n s t (omega (arith, h)) i + triangle_edges n s t (omega (arith, h)) i)
      ∙ sym (count-upto_more (λ k. are_firsts m s t && shares m s t k) n)
      ∙ ap (λ k. count_by (λ j. are_firsts m s t && shares m s t j) (upto k)) (add-one n)

  -- edges with one greater end, counted by their lesser ones
  bucket_count : (lows highs : List ℕ) (edges : List (ℕ × ℕ)) → lows ≡ map (λ e. e.0) edges → highs ≡ map (λ e. e.1) edges → (s t : ℕ) →
      count_by (λ p. get_or lows p 0 == s) (places_of highs t) ≡ count_by (is_edge s t) edges
  bucket_count lows highs edges l h s t =
      count-filter (λ p. get_or lows p 0 == s) (λ p. get_or highs p 0 == t) (upto (length highs))
      ∙ ap (λ n. count_by (λ p. (get_or highs p 0 == t) && (get_or lows p 0 == s)) (upto n)) (ap length h ∙ length-map edges (λ e. e.1))
      ∙ sym (count-places (is_edge s t) (0, 0) (λ p. (get_or highs p 0 == t) && (get_or lows p 0 == s)) edges at)
    where
      at : (i : ℕ) → i < length edges → ((get_or highs i 0 == t) && (get_or lows i 0 == s)) ≡ is_edge s t (get_or edges i (0, 0))
      at i below =
          let high : get_or highs i 0 ≡ (get_or edges i (0, 0)).1 = ap (λ xs. get_or xs i 0) h ∙ get_or-map (λ (e : ℕ × ℕ). e.1) edges i (0, 0) 0 below in
          let lower : get_or lows i 0 ≡ (get_or edges i (0, 0)).0 = ap (λ xs. get_or xs i 0) l ∙ get_or-map (λ (e : ℕ × ℕ). e.0) edges i (0, 0) 0 below in
          λ j. (high j == t) && (lower j == s)

  -- a count of what passes a test only where some flags are set
  flagged : (l f g : Bool) (p : ℕ → Bool) (xs : List ℕ) → nat_lt 2 (count_by (λ k. (l && (f && g)) && p k) xs) ≡ (l && ((f && g) && nat_lt 2 (count_by p xs)))
  flagged false f g p xs = ap (nat_lt 2) (count-nothing xs)
  flagged true false g p xs = ap (nat_lt 2) (count-nothing xs)
  flagged true true false p xs = ap (nat_lt 2) (count-nothing xs)
  flagged true true true p xs = refl

  module _ (lows highs : List ℕ) (lows_are : lows ≡ map (λ e. e.0) (edges_upto m firsts (length m.triples)))
      (highs_are : highs ≡ map (λ e. e.1) (edges_upto m firsts (length m.triples))) where
    shared : (s t : ℕ) → nat_lt 2 (count_by (λ p. get_or lows p 0 == s) (places_of highs t)) ≡ (nat_lt s t && is_touching m (s, t))
    shared s t =
        ap (nat_lt 2) (bucket_count lows highs (edges_upto m firsts (length m.triples)) lows_are highs_are s t ∙ edges_total (length m.triples) s t (omega arith))
        ∙ flagged (nat_lt s t) (not (has_earlier m.points s)) (not (has_earlier m.points t)) (shares m s t) (upto (length m.triples))

    -- edges that touch, by their greater end
    pub touching_at : (t : ℕ) → t ≤ length m.points →
        count_by (λ s. nat_lt 2 (count_by (λ p. get_or lows p 0 == s) (places_of highs t))) (upto (length m.points)) ≡ count_by (λ s. is_touching m (s, t)) (upto t)
    touching_at t h =
        count-same (λ s. nat_lt 2 (count_by (λ p. get_or lows p 0 == s) (places_of highs t))) (λ s. nat_lt s t && is_touching m (s, t)) (upto (length m.points)) (λ s. shared s t)
        ∙ count-below (λ s. is_touching m (s, t)) t (length m.points) h

-- one greater end more
pub touching_more : (m : Mesh) (t count more : ℕ) → count ≡ count_by (is_touching m) (pairs_below t) → more ≡ count_by (λ s. is_touching m (s, t)) (upto t) →
    count + more ≡ count_by (is_touching m) (pairs_below (t + 1))
touching_more m t count more e f = (λ i. e i + f i) ∙ sym (pairs_more (is_touching m) t)

-- edges of the first triangles, one triangle more
pub ends_more : (m : Mesh) (firsts : List ℕ) (end : ℕ × ℕ → ℕ) (t : ℕ) (old new : List ℕ) → old ≡ map end (edges_upto m firsts t) →
    new ≡ old ++ map end (full_edges m firsts t) → new ≡ map end (edges_upto m firsts (t + 1))
ends_more m firsts end t old new e f =
    f ∙ ap (λ xs. xs ++ map end (full_edges m firsts t)) e ∙ sym (map-append end (edges_upto m firsts t) (full_edges m firsts t))
    ∙ ap (λ k. map end (edges_upto m firsts k)) (sym (add-one t))
