-- The new vertices lie where the old ones do, and the old vertices put for the new ones give the triangles back.
use Rattle.std.proofs.Common.{◌≡◌, ◌<◌, ◌+◌, ◌*◌, ℕ, ℤ, List, [], map, length, get_or, sym, ◌∙◌, ap, arith}
use Rattle.std.specs.List.{All, Contains}
use Rattle.std.proofs.lemmas.List.{get_or_default, get_or-map, length-map, same_lists}
use Rattle.chain_terms.specs.Ranks.{start}
use Rattle.chain_terms.specs.Sums.{upto}
use Rattle.chain_laws.proofs.Places.{get_or-up_from, length-up_from}
use Rattle.halfedge.proofs.Edges.{length-all_edges}
use Rattle.mesh_terms.specs.Meshes.{Triple, IsAccepted, IsBelow}
use Rattle.pinch_split.specs.Back.{ComeFrom, named_by}
use Rattle.pinch_split.specs.Given.{corners, points_of, starts_of}
use Rattle.pinch_split.proofs.Anew.{HasFans, corner_at, fan, old, start_of_fan}
use Rattle.pinch_split.proofs.CleanFans.{HasHalf, triple_starts, used_half}
use Rattle.pinch_split.proofs.Corners.{length-corners}
use Rattle.pinch_split.proofs.Whole.{starts_below}

-- the old vertex of a half-edge's fan is where the half-edge starts
old_start : (ts : List Triple) (of first : List ℕ) → HasFans ts of first → (h : ℕ) → h < length (old ts) → get_or (starts_of ts first) (fan of h) 0 ≡ start (old ts) h
old_start ts of first known h below = get_or-map (start (old ts)) first (fan of h) 0 0 (known.fans.numbered h below) ∙ sym (start_of_fan ts of first known h below)

-- the old vertices put for the fans give the triangles again
pub triples_back : (ts : List Triple) (of first : List ℕ) → HasFans ts of first → map (named_by (starts_of ts first)) (corners of (length ts)) ≡ ts
triples_back ts of first known = same_lists (map (named_by from) (corners of n)) ts (length-map (corners of n) (named_by from) ∙ full) each
  where
    n : ℕ
    n = length ts

    from : List ℕ
    from = starts_of ts first

    full : length (corners of n) ≡ n
    full = length-corners (fan of) n

    each : (i : ℕ) (d : Triple) → i < length (map (named_by from) (corners of n)) → get_or (map (named_by from) (corners of n)) i d ≡ get_or ts i d
    each i d low =
        let within : i < length (corners of n) = omega (arith, low, length-map (corners of n) (named_by from)) in
        let below : i < n = omega (arith, within, full) in
        let halves = length-all_edges ts in
        let a = old_start ts of first known (3 * i) (omega (arith, below, halves)) in
        let b = old_start ts of first known (3 * i + 1) (omega (arith, below, halves)) in
        let c = old_start ts of first known (3 * i + 2) (omega (arith, below, halves)) in
        get_or-map (named_by from) (corners of n) i (0, 0, 0) d within ∙ (λ j. named_by from (corner_at (fan of) n i (0, 0, 0) below j))
        ∙ (λ j. (a j, b j, c j)) ∙ sym (triple_starts ts i d below)

-- the fans lie where their old vertices do, and each old vertex has a fan
pub fans_come_from : (points : List (List ℤ)) (ts : List Triple) (of first : List ℕ) → IsAccepted (length points) ts → HasFans ts of first →
    ComeFrom (points_of points (starts_of ts first)) points (starts_of ts first)
fans_come_from points ts of first accepted known = record {
  each = sym count;
  there = λ v low. let within : v < length from = omega (arith, low, count) in
      (starts_below (length points) ts of first accepted known v 0 within, get_or-map (λ w. get_or points w []) from v 0 [] within);
  all = λ w low. of_half w (used_half ts w (accepted.mesh.used w low));
}
  where
    from : List ℕ
    from = starts_of ts first

    count : length (points_of points from) ≡ length from
    count = length-map from (λ w. get_or points w [])

    of_half : (w : ℕ) → HasHalf ts w → Contains from w
    of_half w (h, below, is) =
        let number = known.fans.numbered h below in
        let within : fan of h < length from = omega (arith, number, length-map first (start (old ts))) in
        (fan of h, within, get_or_default from (fan of h) w 0 within ∙ old_start ts of first known h below ∙ is)

-- a number below n is the member at its own place
own_place : (n i d : ℕ) → i < n → get_or (upto n) i d ≡ i
own_place n i d below = omega (arith, get_or-up_from 0 n i d below)

-- triangles whose vertices are named as themselves
pub triples_stay : (n : ℕ) (ts : List Triple) → All (IsBelow n) ts → map (named_by (upto n)) ts ≡ ts
triples_stay n ts below = same_lists (map (named_by (upto n)) ts) ts (length-map ts (named_by (upto n))) each
  where
    each : (i : ℕ) (d : Triple) → i < length (map (named_by (upto n)) ts) → get_or (map (named_by (upto n)) ts) i d ≡ get_or ts i d
    each i d low =
        let within : i < length ts = omega (arith, low, length-map ts (named_by (upto n))) in
        let t = below i d within in
        get_or-map (named_by (upto n)) ts i d d within
        ∙ (λ j. (own_place n (get_or ts i d).0 0 t.a j, own_place n (get_or ts i d).1 0 t.b j, own_place n (get_or ts i d).2 0 t.c j))

-- and points where they are
pub vertices_stay : (points : List (List ℤ)) → ComeFrom points points (upto (length points))
vertices_stay points = record {
  each = length-up_from 0 (length points);
  there = λ v low. (omega (arith, low, own_place (length points) v 0 low), ap (λ w. get_or points w []) (sym (own_place (length points) v 0 low)));
  all = λ w low. (w, omega (arith, low, length-up_from 0 (length points)), own_place (length points) w w low);
}
