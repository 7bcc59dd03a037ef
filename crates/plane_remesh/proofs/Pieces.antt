-- Pieces of which none has a forced triangle: their triangles have three different places, all of them there, and their labels are those of triangles.
use Rattle.std.proofs.Common.{◌≡◌, ◌<◌, ◌≤◌, ◌+◌, ◌-◌, ◌*◌, ◌++◌, ◌∙◌, ◌==◌, ℕ, ℤ, Bool, List, [], ◌∷◌, true, false, arith, drop, get_or, length, replicate, subst, sym, take}
use Rattle.std.specs.Prelude.{◌&&◌, if◌then◌else◌, nat_lt}
use Rattle.std.specs.List.{All, flat_map}
use Rattle.std.proofs.lemmas.List.{length-map}
use Rattle.std.proofs.lemmas.List.Elements.{All-append, All-cons, All-drop, All-filter, All-get_or, All-head, All-nil, All-replicate, All-tail, All-take, All-weaker}
use Rattle.chain_terms.specs.Sums.{upto}
use Rattle.face_plane.specs.Planes.{face_plane, plane_of, point_at, settled_plane}
use Rattle.face_plane.specs.Rings.{IsRing}
use Rattle.hole_joining.specs.Bridges.{join_holes}
use Rattle.hole_joining.specs.Holes.{hole_list, is_ring, ring_list}
use Rattle.hole_joining.proofs.Keeps.{HaveBridges, joined_keeps}
use Rattle.hole_joining.proofs.Loops.{All-hole_list, All-kept, length-hole_list, settled_up, some_ring}
use Rattle.hole_joining.proofs.Turning.{length-turned}
use Rattle.mesh_terms.specs.Meshes.{HasThree, IsBelow, Triple}
use Rattle.places_by_key.specs.Buckets.{begin_of, places_of}
use Rattle.triangulate.specs.Fills.{cuts, fill_of}
use Rattle.triangulate.proofs.CutRings.{cuttings}
use Rattle.face_plane.specs.Planes.{Plane}
use Rattle.plane_chains.proofs.GridPoints.{upto_below}
use Rattle.plane_filling.specs.declared.needless.Ways.{Ways}
use Rattle.plane_filling.specs.declared.regions.Region.{Region}
use Rattle.plane_filling.specs.declared.regions.Regions.{Regions}
use Rattle.plane_filling.specs.Pieces.{CanBeFilled, Piece, all_pieces, alone_pieces, first_key, first_keys, forced_of, from_least, loops_at, new_labels, new_triples, no_region, piece_of, pieces_at, region_pieces, turns_at}
use Rattle.plane_filling.specs.Regions.{walks_at}
use Rattle.plane_filling.specs.Ways.{is_passed}
use Rattle.plane_filling.proofs.Added.{forced_append}
use Rattle.plane_filling.proofs.Fillable.{loops_places}
use Rattle.plane_filling.proofs.Short.{unforced_long}
use Rattle.plane_filling.proofs.Unforced.{ring_unforced}

-- rings of which none has a forced triangle
unforced_rings : (at : Plane) (rs : List (List ℕ)) → (cuts at rs).forced ≡ 0 → All IsRing rs
unforced_rings at [] none = All-nil IsRing
unforced_rings at (r ∷ rs) none = All-cons IsRing r rs (ring_unforced at r (omega (arith, none))) (unforced_rings at rs (omega (arith, none)))

-- a filling without a forced triangle
record IsSound (n : ℕ) (ts : List Triple) : Type 0 where
  three : All HasThree ts
  below : All (IsBelow n) ts

fill_sound : (drop_axis : ℕ) (points : List (List ℤ)) (loops : List (List ℕ)) (n : ℕ) → All (λ l. All (λ v. v < n) l) loops →
    (fill_of drop_axis points loops).forced ≡ 0 → IsSound n (fill_of drop_axis points loops).triples
fill_sound drop_axis points loops n below none =
    let base = plane_of drop_axis (point_at points) in
    let at = settled_plane base loops in
    let rings = ring_list at loops in
    let holes = hole_list at loops in
    let long = unforced_long drop_axis points loops none in
    let some = All-weaker (λ (l : List ℕ). 3 ≤ length l) (λ l. 0 < length l) (λ l h. omega (arith, h)) loops long in
    let have : HaveBridges rings holes = record {
      full_rings = All-kept (λ l. 0 < length l) (is_ring at) loops some;
      full_holes = All-hole_list at (λ l. 0 < length l) (λ l h. subst (λ m. 0 < m) (sym (length-turned _ l)) h) loops some;
      some = λ h. some_ring at loops (settled_up base loops) (omega (arith, h, length-hole_list at loops));
    } in
    let Q : List ℕ → Type 0 = λ r. All (λ v. v < n) r in
    let out = (joined_keeps at rings holes have).below n (All-kept Q (is_ring at) loops below)
    (All-hole_list at Q
    (λ l h. All-append (λ v. v < n) (drop _ l) (take _ l) (All-drop (λ v. v < n) _ l h) (All-take (λ v. v < n) _ l h)) loops below) in
    let cut = cuttings at n (join_holes at loops) (unforced_rings at (join_holes at loops) none) out in
    record { three = cut.three; below = cut.below }

-- a piece over n places, of so many triangles
record IsPiece (n count : ℕ) (p : Piece) : Type 0 where
  sound : IsSound n p.triples
  label : p.label < count

-- a triangle from its least corner is as the triangle
least_three : (t : Triple) → HasThree t → HasThree (from_least t)
least_three t h = by (nat_lt t.0 t.1 && nat_lt t.0 t.2) (nat_lt t.1 t.2)
  where
    by : (a b : Bool) → HasThree (if a then t else if b then (t.1, t.2, t.0) else (t.2, t.0, t.1))
    by true b = h
    by false true = record { ab = h.bc; bc = h.ca; ca = h.ab }
    by false false = record { ab = h.ca; bc = h.ab; ca = h.bc }

least_below : (n : ℕ) (t : Triple) → IsBelow n t → IsBelow n (from_least t)
least_below n t h = by (nat_lt t.0 t.1 && nat_lt t.0 t.2) (nat_lt t.1 t.2)
  where
    by : (a b : Bool) → IsBelow n (if a then t else if b then (t.1, t.2, t.0) else (t.2, t.0, t.1))
    by true b = h
    by false true = record { a = h.b; b = h.c; c = h.a }
    by false false = record { a = h.c; b = h.a; c = h.b }

alone_sound : (n count number : ℕ) (alone : Bool) (t : Triple) → number < count → HasThree t → IsBelow n t → All (IsPiece n count) (alone_pieces alone number t)
alone_sound n count number false t low three below = All-nil (IsPiece n count)
alone_sound n count number true t low three below =
    All-cons (IsPiece n count) (record { label = number; triples = from_least t ∷ []; forced = 0 }) [] (record {
      sound = record {
        three = All-cons HasThree (from_least t) [] (least_three t three) (All-nil HasThree);
        below = All-cons (IsBelow n) (from_least t) [] (least_below n t below) (All-nil (IsBelow n));
      };
      label = low;
    }) (All-nil (IsPiece n count))

-- no forced triangle in the first piece and in the others, or in any of two lists
none_one : (p : Piece) (ps : List Piece) → forced_of (p ∷ ps) ≡ 0 → p.forced ≡ 0
none_one p ps none = let both : (0 + p.forced) + forced_of ps ≡ 0 = sym (forced_append (p ∷ []) ps) ∙ none in omega (arith, both)

none_rest : (p : Piece) (ps : List Piece) → forced_of (p ∷ ps) ≡ 0 → forced_of ps ≡ 0
none_rest p ps none = let both : (0 + p.forced) + forced_of ps ≡ 0 = sym (forced_append (p ∷ []) ps) ∙ none in omega (arith, both)

none_first : (ps qs : List Piece) → forced_of (ps ++ qs) ≡ 0 → forced_of ps ≡ 0
none_first ps qs none = omega (arith, none, forced_append ps qs)

none_later : (ps qs : List Piece) → forced_of (ps ++ qs) ≡ 0 → forced_of qs ≡ 0
none_later ps qs none = omega (arith, none, forced_append ps qs)

module _ (points : List (List ℤ)) (ts : List Triple) (alone : List Bool) (r : Regions) (w : Ways) (can : CanBeFilled (length ts) (length points) r)
    (known : All (λ x. x.label < length ts) r.all.items) (three : All HasThree ts) (below : All (IsBelow (length points)) ts) where
  -- a region
  region_sound : (k : ℕ) → k < length r.all.items → (piece_of points r w k).forced ≡ 0 → IsPiece (length points) (length ts) (piece_of points r w k)
  region_sound k low none =
      let P : ℕ → Type 0 = λ v. v < length points in
      let Q : List ℕ → Type 0 = λ walk. All P walk in
      let region = get_or r.all.items k no_region in
      let ws = r.walks.0 in
      let start = begin_of r.ends.items k in
      let size = get_or r.ends.items k 0 - start in
      let walks = All-take Q size (drop start ws) (All-drop Q start ws can.places) in
      let loops = loops_places P (is_passed points w) (face_plane region.view.plane.drop region.view.turned points) (walks_at r k) walks in
      record {
        sound = fill_sound region.view.plane.drop points (loops_at points r w k) (length points) loops none;
        label = All-get_or (λ (x : Region). x.label < length ts) r.all.items k no_region low known;
      }

  regions_sound : (ks : List ℕ) → All (λ k. k < length r.all.items) ks → forced_of (region_pieces points r w ks) ≡ 0 →
      All (IsPiece (length points) (length ts)) (region_pieces points r w ks)
  regions_sound [] low none = All-nil (IsPiece (length points) (length ts))
  regions_sound (k ∷ ks) low none =
      let head = All-head (λ (j : ℕ). j < length r.all.items) k ks low in
      let tail = All-tail (λ (j : ℕ). j < length r.all.items) k ks low in
      All-cons (IsPiece (length points) (length ts)) (piece_of points r w k) (region_pieces points r w ks)
      (region_sound k head (none_one (piece_of points r w k) (region_pieces points r w ks) none))
      (regions_sound ks tail (none_rest (piece_of points r w k) (region_pieces points r w ks) none))

  -- what stands by a triangle
  turns_low : (x : ℕ) → All (λ k. k < length r.all.items) (places_of (first_keys r.all.items) x)
  turns_low x =
      let keys = first_keys r.all.items in
      subst (λ m. All (λ k. k < m) (places_of keys x)) (length-map r.all.items first_key)
      (All-filter (λ i. get_or keys i 0 == x) (λ k. k < length keys) (upto (length keys)) (upto_below (length keys)))

  at_sound : (number : ℕ) → number < length ts → forced_of (pieces_at points ts alone r w number) ≡ 0 →
      All (IsPiece (length points) (length ts)) (pieces_at points ts alone r w number)
  at_sound number low none =
      let keys = first_keys r.all.items in
      let own = alone_pieces (get_or alone number false) number (get_or ts number (0, 0, 0)) in
      let ks = turns_at keys number in
      let inside = All-append (λ k. k < length r.all.items) (places_of keys (2 * number)) (places_of keys (2 * number + 1)) (turns_low (2 * number)) (turns_low (2 * number + 1)) in
      All-append (IsPiece (length points) (length ts)) own (region_pieces points r w ks)
      (alone_sound (length points) (length ts) number (get_or alone number false) (get_or ts number (0, 0, 0)) low (three number (0, 0, 0) low) (below number (0, 0, 0) low))
      (regions_sound ks inside (none_later own (region_pieces points r w ks) none))

  some_sound : (ns : List ℕ) → All (λ k. k < length ts) ns → forced_of (flat_map (pieces_at points ts alone r w) ns) ≡ 0 →
      All (IsPiece (length points) (length ts)) (flat_map (pieces_at points ts alone r w) ns)
  some_sound [] low none = All-nil (IsPiece (length points) (length ts))
  some_sound (n ∷ ns) low none =
      let one = pieces_at points ts alone r w n in
      let rest = flat_map (pieces_at points ts alone r w) ns in
      All-append (IsPiece (length points) (length ts)) one rest
      (at_sound n (All-head (λ (k : ℕ). k < length ts) n ns low) (none_first one rest none))
      (some_sound ns (All-tail (λ (k : ℕ). k < length ts) n ns low) (none_later one rest none))

-- the triangles and labels of pieces
pub record ArePieces (n count : ℕ) (ps : List Piece) : Type 0 where
  pub three : All HasThree (new_triples ps)
  pub below : All (IsBelow n) (new_triples ps)
  pub known : All (λ t. t < count) (new_labels ps)

gathered : (n count : ℕ) (ps : List Piece) → All (IsPiece n count) ps → ArePieces n count ps
gathered n count [] all = record { three = All-nil HasThree; below = All-nil (IsBelow n); known = All-nil (λ (t : ℕ). t < count) }
gathered n count (p ∷ ps) all =
    let one = All-head (IsPiece n count) p ps all in
    let rest = gathered n count ps (All-tail (IsPiece n count) p ps all) in
    record {
      three = All-append HasThree p.triples (new_triples ps) one.sound.three rest.three;
      below = All-append (IsBelow n) p.triples (new_triples ps) one.sound.below rest.below;
      known = All-append (λ (t : ℕ). t < count) (replicate (length p.triples) p.label) (new_labels ps)
          (All-replicate (λ (t : ℕ). t < count) (length p.triples) p.label one.label) rest.known;
    }

-- all pieces, where none has a forced triangle
pub pieces_sound : (points : List (List ℤ)) (ts : List Triple) (alone : List Bool) (r : Regions) (w : Ways) → CanBeFilled (length ts) (length points) r →
    All (λ x. x.label < length ts) r.all.items → All HasThree ts → All (IsBelow (length points)) ts → forced_of (all_pieces points ts alone r w) ≡ 0 →
    ArePieces (length points) (length ts) (all_pieces points ts alone r w)
pieces_sound points ts alone r w can known three below none =
    gathered (length points) (length ts) (all_pieces points ts alone r w)
    (some_sound points ts alone r w can known three below (upto (length ts)) (upto_below (length ts)) none)
