-- The spread of the first entries.
use Rattle.std.proofs.Common.{◌≡◌, ◌<◌, ◌+◌, ℕ, ℤ, ◌-ℤ◌, List, [], ◌∷◌, length, map, take, get_or, sym, ap, ◌∙◌, arith, take_all, to_z, of_z, w64}
use Rattle.std.specs.Int.{int_max, int_min}
use Rattle.std.specs.List.{fold}
use Rattle.std.proofs.lemmas.Int.{ints, clamps}
use Rattle.std.proofs.lemmas.List.{take_more, map-append, get_or_default}
use Rattle.std.proofs.lemmas.List.Sums.{fold_push}
use Rattle.std.proofs.lemmas.Simd.{map-map}
use Rattle.mb_base.specs.declared.results.Entry.{Entry}
use Rattle.mesh_terms.specs.Points.{IsOnGrid, coordinate_of}
use Rattle.edge_pairing.specs.Entries.{place_in, places_of}
use Rattle.edge_pairing.specs.Pairing.{spread}
use Rattle.edge_pairing.proofs.Listed.{no_entry}

-- the coordinate of an entry on an axis
abbrev pub coordinate_at : ℕ → List (List ℤ) → Entry → ℤ
coordinate_at axis points e = coordinate_of (place_in points e.vertex) axis

-- the least and the greatest coordinate of the first i entries and of the first one
pub record IsSpreadSoFar (axis : ℕ) (points : List (List ℤ)) (entries : List Entry) (first : ℤ) (i : ℕ) (low high : ℤ) : Type 0 where
  pub least : low ≡ fold int_min first (map (coordinate_at axis points) (take i entries))
  pub greatest : high ≡ fold int_max first (map (coordinate_at axis points) (take i entries))
  pub low_small : IsOnGrid low
  pub high_small : IsOnGrid high

-- one entry more
folded_more : (f : ℤ → ℤ → ℤ) (g : Entry → ℤ) (a : ℤ) (entries : List Entry) (i : ℕ) → i < length entries →
    fold f a (map g (take (i + 1) entries)) ≡ f (fold f a (map g (take i entries))) (g (get_or entries i no_entry))
folded_more f g a entries i below =
    ap (λ l. fold f a (map g l)) (take_more entries i no_entry below) ∙ ap (fold f a) (map-append g (take i entries) (get_or entries i no_entry ∷ []))
    ∙ fold_push f a (map g (take i entries)) (g (get_or entries i no_entry))

pub spread_more : (axis : ℕ) (points : List (List ℤ)) (entries : List Entry) (first : ℤ) (i : ℕ) (low high here : ℤ) →
    IsSpreadSoFar axis points entries first i low high → i < length entries →
    here ≡ coordinate_at axis points (get_or entries i no_entry) → IsOnGrid here → IsSpreadSoFar axis points entries first (i + 1) (int_min low here) (int_max high here)
spread_more axis points entries first i low high here so below is small =
    let g = coordinate_at axis points in
    record {
      least = ap (λ m. int_min m here) so.least ∙ ap (int_min (fold int_min first (map g (take i entries)))) is ∙ sym (folded_more int_min g first entries i below);
      greatest = ap (λ m. int_max m here) so.greatest ∙ ap (int_max (fold int_max first (map g (take i entries)))) is ∙ sym (folded_more int_max g first entries i below);
      low_small = omega (arith, ints, clamps, so.low_small, small);
      high_small = omega (arith, ints, clamps, so.high_small, small);
    }

-- of two equal numbers
max_itself : (x : ℤ) → int_max x x ≡ x
max_itself x = omega (arith, ints, clamps)

min_itself : (x : ℤ) → int_min x x ≡ x
min_itself x = omega (arith, ints, clamps)

-- the coordinates of the entries
coordinates : (axis : ℕ) (points : List (List ℤ)) (entries : List Entry) → map (λ p. coordinate_of p axis) (places_of entries points) ≡ map (coordinate_at axis points) entries
coordinates axis points entries = map-map (λ p. coordinate_of p axis) (λ (e : Entry). place_in points e.vertex) entries

-- of all entries
pub spread_ends : (axis : ℕ) (points : List (List ℤ)) (e : Entry) (es : List Entry) (low high : ℤ) →
    IsSpreadSoFar axis points (e ∷ es) (coordinate_at axis points e) (length (e ∷ es)) low high →
    high -ℤ low ≡ spread (map (λ p. coordinate_of p axis) (places_of (e ∷ es) points))
spread_ends axis points e es low high so =
    let g = coordinate_at axis points in
    let all : take (length (e ∷ es)) (e ∷ es) ≡ e ∷ es = take_all (length (e ∷ es)) (e ∷ es) (omega arith) in
    let top = so.greatest ∙ ap (λ l. fold int_max (g e) (map g l)) all ∙ ap (λ m. fold int_max m (map g es)) (max_itself (g e)) in
    let bottom = so.least ∙ ap (λ l. fold int_min (g e) (map g l)) all ∙ ap (λ m. fold int_min m (map g es)) (min_itself (g e)) in
    ap (λ h. h -ℤ low) top ∙ ap (λ l. fold int_max (g e) (map g es) -ℤ l) bottom ∙ ap spread (sym (coordinates axis points (e ∷ es)))

-- of all entries, where there are some
pub spread_whole : (axis : ℕ) (points : List (List ℤ)) (entries : List Entry) (first : ℤ) (i : ℕ) (low high : ℤ) → IsSpreadSoFar axis points entries first i low high →
    first ≡ coordinate_at axis points (get_or entries 0 no_entry) → length entries ≡ i → 0 < length entries →
    high -ℤ low ≡ spread (map (λ p. coordinate_of p axis) (places_of entries points))
spread_whole axis points [] first i low high so is all some = absurd (omega (arith, some))
spread_whole axis points (e ∷ es) first i low high so is all some = spread_ends axis points e es low high (rw (is, ← all) at so)

-- the point that is read at a vertex
pub read_place : (points : List (List ℤ)) (v : ℕ) (p : List ℤ) → v < length points → p ≡ get_or points v p → p ≡ place_in points v
read_place points v p below is = is ∙ get_or_default points v p [] below

-- the lesser of two small numbers as it stands after it was kept at 64 bits
pub lower_kept : (m low here here' : ℤ) → m ≡ int_min low here' → here' ≡ here → IsOnGrid low → IsOnGrid here → to_z w64 (of_z w64 m) ≡ int_min low here
lower_kept m low here here' is same small short = omega (arith, ints, clamps, is, same, small, short)

-- and the greater
pub higher_kept : (m high here here' : ℤ) → m ≡ int_max high here' → here' ≡ here → IsOnGrid high → IsOnGrid here → to_z w64 (of_z w64 m) ≡ int_max high here
higher_kept m high here here' is same small short = omega (arith, ints, clamps, is, same, small, short)
