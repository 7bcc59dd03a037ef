-- Lists taken one member after the other, and a list put among others.
use Rattle.std.specs.Prelude.{◌≡◌, ℕ, zero, suc, ◌+◌, ◌<◌, ◌≤◌, ℤ, List, [], ◌∷◌, ◌++◌, true, false, length, get_or}
use Rattle.std.specs.Prelude.{take, drop, set, filter, map, Some, None}
use Rattle.std.specs.List.{concat}
use Rattle.std.proofs.Common.{arith, refl, sym, ap, ◌∙◌}
use Rattle.std.proofs.lemmas.Bool.{cond-true, cond-false}
use Rattle.std.proofs.lemmas.List.{append_assoc, append-nil, length-append, take_more, at_drop_more}
use Rattle.std.proofs.lemmas.List.Folds.{concat-append}
use Rattle.face_plane.specs.Planes.{Plane}
use Rattle.hole_joining.specs.declared.bridge.Bridge.{Bridge}
use Rattle.hole_joining.specs.Bridges.{join, bridged, chosen_bridge, joined_one, joined}
use Rattle.hole_joining.specs.Holes.{is_hole, from_start}

-- the vertices of one list more
pub concat_more : (xs : List (List ℕ)) (i : ℕ) → i < length xs → concat (take (i + 1) xs) ≡ concat (take i xs) ++ get_or xs i []
concat_more xs i h =
    ap concat (take_more xs i [] h) ∙ concat-append (take i xs) (get_or xs i [] ∷ [])
    ∙ ap (λ l. concat (take i xs) ++ l) (append-nil (get_or xs i []))

-- and how many they are
pub length_more : (xs : List (List ℕ)) (i : ℕ) → i < length xs →
    length (concat (take (i + 1) xs)) ≡ length (concat (take i xs)) + length (get_or xs i [])
length_more xs i h = ap length (concat_more xs i h) ∙ length-append (concat (take i xs)) (get_or xs i [])

-- the first lists have no more vertices than all
pub concat_take_le : (xs : List (List ℕ)) (i : ℕ) → length (concat (take i xs)) ≤ length (concat xs)
concat_take_le xs zero = omega arith
concat_take_le [] (suc i) = omega arith
concat_take_le (x ∷ xs) (suc i) = omega (arith, length-append x (concat (take i xs)), length-append x (concat xs), concat_take_le xs i)

-- what f gives of one list more
pub each_more : (f : List ℕ → ℤ) (xs : List (List ℕ)) (done now : List ℤ) (z : ℤ) (i : ℕ) → i < length xs → z ≡ f (get_or xs i []) →
    now ≡ done ++ z ∷ [] → now ++ map f (drop (i + 1) xs) ≡ done ++ map f (drop i xs)
each_more f xs done now z i h e more =
    ap (λ l. l ++ map f (drop (i + 1) xs)) more ∙ append_assoc done (z ∷ []) (map f (drop (i + 1) xs))
    ∙ ap (λ y. done ++ y ∷ map f (drop (i + 1) xs)) e
    ∙ sym (at_drop_more (λ l. done ++ map f l) xs i [] h)

-- the holes among loops, each from its start, in the order of the loops
abbrev pub hole_starts : Plane → List (List ℕ) → List (List ℕ)
hole_starts at loops = map (from_start at) (filter (is_hole at) loops)

-- a hole more
pub starts_hole : (at : Plane) (loops done now : List (List ℕ)) (i : ℕ) → i < length loops → is_hole at (get_or loops i []) ≡ true →
    now ≡ done ++ from_start at (get_or loops i []) ∷ [] →
    now ++ hole_starts at (drop (i + 1) loops) ≡ done ++ hole_starts at (drop i loops)
starts_hole at loops done now i within hole e =
    let l = get_or loops i [] in let rest = drop (i + 1) loops in
    let here =
    at_drop_more (hole_starts at) loops i [] within
    ∙ ap (map (from_start at)) (cond-true (is_hole at l) (l ∷ filter (is_hole at) rest) (filter (is_hole at) rest) hole) in
    ap (λ k. k ++ hole_starts at rest) e ∙ append_assoc done (from_start at l ∷ []) (hole_starts at rest) ∙ sym (ap (λ k. done ++ k) here)

-- a ring more
pub starts_ring : (at : Plane) (loops done now : List (List ℕ)) (i : ℕ) → i < length loops → is_hole at (get_or loops i []) ≡ false →
    now ≡ done → now ++ hole_starts at (drop (i + 1) loops) ≡ done ++ hole_starts at (drop i loops)
starts_ring at loops done now i within ring e =
    let l = get_or loops i [] in let rest = drop (i + 1) loops in
    let here =
    at_drop_more (hole_starts at) loops i [] within
    ∙ ap (map (from_start at)) (cond-false (is_hole at l) (l ∷ filter (is_hole at) rest) (filter (is_hole at) rest) ring) in
    ap (λ k. k ++ hole_starts at rest) e ∙ sym (ap (λ k. done ++ k) here)

-- one hole more is joined
pub joined_more : (at : Plane) (rings now holes : List (List ℕ)) (k : ℕ) → k < length holes →
    now ≡ joined_one at rings (get_or holes k []) (drop (k + 1) holes) → joined at now (drop (k + 1) holes) ≡ joined at rings (drop k holes)
joined_more at rings now holes k within e = ap (λ l. joined at l (drop (k + 1) holes)) e ∙ sym (at_drop_more (joined at rings) holes k [] within)

-- a hole joined by the bridge that is chosen
pub joined_by : (at : Plane) (rings seen later : List (List ℕ)) (hole read ring : List ℕ) (b : Bridge) → seen ≡ rings →
    Some b ≡ chosen_bridge at seen hole later → read ≡ get_or rings b.ring [] → ring ≡ join read b.place hole →
    set rings b.ring ring ≡ joined_one at rings hole later
joined_by at rings seen later hole read ring b same choice found e =
    ap (set rings b.ring) (e ∙ ap (λ r. join r b.place hole) found) ∙ ap (bridged hole rings) (choice ∙ ap (λ s. chosen_bridge at s hole later) same)

-- without a bridge nothing is joined
pub joined_none : (at : Plane) (rings seen later : List (List ℕ)) (hole : List ℕ) → seen ≡ rings → None ≡ chosen_bridge at seen hole later →
    rings ≡ joined_one at rings hole later
joined_none at rings seen later hole same choice = ap (bridged hole rings) (choice ∙ ap (λ s. chosen_bridge at s hole later) same)

-- nor where there is no ring
pub joined_no_ring : (at : Plane) (holes : List (List ℕ)) → joined at [] holes ≡ []
joined_no_ring at [] = refl
joined_no_ring at (hole ∷ later) = joined_no_ring at later
