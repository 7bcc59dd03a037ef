-- Sums over the edges that are near, one after the other.
use Rattle.std.proofs.Common.{arith, ◌≡◌, ℕ, ◌+◌, ◌<◌, ◌≤◌, ◌^◌, ℤ, pos, neg_ℤ, ◌+ℤ◌, ◌-ℤ◌, ◌*ℤ◌, List, [], ◌∷◌, drop, get_or, length, take, unsigned_abs, refl, sym, ap, subst, ◌∙◌}
use Rattle.std.specs.List.{Contains, sum_by}
use Rattle.std.proofs.lemmas.Int.{ints}
use Rattle.std.proofs.lemmas.List.{take-append-drop, take_more}
use Rattle.std.proofs.lemmas.List.Elements.{Contains-get_or}
use Rattle.std.proofs.lemmas.List.Sums.{sum_by-append, sum_by-cons}
use Rattle.chain_laws.specs.Sums.{total_more}
use Rattle.face_plane.specs.Planes.{Plane}
use Rattle.plane_chains.specs.declared.nets.LabelNumber.{LabelNumber}
use Rattle.plane_sheets.specs.Sides.{HasSums, all_in, crosses, left_sum_of, listed, right_sum_of, size_held, size_near, size_of}
use Rattle.plane_sheets.proofs.Held.{sums_more, sums_same}

-- the sizes so far, with the next edge's
near_more : (nets : List (List LabelNumber)) (near : List ℕ) (i : ℕ) → i < length near →
    size_near nets (take (i + 1) near) ≡ size_near nets (take i near) + size_of (get_or nets (get_or near i 0) [])
near_more nets near i below =
    let size : ℕ → ℕ = λ o. size_of (get_or nets o []) in
    let o = get_or near i 0 in
    omega (arith, ap (sum_by size) (take_more near i 0 below), sum_by-append size (take i near) (o ∷ []), sum_by-cons size o [])

pub near_next : (nets : List (List LabelNumber)) (near : List ℕ) (i : ℕ) → i < length near →
    size_near nets (take i near) + size_of (get_or nets (get_or near i 0) []) ≤ size_near nets near
near_next nets near i below =
    let size : ℕ → ℕ = λ o. size_of (get_or nets o []) in
    omega (arith, near_more nets near i below, ap (sum_by size) (take-append-drop (i + 1) near), sum_by-append size (take (i + 1) near) (drop (i + 1) near))

-- one edge more
pub sums_near : (at : Plane) (es : List (ℕ × ℕ)) (nets : List (List LabelNumber)) (e : ℕ) (near : List ℕ) (i : ℕ) (numbers : List LabelNumber) (t : ℤ) (ps qs : List (ℕ × ℤ)) →
    i < length near →
    get_or near i 0 < length nets → numbers ≡ get_or nets (get_or near i 0) [] → t ≡ crosses at es e (get_or near i 0) →
    ((ms : List (List LabelNumber)) (f : ℕ → ℤ) (w : ℕ) → Contains ms numbers → HasSums ms f w ps → HasSums ms (λ k. f k +ℤ listed numbers k *ℤ t) (w + size_of numbers) qs) →
    HasSums nets (left_sum_of at es nets e (take i near)) (size_near nets (take i near)) ps → HasSums nets (left_sum_of at es nets e (take (i + 1) near))
    (size_near nets (take (i + 1) near)) qs
sums_near at es nets e near i numbers t ps qs below inside own turn step s =
    let o = get_or near i 0 in
    let one : Contains nets numbers = subst (Contains nets) (sym own) (Contains-get_or nets o [] inside) in
    let more = step nets (left_sum_of at es nets e (take i near)) (size_near nets (take i near)) one s in
    sums_same nets _ (left_sum_of at es nets e (take (i + 1) near)) _ (size_near nets (take (i + 1) near)) qs more
    (λ k. ap (λ z. left_sum_of at es nets e (take i near) k +ℤ listed numbers k *ℤ z) turn
    ∙ ap (λ ns. left_sum_of at es nets e (take i near) k +ℤ listed ns k *ℤ crosses at es e o) own
    ∙ sym (total_more (λ j. listed (get_or nets j []) k *ℤ crosses at es e j) near i 0 below))
    (omega (arith, near_more nets near i below, ap size_of own))

-- what the code asks on the way
pub fits_near : (nets : List (List LabelNumber)) (near : List ℕ) (i : ℕ) (numbers : List LabelNumber) (f : ℕ → ℤ) (ps : List (ℕ × ℤ)) → i < length near →
    numbers ≡ get_or nets (get_or near i 0) [] → size_near nets near ≤ 2 ^ 61 → HasSums nets f (size_near nets (take i near)) ps → size_held ps + size_of numbers < 2 ^ 63
fits_near nets near i numbers f ps below own small s = omega (arith, near_next nets near i below, ap size_of own, small, s.small)

-- the edge's own numbers are the difference of both sides
pub own_left : (nets : List (List LabelNumber)) (f : ℕ → ℤ) (w e : ℕ) (own : List LabelNumber) (ps : List (ℕ × ℤ)) →
    ((z : ℤ) → unsigned_abs (z *ℤ pos 0) ≤ unsigned_abs z) → own ≡ get_or nets e [] →
    e < length nets → w ≤ 2 ^ 61 → size_of own ≤ 2 ^ 61 → HasSums nets f w ps → HasSums nets f (2 ^ 62) (all_in (pos 0) own ps)
own_left nets f w e own ps less same inside small own_small s =
    sums_same nets f f _ (2 ^ 62) (all_in (pos 0) own ps)
    (sums_more nets f f w (pos 0) own ps less (subst (Contains nets) (sym same) (Contains-get_or nets e [] inside)) s (λ k. no_more (f k) (listed own k))) (λ k. refl)
    (omega (arith, small, own_small))
  where
    no_more : (x y : ℤ) → x ≡ x +ℤ y *ℤ pos 0
    no_more x y = omega (arith, ints)

pub own_right : (at : Plane) (es : List (ℕ × ℕ)) (nets : List (List LabelNumber)) (near : List ℕ) (w e : ℕ) (own : List LabelNumber) (ps : List (ℕ × ℤ)) →
    ((z : ℤ) → unsigned_abs (z *ℤ neg_ℤ (pos 1)) ≤ unsigned_abs z) → own ≡ get_or nets e [] → e < length nets → w ≤ 2 ^ 61 → size_of own ≤ 2 ^ 61 →
    HasSums nets (left_sum_of at es nets e near) w ps → HasSums nets (right_sum_of at es nets e near) (2 ^ 62) (all_in (neg_ℤ (pos 1)) own ps)
own_right at es nets near w e own ps less same inside small own_small s =
    sums_same nets (right_sum_of at es nets e near) (right_sum_of at es nets e near) _ (2 ^ 62) (all_in (neg_ℤ (pos 1)) own ps)
    (sums_more nets (left_sum_of at es nets e near) (right_sum_of at es nets e near) w (neg_ℤ (pos 1)) own ps less
    (subst (Contains nets) (sym same) (Contains-get_or nets e [] inside)) s
    (λ k. ap (λ ns. left_sum_of at es nets e near k -ℤ listed ns k) (sym same) ∙ taken (left_sum_of at es nets e near k) (listed own k))) (λ k. refl)
    (omega (arith, small, own_small))
  where
    taken : (x y : ℤ) → x -ℤ y ≡ x +ℤ y *ℤ neg_ℤ (pos 1)
    taken x y = omega (arith, ints)
