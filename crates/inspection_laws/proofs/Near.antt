-- Of a mesh: the triangles before one that cut it are among those whose boxes touch its own; and what is counted of all.
use Rattle.std.specs.Prelude.{◌≡◌, ℕ, zero, suc, ◌+◌, ◌*◌, ◌<◌, ◌≤◌, ℤ, List, [], ◌∷◌, ◌++◌, Bool, true, false, cond, ◌&&◌, nat_lt, int_le, length, count_by, get_or}
use Rattle.std.specs.List.{All, filter}
use Rattle.std.proofs.Common.{arith, refl, sym, ap, ◌∙◌, subst}
use Rattle.std.proofs.lemmas.Int.{ints}
use Rattle.std.proofs.lemmas.List.Elements.{All-filter}
use Rattle.std.proofs.lemmas.List.Sums.{length-filter, count_by-le-length}
use Rattle.box_tree.specs.Touching.{box_at, end_on, overlap, overlap_on, touches, touching_numbers}
use Rattle.chain_terms.specs.Sums.{upto}
use Rattle.chain_laws.proofs.Places.{get_or-up_from, length-up_from, upto_more}
use Rattle.mb_base.specs.declared.point.Box3.{Box3}
use Rattle.mesh_terms.specs.Meshes.{Mesh}
use Rattle.inspection_terms.specs.Inspected.{IsCut, IsCutCount, pairs_below}
use Rattle.inspection_terms.specs.Triangles.{corners_at}
use Rattle.inspection_laws.specs.Boxes.{box_round, boxes_of, holds, holds_on}
use Rattle.inspection_laws.specs.Signs.{are_cutting}
use Rattle.inspection_laws.proofs.Apart.{box_is, cutting_touch, many_boxes}
use Rattle.inspection_laws.proofs.Counting.{count-append, count-cons, count-near, pairs_more}
use Rattle.inspection_laws.proofs.Cutting.{cutting_holds, cutting_tells}
use Rattle.inspection_laws.proofs.Tests.{and, both}

-- an area holds itself
pub holds_self : (b : Box3) → holds b b ≡ true
holds_self b = and _ _ (and _ _ (on_axis 0) (on_axis 1)) (on_axis 2) where
  same : (z : ℤ) → int_le z z ≡ true
  same z = grind (arith, ints)

  on_axis : (i : ℕ) → holds_on i b b ≡ true
  on_axis i = and _ _ (same (end_on i b.low)) (same (end_on i b.high))

-- what touches a box touches an area that holds it
wider : (low high from to from' to' : ℤ) → (int_le from' from && int_le to to') ≡ true → overlap low high from to ≡ true → overlap low high from' to' ≡ true
wider low high from to from' to' h e = grind (arith, ints)

pub holds_touch : (b area box : Box3) → holds area box ≡ true → touches b box ≡ true → touches b area ≡ true
holds_touch b area box h e =
    let h' = both (holds_on 0 area box && holds_on 1 area box) (holds_on 2 area box) h in
    let h'' = both (holds_on 0 area box) (holds_on 1 area box) h'.0 in
    let e' = both (overlap_on 0 b box && overlap_on 1 b box) (overlap_on 2 b box) e in
    let e'' = both (overlap_on 0 b box) (overlap_on 1 b box) e'.0 in
    and _ _ (and _ _ (on_axis 0 h''.0 e''.0) (on_axis 1 h''.1 e''.1)) (on_axis 2 h'.1 e'.1)
  where
    on_axis : (i : ℕ) → holds_on i area box ≡ true → overlap_on i b box ≡ true → overlap_on i b area ≡ true
    on_axis i h e = wider (end_on i b.low) (end_on i b.high) (end_on i box.low) (end_on i box.high) (end_on i area.low) (end_on i area.high) h e

-- the triangles before t that cut it, of those that are near an area which holds its box
pub near_count : (m : Mesh) (t : ℕ) (area : Box3) → t < length m.triples → holds area (box_round (corners_at m t)) ≡ true →
    count_by (λ s. nat_lt s t && are_cutting (corners_at m s) (corners_at m t)) (touching_numbers (boxes_of m) area)
    ≡ count_by (λ s. are_cutting (corners_at m s) (corners_at m t)) (upto t)
near_count m t area low held = count-near (boxes_of m) area (λ s. are_cutting (corners_at m s) (corners_at m t)) t (omega (arith, low, many_boxes m)) near where
  near : (s : ℕ) → s < t → are_cutting (corners_at m s) (corners_at m t) ≡ true → touches (box_at (boxes_of m) s) area ≡ true
  near s h e =
      ap (λ (b : Box3). touches b area) (box_is m s (omega arith))
      ∙ holds_touch (box_round (corners_at m s)) area (box_round (corners_at m t)) held (cutting_touch (corners_at m s) (corners_at m t) e)

-- those that are near are triangles, and no more than there are
pub near_low : (m : Mesh) (area : Box3) → All (λ s. s < length m.triples) (touching_numbers (boxes_of m) area)
near_low m area = All-filter (λ k. touches (box_at (boxes_of m) k) area) (λ s. s < length m.triples) (upto (length (boxes_of m))) all where
  all : All (λ s. s < length m.triples) (upto (length (boxes_of m)))
  all k d h =
      let low : k < length (boxes_of m) = omega (arith, h, length-up_from 0 (length (boxes_of m))) in
      omega (arith, get_or-up_from 0 (length (boxes_of m)) k d low, low, many_boxes m)

pub near_few : (m : Mesh) (area : Box3) → length (touching_numbers (boxes_of m) area) ≤ length m.triples
near_few m area =
    omega (
      arith,
      length-filter (λ k. touches (box_at (boxes_of m) k) area) (upto (length (boxes_of m))),
      count_by-le-length (λ k. touches (box_at (boxes_of m) k) area) (upto (length (boxes_of m))),
      length-up_from 0 (length (boxes_of m)),
      many_boxes m,
    )

-- the pairs that signs tell are those that cut one another
pub cut_count : (m : Mesh) (n : ℕ) → n ≡ count_by (λ e. are_cutting (corners_at m e.0) (corners_at m e.1)) (pairs_below (length m.triples)) → IsCutCount m n
cut_count m n e = record {
  test = λ p. are_cutting (corners_at m p.0) (corners_at m p.1);
  holds = λ p h. cutting_holds (corners_at m p.0) (corners_at m p.1) h;
  tells = λ p h. cutting_tells (corners_at m p.0) (corners_at m p.1) h;
  counted = e;
}

-- one triangle more
pub cuts_more : (m : Mesh) (t count more : ℕ) → count ≡ count_by (λ e. are_cutting (corners_at m e.0) (corners_at m e.1)) (pairs_below t) →
    more ≡ count_by (λ s. are_cutting (corners_at m s) (corners_at m t)) (upto t) →
    count + more ≡ count_by (λ e. are_cutting (corners_at m e.0) (corners_at m e.1)) (pairs_below (t + 1))
cuts_more m t count more e f = (λ i. e i + f i) ∙ sym (pairs_more (λ p. are_cutting (corners_at m p.0) (corners_at m p.1)) t)

-- one number more
pub count-upto_more : (p : ℕ → Bool) (n : ℕ) → count_by p (upto (n + 1)) ≡ count_by p (upto n) + cond (p n) 1 0
count-upto_more p n =
    ap (count_by p) (upto_more n) ∙ count-append p (upto n) (n ∷ []) ∙ ap (λ m. count_by p (upto n) + m) (count-cons p n [] ∙ omega arith)

pub count-upto_yes : (p : ℕ → Bool) (n count : ℕ) → count ≡ count_by p (upto n) → p n ≡ true → count + 1 ≡ count_by p (upto (n + 1))
count-upto_yes p n count e f = (λ i. e i + 1) ∙ sym (count-upto_more p n ∙ ap (λ (b : Bool). count_by p (upto n) + cond b 1 0) f)

pub count-upto_no : (p : ℕ → Bool) (n count : ℕ) → count ≡ count_by p (upto n) → p n ≡ false → count ≡ count_by p (upto (n + 1))
count-upto_no p n count e f = e ∙ omega (arith, count-upto_more p n ∙ ap (λ (b : Bool). count_by p (upto n) + cond b 1 0) f)
