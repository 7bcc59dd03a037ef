-- The boxes that a tree's entries stand for are the boxes from which it was built.
use Rattle.std.proofs.Common.{◌≡◌, ◌∙◌, ℕ, zero, suc, ◌<◌, ◌==◌, List, [], ◌∷◌, length, get_or, map, ap, subst, inl, inr, zero-add, arith}
use Rattle.std.specs.List.{Contains}
use Rattle.std.proofs.lemmas.Bool.{cases_Bool, cases_lt}
use Rattle.std.proofs.lemmas.Bool.Decides.{Decides-eqb}
use Rattle.std.proofs.lemmas.List.{length-map, get_or-map, get_or_default, get_or_past, same_lists}
use Rattle.std.proofs.lemmas.List.Elements.{Contains-get_or}
use Rattle.std.proofs.lemmas.List.Sorted.{Contains-permutation}
use Rattle.chain_terms.specs.Sums.{upto}
use Rattle.chain_laws.proofs.Places.{get_or-up_from, length-up_from}
use Rattle.mb_base.specs.declared.point.Box3.{Box3}
use Rattle.box_tree.specs.declared.nodes.Entry.{Entry}
use Rattle.box_tree.specs.Coarse.{bounds_around, fine_box}
use Rattle.box_tree.specs.Touching.{box_at, no_box}
use Rattle.box_tree.specs.Nodes.{AreEntries, AreKept, IsKept, boxes_stored, entry_numbered, entry_of, numbers_of, stored_box}
use Rattle.box_tree.proofs.Exact.{exact_box}
use Rattle.box_tree.proofs.Trees.{as_many}

-- the entry with a number, where one of them has it
entry_found : (shift : ℕ) (boxes : List Box3) (numbers : List ℕ) (i place : ℕ) → place < length numbers → get_or numbers place i ≡ i →
    entry_numbered (map (entry_of shift boxes) numbers) i ≡ entry_of shift boxes i
entry_found shift boxes [] i place l e = absurd (omega (arith, l))
entry_found shift boxes (k ∷ ks) i zero l e = rw ((Decides-eqb k i).1 e) (ap (entry_of shift boxes) e)
entry_found shift boxes (k ∷ ks) i (suc place) l e =
    elim (cases_Bool (k == i)) as (λ _. entry_numbered (map (entry_of shift boxes) (k ∷ ks)) i ≡ entry_of shift boxes i) [
      | inl y ↦ rw y (ap (entry_of shift boxes) ((Decides-eqb k i).0 y))
      | inr n ↦ rw n (entry_found shift boxes ks i place (omega (arith, l)) e)
    ]

-- among the entries of all boxes, each number has its entry
entry_there : (shift : ℕ) (boxes : List Box3) (entries : List Entry) (i : ℕ) → AreEntries shift boxes entries → i < length boxes → entry_numbered entries i ≡ entry_of shift boxes i
entry_there shift boxes entries i h low =
    let long = length-up_from 0 (length boxes) in
    let C : ℕ → Type 0 = λ k. Contains (upto (length boxes)) k in
    let value : get_or (upto (length boxes)) i 0 ≡ i = get_or-up_from 0 (length boxes) i 0 low ∙ zero-add i in
    let there = subst C value (Contains-get_or (upto (length boxes)) i 0 (omega (arith, low, long))) in
    let moved = Contains-permutation (upto (length boxes)) (numbers_of entries) i h.order there in
    ap (λ es. entry_numbered es i) h.made ∙ entry_found shift boxes (numbers_of entries) i moved.0 moved.1 moved.2

-- a box that is kept is that of its entry
kept_box : (shift : ℕ) (stored boxes : List Box3) (k : ℕ) → IsKept shift stored boxes k → stored_box shift stored (entry_of shift boxes k) ≡ box_at boxes k
kept_box shift stored boxes k kept =
    let own = fine_box shift (bounds_around shift (box_at boxes k)) in
    elim (cases_lt k (length stored)) as (λ _. get_or stored k own ≡ box_at boxes k) [
      | inl low ↦ get_or_default stored k own no_box low ∙ kept.same low
      | inr past ↦ get_or_past stored k own past ∙ exact_box shift (box_at boxes k) (kept.exact past)
    ]

-- the boxes of the entries
pub boxes_there : (shift : ℕ) (stored boxes : List Box3) (entries : List Entry) → AreEntries shift boxes entries → AreKept shift stored boxes →
    boxes_stored shift stored entries ≡ boxes
boxes_there shift stored boxes entries h kept =
    let many = as_many shift boxes entries h in
    let long = length-up_from 0 (length entries) in
    let f = λ (k : ℕ). stored_box shift stored (entry_numbered entries k) in
    same_lists (boxes_stored shift stored entries) boxes (length-map (upto (length entries)) f ∙ long ∙ many)
    (λ k d low.
    let below : k < length boxes = omega (arith, low, many, long, length-map (upto (length entries)) f) in
    get_or-map f (upto (length entries)) k 0 d (omega (arith, below, many, long))
    ∙ ap f (get_or-up_from 0 (length entries) k 0 (omega (arith, below, many)) ∙ zero-add k)
    ∙ ap (stored_box shift stored) (entry_there shift boxes entries k h below)
    ∙ kept_box shift stored boxes k (kept k below) ∙ get_or_default boxes k no_box d below)
