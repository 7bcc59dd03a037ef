-- Records sorted by face, list and copy.
use Rattle.std.proofs.Common.{is_lt, ◌≡◌, ◌+◌, ℕ, true, false, Bool, List, get_or, refl, ap, ◌∙◌}
use Rattle.std.specs.Cmp.{IsStrictWeakOrder, IsTotalOrder}
use Rattle.std.specs.List.{Contains}
use Rattle.std.specs.List.Sorted.{IsPermutation, IsSorted}
use Rattle.std.specs.Ordering.{bool_cmp, nat_cmp, ordering_then}
use Rattle.std.specs.declared.cmp.Ordering.{Ordering}
use Rattle.std.specs.declared.cmp.Ordering.TheVariants.{Equal, Greater, Less}
use Rattle.std.proofs.lemmas.Cmp.{nat_cmp_total, on_total, then_total}
use Rattle.std.proofs.lemmas.List.MinMax.{ranks_by}
use Rattle.chain_laws.specs.Sorting.{sorted_by}
use Rattle.chain_laws.proofs.Sorting.{sort_is, tie, tie-parts}
use Rattle.edge_pairing.proofs.Ties.{equal_both, first_equal, same_number, second_equal}
use Rattle.source_faces.specs.Stands.{stands_before}
use Rattle.source_faces.specs.declared.lists.stands.Stand.{Stand}
use Rattle.source_faces.proofs.OneWay.{IsOneWay}

-- how two records compare by face, list and copy
abbrev by_place : Stand → Stand → Ordering
by_place s t = ordering_then (nat_cmp s.face t.face) (ordering_then (nat_cmp s.list t.list) (nat_cmp s.copy t.copy))

-- and how the code compares them
abbrev pub stand_cmp : Stand → Stand → Ordering
stand_cmp s t =
    ordering_then (nat_cmp s.face t.face) (ordering_then (nat_cmp s.list t.list) (ordering_then (nat_cmp s.copy t.copy) (bool_cmp s.start t.start)))

place_total : IsTotalOrder by_place
place_total =
    then_total (on_total (λ (s : Stand). s.face) nat_cmp_total)
    (then_total (on_total (λ (s : Stand). s.list) nat_cmp_total) (on_total (λ (s : Stand). s.copy) nat_cmp_total))

-- the order is one
pub place_order : IsStrictWeakOrder stands_before
place_order = ranks_by place_total (λ s. s)

-- what is not less by more comparisons is not less by the first of them
not_less : (o p q r : Ordering) → is_lt (ordering_then o (ordering_then p (ordering_then q r))) ≡ false →
    is_lt (ordering_then o (ordering_then p q)) ≡ false
not_less Less p q r e = e
not_less Greater p q r e = e
not_less Equal Less q r e = e
not_less Equal Greater q r e = e
not_less Equal Equal Less r e = e
not_less Equal Equal Equal r e = refl
not_less Equal Equal Greater r e = e

-- records that tie are one, where a copy stands one way in a list of a face
tied : (ss : List Stand) → IsOneWay ss → (s t : Stand) → Contains ss s → Contains ss t → tie stands_before s t ≡ true → s ≡ t
tied ss one s t a b both =
    let level = tie-parts stands_before s t both in
    let equal = equal_both (by_place s t) (by_place t s) (place_total.antisymm s t) level.0 level.1 in
    let later = second_equal (nat_cmp s.face t.face) (ordering_then (nat_cmp s.list t.list) (nat_cmp s.copy t.copy)) equal in
    let face =
    same_number s.face t.face (first_equal (nat_cmp s.face t.face) (ordering_then (nat_cmp s.list t.list) (nat_cmp s.copy t.copy)) equal) in
    let list = same_number s.list t.list (first_equal (nat_cmp s.list t.list) (nat_cmp s.copy t.copy) later) in
    let copy = same_number s.copy t.copy (second_equal (nat_cmp s.list t.list) (nat_cmp s.copy t.copy) later) in
    same_record s t face list copy (one s t a b face list copy)
  where
    same_record : (s t : Stand) → s.face ≡ t.face → s.list ≡ t.list → s.copy ≡ t.copy → s.start ≡ t.start → s ≡ t
    same_record s t e f g h =
        let made : (x l v : ℕ) → Bool → Stand = λ x l v b. record { face = x; list = l; copy = v; start = b } in
        ap (λ x. made x s.list s.copy s.start) e ∙ ap (λ l. made t.face l s.copy s.start) f ∙ ap (λ v. made t.face t.list v s.start) g
        ∙ ap (made t.face t.list t.copy) h

-- a sort of such records
pub sorted_records : (ss order : List Stand) → IsOneWay ss → IsPermutation ss order → IsSorted stand_cmp order → order ≡ sorted_by stands_before ss
sorted_records ss order one moved up =
    sort_is stands_before place_order ss order moved
    (λ k d low high. not_less (nat_cmp (get_or order (k + 1) d).face (get_or order k d).face)
    (nat_cmp (get_or order (k + 1) d).list (get_or order k d).list) (nat_cmp (get_or order (k + 1) d).copy (get_or order k d).copy)
    (bool_cmp (get_or order (k + 1) d).start (get_or order k d).start) (up k d low high))
    (tied ss one)
