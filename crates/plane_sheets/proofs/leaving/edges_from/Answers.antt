use Rattle.std.proofs.Common.{◌≡◌, ◌≤◌, ℕ, List, arith, get_or, length, nat_le, nat_lt, rules, true, false, inl, inr}
use Rattle.std.specs.List.Sorted.{IsPartitionPoint}
use Rattle.std.proofs.lemmas.Bool.{cases_lt, leb-true, leb-false, ltb-true, ltb-false}
use Rattle.std.proofs.lemmas.List.Sorted.{IsPartitionPoint-from_clause, IsPartitionedBy-leb, IsPartitionedBy-ltb}
use Rattle.plane_sheets.specs.declared.leaving.Leaving.{Leaving}
use Rattle.plane_sheets.proofs.Ties.{between_points}
use Rattle.plane_sheets.proofs.leaving.edges_from.Goals as goal

-- the first place is no later than the second
in_order : (v : ℕ) (ls : List Leaving) (i j : ℕ) → i ≤ length ls → IsPartitionPoint (λ l. nat_lt l.from v ≡ true) (λ l. nat_lt l.from v ≡ false) ls i →
    IsPartitionPoint (λ l. nat_le l.from v ≡ true) (λ l. nat_le l.from v ≡ false) ls j → i ≤ j
in_order v ls i j within a b = elim (cases_lt j i) as (λ _. i ≤ j) [
  | inr le ↦ le
  | inl less ↦
      let d : Leaving = record { from = 0; to = 0; number = 0 } in
      absurd (omega (arith, ltb-true (get_or ls j d).from v (a.0 j d (omega arith) less), leb-false (get_or ls j d).from v (b.1 j d (omega arith) (omega (arith, less, within)))))
]

-- as the two calls found them
starts_first : (c : goal.After-partition_point-end) → c.partition_point-start.result ≤ c.partition_point-end.result
starts_first c =
    let ls = c.args.order.now in
    let v = c.args.place in
    let a = IsPartitionPoint-from_clause (λ l. nat_lt l.from v) ls c.partition_point-start.result c.partition_point-start.ensures.partitioned
    (IsPartitionedBy-ltb (λ l. l.from) ls v c.requires) (λ a r q j. search rules) in
    let b = IsPartitionPoint-from_clause (λ l. nat_le l.from v) ls c.partition_point-end.result c.partition_point-end.ensures.partitioned
    (IsPartitionedBy-leb (λ l. l.from) ls v c.requires) (λ a r q j. search rules) in
    in_order v ls c.partition_point-start.result c.partition_point-end.result c.partition_point-start.ensures.bound a b

pub slice_bounds-result-count : goal.slice_bounds-result-count
slice_bounds-result-count c = starts_first c

pub slice_bounds-result-start : goal.slice_bounds-result-start
slice_bounds-result-start c = starts_first c

pub slice_bounds-result-end : goal.slice_bounds-result-end
slice_bounds-result-end c = omega (arith, starts_first c, c.partition_point-end.ensures.bound)

pub returns : goal.returns
returns c =
    let ls = c.args.order.now in
    let v = c.args.place in
    let a = IsPartitionPoint-from_clause (λ l. nat_lt l.from v) ls c.partition_point-start.result c.partition_point-start.ensures.partitioned
    (IsPartitionedBy-ltb (λ l. l.from) ls v c.requires) (λ a r q j. search rules) in
    let b = IsPartitionPoint-from_clause (λ l. nat_le l.from v) ls c.partition_point-end.result c.partition_point-end.ensures.partitioned
    (IsPartitionedBy-leb (λ l. l.from) ls v c.requires) (λ a r q j. search rules) in
    let le = in_order v ls c.partition_point-start.result c.partition_point-end.result c.partition_point-start.ensures.bound a b in
    between_points (λ (l : Leaving). l.from) v ls c.partition_point-start.result c.partition_point-end.result le c.partition_point-end.ensures.bound
    (λ n d h. ltb-true _ _ (a.0 n d (omega arith) h)) (λ n d l h. ltb-false _ _ (a.1 n d l h))
    (λ n d h. leb-true _ _ (b.0 n d (omega arith) h)) (λ n d l h. leb-false _ _ (b.1 n d l h))
