use Rattle.std.proofs.Common.{◌≡◌, arith, nat_lt, true, false}
use Rattle.std.specs.List.Sorted.{IsPartitionPoint}
use Rattle.std.proofs.lemmas.Bool.{ltb-true, ltb-false}
use Rattle.std.proofs.lemmas.List.Sorted.{IsPartitionPoint-from_clause, IsPartitionedBy-ltb}
use Rattle.std.proofs.Common.{rules}
use Rattle.plane_sheets.specs.Sides.{no_sides}
use Rattle.plane_sheets.proofs.Putting.{labels_rise}
use Rattle.plane_sheets.proofs.side_numbers.place_for.Goals as goal

pub returns-clause-before : goal.returns-clause-before
returns-clause-before c k h =
    let ss = c.args.sides.now in
    let point : IsPartitionPoint (λ s. nat_lt s.label c.args.label ≡ true) (λ s. nat_lt s.label c.args.label ≡ false) ss c.partition_point.result =
    IsPartitionPoint-from_clause (λ s. nat_lt s.label c.args.label) ss c.partition_point.result c.partition_point.ensures.partitioned
    (IsPartitionedBy-ltb (λ s. s.label) ss c.args.label (labels_rise ss c.requires)) (λ a r q j. search rules) in
    ltb-true _ _ (point.0 k no_sides (omega arith) h)

pub returns-clause-from : goal.returns-clause-from
returns-clause-from c k l h =
    let ss = c.args.sides.now in
    let point : IsPartitionPoint (λ s. nat_lt s.label c.args.label ≡ true) (λ s. nat_lt s.label c.args.label ≡ false) ss c.partition_point.result =
    IsPartitionPoint-from_clause (λ s. nat_lt s.label c.args.label) ss c.partition_point.result c.partition_point.ensures.partitioned
    (IsPartitionedBy-ltb (λ s. s.label) ss c.args.label (labels_rise ss c.requires)) (λ a r q j. search rules) in
    ltb-false _ _ (point.1 k no_sides l h)
