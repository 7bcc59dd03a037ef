use Rattle.std.proofs.Common.{rules, nat_le, nat_lt}
use Rattle.std.proofs.lemmas.List.Sorted.{IsPartitionPoint-from_clause, IsPartitionedBy-leb, IsPartitionedBy-ltb}
use Rattle.mb_base.specs.declared.results.Hit.{Hit}
use Rattle.winding.proofs.EdgeSums.{IsEnd, IsStart, run_is, start_first}
use Rattle.winding.proofs.along.hits_on.Goals as goal

pub slice_bounds-result-count : goal.slice_bounds-result-count
slice_bounds-result-count c =
    let hits = c.args.hits.now in
    let e = c.args.edge in
    let from = c.partition_point-from in
    let to = c.partition_point-to in
    let low = IsPartitionedBy-ltb (λ (h : Hit). h.edge) hits e c.requires in
    let high = IsPartitionedBy-leb (λ (h : Hit). h.edge) hits e c.requires in
    let starts : IsStart hits e from.result = IsPartitionPoint-from_clause (λ h. nat_lt h.edge e) hits from.result from.ensures.partitioned low (λ a r q k. search rules) in
    let ends : IsEnd hits e to.result = IsPartitionPoint-from_clause (λ h. nat_le h.edge e) hits to.result to.ensures.partitioned high (λ a r q k. search rules) in
    start_first hits e from.result to.result from.ensures.bound starts ends

pub slice_bounds-result-start : goal.slice_bounds-result-start
slice_bounds-result-start c =
    let hits = c.args.hits.now in
    let e = c.args.edge in
    let from = c.partition_point-from in
    let to = c.partition_point-to in
    let low = IsPartitionedBy-ltb (λ (h : Hit). h.edge) hits e c.requires in
    let high = IsPartitionedBy-leb (λ (h : Hit). h.edge) hits e c.requires in
    let starts : IsStart hits e from.result = IsPartitionPoint-from_clause (λ h. nat_lt h.edge e) hits from.result from.ensures.partitioned low (λ a r q k. search rules) in
    let ends : IsEnd hits e to.result = IsPartitionPoint-from_clause (λ h. nat_le h.edge e) hits to.result to.ensures.partitioned high (λ a r q k. search rules) in
    start_first hits e from.result to.result from.ensures.bound starts ends

pub returns : goal.returns
returns c =
    let hits = c.args.hits.now in
    let e = c.args.edge in
    let from = c.partition_point-from in
    let to = c.partition_point-to in
    let low = IsPartitionedBy-ltb (λ (h : Hit). h.edge) hits e c.requires in
    let high = IsPartitionedBy-leb (λ (h : Hit). h.edge) hits e c.requires in
    let starts : IsStart hits e from.result = IsPartitionPoint-from_clause (λ h. nat_lt h.edge e) hits from.result from.ensures.partitioned low (λ a r q k. search rules) in
    let ends : IsEnd hits e to.result = IsPartitionPoint-from_clause (λ h. nat_le h.edge e) hits to.result to.ensures.partitioned high (λ a r q k. search rules) in
    run_is hits e from.result to.result from.ensures.bound to.ensures.bound starts ends
