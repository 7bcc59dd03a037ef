use Rattle.std.proofs.Common.{ℕ, ℤ}
use Rattle.edge_face.specs.Pairs.{number_at}
use Rattle.edge_face.proofs.Numbers.{kept, kept_lifted}
use Rattle.edge_face.proofs.pairs.counts.Goals as goal

pub returns : goal.returns
returns c =
    let s : ℕ → ℤ = number_at c.args.start.now in
    let e : ℕ → ℤ = number_at c.args.end.now in
    let t : ℕ → ℤ = number_at c.args.at.now in
    let start = c.requires.start_small in
    let end = c.requires.end_small in
    let at = c.requires.at_small in
    record {
      start_count = kept c.sum.result c.sum.type_inv c.sum.ensures.value;
      end_count = kept c.sum-2.result c.sum-2.type_inv c.sum-2.ensures.value;
      first = kept_lifted c.lifted.result (e 0) (s 0) (t 0) (t 1) c.lifted.type_inv c.lifted.ensures end.first start.first at.first at.second;
      second = kept_lifted c.lifted-2.result (e 1) (s 1) (t 1) (t 2) c.lifted-2.type_inv c.lifted-2.ensures end.second start.second at.second at.third;
      third = kept_lifted c.lifted-3.result (e 2) (s 2) (t 2) (t 0) c.lifted-3.type_inv c.lifted-3.ensures end.third start.third at.third at.first;
    }
