use Rattle.std.proofs.Common.{ℕ, ℤ, ◌≡◌, ◌+◌, ◌++◌, pos, [], get_or}
use Rattle.chain_terms.specs.Sums.{upto}
use Rattle.cross_section.specs.Copies.{by_sign, repeated, vertex_number}
use Rattle.cross_section.proofs.copies.push_vertices.Given as goal

abbrev pub invariant-loop-v : goal.invariant-loop-v
invariant-loop-v l =
    let number : ℕ → ℤ = λ v. vertex_number l.op l.operand (get_or l.windings v (pos 0)) in
    let from : ℕ → ℕ = λ v. l.first + get_or l.places.leaving.items v 0 in
    let to : ℕ → ℕ = λ v. l.first + get_or l.places.entering.items v 0 in
    record {
      points : l.copies.points.items ≡ l.fn.copies.points.items ++ repeated number (λ v. get_or l.points v []) (upto l.v);
      starts : l.copies.starts.items ≡ l.fn.copies.starts.items ++ repeated number (λ v. by_sign (number v) (from v) (to v)) (upto l.v);
      ends : l.copies.ends.items ≡ l.fn.copies.ends.items ++ repeated number (λ v. by_sign (number v) (to v) (from v)) (upto l.v);
    }
