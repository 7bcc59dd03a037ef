-- The run of each vertex is its block of copies.
use Rattle.std.proofs.Common.{◌≡◌, ℕ, ◌+◌, ◌-◌, ◌<◌, ◌≤◌, pos, List, length, get_or, nat_abs, int_lt, sym, ap, ◌∙◌, arith}
use Rattle.side_terms.specs.Lists.{Copy, no_copy}
use Rattle.side_terms.specs.Prescribed.{Prescription, copy_of}
use Rattle.source_faces.specs.Agreement.{IsRunOf}
use Rattle.source_faces.specs.declared.lists.runs.CopyRange.{CopyRange}
use Rattle.source_faces.proofs.Blocks.{all_copies, before, before_all, before_ascends, copy_in, lies_in, no_prescription}

-- the run of the j-th of what is prescribed
abbrev pub block_run : List Prescription → ℕ → CopyRange
block_run is j =
    record { first = before is j; count = nat_abs (get_or is j no_prescription).number; negative = int_lt (get_or is j no_prescription).number (pos 0) }

-- no other is of the origin of the j-th
abbrev pub IsAlone : List Prescription → ℕ → Type 0
IsAlone is j = (k : ℕ) → k < length is → (get_or is k no_prescription).origin ≡ (get_or is j no_prescription).origin → k ≡ j

-- a copy of the j-th lies in its block
in_block : (is : List Prescription) (j v : ℕ) → IsAlone is j → v < length (all_copies is) →
    (get_or (all_copies is) v no_copy).origin ≡ (get_or is j no_prescription).origin →
    (before is j ≤ v) × (v < before is j + nat_abs (get_or is j no_prescription).number)
in_block is j v alone m same =
    let at = lies_in is v m in
    let copy : get_or (all_copies is) v no_copy ≡ copy_of (get_or is at.block no_prescription) =
    ap (λ n. get_or (all_copies is) n no_copy) at.at ∙ copy_in is at.block at.place at.within at.inside in
    let one : at.block ≡ j = alone at.block at.within (sym (ap (λ (c : Copy). c.origin) copy) ∙ same) in
    let low : before is at.block ≡ before is j = ap (before is) one in
    let size : nat_abs (get_or is at.block no_prescription).number ≡ nat_abs (get_or is j no_prescription).number =
    ap (λ k. nat_abs (get_or is k no_prescription).number) one in
    (omega (arith, at.at, low), omega (arith, at.at, low, size, at.inside))

-- what lies in a block is a copy of the j-th
of_block : (is : List Prescription) (j v : ℕ) → j < length is → before is j ≤ v → v < before is j + nat_abs (get_or is j no_prescription).number →
    get_or (all_copies is) v no_copy ≡ copy_of (get_or is j no_prescription)
of_block is j v l low high =
    let at : before is j + (v - before is j) ≡ v = omega (arith, low) in
    sym (ap (λ n. get_or (all_copies is) n no_copy) at) ∙ copy_in is j (v - before is j) l (omega (arith, low, high))

-- so it is the run of its origin
pub block_is_run : (is : List Prescription) (j : ℕ) → j < length is → IsAlone is j →
    IsRunOf (all_copies is) (get_or is j no_prescription).origin (get_or is j no_prescription).point (block_run is j)
block_is_run is j l alone = record {
  within = omega (arith, before_ascends is j (length is) l (omega arith), before_all is);
  there = λ v m. (in_block is j v alone m, λ c. ap (λ (k : Copy). k.origin) (of_block is j v l c.0 c.1));
  signed = λ v low high. ap (λ (k : Copy). k.negative) (of_block is j v l low high);
  lies = λ v low high. ap (λ (k : Copy). k.point) (of_block is j v l low high);
}
