-- Numbers that are put in one after the other: how large the sums are on the way.
use Rattle.std.proofs.Common.{arith, ◌≡◌, ℕ, ◌+◌, ◌<◌, ◌≤◌, ◌^◌, ℤ, pos, neg_ℤ, ◌*ℤ◌, List, [], ◌∷◌, drop, get_or, length, take, unsigned_abs, sym, ap, ◌∙◌}
use Rattle.std.specs.List.{sum_by}
use Rattle.std.proofs.lemmas.Int.{unsigned_abs-mul}
use Rattle.std.proofs.lemmas.List.{take-append-drop, take_more}
use Rattle.std.proofs.lemmas.List.Sums.{sum_by-append, sum_by-cons}
use Rattle.plane_chains.specs.declared.nets.LabelNumber.{LabelNumber}
use Rattle.plane_sheets.specs.declared.beside.Passes.{Passes}
use Rattle.plane_sheets.specs.declared.beside.Passes.TheVariants.{Up, Down, No}
use Rattle.plane_sheets.specs.Crossed.{times}
use Rattle.plane_sheets.specs.Sides.{all_in, put_in, size_held, size_of}
use Rattle.plane_sheets.proofs.Held.{all_in-snoc, size_held-all_in}

-- once, back or not at all makes no number larger
pub times_less : (p : Passes) (z : ℤ) → unsigned_abs (z *ℤ times p) ≤ unsigned_abs z
times_less Up z = omega (arith, unsigned_abs-mul z (pos 1))
times_less Down z = omega (arith, unsigned_abs-mul z (neg_ℤ (pos 1)))
times_less No z = omega (arith, unsigned_abs-mul z (pos 0))

-- a number that is read where there is none
abbrev pub no_number : LabelNumber
no_number = record { label = 0; number = pos 0 }

-- the sizes of the numbers so far, with the next
pub size_next : (ns : List LabelNumber) (i : ℕ) → i < length ns → size_of (take i ns) + unsigned_abs (get_or ns i no_number).number ≤ size_of ns
size_next ns i below =
    let size : LabelNumber → ℕ = λ n. unsigned_abs n.number in
    let n = get_or ns i no_number in
    omega (
      arith,
      ap (sum_by size) (take_more ns i no_number below),
      sum_by-append size (take i ns) (n ∷ []),
      sum_by-cons size n [],
      ap (sum_by size) (take-append-drop (i + 1) ns),
      sum_by-append size (take (i + 1) ns) (drop (i + 1) ns),
    )

-- one more number fits
pub fits_so_far : (p : Passes) (ns : List LabelNumber) (i : ℕ) (x : ℤ) (old new : List (ℕ × ℤ)) → i < length ns → new ≡ all_in (times p) (take i ns) old →
    unsigned_abs x ≤ unsigned_abs (get_or ns i no_number).number → size_held old + size_of ns < 2 ^ 63 → size_held new + unsigned_abs x < 2 ^ 63
fits_so_far p ns i x old new below so small fits =
    omega (arith, ap size_held so, size_held-all_in (times p) (times_less p) (take i ns) old, size_next ns i below, small, fits)

-- and goes on
pub in_so_far : (t : ℤ) (ns : List LabelNumber) (i : ℕ) (x : ℤ) (old new more : List (ℕ × ℤ)) (l : ℕ) → i < length ns → new ≡ all_in t (take i ns) old →
    l ≡ (get_or ns i no_number).label → x ≡ (get_or ns i no_number).number *ℤ t → more ≡ put_in l x new → more ≡ all_in t (take (i + 1) ns) old
in_so_far t ns i x old new more l below so label value step =
    let n = get_or ns i no_number in
    step ∙ ap (put_in l x) so ∙ ap (λ z. put_in l z (all_in t (take i ns) old)) value ∙ ap (λ k. put_in k (n.number *ℤ t) (all_in t (take i ns) old)) label
    ∙ sym (ap (λ ms. all_in t ms old) (take_more ns i no_number below) ∙ all_in-snoc t (take i ns) n old)
