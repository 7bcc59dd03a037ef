-- Written coordinates and vertex numbers read back.
use Rattle.std.proofs.Common.{◌≡◌, ℕ, ◌+◌, ◌-◌, ◌<◌, ◌≤◌, ◌^◌, ◌&&◌, if◌then◌else◌, Bool, true, false, List, length, decimal, ap, ◌∙◌, arith, Option, Some, Ok, Err, ℤ, nat_abs, nat_lt, nat_le}
use Rattle.std.proofs.lemmas.Int.{ints}
use Rattle.std.proofs.lemmas.Bool.Decides.{nat_tests}
use Rattle.std.proofs.lemmas.Fmt.{length-decimal-le}
use Rattle.text_terms.specs.Numbers.{is_digit, all_digits, is_on_grid}
use Rattle.text_terms.specs.Written.{written}
use Rattle.mesh_terms.specs.Points.{IsOnGrid}
use Rattle.format_terms.specs.ObjFaces.{is_slash, whole_number, item_tail, named_vertex, item_vertex}
use Rattle.text_terms.specs.Coordinates.{on_grid, coordinate}
use Rattle.grid_number.proofs.Bytes.{AreNumberBytes-written, length-written}
use Rattle.grid_number.proofs.Cuts.{cut_at-only_digits}
use Rattle.grid_number.proofs.ReadBack.{grid_number-written}
use Rattle.format_laws.proofs.Plain.{IsPlain, IsPlain-number, IsPlain-digits}
use Rattle.format_laws.proofs.Decimals.{IsSpelled, IsSpelled-decimal, minus_first-spelled, sized, sized-spelled}

-- a plain word of at most 12 bytes that reads as the coordinate
pub record IsTextOf (k : ℕ) (z : ℤ) (text : List ℕ) : Type 0 where
  pub plain : IsPlain text
  pub reads : coordinate k text ≡ Ok z
  pub short : length text ≤ 12

-- the size of a coordinate
grid_size : (z : ℤ) → IsOnGrid z → nat_abs z ≤ 2 ^ 30
grid_size z on = omega (arith, ints, on)

-- what is written of a coordinate is such a word
pub IsTextOf-written : (k : ℕ) (z : ℤ) → k ≤ 6 → IsOnGrid z → IsTextOf k z (written k z)
IsTextOf-written k z few on =
    let small : nat_abs z ≤ 2 ^ 30 = grid_size z on in
    let long = length-written k z few small in
    let here : is_on_grid z ≡ true = grind (arith, nat_tests, small) in
    record {
      plain = IsPlain-number (written k z) long.1 (AreNumberBytes-written k z (omega (arith, small)));
      reads =
          ap on_grid (grid_number-written k z (omega (arith, small)))
          ∙ ap (λ (b : Bool). if b then Ok z else Err 4) here;
      short = long.0;
    }

-- a plain word of at most 9 bytes that reads as the vertex, where there are so many points
pub record IsItemOf (count v : ℕ) (text : List ℕ) : Type 0 where
  pub plain : IsPlain text
  pub reads : item_vertex count text ≡ Ok v
  pub short : length text ≤ 9

-- a digit is no slash
digit_is_no_slash : (d : ℕ) → is_digit d ≡ true → is_slash d ≡ false
digit_is_no_slash d digit = grind (arith, nat_tests)

-- digits alone are an item
item_vertex-digits : (count : ℕ) (text : List ℕ) → all_digits text ≡ true → item_vertex count text ≡ named_vertex count (whole_number text)
item_vertex-digits count text digits =
    ap (λ (i : List ℕ × Option (List ℕ)). if item_tail i.1 then named_vertex count (whole_number i.0) else Err 5) (cut_at-only_digits is_slash digit_is_no_slash text digits)

-- a number from 1 names a point
named_vertex-some : (count v : ℕ) → v < count → named_vertex count (Some (false, v + 1)) ≡ Ok v
named_vertex-some count v below =
    let test : (nat_lt 0 (v + 1) && nat_le (v + 1) count) ≡ true = grind (arith, nat_tests) in
    let back : v + 1 - 1 ≡ v = omega arith in
    ap (λ (b : Bool). if b then Ok (v + 1 - 1) else Err 6) test ∙ ap (λ (i : ℕ). Ok i) back

-- digits that spell it do, too
pub item_vertex-spelled : (count v : ℕ) (text : List ℕ) → v < count → IsSpelled (v + 1) text → item_vertex count text ≡ Ok v
item_vertex-spelled count v text below s =
    item_vertex-digits count text s.digits
    ∙ ap (λ (o : Option (Bool × ℕ)). named_vertex count o) (ap sized (minus_first-spelled (v + 1) text s) ∙ sized-spelled false (v + 1) text s)
    ∙ named_vertex-some count v below

-- the number of a vertex, counted from 1, is such a word
pub IsItemOf-decimal : (count v : ℕ) → v < count → count ≤ 150000000 → IsItemOf count v (decimal (v + 1))
IsItemOf-decimal count v below few =
    let text = decimal (v + 1) in
    let s = IsSpelled-decimal (v + 1) (omega arith) in
    record {
      plain = IsPlain-digits text s.word.some s.digits;
      reads = item_vertex-spelled count v text below s;
      short = length-decimal-le 9 (v + 1) (omega arith) (omega arith) (omega arith);
    }
