-- Short decimal numbers at the front of a text, and what they are in steps.
use Rattle.std.proofs.Common.{◌≡◌, ℕ, suc, ◌+◌, ◌*◌, ◌^◌, ◌<◌, ◌≤◌, if◌then◌else◌, cond, Bool, true, false, not, List, [], ◌∷◌, ◌++◌, length, take, drop, refl, ap, ◌∙◌, sym, arith, append-nil, append_assoc, length-append, Option, Some, None, option_map, ℤ, pos, negsuc, ◌+ℤ◌, ◌-ℤ◌, nat_lt, Ok, Err}
use Rattle.std.specs.Prelude.{◌==◌}
use Rattle.std.specs.List.{position_or_len}
use Rattle.std.proofs.lemmas.Int.{ints}
use Rattle.std.proofs.lemmas.Bool.Decides.{nat_tests}
use Rattle.std.proofs.lemmas.List.{take-append-drop, length-take-le}
use Rattle.text_terms.proofs.Digits.{both, left, right, all_digits-append, value_from-append}
use Rattle.text_terms.specs.Numbers.{Parts, is_digit, all_digits, value_from, digits_value, scaled, size_of, value_of, signed, number_parts, or_empty}
use Rattle.text_terms.specs.Coordinates.{on_grid, coordinate}
use Rattle.format_terms.specs.ObjFaces.{minus_first}
use Rattle.grid_number.specs.Reading.{carry_of, with_sign, parts_with}
use Rattle.grid_number.proofs.Cuts.{signed-digits}
use Rattle.grid_number.proofs.Dropped.{scaled-dropped}
use Rattle.grid_number.proofs.Known.{on_grid-size}
use Rattle.grid_number.proofs.Parts.{parts_of_runs, number_parts-runs}
use Rattle.grid_number.proofs.ReadBack.{scaled-pos}
use Rattle.obj_text.proofs.Fronts.{all-front}
use Rattle.obj_text.specs.Plain.{is_plain, all_plain, SpellsOn, mantissa, carry_by, Drops, BeginsSize, EndsSize, BeginsWord}

-- digits before and after the point of a number without an exponent
abbrev parts_so : List ℕ → List ℕ → Parts
parts_so ds fs = record { negative = false; whole = ds; fraction = fs; exponent = pos 0 }

-- j places are left
raised : (k r j : ℕ) → r + j ≡ k → (pos 0 -ℤ pos r) +ℤ pos k ≡ pos j
raised k r j places = omega (arith, ints)

size-kept : (k j : ℕ) (ds fs : List ℕ) → length fs + j ≡ k → size_of k (parts_so ds fs) ≡ digits_value (ds ++ fs) * 10 ^ j
size-kept k j ds fs places = ap (λ (t : ℤ). scaled (digits_value (ds ++ fs)) t) (raised k (length fs) j places) ∙ scaled-pos (digits_value (ds ++ fs)) j

-- digits are dropped
lowered : (k r n : ℕ) → r ≡ k + suc n → (pos 0 -ℤ pos r) +ℤ pos k ≡ negsuc n
lowered k r n places = omega (arith, ints)

size-dropped : (k : ℕ) (ds fs : List ℕ) (b : ℕ) (back : List ℕ) → length fs ≡ k → all_digits (b ∷ back) ≡ true →
    size_of k (parts_so ds (fs ++ b ∷ back)) ≡ digits_value (ds ++ fs) + carry_of b
size-dropped k ds fs b back full digits =
    ap (λ (t : ℤ). scaled (digits_value (ds ++ (fs ++ b ∷ back))) t) (lowered k (length (fs ++ b ∷ back)) (length back) (omega (arith, full, length-append fs (b ∷ back))))
    ∙ ap (λ (l : List ℕ). scaled (digits_value l) (negsuc (length back))) (sym (append_assoc ds fs (b ∷ back)))
    ∙ scaled-dropped (ds ++ fs) b back digits

-- what a whole number and digits behind its point spell
spelled_behind : (ds text : List ℕ) (whole kept count : ℕ) → SpellsOn whole text kept count → digits_value ds ≡ whole → digits_value (ds ++ take count text) ≡ kept
spelled_behind ds text whole kept count s e = value_from-append 0 ds (take count text) ∙ ap (λ (v : ℕ). value_from v (take count text)) e ∙ sym s.spelled

-- the digits at the front of a text are dropped
pub drops_front : (n carry : ℕ) (text lost rest : List ℕ) → n ≡ position_or_len (λ c. not (is_digit c)) text → lost ≡ take n text → rest ≡ drop n text →
    carry ≡ carry_by lost → Drops text carry rest
drops_front n carry text lost rest place front back carries = record {
  lost = lost;
  split = sym (take-append-drop n text) ∙ ap (λ (t : List ℕ). t ++ drop n text) (sym front) ∙ ap (λ (t : List ℕ). lost ++ t) (sym back);
  digits = ap all_digits (front ∙ ap (λ (m : ℕ). take m text) place) ∙ all-front is_digit all_digits refl (λ c cs. refl) text;
  carries = carries;
}

-- all digits behind a point are kept
pub ends_kept : (k whole kept count places : ℕ) (text rest : List ℕ) → SpellsOn whole text kept count → rest ≡ drop count text → count + places ≡ k →
    EndsSize k whole text (kept * 10 ^ places) rest
ends_kept k whole kept count places text rest s back few = record {
  fraction = take count text;
  split = sym (take-append-drop count text) ∙ ap (λ (t : List ℕ). take count text ++ t) (sym back);
  digits = s.digits;
  sized = λ ds e.
      ap (λ (v : ℕ). v * 10 ^ places) (sym (spelled_behind ds text whole kept count s e))
      ∙ sym (size-kept k places ds (take count text) (omega (arith, few, length-take-le count text s.within)));
}

-- the size where some are dropped, or none is there to be
sized_by : (k : ℕ) (ds fs lost : List ℕ) → length fs ≡ k → all_digits lost ≡ true → size_of k (parts_so ds (fs ++ lost)) ≡ digits_value (ds ++ fs) + carry_by lost
sized_by k ds fs [] full digits =
    ap (λ (l : List ℕ). size_of k (parts_so ds l)) (append-nil fs) ∙ size-kept k 0 ds fs (omega (arith, full)) ∙ omega arith
sized_by k ds fs (b ∷ back) full digits = size-dropped k ds fs b back full digits

pub ends_dropped : (k whole kept count carry : ℕ) (text rest after : List ℕ) → SpellsOn whole text kept count → rest ≡ drop count text → count ≡ k →
    Drops rest carry after → EndsSize k whole text (kept + carry) after
ends_dropped k whole kept count carry text rest after s back full d = record {
  fraction = take count text ++ d.lost;
  split =
      sym (take-append-drop count text) ∙ ap (λ (t : List ℕ). take count text ++ t) (sym back ∙ d.split)
      ∙ sym (append_assoc (take count text) d.lost after);
  digits = all_digits-append (take count text) d.lost s.digits d.digits;
  sized = λ ds e.
      ap (λ (c : ℕ). kept + c) d.carries ∙ ap (λ (v : ℕ). v + carry_by d.lost) (sym (spelled_behind ds text whole kept count s e))
      ∙ sym (sized_by k ds (take count text) d.lost (omega (arith, full, length-take-le count text s.within)) d.digits);
}

-- a number with a point
pub begins_with : (k whole size count : ℕ) (text rest fraction after : List ℕ) → SpellsOn 0 text whole count → 0 < count → rest ≡ drop count text →
    rest ≡ 46 ∷ fraction → EndsSize k whole fraction size after → BeginsSize k text size after
begins_with k whole size count text rest fraction after s some back point e = record {
  whole = take count text;
  fraction = Some e.fraction;
  split =
      sym (take-append-drop count text)
      ∙ ap (λ (t : List ℕ). take count text ++ t) (sym back ∙ point ∙ ap (λ (t : List ℕ). 46 ∷ t) e.split)
      ∙ sym (append_assoc (take count text) (46 ∷ e.fraction) after);
  some = omega (arith, some, length-take-le count text s.within);
  digits = s.digits;
  more = e.digits;
  sized = e.sized (take count text) (sym s.spelled);
}

-- digits are plain
plain-digit : (d : ℕ) → is_digit d ≡ true → is_plain d ≡ true
plain-digit d digit = grind (arith, nat_tests)

plain-digits : (ds rest : List ℕ) → all_digits ds ≡ true → all_plain rest ≡ true → all_plain (ds ++ rest) ≡ true
plain-digits [] rest digits plain = plain
plain-digits (d ∷ ds) rest digits plain =
    both (is_plain d) (all_plain (ds ++ rest)) (plain-digit d (left (is_digit d) (all_digits ds) digits))
    (plain-digits ds rest (right (is_digit d) (all_digits ds) digits) plain)

plain-only : (ds : List ℕ) → all_digits ds ≡ true → all_plain ds ≡ true
plain-only ds digits = ap all_plain (sym (append-nil ds)) ∙ plain-digits ds [] digits refl

plain-mantissa : (ds : List ℕ) (o : Option (List ℕ)) → all_digits ds ≡ true → all_digits (or_empty o) ≡ true → all_plain (mantissa ds o) ≡ true
plain-mantissa ds None digits more = plain-only ds digits
plain-mantissa ds (Some fs) digits more = plain-digits ds (46 ∷ fs) digits (plain-only fs more)

-- a sign in front, or none
abbrev under_sign : Bool → List ℕ → List ℕ
under_sign true word = 45 ∷ word
under_sign false word = word

plain-signed : (negative : Bool) (word : List ℕ) → all_plain word ≡ true → all_plain (under_sign negative word) ≡ true
plain-signed true word plain = plain
plain-signed false word plain = plain

long-signed : (negative : Bool) (word : List ℕ) → 0 < length word → 0 < length (under_sign negative word)
long-signed true word some = omega arith
long-signed false word some = some

long-mantissa : (ds : List ℕ) (o : Option (List ℕ)) → 0 < length ds → 0 < length (mantissa ds o)
long-mantissa ds None some = some
long-mantissa ds (Some fs) some = omega (arith, some, length-append ds (46 ∷ fs))

split-signed : (negative : Bool) (word rest : List ℕ) → under_sign negative (word ++ rest) ≡ under_sign negative word ++ rest
split-signed true word rest = refl
split-signed false word rest = refl

-- a text is its sign and what stands after it
under_sign-first : (text : List ℕ) → text ≡ under_sign (minus_first text).0 (minus_first text).1
under_sign-first [] = refl
under_sign-first (c ∷ cs) = by_minus (c == 45) refl (minus_first (c ∷ cs)) refl where
  by_minus : (b : Bool) → (c == 45) ≡ b → (s : Bool × List ℕ) → s ≡ (if b then (true, cs) else (false, c ∷ cs)) → c ∷ cs ≡ under_sign s.0 s.1
  by_minus true e s is = let same : c ≡ 45 = grind (arith, nat_tests) in ap (λ (d : ℕ). d ∷ cs) same ∙ sym (ap (λ (r : Bool × List ℕ). under_sign r.0 r.1) is)
  by_minus false e s is = sym (ap (λ (r : Bool × List ℕ). under_sign r.0 r.1) is)

signed-mantissa : (negative : Bool) (ds : List ℕ) (o : Option (List ℕ)) → 0 < length ds → all_digits ds ≡ true →
    signed (under_sign negative (mantissa ds o)) ≡ (negative, mantissa ds o)
signed-mantissa true ds o some digits = refl
signed-mantissa false ds None some digits = ap signed (sym (append-nil ds)) ∙ signed-digits ds [] some digits ∙ ap (λ (l : List ℕ). (false, l)) (append-nil ds)
signed-mantissa false ds (Some fs) some digits = signed-digits ds (46 ∷ fs) some digits

-- its parts
parts_some : (negative : Bool) (ds fs : List ℕ) → 0 < length ds → parts_of_runs negative ds fs [] ≡ Some (parts_with negative ds fs (pos 0))
parts_some negative ds fs some =
    let there : nat_lt 0 (length ds + length fs) ≡ true = grind (arith, nat_tests) in
    ap (λ (b : Bool). cond b (Some (parts_with negative ds fs (pos 0))) None) there

parts-mantissa : (negative : Bool) (ds : List ℕ) (o : Option (List ℕ)) → 0 < length ds → all_digits ds ≡ true → all_digits (or_empty o) ≡ true →
    number_parts (under_sign negative (mantissa ds o)) ≡ Some (parts_with negative ds (or_empty o) (pos 0))
parts-mantissa negative ds None some digits more =
    number_parts-runs negative (under_sign negative ds) ds ds [] [] [] (signed-mantissa negative ds None some digits) (sym (append-nil ds)) digits refl (refl, refl) refl refl
    ∙ parts_some negative ds [] some
parts-mantissa negative ds (Some fs) some digits more =
    number_parts-runs negative (under_sign negative (ds ++ 46 ∷ fs)) (ds ++ 46 ∷ fs) ds (46 ∷ fs) fs [] (signed-mantissa negative ds (Some fs) some digits) refl
    digits refl (sym (append-nil fs)) more refl
    ∙ parts_some negative ds fs some

-- so it reads as its size under its sign
reads_so : (k size : ℕ) (negative : Bool) (ds : List ℕ) (o : Option (List ℕ)) → 0 < length ds → all_digits ds ≡ true → all_digits (or_empty o) ≡ true →
    size ≡ size_of k (parts_so ds (or_empty o)) → size ≤ 2 ^ 30 →
    coordinate k (under_sign negative (mantissa ds o)) ≡ Ok (with_sign negative size)
reads_so k size negative ds o some digits more sized on =
    ap (λ (p : Option Parts). on_grid (option_map (value_of k) p)) (parts-mantissa negative ds o some digits more)
    ∙ ap (λ (n : ℕ). on_grid (Some (with_sign negative n))) (sym sized)
    ∙ ap (λ (b : Bool). if b then Ok (with_sign negative size) else Err 4) (on_grid-size negative size on)

-- a text begins with a number that reads where its size is on the grid
pub begins_short : (k size : ℕ) (negative : Bool) (value : ℤ) (text unsigned rest : List ℕ) → negative ≡ (minus_first text).0 →
    unsigned ≡ (minus_first text).1 → BeginsSize k unsigned size rest → size ≤ 2 ^ 30 → value ≡ with_sign negative size → BeginsWord k text value rest
begins_short k size negative value text unsigned rest sign after b on is = record {
  word = under_sign negative (mantissa b.whole b.fraction);
  split =
      under_sign-first text
      ∙ ap (λ (s : Bool). under_sign s (minus_first text).1) (sym sign)
      ∙ ap (λ (l : List ℕ). under_sign negative l) (sym after ∙ b.split)
      ∙ split-signed negative (mantissa b.whole b.fraction) rest;
  plain = record {
    some = long-signed negative (mantissa b.whole b.fraction) (long-mantissa b.whole b.fraction b.some);
    plain = plain-signed negative (mantissa b.whole b.fraction) (plain-mantissa b.whole b.fraction b.digits b.more);
  };
  reads = reads_so k size negative b.whole b.fraction b.some b.digits b.more b.sized on ∙ ap (λ (z : ℤ). Ok z) (sym is);
}
