use Rattle.std.proofs.Common.{◌≡◌, ℕ, ◌+◌, ◌-◌, ◌<◌, ◌≤◌, ◌++◌, pos, neg_ℤ, nat_lt, if◌then◌else◌, get_or, length, List, true, arith, sym, refl, ap, ◌∙◌, take, drop, append_assoc}
use Rattle.std.proofs.lemmas.List.{length-append, length-drop, take-append-drop}
use Rattle.std.proofs.Math.ListN.{get_or-append}
use Rattle.text_terms.specs.Numbers.{all_digits, digits_value, value_from, scaled}
use Rattle.grid_number.specs.Reading.{saturated}
use Rattle.grid_number.proofs.Dropped.{rounded-is, scaled-nothing}
use Rattle.grid_number.proofs.Saturated.{all_digits-take, all_digits-drop, saturated-value_from}
use Rattle.text_terms.proofs.Digits.{all_digits-append, value_from-append}
use Rattle.grid_number.proofs.moved.lowered.Goals as goal

-- the digits of both parts
both_digits : (whole fraction : List ℕ) → all_digits whole ≡ true → all_digits fraction ≡ true →
    all_digits (whole ++ fraction) ≡ true
both_digits whole fraction p q = all_digits-append whole fraction p q

-- the fraction's last digits are dropped
in_fraction : (whole fraction kept lost : List ℕ) (places cut known value size : ℕ) → all_digits fraction ≡ true →
    1 ≤ places → places ≤ length fraction → cut ≡ length fraction - places →
    kept ≡ take cut fraction → lost ≡ drop cut fraction → known ≡ saturated (value_from 0 whole) →
    value ≡ saturated (value_from known kept) →
    size ≡ saturated (value + (if nat_lt (get_or lost 0 0) 53 then 0 else 1)) →
    size ≡ saturated (scaled (digits_value (whole ++ fraction)) (neg_ℤ (pos places)))
in_fraction whole fraction kept lost places cut known value size digits some inside place front back known_is value_is
    rounded =
    let all : kept ++ lost ≡ fraction = ap (λ (l : List ℕ). l ++ lost) front
    ∙ ap (λ (l : List ℕ). take cut fraction ++ l) back ∙ take-append-drop cut fraction in
    let together : (whole ++ kept) ++ lost ≡ whole ++ fraction = append_assoc whole kept lost
    ∙ ap (λ (l : List ℕ). whole ++ l) all in
    let long : length lost ≡ places = omega (arith, ap (λ (l : List ℕ). length l) back, length-drop cut fraction) in
    let ends : all_digits lost ≡ true = ap all_digits back ∙ all_digits-drop cut fraction digits in
    let spelled : value ≡ saturated (digits_value (whole ++ kept)) =
    value_is ∙ ap (λ (v : ℕ). saturated (value_from v kept)) known_is ∙ saturated-value_from (value_from 0 whole) kept
    ∙ sym (ap saturated (value_from-append 0 whole kept)) in
    rounded-is (whole ++ kept) lost places value size ends long some spelled rounded
    ∙ ap (λ (ds : List ℕ). saturated (scaled (digits_value ds) (neg_ℤ (pos places)))) together

-- digits before the point are dropped too
in_whole : (whole fraction kept lost : List ℕ) (places cut value size : ℕ) → all_digits whole ≡ true →
    all_digits fraction ≡ true → length fraction < places → places ≤ length whole + length fraction →
    cut ≡ length whole - (places - length fraction) →
    kept ≡ take cut whole → lost ≡ drop cut whole → value ≡ saturated (value_from 0 kept) →
    size ≡ saturated (value + (if nat_lt (get_or lost 0 0) 53 then 0 else 1)) →
    size ≡ saturated (scaled (digits_value (whole ++ fraction)) (neg_ℤ (pos places)))
in_whole whole fraction kept lost places cut value size digits more past inside place front back value_is rounded =
    let all : kept ++ lost ≡ whole = ap (λ (l : List ℕ). l ++ lost) front
    ∙ ap (λ (l : List ℕ). take cut whole ++ l) back ∙ take-append-drop cut whole in
    let together : kept ++ (lost ++ fraction) ≡ whole ++ fraction = sym (append_assoc kept lost fraction)
    ∙ ap (λ (l : List ℕ). l ++ fraction) all in
    let some : length lost ≡ places - length fraction = omega
    (arith, ap (λ (l : List ℕ). length l) back, length-drop cut whole) in
    let long : length (lost ++ fraction) ≡ places = omega (arith, length-append lost fraction, some) in
    let ends : all_digits (lost ++ fraction) ≡ true = all_digits-append lost fraction
    (ap all_digits back ∙ all_digits-drop cut whole digits) more in
    let first : get_or (lost ++ fraction) 0 0 ≡ get_or lost 0 0 = get_or-append lost fraction 0 0
    (omega (arith, some)) in
    rounded-is kept (lost ++ fraction) places value size ends long (omega arith) value_is
    (rounded ∙ sym (ap (λ (b : ℕ). saturated (value + (if nat_lt b 53 then 0 else 1))) first))
    ∙ ap (λ (ds : List ℕ). saturated (scaled (digits_value ds) (neg_ℤ (pos places)))) together

pub returns-then-places-whole : goal.returns-then-places-whole
returns-then-places-whole c =
    let digits = both_digits c.args.whole.now c.args.fraction.now c.requires.whole c.requires.fraction in
    sym (scaled-nothing (c.args.whole.now ++ c.args.fraction.now) c.args.places digits
    (omega (arith, length-append c.args.whole.now c.args.fraction.now)))

pub spelled_after-requires-then-places-fraction-clause-digits :
    goal.spelled_after-requires-then-places-fraction-clause-digits
spelled_after-requires-then-places-fraction-clause-digits c =
    ap all_digits c.split_at.ensures.front ∙ all_digits-take (length c.args.fraction.now - c.args.places)
    c.args.fraction.now c.requires.fraction

pub spelled_after-requires-else-places-fraction-clause-digits :
    goal.spelled_after-requires-else-places-fraction-clause-digits
spelled_after-requires-else-places-fraction-clause-digits c =
    ap all_digits c.split_at-else-places-fraction.ensures.front
    ∙ all_digits-take (length c.args.whole.now - (c.args.places - length c.args.fraction.now)) c.args.whole.now
    c.requires.whole

pub returns-then-places-fraction : goal.returns-then-places-fraction
returns-then-places-fraction c =
    in_fraction c.args.whole.now c.args.fraction.now c.split_at.result.0.now c.split_at.result.1.now c.args.places
    (length c.args.fraction.now - c.args.places)
    c.spelled_after.result c.spelled_after-then-places-fraction.result c.rounded.result c.requires.fraction
    c.requires.some c.if-places-fraction.true refl
    c.split_at.ensures.front c.split_at.ensures.back c.spelled_after.ensures
    c.spelled_after-then-places-fraction.ensures c.rounded.ensures

pub returns-else-places-fraction : goal.returns-else-places-fraction
returns-else-places-fraction c =
    in_whole c.args.whole.now c.args.fraction.now c.split_at-else-places-fraction.result.0.now
    c.split_at-else-places-fraction.result.1.now c.args.places
    (length c.args.whole.now - (c.args.places - length c.args.fraction.now))
    c.spelled_after-else-places-fraction.result c.rounded-else-places-fraction.result
    c.requires.whole c.requires.fraction c.if-places-fraction.false c.if-places-whole.false refl
    c.split_at-else-places-fraction.ensures.front c.split_at-else-places-fraction.ensures.back
    c.spelled_after-else-places-fraction.ensures c.rounded-else-places-fraction.ensures
