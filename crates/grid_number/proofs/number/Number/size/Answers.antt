use Rattle.std.proofs.Common.{rules, ◌≡◌, ℕ, ◌*◌, ◌^◌, ◌++◌, length, nat_abs, arith, sym, ap, ◌∙◌, ℤ, pos, ◌+ℤ◌, ◌-ℤ◌, ◌≤ℤ◌}
use Rattle.std.proofs.lemmas.Int.{ints}
use Rattle.text_terms.specs.Numbers.{digits_value, scaled}
use Rattle.grid_number.specs.Reading.{saturated}
use Rattle.grid_number.proofs.KeptDigits.{ten_pow_pos}
use Rattle.grid_number.proofs.ReadBack.{scaled-pos}
use Rattle.grid_number.proofs.Saturated.{saturated-times}
use Rattle.grid_number.proofs.number.Number.size.Goals as goal

-- a size moved up
moved_up : (v spelled j : ℕ) (places : ℤ) (size : ℕ) → spelled ≡ saturated v → places ≡ pos j →
    size ≡ saturated (spelled * 10 ^ j) → size ≡ saturated (scaled v places)
moved_up v spelled j places size known up moved =
    moved ∙ ap (λ (x : ℕ). saturated (x * 10 ^ j)) known ∙ saturated-times v (10 ^ j) (ten_pow_pos j)
    ∙ sym (ap saturated (scaled-pos v j)) ∙ sym (ap (λ (t : ℤ). saturated (scaled v t)) up)

pub returns-else-places-lt0 : goal.returns-else-places-lt0
returns-else-places-lt0 c =
    let n = c.args.self.now in
    let places : c.unsigned_abs-else-places-lt0.result ≡ nat_abs c.places-places.result = search rules in
    let above : pos 0 ≤ℤ c.places-places.result = search (rules, ints) in
    let up : c.places-places.result ≡ pos c.unsigned_abs-else-places-lt0.result =
    omega (arith, ints, places, above) in
    moved_up (digits_value (n.whole.now ++ n.fraction.now)) n.spelled c.unsigned_abs-else-places-lt0.result
    ((n.exponent -ℤ pos (length n.fraction.now)) +ℤ pos c.args.digits) c.raised.result
    n.spelled_together (sym c.places-places.ensures ∙ up) c.raised.ensures
