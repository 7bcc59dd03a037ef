use Rattle.std.proofs.Common.{◌≡◌, ◌+◌, ◌^◌, ◌<◌, ◌≤◌, ◌++◌, ◌∷◌, ℕ, List, length, get_or, decimal, drop, arith, ap, ◌∙◌, sym}
use Rattle.std.proofs.lemmas.List.{drop-set, drop_more}
use Rattle.text_terms.specs.Written.{last_digits}
use Rattle.grid_number.proofs.KeptDigits.{decimal-behind_one, length-last_digits}
use Rattle.grid_number.proofs.write.digits_before.Goals as goal

-- the tails of lists that are the same
tails : (x y : ℕ) (xs ys : List ℕ) → x ∷ xs ≡ y ∷ ys → xs ≡ ys
tails x y xs ys e = ap (λ (l : List ℕ). drop 1 l) e

-- what was written behind the 1
behind : (k n sum start : ℕ) (rest text : List ℕ) → k ≤ 6 → n < 10 ^ k → sum ≡ 10 ^ k + n → start < length text
    → drop start text ≡ decimal sum ++ rest → drop (start + 1) text ≡ last_digits k n ++ rest
behind k n sum start rest text few small is within written =
    let one = sym (drop_more text start 0 within) ∙ written
    ∙ ap (λ (m : ℕ). decimal m ++ rest) is ∙ ap (λ (l : List ℕ). l ++ rest) (decimal-behind_one k n few small) in
    tails (get_or text start 0) 49 (drop (start + 1) text) (last_digits k n ++ rest) one

-- how many bytes the number behind the 1 has
long : (k n sum : ℕ) → k ≤ 6 → n < 10 ^ k → sum ≡ 10 ^ k + n → length (decimal sum) ≡ k + 1
long k n sum few small is =
    let e = ap (λ (m : ℕ). length (decimal m)) is ∙ ap (λ (l : List ℕ). length l) (decimal-behind_one k n few small) in
    let f = length-last_digits k n in
    omega (arith, e, f)

-- the number behind the 1
sum_is : (sum unit k n : ℕ) → sum ≡ unit + n → unit ≡ 10 ^ k → sum ≡ 10 ^ k + n
sum_is sum unit k n sum_of is = sum_of ∙ ap (λ (s : ℕ). s + n) is

pub write_digits-start-requires : goal.write_digits-start-requires
write_digits-start-requires c =
    let sum = sum_is c.from.result c.power_of_ten.result c.args.places c.args.number c.from.ensures c.power_of_ten.ensures.value in
    let size = long c.args.places c.args.number c.from.result c.requires.places c.requires.number sum in
    let room = c.requires.room in
    let few = c.requires.places in
    (omega (arith, size, room.0, few), room.1)

pub bounds-text-start : goal.bounds-text-start
bounds-text-start c =
    let sum = sum_is c.from.result c.power_of_ten.result c.args.places c.args.number c.from.ensures c.power_of_ten.ensures.value in
    let size = long c.args.places c.args.number c.from.result c.requires.places c.requires.number sum in
    let room = c.requires.room in
    let start = c.write_digits-start.ensures.start in
    let same = c.write_digits-start.auto.buf in
    omega (arith, size, room.1, start, same)

pub returns-clause-start : goal.returns-clause-start
returns-clause-start c =
    let sum = sum_is c.from.result c.power_of_ten.result c.args.places c.args.number c.from.ensures c.power_of_ten.ensures.value in
    let size = long c.args.places c.args.number c.from.result c.requires.places c.requires.number sum in
    let start = c.write_digits-start.ensures.start in
    omega (arith, size, start)

pub returns-clause-text : goal.returns-clause-text
returns-clause-text c =
    let sum = sum_is c.from.result c.power_of_ten.result c.args.places c.args.number c.from.ensures c.power_of_ten.ensures.value in
    let size = long c.args.places c.args.number c.from.result c.requires.places c.requires.number sum in
    let room = c.requires.room in
    let start = c.write_digits-start.ensures.start in
    let same = c.write_digits-start.auto.buf in
    let within : c.write_digits-start.result < length c.write_digits-start.new.buf = omega (arith, size, room.1, start, same) in
    drop-set c.write_digits-start.new.buf c.write_digits-start.result 46 within
    ∙ ap (λ (l : List ℕ). 46 ∷ l) (behind c.args.places c.args.number c.from.result c.write_digits-start.result
    (drop c.args.end c.args.text.now) c.write_digits-start.new.buf c.requires.places c.requires.number sum within
    c.write_digits-start.ensures.written)
