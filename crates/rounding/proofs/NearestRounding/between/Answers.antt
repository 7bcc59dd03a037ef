use Rattle.std.proofs.Common.{arith, ◌≡◌, ℤ, pos, ◌+ℤ◌, ◌-ℤ◌, ◌*ℤ◌, ◌∙◌, sym}
use Rattle.std.proofs.lemmas.Int.{ints}
use Rattle.std.specs.Int.{Width, w64, w128, cast_signed, cast_unsigned}
use Rattle.side_terms.specs.Fine.{LiesBetween}
use Rattle.rounding.specs.Nearest.{rounded}
use Rattle.rounding.specs.Shares.{share_between}
use Rattle.rounding.specs.Lawful.{nearest_still, nearest_moved}
use Rattle.rounding.proofs.NearestRounding.between.Goals as goal
use Rattle.rounding.proofs.NearestRounding.between.Goals.{After-product-share}

-- a number as it stands after it was kept at a width
abbrev seen : Width → ℤ → ℤ
seen w z = cast_signed w (cast_unsigned w z)

-- a product of equal numbers
same_share : (r x a x' a' : ℤ) → r ≡ x *ℤ a → x ≡ x' → a ≡ a' → r ≡ x' *ℤ a'
same_share r x a x' a' e f g = cc

-- a rounded quotient of equal numbers
same_round : (n d n' d' : ℤ) → n ≡ n' → d ≡ d' → rounded n d ≡ rounded n' d'
same_round n d n' d' e f = cc

-- what the call of `round` is given
rounds : (c : After-product-share) →
    rounded (seen w128 c.product-share.result) (seen w64 (seen w64 c.args.a +ℤ seen w64 c.args.b)) ≡ rounded ((c.args.v -ℤ c.args.u) *ℤ c.args.a) (c.args.a +ℤ c.args.b)
rounds c =
    let u = c.args.u in
    let v = c.args.v in
    let a = c.args.a in
    let b = c.args.b in
    let r = c.product-share.result in
    let e = same_share r (seen w64 (seen w64 v -ℤ seen w64 u)) (seen w64 a) (v -ℤ u) a c.product-share.ensures.value (omega (arith, ints)) (omega (arith, ints)) in
    let small = c.product-share.ensures.small in
    let k : seen w128 r ≡ r = omega (arith, ints, small) in
    same_round (seen w128 r) (seen w64 (seen w64 a +ℤ seen w64 b)) ((v -ℤ u) *ℤ a) (a +ℤ b) (k ∙ e) (omega (arith, ints))

-- the answer of `round` is a share of the difference
share : (c : After-product-share) → LiesBetween (pos 0) (c.args.v -ℤ c.args.u) (rounded ((c.args.v -ℤ c.args.u) *ℤ c.args.a) (c.args.a +ℤ c.args.b))
share c = share_between (c.args.v -ℤ c.args.u) c.args.a c.args.b c.requires.a_weight.low c.requires.b_weight.low (omega (arith, ints))

pub round-requires-clause-above : goal.round-requires-clause-above
round-requires-clause-above c = omega (arith, ints)

pub round-requires-clause-fits : goal.round-requires-clause-fits
round-requires-clause-fits c = let e = rounds c in let s = share c in omega (arith, ints, e, s)

pub overflow_add-result : goal.overflow_add-result
overflow_add-result c =
    let before = (goal.at.overflow_add-result c).After-product-share in
    let e = rounds before in
    let s = share before in
    let q = c.round.ensures in
    omega (arith, ints, e, s, q)

pub returns-then-whole-eq0 : goal.returns-then-whole-eq0
returns-then-whole-eq0 c =
    let kept : seen w64 c.args.u ≡ c.args.u = omega (arith, ints) in
    record { value = kept ∙ sym (nearest_still c.args.u c.args.v c.args.a c.args.b (omega (arith, ints))) }

pub returns-else-whole-eq0 : goal.returns-else-whole-eq0
returns-else-whole-eq0 c =
    let before = (goal.at.returns-else-whole-eq0 c).After-product-share in
    let e = rounds before in
    let s = share before in
    let q = c.round.ensures in
    let n = nearest_moved c.args.u c.args.v c.args.a c.args.b (omega (arith, ints)) in
    record { value = omega (arith, ints, e, s, q, n) }
