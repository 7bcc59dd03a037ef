use Rattle.std.proofs.Common.{◌≡◌, ◌≤◌, ◌<◌, ◌↔◌, ◌^◌, IsTrue, IsFalse, IfOk, IfErr, IsSomeAnd, ℕ, arith, sym, subst, ap, ◌∙◌, ℤ, Bool, true, false, Option, Some, Result, Ok, Err}
use Rattle.text_terms.specs.Numbers.{grid_number, number_parts, size_of, is_on_grid}
use Rattle.grid_number.specs.Reading.{with_sign, saturated}
use Rattle.grid_number.specs.declared.read.NumberFault.{NumberFault}
use Rattle.grid_number.specs.declared.read.NumberFault.TheVariants.{OutOfGrid}
use Rattle.grid_number.proofs.Known.{AreKnown-saturated, value-known, on_grid-size, off_grid-size}
use Rattle.grid_number.proofs.read.read_grid.Goals as goal

-- a size that is known to be on the grid is known whole
whole : (size s : ℕ) → s ≡ saturated size → s ≤ 2 ^ 30 → size ≡ s
whole size s known inside = omega (arith, known)

on_the_grid : (x : Option ℤ) (negative : Bool) (size s : ℕ) (r : Result ℤ NumberFault) →
    x ≡ Some (with_sign negative size) → s ≡ saturated size →
    IfOk r (λ z. (z ≡ with_sign negative s) × (s ≤ 2 ^ 30)) → IfOk r (λ z. (x ≡ Some z) × IsTrue (is_on_grid z))
on_the_grid x negative size s (Ok z) value known h = (
  value ∙ ap (λ (n : ℕ). Some (with_sign negative n)) (whole size s known h.1)
      ∙ sym (ap (λ (y : ℤ). Some y) h.0),
  ap is_on_grid h.0 ∙ on_grid-size negative s h.1,
)
on_the_grid x negative size s (Err fault) value known h = tt

off_the_grid : (x : Option ℤ) (negative : Bool) (size s : ℕ) (r : Result ℤ NumberFault) →
    x ≡ Some (with_sign negative size) → s ≡ saturated size →
    IfOk r (λ z. (z ≡ with_sign negative s) × (s ≤ 2 ^ 30)) → IfErr r (λ fault. (fault ≡ OutOfGrid) × (2 ^ 30 < s)) →
    (r ≡ Err OutOfGrid) ↔ IsSomeAnd x (λ z. IsFalse (is_on_grid z))
off_the_grid x negative size s (Ok z) value known h e =
    let on = on_the_grid x negative size s (Ok z) value known h in (
      (λ same. absurd (cc)),
      (λ off. let no : is_on_grid z ≡ false = subst
          (λ (o : Option ℤ). IsSomeAnd o (λ y. IsFalse (is_on_grid y))) on.0 off in let yes : is_on_grid z ≡ true = on.1
          in absurd (cc)),
    )
off_the_grid x negative size s (Err fault) value known h e =
    let off : is_on_grid (with_sign negative size) ≡ false = off_grid-size negative size (omega (arith, known, e.1))
    in (
      (λ same. subst (λ (o : Option ℤ). IsSomeAnd o (λ y. IsFalse (is_on_grid y))) (sym value) off),
      (λ other. ap (λ (f : NumberFault). Err f) e.0),
    )

pub returns-in-Some-clause-ok : goal.returns-in-Some-clause-ok
returns-in-Some-clause-ok c =
    let n = c.in-Some.number in
    let known = AreKnown-saturated c.args.digits (number_parts c.args.text.now) n.negative n.whole.now n.fraction.now
    n.exponent c.size.result c.requires c.in-Some.ensures.some
    n.whole_digits n.fraction_digits n.short c.size.ensures in
    on_the_grid (grid_number c.args.digits c.args.text.now) n.negative (size_of c.args.digits known.all) c.size.result
    c.on_grid.result
    (value-known c.args.digits (number_parts c.args.text.now) n.negative c.size.result known) known.size
    c.on_grid.ensures.ok

pub returns-in-Some-clause-out_of_grid : goal.returns-in-Some-clause-out_of_grid
returns-in-Some-clause-out_of_grid c =
    let n = c.in-Some.number in
    let known = AreKnown-saturated c.args.digits (number_parts c.args.text.now) n.negative n.whole.now n.fraction.now
    n.exponent c.size.result c.requires c.in-Some.ensures.some
    n.whole_digits n.fraction_digits n.short c.size.ensures in
    off_the_grid (grid_number c.args.digits c.args.text.now) n.negative (size_of c.args.digits known.all)
    c.size.result c.on_grid.result
    (value-known c.args.digits (number_parts c.args.text.now) n.negative c.size.result known) known.size
    c.on_grid.ensures.ok c.on_grid.ensures.err
