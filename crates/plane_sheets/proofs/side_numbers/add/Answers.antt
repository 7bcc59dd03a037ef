use Rattle.std.proofs.Common.{◌≡◌, ◌<◌, ◌≤◌, ◌==◌, ◌&&◌, ◌+ℤ◌, ℕ, ℤ, List, arith, get_or, length, nat_lt, set, true, false, refl, sym, ap, subst, ◌∙◌}
use Rattle.std.specs.List.{insert}
use Rattle.plane_sheets.specs.declared.side_numbers.SideNumbers.{SideNumbers}
use Rattle.plane_sheets.specs.Sides.{no_sides, put_in}
use Rattle.std.proofs.lemmas.Int.{ints}
use Rattle.plane_sheets.proofs.Kept.{kept}
use Rattle.plane_sheets.proofs.Putting.{label_after, label_there, put_insert, put_set, sided, size_at}
use Rattle.plane_sheets.proofs.side_numbers.add.Goals as goal

-- the label stands at the place
there : (ss ds : List SideNumbers) (at l : ℕ) (b : _) → ds ≡ ss → b ≡ (nat_lt at (length ds) && ((get_or ds at no_sides).label == l)) → b ≡ true →
    (at < length ss) × ((get_or ss at no_sides).label ≡ l)
there ss ds at l b d e y = label_there ss at l (ap (λ xs. nat_lt at (length xs) && ((get_or xs at no_sides).label == l)) (sym d) ∙ sym e ∙ y)

-- what lies before the place
before : (ss ds : List SideNumbers) (at l : ℕ) → ds ≡ ss → ((k : ℕ) → k < at → (get_or ds k no_sides).label < l) → (k : ℕ) → k < at → (get_or ss k no_sides).label < l
before ss ds at l d h = subst (λ xs. (k : ℕ) → k < at → (get_or xs k no_sides).label < l) d h

pub raised-more-requires-clause-inside : goal.raised-more-requires-clause-inside
raised-more-requires-clause-inside c =
    let t = there c.args.sides.now.items c.deref-2.result.now c.place_for-at.result c.args.label _ c.deref-2.ensures.value c.has_label-there.ensures c.if-there.true in
    omega (arith, t.0, ap (λ l. length l) c.deref-then-there.ensures.value)

pub raised-more-requires-clause-left_fits : goal.raised-more-requires-clause-left_fits
raised-more-requires-clause-left_fits c =
    let t = there c.args.sides.now.items c.deref-2.result.now c.place_for-at.result c.args.label _ c.deref-2.ensures.value c.has_label-there.ensures c.if-there.true in
    rw c.deref-then-there.ensures.value (omega (arith, ints, size_at (λ s. s.left) c.args.sides.now.items c.place_for-at.result t.0, c.requires.left_fits))

pub raised-more-requires-clause-right_fits : goal.raised-more-requires-clause-right_fits
raised-more-requires-clause-right_fits c =
    let t = there c.args.sides.now.items c.deref-2.result.now c.place_for-at.result c.args.label _ c.deref-2.ensures.value c.has_label-there.ensures c.if-there.true in
    rw c.deref-then-there.ensures.value (omega (arith, ints, size_at (λ s. s.right) c.args.sides.now.items c.place_for-at.result t.0, c.requires.right_fits))

pub index_mut-requires : goal.index_mut-requires
index_mut-requires c =
    let t = there c.args.sides.now.items c.deref-2.result.now c.place_for-at.result c.args.label _ c.deref-2.ensures.value c.has_label-there.ensures c.if-there.true in
    omega (arith, t.0, c.args.sides.now.ok)

-- the numbers with more at the place
set_there : (f : SideNumbers → ℤ) (l : ℕ) (x : ℤ) (ss ds es : List SideNumbers) (at : ℕ) (r : SideNumbers) → ds ≡ ss → es ≡ ss →
    (at < length ss) × ((get_or ss at no_sides).label ≡ l) →
    ((k : ℕ) → k < at → (get_or ds k no_sides).label < l) → r.label ≡ (get_or es at no_sides).label → f r ≡ f (get_or es at no_sides) +ℤ x →
    sided f (set ss at r) ≡ put_in l x (sided f ss)
set_there f l x ss ds es at r d e t low label value =
    put_set f l x ss at r t.0 (before ss ds at l d low) t.1 (label ∙ ap (λ xs. (get_or xs at no_sides).label) e ∙ t.1) (value ∙ ap (λ xs. f (get_or xs at no_sides) +ℤ x) e)

-- and with another
insert_there : (f : SideNumbers → ℤ) (l : ℕ) (x : ℤ) (ss ds hs : List SideNumbers) (at : ℕ) (r : SideNumbers) (b : _) → ds ≡ ss → hs ≡ ss → at ≤ length ds →
    ((k : ℕ) → k < at → (get_or ds k no_sides).label < l) → ((k : ℕ) → at ≤ k → k < length ds → l ≤ (get_or ds k no_sides).label) →
    b ≡ (nat_lt at (length hs) && ((get_or hs at no_sides).label == l)) → b ≡ false → r.label ≡ l → f r ≡ x → sided f (insert ss at r) ≡ put_in l x (sided f ss)
insert_there f l x ss ds hs at r b d h within low high e n label value =
    let none : (nat_lt at (length ss) && ((get_or ss at no_sides).label == l)) ≡ false =
    ap (λ xs. nat_lt at (length xs) && ((get_or xs at no_sides).label == l)) (sym h) ∙ sym e ∙ n in
    let from = subst (λ xs. (k : ℕ) → at ≤ k → k < length xs → l ≤ (get_or xs k no_sides).label) d high in
    put_insert f l x ss at r (omega (arith, within, ap (λ xs. length xs) d)) (before ss ds at l d low) (label_after ss at l none from) label value

pub returns-then-there-clause-left : goal.returns-then-there-clause-left
returns-then-there-clause-left c =
    let ss = c.args.sides.now.items in
    let t = there ss c.deref-2.result.now c.place_for-at.result c.args.label _ c.deref-2.ensures.value c.has_label-there.ensures c.if-there.true in
    set_there (λ s. s.left) c.args.label c.args.left ss c.deref.result.now c.deref-then-there.result.now c.place_for-at.result c.raised-more.result
    c.deref.ensures.value c.deref-then-there.ensures.value t
    c.place_for-at.ensures.before c.raised-more.ensures.label (omega (arith, ints, c.raised-more.ensures.left, c.requires.left_fits))

pub returns-then-there-clause-right : goal.returns-then-there-clause-right
returns-then-there-clause-right c =
    let ss = c.args.sides.now.items in
    let t = there ss c.deref-2.result.now c.place_for-at.result c.args.label _ c.deref-2.ensures.value c.has_label-there.ensures c.if-there.true in
    set_there (λ s. s.right) c.args.label c.args.right ss c.deref.result.now c.deref-then-there.result.now c.place_for-at.result c.raised-more.result
    c.deref.ensures.value c.deref-then-there.ensures.value t
    c.place_for-at.ensures.before c.raised-more.ensures.label (omega (arith, ints, c.raised-more.ensures.right, c.requires.right_fits))

pub insert-requires : goal.insert-requires
insert-requires c = omega (arith, c.place_for-at.ensures.within, ap (λ xs. length xs) c.deref.ensures.value)

pub returns-clause-left : goal.returns-clause-left
returns-clause-left c =
    let ss = c.args.sides.now.items in
    ap (sided (λ s. s.left)) c.in_ok-insert.ensures.items
    ∙ insert_there (λ s. s.left) c.args.label c.args.left ss c.deref.result.now c.deref-2.result.now c.place_for-at.result
    (record { label = c.args.label; left = kept c.args.left; right = kept c.args.right }) _ c.deref.ensures.value c.deref-2.ensures.value c.place_for-at.ensures.within
    c.place_for-at.ensures.before c.place_for-at.ensures.from c.has_label-there.ensures c.if-there.false refl (omega (arith, ints, c.requires.left_fits))

pub returns-clause-right : goal.returns-clause-right
returns-clause-right c =
    let ss = c.args.sides.now.items in
    ap (sided (λ s. s.right)) c.in_ok-insert.ensures.items
    ∙ insert_there (λ s. s.right) c.args.label c.args.right ss c.deref.result.now c.deref-2.result.now c.place_for-at.result
    (record { label = c.args.label; left = kept c.args.left; right = kept c.args.right }) _ c.deref.ensures.value c.deref-2.ensures.value c.place_for-at.ensures.within
    c.place_for-at.ensures.before c.place_for-at.ensures.from c.has_label-there.ensures c.if-there.false refl (omega (arith, ints, c.requires.right_fits))
