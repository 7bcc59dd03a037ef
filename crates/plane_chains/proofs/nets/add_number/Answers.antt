use Rattle.std.proofs.Common.{◌≡◌, ◌≢◌, ◌<◌, ◌∙◌, ap, arith, get_or, length, sym, of_z, pos, rules, to_z, w64, ◌+ℤ◌}
use Rattle.std.specs.Prelude.{insert, nat_le}
use Rattle.std.specs.List.{position_or_len}
use Rattle.std.proofs.lemmas.Int.{fits_signed_from_abs, ints}
use Rattle.std.proofs.lemmas.List.{get_or_read}
use Rattle.plane_chains.specs.declared.nets.LabelNumber.{LabelNumber}
use Rattle.plane_chains.proofs.NetLists.{added_new, added_none, added_there, place_most}
use Rattle.plane_chains.proofs.nets.add_number.Goals as goal
use Rattle.plane_chains.proofs.nets.add_number.Goals.{then-at-len-via-else-at-len+then-index-label, then-at-len-via-then-at-len}

pub returns-then-number-eq0 : goal.returns-then-number-eq0
returns-then-number-eq0 c = added_none c.args.net.now.items c.args.label c.args.number (search rules)

pub index-requires : goal.index-requires
index-requires c =
    let most = place_most (λ (e : LabelNumber). nat_le c.args.label e.label) c.deref.result.now in
    omega (arith, most, c.place_of-at.ensures, c.if-at-len.false, c.len.ensures, c.deref.ensures.len)

pub insert-requires : goal.insert-requires
insert-requires c =
    let most = place_most (λ (e : LabelNumber). nat_le c.args.label e.label) c.deref.result.now in omega (arith, most, c.place_of-at.ensures, c.deref.ensures.len)

pub returns-in_err-insert : goal.returns-in_err-insert
returns-in_err-insert c = search rules

pub returns-then-at-len : goal.returns-then-at-len
returns-then-at-len c =
    let same : to_z w64 (of_z w64 c.args.number) ≡ c.args.number = search rules in
    let place : c.place_of-at.result ≡ position_or_len (λ (e : LabelNumber). nat_le c.args.label e.label) c.args.net.now.items =
    c.place_of-at.ensures ∙ ap (position_or_len (λ (e : LabelNumber). nat_le c.args.label e.label)) c.deref.ensures.value in
    added_new c.args.net.now.items c.insert.new.self.items c.args.label c.place_of-at.result c.args.number place (λ e. c.if-number-eq0.false (ap (of_z w64) e))
    (elim c.then-at-len.branch
    as (λ _. c.place_of-at.result < length c.args.net.now.items → (get_or c.args.net.now.items c.place_of-at.result (record { label = 0; number = pos 0 })).label ≢ c.args.label) [
      | then-at-len-via-then-at-len w ↦ λ low e. absurd (omega (arith, low, w.if-at-len.true, c.len.ensures, c.args.net.now.ok.0))
      | then-at-len-via-else-at-len+then-index-label w ↦ λ low e.
          w.if-index-label.true (ap (λ (x : LabelNumber). x.label) (get_or_read c.args.net.now.items c.place_of-at.result w.index.result.now low w.index.ensures (record { label = 0; number = pos 0 })) ∙ e)
    ])
    (c.in_ok-insert.ensures.items ∙ ap (λ v. insert c.args.net.now.items c.place_of-at.result (record { label = c.args.label; number = v })) same)

pub index-requires-2 : goal.index-requires-2
index-requires-2 c =
    let most = place_most (λ (e : LabelNumber). nat_le c.args.label e.label) c.deref.result.now in
    omega (arith, most, c.place_of-at.ensures, c.if-at-len.false, c.len.ensures, c.deref.ensures.len)

pub overflow_add-sum : goal.overflow_add-sum
overflow_add-sum c =
    let most = place_most (λ (e : LabelNumber). nat_le c.args.label e.label) c.deref.result.now in
    let low : c.place_of-at.result < length c.args.net.now.items =
    omega (arith, most, c.place_of-at.ensures, c.if-at-len.false, c.len.ensures, c.deref.ensures.len, c.args.net.now.ok.0) in
    let small = c.requires.small c.place_of-at.result c.index-2.result.now low in
    let same = ap (λ (x : LabelNumber). x.number) c.index-2.ensures in
    fits_signed_from_abs w64 _ (omega (arith, ints, small, same, c.requires.number))

pub put_number-requires : goal.put_number-requires
put_number-requires c =
    let most = place_most (λ (e : LabelNumber). nat_le c.args.label e.label) c.deref.result.now in
    omega (arith, most, c.place_of-at.ensures, c.if-at-len.false, c.len.ensures, c.deref.ensures.len, c.args.net.now.ok.0)

pub returns : goal.returns
returns c =
    let most = place_most (λ (e : LabelNumber). nat_le c.args.label e.label) c.deref.result.now in
    let low : c.place_of-at.result < length c.args.net.now.items =
    omega (arith, most, c.place_of-at.ensures, c.if-at-len.false, c.len.ensures, c.deref.ensures.len, c.args.net.now.ok.0) in
    let place : c.place_of-at.result ≡ position_or_len (λ (e : LabelNumber). nat_le c.args.label e.label) c.args.net.now.items =
    c.place_of-at.ensures ∙ ap (position_or_len (λ (e : LabelNumber). nat_le c.args.label e.label)) c.deref.ensures.value in
    let none : LabelNumber = record { label = 0; number = pos 0 } in
    let same = ap (λ (x : LabelNumber). x.label) (sym (get_or_read c.args.net.now.items c.place_of-at.result c.index.result.now low c.index.ensures none)) ∙ c.if-index-label.false in
    let had = ap (λ (x : LabelNumber). x.number) (get_or_read c.args.net.now.items c.place_of-at.result c.index-2.result.now low c.index-2.ensures none) in
    let small = c.requires.small c.place_of-at.result c.index-2.result.now low in
    let read = ap (λ (x : LabelNumber). x.number) c.index-2.ensures in
    let sum : to_z w64 (of_z w64 (to_z w64 (of_z w64 c.index-2.result.now.number) +ℤ to_z w64 (of_z w64 c.args.number))) ≡ c.index-2.result.now.number +ℤ c.args.number =
    omega (arith, ints, small, read, c.requires.number) in
    added_there c.args.net.now.items c.put_number.new.net.items c.args.label c.place_of-at.result c.args.number c.index-2.result.now.number
    (to_z w64 (of_z w64 (to_z w64 (of_z w64 c.index-2.result.now.number) +ℤ to_z w64 (of_z w64 c.args.number)))) place low same had sum c.put_number.ensures
