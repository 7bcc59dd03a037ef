use Rattle.std.proofs.Common.{arith, ◌≡◌, ◌<◌, [], ℕ, get_or, length, sym, ap, subst, ◌∙◌}
use Rattle.std.proofs.lemmas.List.{get_or-map, get_or_read, length-map}
use Rattle.plane_sheets.proofs.sided.Sided.list.Goals as goal

pub list-requires : goal.list-requires
list-requires c =
    let ls = c.args.self.now.lists.0 in
    let seats = c.args.self.now.seats.items in
    let below : c.args.edge < length seats = omega (arith, c.requires.edge, length-map seats (λ (i : ℕ). get_or ls i [])) in
    let is : c.index.result.now ≡ get_or seats c.args.edge 0 = get_or_read seats c.args.edge c.index.result.now below c.index.ensures 0 in
    subst (λ (i : ℕ). i < length ls) (sym is) (c.requires.listed.within c.args.edge 0 below)

pub returns : goal.returns
returns c =
    let ls = c.args.self.now.lists.0 in
    let seats = c.args.self.now.seats.items in
    let below : c.args.edge < length seats = omega (arith, c.requires.edge, length-map seats (λ (i : ℕ). get_or ls i [])) in
    let is : c.index.result.now ≡ get_or seats c.args.edge 0 = get_or_read seats c.args.edge c.index.result.now below c.index.ensures 0 in
    c.list.ensures ∙ ap (λ (i : ℕ). get_or ls i []) is ∙ sym (get_or-map (λ (i : ℕ). get_or ls i []) seats c.args.edge 0 [] below)
