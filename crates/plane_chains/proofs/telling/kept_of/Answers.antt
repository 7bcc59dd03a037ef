use Rattle.std.proofs.Common.{Bool, ap, arith, false, get_or, length, map, refl, subst, sym, ◌<◌, ◌≡◌, ◌∙◌, ℕ}
use Rattle.std.specs.List.{All}
use Rattle.std.proofs.lemmas.List.{get_or-map, length-map}
use Rattle.sheet_terms.specs.Faces.{Face}
use Rattle.plane_chains.specs.Listed.{face_at, marks_of}
use Rattle.plane_chains.proofs.ChainParts.{if_ok}
use Rattle.plane_chains.proofs.KeptLists.{kept_is, staying_low, unmarked_list, unmarked_low, unmarked_more, with_side}
use Rattle.plane_chains.proofs.telling.kept_of.Goals as goal

pub loop-i-preserved : goal.loop-i-preserved
loop-i-preserved c =
    let fronts = c.args.faces.now.fronts.now in
    let numbers = c.args.faces.now.numbers.now in
    let i = c.loop-i.i in
    let inside : i < length numbers = omega (arith, c.loop-i-test.true, c.requires.marks, c.requires.numbers) in
    unmarked_more (λ j. get_or (marks_of fronts numbers) j false) c.args.marks.now i c.loop-i.out.items c.push_unmarked.new.out.items (get_or c.args.marks.now i false)
    c.is_front.result refl (c.is_front.ensures ∙ sym (get_or-map (λ t. get_or fronts t false) numbers i 0 false inside)) c.loop-i.invariant c.in_ok-push_unmarked.ensures

pub without_opposites-requires : goal.without_opposites-requires
without_opposites-requires c =
    let fronts = c.args.faces.now.fronts.now in
    let numbers = c.args.faces.now.numbers.now in
    let end : c.loop-i.i ≡ length c.args.faces.now.rims.0 = omega (arith, c.loop-i-test.false, c.loop-i.auto.i-end, c.requires.marks) in
    subst (λ n. All (λ (s : ℕ × Bool). s.0 < n) c.deref.result.now) end
    (unmarked_low (λ j. get_or (marks_of fronts numbers) j false) c.args.marks.now c.loop-i.i c.deref.result.now (c.deref.ensures.value ∙ c.loop-i.invariant))

pub returns-clause-kept : goal.returns-clause-kept
returns-clause-kept c = λ at fs listed.
    let fronts = c.args.faces.now.fronts.now in
    let numbers = c.args.faces.now.numbers.now in
    let sides = marks_of fronts numbers in
    let end : c.loop-i.i ≡ length fs =
    omega (arith, c.loop-i-test.false, c.loop-i.auto.i-end, c.requires.marks, ap length listed.rims, length-map fs (λ (f : Face). f.rim)) in
    if_ok c.without_opposites.result
    (λ x e. ap (map (face_at fs)) e
    ∙ kept_is at fs c.args.faces.now.rims.0 c.args.faces.now.labels.of.items sides listed c.args.marks.now c.deref.result.now
    (c.deref.ensures.value ∙ c.loop-i.invariant ∙ ap (λ n. map (with_side (λ j. get_or sides j false)) (unmarked_list c.args.marks.now n)) end)) c.without_opposites.ensures

pub returns-clause-below : goal.returns-clause-below
returns-clause-below c =
    let fronts = c.args.faces.now.fronts.now in
    let numbers = c.args.faces.now.numbers.now in
    let rims = c.args.faces.now.rims.0 in
    let end : c.loop-i.i ≡ length rims = omega (arith, c.loop-i-test.false, c.loop-i.auto.i-end, c.requires.marks) in
    let low = subst (λ n. All (λ (s : ℕ × Bool). s.0 < n) c.deref.result.now) end
    (unmarked_low (λ j. get_or (marks_of fronts numbers) j false) c.args.marks.now c.loop-i.i c.deref.result.now (c.deref.ensures.value ∙ c.loop-i.invariant)) in
    if_ok c.without_opposites.result (λ x e. subst (λ xs. All (λ i. i < length rims) xs) (sym e) (staying_low (length rims) rims c.deref.result.now low)) c.without_opposites.ensures
