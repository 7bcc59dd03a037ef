use Rattle.std.proofs.Common.{◌≡◌, [], get_or, refl, sym, ◌∙◌, rules, below_more}
use Rattle.std.specs.Ordering.{int_eq}
use Rattle.std.specs.Cmp.Lexicographic.{pointwise}
use Rattle.std.proofs.lemmas.Bool.{not-false}
use Rattle.std.proofs.lemmas.Bool.Decides.{Decides-int_eq}
use Rattle.std.proofs.lemmas.Slice.Eq.{slice_eq-Decides}
use Rattle.std.proofs.lemmas.List.{get_or_default, same_lists}
use Rattle.retained_verts.proofs.checked.are_same_points.Goals as goal

pub returns : goal.returns
returns c =
    let ones = c.args.ones.now in
    let others = c.args.others.now in (
      (λ e. same_lists ones others (search rules)
          (λ k d low. get_or_default ones k d [] low ∙ c.loop-i.invariant k (search rules) ∙ sym (get_or_default others k d [] (search rules)))),
      (λ e. search rules),
    )

pub loop-i-preserved : goal.loop-i-preserved
loop-i-preserved c =
    let i = c.loop-i.i in
    let ones = c.args.ones.now in
    let others = c.args.others.now in
    let equal : c.at.result ≡ c.at-in-loop-i.result =
    (slice_eq-Decides Decides-int_eq c.at.result c.at-in-loop-i.result (pointwise int_eq c.at.result c.at-in-loop-i.result) refl).0
    (not-false (pointwise int_eq c.at.result c.at-in-loop-i.result) (sym c.ne.ensures ∙ c.if-ne.false)) in
    let here : get_or ones i [] ≡ get_or others i [] =
    get_or_default ones i [] c.index-ones-i.result (search rules) ∙ sym c.index-ones-i.is ∙ sym c.at.ensures.value ∙ equal ∙ c.at-in-loop-i.ensures.value
    ∙ c.index-others-i.is ∙ get_or_default others i c.index-others-i.result [] (search rules) in
    below_more (λ k. get_or ones k [] ≡ get_or others k []) i c.loop-i.invariant here
