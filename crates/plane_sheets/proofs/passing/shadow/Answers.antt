use Rattle.std.proofs.Common.{rules, ◌≡◌, [], ◌∷◌, pos, subst, sym, ◌∙◌}
use Rattle.std.specs.Int.{int_min, int_max}
use Rattle.box_tree.specs.Touching.{IsBox}
use Rattle.mesh_terms.specs.Points.{IsOnGrid}
use Rattle.plane_sheets.proofs.Kept.{kept}
use Rattle.plane_sheets.proofs.Shadows.{doubled, shadow_box, small_max, small_min}
use Rattle.plane_sheets.proofs.passing.shadow.Goals as goal

pub returns-clause-value : goal.returns-clause-value
returns-clause-value c =
    let p = c.args.p in
    let q = c.args.q in
    let v : kept c.v.result ≡ c.v.result = search rules in
    let v2 : kept c.v-2.result ≡ c.v-2.result = search rules in
    let v3 : kept c.v-3.result ≡ c.v-3.result = search rules in
    let v4 : kept c.v-4.result ≡ c.v-4.result = search rules in
    let low : c.min.result ≡ int_min p.1 q.1 = c.min.ensures.value ∙ (λ i. int_min ((v ∙ c.v.ensures.value) i) ((v2 ∙ c.v-2.ensures.value) i)) in
    let high : c.max.result ≡ int_max p.1 q.1 = c.max.ensures.value ∙ (λ i. int_max ((v3 ∙ c.v-3.ensures.value) i) ((v4 ∙ c.v-4.ensures.value) i)) in
    let from = subst (λ z. IsOnGrid z) c.v.ensures.value c.v.ensures.on_grid in
    let to = subst (λ z. IsOnGrid z) c.v-2.ensures.value c.v-2.ensures.on_grid in
    let lower = doubled c.min.result (int_min p.1 q.1) low (small_min p.1 q.1 from to) in
    let upper = doubled c.max.result (int_max p.1 q.1) high (small_max p.1 q.1 from to) in
    λ i. record { low = lower i ∷ pos 0 ∷ pos 0 ∷ []; high = upper i ∷ pos 0 ∷ pos 0 ∷ [] }

pub returns-clause-is_box : goal.returns-clause-is_box
returns-clause-is_box c = subst IsBox (sym (returns-clause-value c)) (shadow_box c.args.p c.args.q)
