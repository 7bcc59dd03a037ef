use Rattle.std.proofs.Common.{rules, of_z, pos, to_z, w64, ◌≡◌, ◌∷◌, [], ◌∙◌}
use Rattle.std.specs.Int.{int_max, int_min}
use Rattle.plane_chains.proofs.flat_places.FlatPlaces.box_of.Goals as goal

pub returns : goal.returns
returns c =
    let a = c.at-a.ensures in
    let b = c.at-b.ensures in
    let u : to_z w64 (of_z w64 c.u.result) ≡ c.u.result = search rules in
    let u2 : to_z w64 (of_z w64 c.u-2.result) ≡ c.u-2.result = search rules in
    let u3 : to_z w64 (of_z w64 c.u-3.result) ≡ c.u-3.result = search rules in
    let u4 : to_z w64 (of_z w64 c.u-4.result) ≡ c.u-4.result = search rules in
    let v : to_z w64 (of_z w64 c.v.result) ≡ c.v.result = search rules in
    let v2 : to_z w64 (of_z w64 c.v-2.result) ≡ c.v-2.result = search rules in
    let v3 : to_z w64 (of_z w64 c.v-3.result) ≡ c.v-3.result = search rules in
    let v4 : to_z w64 (of_z w64 c.v-4.result) ≡ c.v-4.result = search rules in
    let k : to_z w64 (of_z w64 c.min.result) ≡ c.min.result = search rules in
    let l : to_z w64 (of_z w64 c.min-2.result) ≡ c.min-2.result = search rules in
    let m : to_z w64 (of_z w64 c.max.result) ≡ c.max.result = search rules in
    let n : to_z w64 (of_z w64 c.max-2.result) ≡ c.max-2.result = search rules in
    let low_u = k ∙ c.min.ensures.value ∙ (λ i. int_min ((u ∙ c.u.ensures.value) i) ((u2 ∙ c.u-2.ensures.value) i)) ∙ (λ i. int_min (a i).0 (b i).0) in
    let low_v = l ∙ c.min-2.ensures.value ∙ (λ i. int_min ((v ∙ c.v.ensures.value) i) ((v2 ∙ c.v-2.ensures.value) i)) ∙ (λ i. int_min (a i).1 (b i).1) in
    let high_u = m ∙ c.max.ensures.value ∙ (λ i. int_max ((u3 ∙ c.u-3.ensures.value) i) ((u4 ∙ c.u-4.ensures.value) i)) ∙ (λ i. int_max (a i).0 (b i).0) in
    let high_v = n ∙ c.max-2.ensures.value ∙ (λ i. int_max ((v3 ∙ c.v-3.ensures.value) i) ((v4 ∙ c.v-4.ensures.value) i)) ∙ (λ i. int_max (a i).1 (b i).1) in
    λ i. record { low = low_u i ∷ low_v i ∷ pos 0 ∷ []; high = high_u i ∷ high_v i ∷ pos 0 ∷ [] }
