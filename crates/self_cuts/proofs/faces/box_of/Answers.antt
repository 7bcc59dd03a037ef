use Rattle.std.proofs.Common.{◌≡◌, ◌∷◌, [], of_z, rules, to_z, w64, ◌∙◌}
use Rattle.std.specs.Int.{int_max, int_min}
use Rattle.self_cuts.proofs.faces.box_of.Goals as goal

pub returns : goal.returns
returns c =
    let l : to_z w64 (of_z w64 c.least_of.result) ≡ c.least_of.result = search rules in
    let m : to_z w64 (of_z w64 c.least_of-2.result) ≡ c.least_of-2.result = search rules in
    let n : to_z w64 (of_z w64 c.least_of-3.result) ≡ c.least_of-3.result = search rules in
    let u : to_z w64 (of_z w64 c.greatest_of.result) ≡ c.greatest_of.result = search rules in
    let v : to_z w64 (of_z w64 c.greatest_of-2.result) ≡ c.greatest_of-2.result = search rules in
    let w : to_z w64 (of_z w64 c.greatest_of-3.result) ≡ c.greatest_of-3.result = search rules in
    let ax : to_z w64 (of_z w64 c.args.t.now.a.x) ≡ c.args.t.now.a.x = search rules in
    let ay : to_z w64 (of_z w64 c.args.t.now.a.y) ≡ c.args.t.now.a.y = search rules in
    let az : to_z w64 (of_z w64 c.args.t.now.a.z) ≡ c.args.t.now.a.z = search rules in
    let bx : to_z w64 (of_z w64 c.args.t.now.b.x) ≡ c.args.t.now.b.x = search rules in
    let by : to_z w64 (of_z w64 c.args.t.now.b.y) ≡ c.args.t.now.b.y = search rules in
    let bz : to_z w64 (of_z w64 c.args.t.now.b.z) ≡ c.args.t.now.b.z = search rules in
    let cx : to_z w64 (of_z w64 c.args.t.now.c.x) ≡ c.args.t.now.c.x = search rules in
    let cy : to_z w64 (of_z w64 c.args.t.now.c.y) ≡ c.args.t.now.c.y = search rules in
    let cz : to_z w64 (of_z w64 c.args.t.now.c.z) ≡ c.args.t.now.c.z = search rules in
    let la = l ∙ c.least_of.ensures ∙ (λ i. int_min (int_min (ax i) (bx i)) (cx i)) in
    let ma = m ∙ c.least_of-2.ensures ∙ (λ i. int_min (int_min (ay i) (by i)) (cy i)) in
    let na = n ∙ c.least_of-3.ensures ∙ (λ i. int_min (int_min (az i) (bz i)) (cz i)) in
    let ua = u ∙ c.greatest_of.ensures ∙ (λ i. int_max (int_max (ax i) (bx i)) (cx i)) in
    let va = v ∙ c.greatest_of-2.ensures ∙ (λ i. int_max (int_max (ay i) (by i)) (cy i)) in
    let wa = w ∙ c.greatest_of-3.ensures ∙ (λ i. int_max (int_max (az i) (bz i)) (cz i)) in
    λ i. record { low = la i ∷ ma i ∷ na i ∷ []; high = ua i ∷ va i ∷ wa i ∷ [] }
