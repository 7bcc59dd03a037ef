use Rattle.std.proofs.Common.{◌≡◌, ℕ, List, ◌∷◌, ◌++◌, [], ◌<◌, map, take, length, get_or, sym, subst, ap, ◌∙◌, arith}
use Rattle.std.specs.List.Sorted.{IsPermutation}
use Rattle.std.proofs.lemmas.List.{get_or-map, get_or_default, length-map, take_more, take_all}
use Rattle.std.proofs.lemmas.List.Sorted.{IsPermutation-map}
use Rattle.chain_terms.specs.Sums.{upto}
use Rattle.ring_cutting.proofs.hulls.order_of.Goals as goal

pub loop-k-preserved : goal.loop-k-preserved
loop-k-preserved c =
    let xs = c.sort_unstable.new.self.items in
    let f : ℕ × ℕ → ℕ = λ e. e.1 in
    let ms = map f xs in
    let k = c.loop-k.k in
    let less : k < length xs = omega (arith, c.loop-k-test.true) in
    let value : c.index.result.now.1 ≡ get_or ms k 0 =
    ap (λ (e : ℕ × ℕ). e.1) (c.index.ensures ∙ get_or_default xs k _ (0, 0) less) ∙ sym (get_or-map f xs k (0, 0) 0 less) in
    c.in_ok-push.ensures.items ∙ ap (λ (l : List ℕ). l ++ c.index.result.now.1 ∷ []) c.loop-k.invariant ∙ ap (λ (v : ℕ). take k ms ++ v ∷ []) value
    ∙ sym (take_more ms k 0 (omega (arith, length-map xs f, less)))

pub returns : goal.returns
returns c =
    let xs = c.sort_unstable.new.self.items in
    let f : ℕ × ℕ → ℕ = λ e. e.1 in
    let ms = map f xs in
    let all : c.loop-k.order.items ≡ ms = c.loop-k.invariant ∙ take_all c.loop-k.k ms (omega (arith, length-map xs f, c.loop-k-test.false)) in
    subst (IsPermutation (upto (length c.args.places.now))) (sym all)
    (subst (λ (l : List ℕ). IsPermutation l ms) c.in_ok-keys.ensures
    (IsPermutation-map f c.in_ok-keys.keys.items xs c.sort_unstable.ensures.permutation))
