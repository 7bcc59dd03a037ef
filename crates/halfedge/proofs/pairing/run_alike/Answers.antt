use Rattle.std.proofs.Common.{rules, ◌≡◌, ◌<◌, ℕ, List, length, get_or, sym, ◌∙◌, ap, arith}
use Rattle.std.proofs.lemmas.List.{get_or-map, length-map, same_lists}
use Rattle.halfedge.specs.Pairing.{Half, ends, ends_of}
use Rattle.halfedge.proofs.pairing.run_alike.Goals as goal

-- lists that run alike do so at each place
alike_at : (xs ys : List Half) (i : ℕ) → i < length xs → i < length ys → ends_of xs ≡ ends_of ys → ends (get_or xs i (0, 0, 0)) ≡ ends (get_or ys i (0, 0, 0))
alike_at xs ys i low below same =
    sym (get_or-map ends xs i (0, 0, 0) (0, 0) low) ∙ ap (λ (l : List (ℕ × ℕ)). get_or l i (0, 0)) same ∙ get_or-map ends ys i (0, 0, 0) (0, 0) below

-- and lists that do so at each place run alike
alike_all : (xs ys : List Half) → length xs ≡ length ys → ((i : ℕ) → i < length xs → ends (get_or xs i (0, 0, 0)) ≡ ends (get_or ys i (0, 0, 0))) → ends_of xs ≡ ends_of ys
alike_all xs ys full each =
    same_lists (ends_of xs) (ends_of ys) (omega (arith, full, length-map xs ends, length-map ys ends))
    (λ i d low.
    let first : i < length xs = omega (arith, low, length-map xs ends) in
    get_or-map ends xs i (0, 0, 0) d first ∙ each i first ∙ sym (get_or-map ends ys i (0, 0, 0) d (omega (arith, first, full))))

pub returns-then-ne : goal.returns-then-ne
returns-then-ne c =
    let same = alike_at c.args.ups.now c.args.downs.now c.loop-i.i in
    search (same, rules)

pub returns : goal.returns
returns c =
    let all = alike_all c.args.ups.now c.args.downs.now (search rules) (λ i low. c.loop-i.invariant i (search rules)) in
    ((λ yes. all), (λ same. search rules))
