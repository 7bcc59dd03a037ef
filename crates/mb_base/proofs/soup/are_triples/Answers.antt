use Rattle.std.proofs.Common.{rules, arith, ℕ, List, [], get_or, refl}
use Rattle.std.proofs.lemmas.List.Elements.{All-from_get_or}
use Rattle.mesh_terms.specs.Meshes.{HasThree, IsBelow, triple_of}
use borrow.Author.Count.{below_more}
use Rattle.mb_base.proofs.soup.are_triples.Goals as goal

pub loop-triple-preserved : goal.loop-triple-preserved
loop-triple-preserved c =
    let P : ℕ → Type 0 = λ k. HasThree (triple_of (get_or c.args.triples.now k [])) × IsBelow c.args.points (triple_of (get_or c.args.triples.now k [])) in
    below_more P _ c.loop-triple.invariant (search rules)

pub returns : goal.returns
returns c =
    let P : List ℕ → Type 0 = λ t. HasThree (triple_of t) × IsBelow c.args.points (triple_of t) in
    (λ _. All-from_get_or P c.args.triples.now [] (λ k in_list. c.loop-triple.invariant k (omega arith)), λ _. refl)
