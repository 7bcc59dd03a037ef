use Rattle.std.proofs.Common.{◌<◌, ℕ, List, [], get_or, length, refl, subst, rules, arith}
use Rattle.std.proofs.lemmas.List.{get_or-map, length-map}
use Rattle.std.proofs.lemmas.List.Elements.{All-from_get_or, All-map}
use Rattle.mesh_terms.specs.Meshes.{HasThree, triple_of}
use borrow.Author.Count.{below_more}
use Rattle.mesh_boolean.proofs.auditing.origins.have_three.Goals as goal

pub loop-triple-preserved : goal.loop-triple-preserved
loop-triple-preserved c =
    let P : ℕ → Type 0 = λ k. HasThree (triple_of (get_or c.args.triples.now k [])) in
    below_more P _ c.loop-triple.invariant (search rules)

pub returns-then-not-has_three : goal.returns-then-not-has_three
returns-then-not-has_three c =
    let ts = c.args.triples.now in
    let i = c.loop-triple.triple-index in (
      (λ no. cc),
      (λ all.
          let low : i < length ts = omega arith in
          let here : HasThree (triple_of (get_or ts i [])) =
          subst HasThree (get_or-map triple_of ts i [] (0, 0, 0) low) (all i (0, 0, 0) (omega (arith, low, length-map ts triple_of))) in
          search rules),
    )

pub returns : goal.returns
returns c =
    let ts = c.args.triples.now in (
      (λ _. All-map HasThree triple_of ts (All-from_get_or (λ (t : List ℕ). HasThree (triple_of t)) ts [] (λ k in_list. c.loop-triple.invariant k (omega arith)))),
      (λ _. refl),
    )
