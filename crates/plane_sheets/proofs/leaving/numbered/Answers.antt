use Rattle.std.proofs.Common.{arith, ◌≡◌, ◌+◌, ◌<◌, ◌++◌, ◌∷◌, [], get_or, length, map, take, sym, ap, subst, ◌∙◌}
use Rattle.std.specs.List.{All}
use Rattle.std.proofs.lemmas.List.Elements.{All-append, All-cons, All-nil}
use Rattle.std.proofs.lemmas.List.{length-map, length-take-le, map-append, take_more}
use Rattle.plane_chains.specs.EdgeBoxes.{pair_of}
use Rattle.plane_sheets.specs.declared.leaving.Leaving.{Leaving}
use Rattle.plane_sheets.specs.Leaving.{leaving_from}
use Rattle.plane_sheets.proofs.LeavingLists.{leaving_at, leaving_from-push}
use Rattle.plane_sheets.proofs.leaving.numbered.Goals as goal

pub loop-number-preserved : goal.loop-number-preserved
loop-number-preserved c =
    let es = c.args.edges.now in
    let i = c.loop-number.number in
    let below : i < length es = omega (arith, c.loop-number-test.true) in
    let e = pair_of (get_or es i []) in
    let more = ap (map pair_of) (take_more es i [] below) ∙ map-append pair_of (take i es) (get_or es i [] ∷ []) in
    let count : 0 + length (map pair_of (take i es)) ≡ i = omega (arith, length-map (take i es) pair_of, length-take-le i es) in
    record {
      value = c.in_ok-push.ensures.items ∙ ap (λ l. l ++ leaving_at e i ∷ []) c.loop-number.invariant.value
          ∙ sym (ap (leaving_from 0) more ∙ leaving_from-push 0 (map pair_of (take i es)) e ∙ ap (λ n. leaving_from 0 (map pair_of (take i es)) ++ leaving_at e n ∷ []) count);
      ends = λ n all. subst (All (λ (l : Leaving). l.to < n)) (sym c.in_ok-push.ensures.items)
          (All-append (λ (l : Leaving). l.to < n) c.loop-number.all.items _ (c.loop-number.invariant.ends n all)
          (All-cons (λ (l : Leaving). l.to < n) (leaving_at e i) [] (all i [] below 1 0 (omega arith)) (All-nil (λ (l : Leaving). l.to < n))));
    }
