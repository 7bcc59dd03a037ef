use Rattle.std.proofs.Common.{arith, ◌≡◌, ℕ, ◌<◌, ◌++◌, List, get_or, length, map, sym, ap, subst, ◌∙◌}
use Rattle.std.specs.List.{All}
use Rattle.std.specs.List.Sorted.{IsNonDecreasingBy}
use Rattle.std.proofs.lemmas.List.Elements.{All-drop, All-take}
use Rattle.plane_sheets.specs.declared.borders.RegionEdge.{RegionEdge}
use Rattle.plane_sheets.specs.Found.{IsWithin, front_count, of_label, shown, side_regions}
use Rattle.plane_sheets.specs.Seen.{seen_in}
use Rattle.plane_sheets.proofs.Making.{label_made, labels_done, no_border}
use Rattle.plane_sheets.proofs.Runs.{later_steps, levels_left, levels_taken, some_taken}
use Rattle.plane_sheets.proofs.Ties.{StepsBy, steps_from}
use Rattle.plane_sheets.proofs.regions.grouped.Goals as goal

pub loop-first-init : goal.loop-first-init
loop-first-init c = record {
  steps = steps_from (λ (e : RegionEdge). e.label) 0 c.args.edges.now c.requires.grouped.labels (λ d h. omega arith);
  levels = λ j. steps_from (λ (e : RegionEdge). e.level) 0 (of_label j c.args.edges.now) (c.requires.grouped.levels j) (λ d h. omega arith);
  places = c.requires.places;
  inside = λ n most all. all;
  made = λ n most all. ap (λ l. map shown l ++ side_regions (seen_in c.args.flat) most n c.args.edges.now) c.new-regions.ensures.items;
}

-- the count is that of the first label
own_count : (rest : List RegionEdge) (first : RegionEdge) (count : ℕ) → first ≡ get_or rest 0 no_border → count ≡ front_count (λ e. e.label) first.label rest →
    count ≡ front_count (λ e. e.label) (get_or rest 0 no_border).label rest
own_count rest first count is counted = counted ∙ ap (λ (e : RegionEdge). front_count (λ e. e.label) e.label rest) is

pub push_label-requires-clause-places : goal.push_label-requires-clause-places
push_label-requires-clause-places c =
    let inside : RegionEdge → Type 0 = λ e. All (λ v. v < length c.args.flat.points.now) e.ends in
    subst (All inside) (sym c.split_at.ensures.front) (All-take inside c.of_label.result c.loop-first.rest.now c.loop-first.invariant.places)

pub push_label-requires-clause-rise : goal.push_label-requires-clause-rise
push_label-requires-clause-rise c =
    let rest = c.loop-first.rest.now in
    let first = c.in-Some.ensures.item.3 in
    subst (IsNonDecreasingBy (λ (e : RegionEdge). e.level)) (sym c.split_at.ensures.front)
    (levels_taken rest no_border c.of_label.result first.0 c.loop-first.invariant.steps c.loop-first.invariant.levels
    (own_count rest c.in-Some.first.now c.of_label.result (first.1 no_border) c.of_label.ensures.value))

pub loop-first-smaller : goal.loop-first-smaller
loop-first-smaller c =
    let rest = c.loop-first.rest.now in
    let first = c.in-Some.ensures.item.3 in
    let own = own_count rest c.in-Some.first.now c.of_label.result (first.1 no_border) c.of_label.ensures.value in
    omega (arith, some_taken (λ (e : RegionEdge). e.label) rest no_border c.of_label.result first.0 own, first.0, c.split_at.ensures.back_len)

pub loop-first-preserved : goal.loop-first-preserved
loop-first-preserved c =
    let at = seen_in c.args.flat in
    let rest = c.loop-first.rest.now in
    let count = c.of_label.result in
    let now = c.loop-first.invariant in
    let first = c.in-Some.ensures.item.3 in
    let own = own_count rest c.in-Some.first.now count (first.1 no_border) c.of_label.ensures.value in
    let front = c.split_at.ensures.front in
    let back = c.split_at.ensures.back in
    let inside : RegionEdge → Type 0 = λ e. All (λ v. v < length c.args.flat.points.now) e.ends in
    record {
      steps = subst (StepsBy (λ (e : RegionEdge). e.label) 0) (sym back) (later_steps (λ (e : RegionEdge). e.label) rest no_border count first.0 now.steps own);
      levels = λ j. subst (λ l. StepsBy (λ (e : RegionEdge). e.level) 0 (of_label j l)) (sym back) (levels_left rest no_border count first.0 now.steps now.levels own j);
      places = subst (All inside) (sym back) (All-drop inside count rest now.places);
      inside = λ n most all. subst (All (IsWithin n most)) (sym back) (All-drop (IsWithin n most) count rest (now.inside n most all));
      made = λ n most all.
          label_made at n most c.in-Some.first.now.label rest c.split_at.result.0.now c.split_at.result.1.now count (map shown c.loop-first.regions.items)
          (map shown c.push_label.new.regions.items) _ first.0 now.steps (now.inside n most all) own (ap (λ (e : RegionEdge). e.label) (first.1 no_border)) front back
          (c.in_ok-push_label.ensures n most (subst (All (IsWithin n most)) (sym front) (All-take (IsWithin n most) count rest (now.inside n most all)))) (now.made n most all);
    }

pub returns : goal.returns
returns c = λ n most all.
    labels_done (seen_in c.args.flat) most n c.loop-first.rest.now (map shown c.loop-first.regions.items) _ c.in_default.ensures.item.3 (c.loop-first.invariant.made n most all)
