use Rattle.std.proofs.Common.{arith, ◌≡◌, ℕ, ◌<◌, List, get_or, length, map, refl, sym, ap, subst, ◌∙◌}
use Rattle.std.specs.List.{All}
use Rattle.std.proofs.lemmas.List.Elements.{All-drop, All-take}
use Rattle.plane_sheets.specs.declared.borders.RegionEdge.{RegionEdge}
use Rattle.plane_sheets.specs.Found.{IsWithin, front_count, shown}
use Rattle.plane_sheets.specs.Seen.{seen_in}
use Rattle.plane_sheets.proofs.Making.{level_made, levels_done, no_border}
use Rattle.plane_sheets.proofs.Runs.{later_steps, some_taken}
use Rattle.plane_sheets.proofs.Ties.{StepsBy, steps_from}
use Rattle.plane_sheets.proofs.regions.push_label.Goals as goal

pub loop-first-init : goal.loop-first-init
loop-first-init c = record {
  steps = steps_from (λ (e : RegionEdge). e.level) 0 c.args.edges.now c.requires.rise (λ d h. omega arith);
  places = c.requires.places;
  inside = λ n most all. all;
  made = λ n most all. refl;
}

-- the count is that of the first level
own_count : (rest : List RegionEdge) (first : RegionEdge) (count : ℕ) → first ≡ get_or rest 0 no_border → count ≡ front_count (λ e. e.level) first.level rest →
    count ≡ front_count (λ e. e.level) (get_or rest 0 no_border).level rest
own_count rest first count is counted = counted ∙ ap (λ (e : RegionEdge). front_count (λ e. e.level) e.level rest) is

pub region_walks-requires : goal.region_walks-requires
region_walks-requires c =
    let inside : RegionEdge → Type 0 = λ e. All (λ v. v < length c.args.flat.points.now) e.ends in
    subst (All inside) (sym c.split_at.ensures.front) (All-take inside c.of_level.result c.loop-first.rest.now c.loop-first.invariant.places)

pub loop-first-smaller : goal.loop-first-smaller
loop-first-smaller c =
    let rest = c.loop-first.rest.now in
    let first = c.in-Some.ensures.item.3 in
    let own = own_count rest c.in-Some.first.now c.of_level.result (first.1 no_border) c.of_level.ensures.value in
    omega (arith, some_taken (λ (e : RegionEdge). e.level) rest no_border c.of_level.result first.0 own, first.0, c.split_at.ensures.back_len)

pub loop-first-preserved : goal.loop-first-preserved
loop-first-preserved c =
    let at = seen_in c.args.flat in
    let rest = c.loop-first.rest.now in
    let count = c.of_level.result in
    let now = c.loop-first.invariant in
    let first = c.in-Some.ensures.item.3 in
    let own = own_count rest c.in-Some.first.now count (first.1 no_border) c.of_level.ensures.value in
    let front = c.split_at.ensures.front in
    let back = c.split_at.ensures.back in
    let inside : RegionEdge → Type 0 = λ e. All (λ v. v < length c.args.flat.points.now) e.ends in
    record {
      steps = subst (StepsBy (λ (e : RegionEdge). e.level) 0) (sym back) (later_steps (λ (e : RegionEdge). e.level) rest no_border count first.0 now.steps own);
      places = subst (All inside) (sym back) (All-drop inside count rest now.places);
      inside = λ n most all. subst (All (IsWithin n most)) (sym back) (All-drop (IsWithin n most) count rest (now.inside n most all));
      made = λ n most all.
          level_made at n most c.args.label rest c.split_at.result.0.now c.split_at.result.1.now count c.loop-first.regions.items c.push.new.self.items
          (record { label = c.args.label; walks = c.in_ok-walks.walks }) _ first.0 now.steps (now.inside n most all) own front back c.in_ok-push.ensures.items
          refl c.in_ok-walks.ensures
          (now.made n most all);
    }

pub returns : goal.returns
returns c = λ n most all.
    levels_done (seen_in c.args.flat) most c.args.label c.loop-first.rest.now (map shown c.loop-first.regions.items) _ c.in_default.ensures.item.3
    (c.loop-first.invariant.made n most all)
