use Rattle.std.proofs.Common.{[], ap, arith, bytes_eq, rules, ◌^◌, ◌<◌, ◌≡◌, ◌∙◌}
use Rattle.std.proofs.lemmas.List.{length-map}
use Rattle.plane_chains.specs.Opposites.{places_on}
use Rattle.plane_chains.proofs.FirstKeys.{place_bound}
use Rattle.plane_chains.proofs.RimSets.{mapped, sets_done, sets_few, sets_more, sets_none}
use Rattle.plane_chains.proofs.opposites.sets_of.Goals as goal

pub loop-i-init : goal.loop-i-init
loop-i-init c =
    sets_none c.args.rims.now.0 c.args.some.now (mapped c.new-seen.result.keys (λ v. v.items)) c.in_ok-sets.sets.items
    (ap (λ ks. mapped ks (λ v. v.items)) (let none : c.new-seen.result.keys ≡ [] = search rules in none))
    (let none : c.in_ok-sets.sets.items ≡ [] = search rules in none)

pub overflow_cast-set : goal.overflow_cast-set
overflow_cast-set c =
    let few = sets_few c.args.rims.now.0 c.args.some.now c.loop-i.i (mapped c.loop-i.seen.keys (λ v. v.items)) c.loop-i.sets.items (omega (arith, c.loop-i-test.true)) c.loop-i.invariant in
    let most = place_bound (λ y. bytes_eq c.in_ok-places.places.items y.items) c.loop-i.seen.keys in
    let low : c.in_ok-set.set < 2 ^ 32 =
    omega (arith, most, c.in_ok-set.ensures.index, few, length-map c.loop-i.seen.keys (λ v. v.items), c.loop-i-test.true, c.requires.few) in
    search rules

pub loop-i-preserved : goal.loop-i-preserved
loop-i-preserved c =
    sets_more (λ v. v.items) c.args.rims.now.0 c.args.some.now c.loop-i.i c.loop-i.seen.keys c.insert_full.new.self.keys c.loop-i.sets.items c.push.new.self.items
    c.in_ok-places.places c.in_ok-set.set c.loop-i-test.true (c.in_ok-places.ensures ∙ ap places_on c.list.ensures) c.loop-i.invariant c.in_ok-set.ensures.keys
    c.in_ok-set.ensures.index c.in_ok-push.ensures.items

pub returns : goal.returns
returns c = sets_done c.args.rims.now.0 c.args.some.now c.loop-i.i (mapped c.loop-i.seen.keys (λ v. v.items)) c.loop-i.sets.items c.loop-i-test.false c.loop-i.invariant
