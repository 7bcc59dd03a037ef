use Rattle.std.proofs.Common.{◌≡◌, ◌∙◌, ◌+◌, ℕ, List, [], ap, arith, get_or, length, rules, subst, sym}
use Rattle.std.specs.Prelude.{replicate}
use Rattle.std.proofs.lemmas.List.{length-replicate, with_items_is}
use Rattle.places_by_key.specs.Buckets.{places_of}
use Rattle.places_by_key.proofs.Upto.{get_or-map-upto, length-map-upto}
use Rattle.angle_pairing.proofs.Firsts.{AreFirsts, firsts_all, firsts_more, firsts_none, starts_below}
use Rattle.angle_pairing.proofs.alike.first_alike.Goals as goal

-- other lists that are the same
firsts_in : (pairs : List (ℕ × ℕ)) (count n : ℕ) (leads firsts ls fs : List ℕ) → ls ≡ leads → fs ≡ firsts → AreFirsts pairs count n leads firsts →
    AreFirsts pairs count n ls fs
firsts_in pairs count n leads firsts ls fs same_leads same_firsts are =
    subst (λ l. AreFirsts pairs count n l fs) (sym same_leads) (subst (λ l. AreFirsts pairs count n leads l) (sym same_firsts) are)

pub by_key-requires-clause-below : goal.by_key-requires-clause-below
by_key-requires-clause-below c =
    starts_below c.args.pairs.now c.bound-count.result c.bound-count.ensures c.deref.result.now (c.deref.ensures.value ∙ c.in_ok-starts.ensures)

pub loop-start-init : goal.loop-start-init
loop-start-init c =
    let count = c.bound-count.result in
    let pairs = c.args.pairs.now in
    let leads : c.in_ok-leads.leads.items ≡ replicate count 0 = search rules in
    let firsts : c.in_ok-firsts.firsts.items ≡ replicate (length pairs) 0 = search rules in
    firsts_none pairs count c.in_ok-leads.leads.items c.in_ok-firsts.firsts.items leads (ap length firsts ∙ length-replicate (length pairs) 0)

pub bucket-requires : goal.bucket-requires
bucket-requires c =
    let many : length c.in_ok-groups.groups ≡ c.bound-count.result =
    ap length c.in_ok-groups.ensures ∙ length-map-upto (places_of c.deref.result.now) c.bound-count.result in
    omega (arith, many, c.loop-start-test.true)

pub find_firsts-requires-clause-one : goal.find_firsts-requires-clause-one
find_firsts-requires-clause-one c =
    let n = c.loop-start.start in
    let starts = c.deref.result.now in
    let is = c.bucket.ensures ∙ ap (λ (l : List (List ℕ)). get_or l n []) c.in_ok-groups.ensures
    ∙ get_or-map-upto (places_of starts) c.bound-count.result n [] c.loop-start-test.true
    ∙ ap (λ l. places_of l n) (c.deref.ensures.value ∙ c.in_ok-starts.ensures) in
    (n, is)

pub loop-start-preserved : goal.loop-start-preserved
loop-start-preserved c =
    let n = c.loop-start.start in
    let starts = c.deref.result.now in
    let is = c.bucket.ensures ∙ ap (λ (l : List (List ℕ)). get_or l n []) c.in_ok-groups.ensures
    ∙ get_or-map-upto (places_of starts) c.bound-count.result n [] c.loop-start-test.true
    ∙ ap (λ l. places_of l n) (c.deref.ensures.value ∙ c.in_ok-starts.ensures) in
    let pairs = c.args.pairs.now in
    let count = c.bound-count.result in
    let ensured = c.find_firsts.ensures in
    let firsts_was = c.deref_mut.ensures.value in
    let leads_was = c.deref_mut-in-loop-start.ensures.value in
    let all = ensured.all ∙ ap length leads_was in
    let full = ensured.full ∙ ap length firsts_was in
    firsts_in pairs count (n + 1) c.find_firsts.new.leads c.find_firsts.new.firsts _ _
    (with_items_is c.loop-start.leads c.find_firsts.new.leads (all ∙ sym c.loop-start.leads.ok.0))
    (with_items_is c.loop-start.firsts c.find_firsts.new.firsts (full ∙ sym c.loop-start.firsts.ok.0))
    (firsts_more pairs count n c.bucket.result.now c.loop-start.leads.items c.loop-start.firsts.items c.find_firsts.new.leads c.find_firsts.new.firsts
    c.loop-start.invariant is all full ensured.leads ensured.found (λ x absent. ensured.others x absent ∙ ap (λ l. get_or l x 0) firsts_was))

pub returns : goal.returns
returns c =
    firsts_all c.args.pairs.now c.bound-count.result c.loop-start.start c.loop-start.leads.items c.loop-start.firsts.items c.loop-start.invariant c.bound-count.ensures
    (omega (arith, c.loop-start-test.false, c.loop-start.auto.start-end))
