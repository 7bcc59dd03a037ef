use Rattle.std.proofs.Common.{◌≡◌, ◌<◌, ◌==◌, ℕ, false, length, get_or, arith, ap, sym, subst, ◌∙◌}
use Rattle.std.specs.Prelude.{Bool, List, ℤ, ◌||◌, ◌&&◌, not}
use Rattle.std.proofs.lemmas.Bool.{eq-eqb, ne_eqb}
use Rattle.std.proofs.lemmas.List.{get_or_read}
use Rattle.sheet_terms.specs.Needless.{is_needless}
use Rattle.plane_filling.specs.Ways.{Notes, lead_straight, lies_between, no_leads, no_place}
use Rattle.plane_filling.specs.declared.needless.Leads.{Leads}
use Rattle.plane_filling.specs.declared.needless.Ways.{Ways}
use Rattle.plane_filling.proofs.Noted.{HavePoints, noted_points, passed_is}
use Rattle.plane_filling.proofs.needless.Ways.is_needless.Goals as goal
use Rattle.plane_filling.proofs.needless.Ways.is_needless.Goals.{then-leads-via-then-leads, then-leads-via-else-leads+then-leads-2}

-- two places that are noted have points
have : (w : Ways) (n v : ℕ) (l : Leads) → ((es : List (ℕ × ℕ)) × Notes es w) → length w.leads.items ≡ n → v < n →
    l ≡ get_or w.leads.items v l → (l.other == no_place) ≡ false → HavePoints n l
have w n v l known full low read h =
    let is = get_or_read w.leads.items v l (omega (arith, low, full)) read no_leads in
    let there = noted_points known.0 w known.1 v (ap (λ (l : Leads). l.other == no_place) (sym is) ∙ h) in
    subst (λ (l : Leads). HavePoints n l) (sym is) (subst (λ n. HavePoints n (get_or w.leads.items v no_leads)) full there)

pub lies_between-requires-clause-one : goal.lies_between-requires-clause-one
lies_between-requires-clause-one c =
    (have c.args.self.now (length c.args.points.now) c.args.place c.index-leads.result.now c.requires.noted c.requires.full c.requires.place c.index-leads.ensures
    (ne_eqb c.index-leads.result.now.other no_place c.if-leads.false)).one

pub lies_between-requires-clause-other : goal.lies_between-requires-clause-other
lies_between-requires-clause-other c =
    (have c.args.self.now (length c.args.points.now) c.args.place c.index-leads.result.now c.requires.noted c.requires.full c.requires.place c.index-leads.ensures
    (ne_eqb c.index-leads.result.now.other no_place c.if-leads.false)).other

-- what is told of what was read
told : (points : List (List ℤ)) (w : Ways) (v : ℕ) (l : Leads) (b : Bool) → length w.leads.items ≡ length points → v < length points →
    l ≡ get_or w.leads.items v l → b ≡ lead_straight points v l → (es : List (ℕ × ℕ)) → Notes es w → b ≡ is_needless points es v
told points w v l b full low read is es notes =
    is ∙ ap (lead_straight points v) (get_or_read w.leads.items v l (omega (arith, low, full)) read no_leads) ∙ passed_is points es w notes v

pub returns-then-leads-clause-needless : goal.returns-then-leads-clause-needless
returns-then-leads-clause-needless c es notes =
    let points = c.args.points.now in
    let v = c.args.place in
    let l = c.index-leads.result.now in
    let by : (b : Bool) → b ≡ lead_straight points v l → b ≡ is_needless points es v =
    λ b is. told points c.args.self.now v l b c.requires.full c.requires.place c.index-leads.ensures is es notes in
    let left : Bool → Bool = λ b. not (b || l.more) && lies_between points v l.one l.other in
    elim c.then-leads.branch [
      | then-leads-via-then-leads w ↦ by false (sym (ap left (eq-eqb l.other no_place w.if-leads.true)))
      | then-leads-via-else-leads+then-leads-2 w ↦
          by false (sym (ap left (ne_eqb l.other no_place w.if-leads.false) ∙ ap (λ b. not b && lies_between points v l.one l.other) w.if-leads-2.true))
    ]

pub returns-clause-needless : goal.returns-clause-needless
returns-clause-needless c es notes =
    let points = c.args.points.now in
    let v = c.args.place in
    let l = c.index-leads.result.now in
    let left : Bool → Bool = λ b. not (b || l.more) && lies_between points v l.one l.other in
    told points c.args.self.now v l c.lies_between.result c.requires.full c.requires.place c.index-leads.ensures
    (c.lies_between.ensures ∙ sym (ap left (ne_eqb l.other no_place c.if-leads.false) ∙ ap (λ b. not b && lies_between points v l.one l.other) c.if-leads-2.false)) es notes
