use Rattle.std.proofs.Common.{◌≡◌, ◌++◌, ◌∷◌, ◌∙◌, [], ℕ, length, ap, arith, rules, subst, sym, Vec, Global}
use Rattle.std.proofs.lemmas.List.{get_or_read}
use Rattle.mesh_terms.specs.Points.{IsPoint}
use Rattle.inspection_laws.proofs.Firsts.{IsInserted, IsPlaced, all_so_far, none_so_far, placed_known, placed_new}
use Rattle.self_cuts.proofs.firsts.firsts.Goals as goal
use Rattle.self_cuts.proofs.firsts.firsts.Goals.{then-is_new+in_ok-push, else-is_new, Joined-is_new}

pub loop-number-init : goal.loop-number-init
loop-number-init c = none_so_far c.args.points.now c.new-places.result.keys c.new-heads.result.items c.in_ok-of.of.items (search rules) (search rules) (search rules)

-- where the key of the point stands
placed : (c : Joined-is_new) →
    IsPlaced c.args.points.now c.loop-number.number c.loop-number.of.items c.in_ok-place.place c.insert_full.new.self.keys c.if-is_new.heads.items
placed c =
    let points = c.args.points.now in
    let n = c.loop-number.number in
    let keys = c.loop-number.places.keys in
    let point_is = get_or_read points n c.index-points-number.result c.loop-number-test.true c.index-points-number.is [] in
    let key_is = c.at.ensures.value ∙ point_is in
    let ensured = c.in_ok-place.ensures in
    let inserted : IsInserted keys c.at.result c.in_ok-place.place c.in_ok-place.is_new c.insert_full.new.self.keys =
    record { place_is = ensured.index; new_is = ensured.added; keys_are = ensured.keys } in
    elim c.if-is_new.branch [
      | then-is_new+in_ok-push w ↦
          placed_new points n keys c.loop-number.heads.items c.loop-number.of.items c.loop-number.invariant c.at.result key_is
          (subst IsPoint (sym c.at.ensures.value) c.at.ensures.on_grid)
          c.in_ok-place.place c.in_ok-place.is_new c.insert_full.new.self.keys inserted w.if-is_new.true c.if-is_new.heads.items
          (ap (λ (v : Vec ℕ Global). v.items) w.heads-is ∙ w.in_ok-push.ensures.items)
      | else-is_new w ↦
          placed_known points n keys c.loop-number.heads.items c.loop-number.of.items c.loop-number.invariant c.at.result key_is
          (subst IsPoint (sym c.at.ensures.value) c.at.ensures.on_grid)
          c.in_ok-place.place c.in_ok-place.is_new c.insert_full.new.self.keys inserted w.if-is_new.false c.if-is_new.heads.items
          (ap (λ (v : Vec ℕ Global). v.items) w.heads-is)
    ]

pub index-requires : goal.index-requires
index-requires c = omega (arith, (placed (goal.at.index-requires c).Joined-is_new).within, c.if-is_new.heads.ok.0)

pub loop-number-preserved : goal.loop-number-preserved
loop-number-preserved c =
    let is = placed (goal.at.loop-number-preserved c).Joined-is_new in
    is.next c.push-in-loop-number.new.self.items
    (c.in_ok-push-2.ensures.items
    ∙ ap (λ v. c.loop-number.of.items ++ v ∷ []) (get_or_read c.if-is_new.heads.items c.in_ok-place.place c.index.result.now is.within c.index.ensures 0))

pub returns-clause-of : goal.returns-clause-of
returns-clause-of c =
    let end : c.loop-number.number ≡ length c.args.points.now = omega (arith, c.loop-number-test.false, c.loop-number.auto.number-end) in
    all_so_far c.args.points.now c.loop-number.places.keys c.loop-number.number c.loop-number.heads.items c.loop-number.of.items c.loop-number.invariant end
