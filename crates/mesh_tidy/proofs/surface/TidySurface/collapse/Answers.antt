use Rattle.std.proofs.Common.{◌≡◌, ℕ, ◌+◌, ◌*◌, ◌/◌, ◌<◌, List, [], Vec, Global, length, get_or, refl, sym, ap, subst, ◌∙◌, arith}
use Rattle.std.specs.List.{All}
use Rattle.std.specs.Vec.{with_items}
use Rattle.std.proofs.lemmas.List.{length-map, with_items_is}
use Rattle.std.proofs.lemmas.List.Elements.{All-get_or}
use Rattle.chain_terms.specs.Chains.{all_edges}
use Rattle.chain_terms.specs.Ranks.{start}
use Rattle.mesh_terms.specs.Halves.{next_half, prev_half}
use Rattle.mesh_terms.specs.Meshes.{triple_of, triples_of}
use Rattle.tidy_laws.specs.Conditions.{CanCollapse}
use Rattle.mesh_tidy.specs.Pairs.{paired}
use Rattle.mesh_tidy.specs.TidySurface.{TidySurface, Has, HasCollapsed, IsKept, IsRenamed, IsTwin, left_of, number_of}
use Rattle.mesh_tidy.proofs.Collapsing.{can_read, first_pair_is, follows_so, kept_so, low_joined, next_in, prev_in, renamed_so}
use Rattle.mesh_tidy.proofs.Follow.{without}
use Rattle.mesh_tidy.proofs.NewStars.{joined}
use Rattle.mesh_tidy.proofs.NewTwins.{length-paired}
use Rattle.mesh_tidy.proofs.surface.TidySurface.collapse.Goals as goal

-- the half-edge can be collapsed
abbrev Can : ℕ → TidySurface → Type 0
Can h s = (a : ℕ) × (b : ℕ) × (c : ℕ) × (d : ℕ) × CanCollapse (left_of s) (number_of s h) a b c d

abbrev starts_at : TidySurface → ℕ → ℕ
starts_at s h = start (all_edges s.triples) h

pub join-requires-clause-apart : goal.join-requires-clause-apart
join-requires-clause-apart c =
    let inside = c.self.inside in
    let s : TidySurface = record { triples = triples_of inside.triples.items; left = inside.left.items; vertices = length inside.stars } in
    let view : s ≡ c.args.self.now = c.self.view_is in
    let h = c.args.half in
    let g = c.twin-twin.result in
    let can = subst (Can h) (sym view) c.requires.can in
    let p : c.start-from.result ≡ starts_at s h = c.start-from.ensures.value ∙ ap (λ v. starts_at v h) (sym view) in
    let q : c.start-to.result ≡ starts_at s g = c.start-to.ensures.value ∙ ap (λ v. starts_at v g) (sym view) in
    let there = can_read s inside.twins.items inside.stars c.self.invariant h (subst (λ v. Has v h) (sym view) c.requires.has) can.0 can.1 can.2 can.3 can.4 g
    (subst (λ v. IsTwin v h g) (sym view) c.twin-twin.ensures) c.start-from.result c.start-to.result p q in
    there.distinct

pub rename-requires : goal.rename-requires
rename-requires c =
    let inside = c.self.inside in
    let count = length inside.triples.items in
    let vertices : length inside.stars ≡ c.args.self.now.vertices = ap (λ (v : TidySurface). v.vertices) c.self.view_is in
    let read : c.star.result.now ≡ get_or (joined inside.stars c.start-from.result c.start-to.result) c.start-from.result [] =
    c.star.ensures ∙ ap (λ st. get_or st c.start-from.result []) c.in_ok-join.ensures.joined in
    let low = low_joined inside.stars c.start-from.result c.start-to.result (3 * length (triples_of inside.triples.items))
    (omega (arith, vertices, c.start-from.ensures.below)) (omega (arith, vertices, c.start-to.ensures.below)) c.self.invariant.within in
    subst (λ (l : List ℕ). (k : ℕ) (d : ℕ) → k < length l → get_or l k d < 3 * length c.deref_mut.result.now) (sym read)
    (λ k d within. omega (arith, low k d within, length-map inside.triples.items triple_of, ap length c.deref_mut.ensures.value))

pub pair_across-requires-2-clause-one : goal.pair_across-requires-2-clause-one
pair_across-requires-2-clause-one c =
    let inside = c.self.inside in
    let s : TidySurface = record { triples = triples_of inside.triples.items; left = inside.left.items; vertices = length inside.stars } in
    let view : s ≡ c.args.self.now = c.self.view_is in
    let h = c.args.half in
    let g = c.twin-twin.result in
    let from = c.start-from.result in
    let to = c.start-to.result in
    let can = subst (Can h) (sym view) c.requires.can in
    let p : from ≡ starts_at s h = c.start-from.ensures.value ∙ ap (λ v. starts_at v h) (sym view) in
    let q : to ≡ starts_at s g = c.start-to.ensures.value ∙ ap (λ v. starts_at v g) (sym view) in
    let us = triples_of c.rename.new.triples in
    let count : length us ≡ length s.triples =
    omega (arith, length-map c.rename.new.triples triple_of, length-map inside.triples.items triple_of, c.rename.ensures.count, ap length c.deref_mut.ensures.value) in
    let renames = renamed_so c.deref_mut.result.now inside.triples.items us c.star.result.now (get_or (joined inside.stars from to) from []) to from c.deref_mut.ensures.value
    (c.star.ensures ∙ ap (λ st. get_or st from []) c.in_ok-join.ensures.joined) c.rename.ensures.renamed in
    let is = first_pair_is inside.twins c.deref_mut-2.result.now c.pair_across.new.twins c.deref_mut-3.result.now h c.deref_mut-2.ensures.value
    c.pair_across.ensures c.deref_mut-3.ensures.value in
    next_in s inside.twins.items inside.stars c.self.invariant h (subst (λ v. Has v h) (sym view) c.requires.has) can.0 can.1 can.2 can.3 can.4 g
    (subst (λ v. IsTwin v h g) (sym view) c.twin-twin.ensures) refl from to p q us count renames c.deref_mut-3.result.now is

pub pair_across-requires-2-clause-other : goal.pair_across-requires-2-clause-other
pair_across-requires-2-clause-other c =
    let inside = c.self.inside in
    let s : TidySurface = record { triples = triples_of inside.triples.items; left = inside.left.items; vertices = length inside.stars } in
    let view : s ≡ c.args.self.now = c.self.view_is in
    let h = c.args.half in
    let g = c.twin-twin.result in
    let from = c.start-from.result in
    let to = c.start-to.result in
    let can = subst (Can h) (sym view) c.requires.can in
    let p : from ≡ starts_at s h = c.start-from.ensures.value ∙ ap (λ v. starts_at v h) (sym view) in
    let q : to ≡ starts_at s g = c.start-to.ensures.value ∙ ap (λ v. starts_at v g) (sym view) in
    let us = triples_of c.rename.new.triples in
    let count : length us ≡ length s.triples =
    omega (arith, length-map c.rename.new.triples triple_of, length-map inside.triples.items triple_of, c.rename.ensures.count, ap length c.deref_mut.ensures.value) in
    let renames = renamed_so c.deref_mut.result.now inside.triples.items us c.star.result.now (get_or (joined inside.stars from to) from []) to from c.deref_mut.ensures.value
    (c.star.ensures ∙ ap (λ st. get_or st from []) c.in_ok-join.ensures.joined) c.rename.ensures.renamed in
    let is = first_pair_is inside.twins c.deref_mut-2.result.now c.pair_across.new.twins c.deref_mut-3.result.now h c.deref_mut-2.ensures.value
    c.pair_across.ensures c.deref_mut-3.ensures.value in
    prev_in s inside.twins.items inside.stars c.self.invariant h (subst (λ v. Has v h) (sym view) c.requires.has) can.0 can.1 can.2 can.3 can.4 g
    (subst (λ v. IsTwin v h g) (sym view) c.twin-twin.ensures) refl from to p q us count renames c.deref_mut-3.result.now is

pub invariant_of-self-2 : goal.invariant_of-self-2
invariant_of-self-2 c =
    let inside = c.self.inside in
    let s : TidySurface = record { triples = triples_of inside.triples.items; left = inside.left.items; vertices = length inside.stars } in
    let view : s ≡ c.args.self.now = c.self.view_is in
    let h = c.args.half in
    let g = c.twin-twin.result in
    let from = c.start-from.result in
    let to = c.start-to.result in
    let can = subst (Can h) (sym view) c.requires.can in
    let p : from ≡ starts_at s h = c.start-from.ensures.value ∙ ap (λ v. starts_at v h) (sym view) in
    let q : to ≡ starts_at s g = c.start-to.ensures.value ∙ ap (λ v. starts_at v g) (sym view) in
    let us = triples_of c.rename.new.triples in
    let count : length us ≡ length s.triples =
    omega (arith, length-map c.rename.new.triples triple_of, length-map inside.triples.items triple_of, c.rename.ensures.count, ap length c.deref_mut.ensures.value) in
    let renames = renamed_so c.deref_mut.result.now inside.triples.items us c.star.result.now (get_or (joined inside.stars from to) from []) to from c.deref_mut.ensures.value
    (c.star.ensures ∙ ap (λ st. get_or st from []) c.in_ok-join.ensures.joined) c.rename.ensures.renamed in
    let is = first_pair_is inside.twins c.deref_mut-2.result.now c.pair_across.new.twins c.deref_mut-3.result.now h c.deref_mut-2.ensures.value
    c.pair_across.ensures c.deref_mut-3.ensures.value in
    let two = c.pair_across-2.new.twins in
    let kept = kept_so s inside.twins.items inside.stars c.self.invariant h (subst (λ v. Has v h) (sym view) c.requires.has) can.0 can.1 can.2 can.3 can.4 g
    (subst (λ v. IsTwin v h g) (sym view) c.twin-twin.ensures) refl from to p q us count renames c.deref_mut-3.result.now is two c.pair_across-2.ensures in
    let triples_is = with_items_is inside.triples c.rename.new.triples (omega (arith, c.rename.ensures.count, ap length c.deref_mut.ensures.value, inside.triples.ok.0)) in
    let first : Vec ℕ Global = with_items inside.twins c.pair_across.new.twins in
    let twins_is = with_items_is first two
    (omega (
      arith,
      ap length c.pair_across-2.ensures,
      length-paired c.deref_mut-3.result.now (get_or c.deref_mut-3.result.now (next_half g) 0)
          (get_or c.deref_mut-3.result.now (prev_half g) 0),
      ap length c.deref_mut-3.ensures.value,
      first.ok.0,
    )) in
    let left = without inside.left.items (h / 3) (g / 3) in
    let stars_is = c.in_ok-join.ensures.joined in
    subst (λ st. IsKept (record { triples = triples_of (with_items inside.triples c.rename.new.triples).items; left = left; vertices = length st })
    (with_items first two).items st) (sym stars_is)
    (subst (λ tw. IsKept
    (record { triples = triples_of (with_items inside.triples c.rename.new.triples).items; left = left; vertices = length (joined inside.stars from to) }) tw
    (joined inside.stars from to)) (sym twins_is)
    (subst (λ ts. IsKept (record { triples = triples_of ts; left = left; vertices = length (joined inside.stars from to) }) two (joined inside.stars from to))
    (sym triples_is) kept))

pub returns-clause-collapsed : goal.returns-clause-collapsed
returns-clause-collapsed c =
    let inside = c.self.inside in
    let s : TidySurface = record { triples = triples_of inside.triples.items; left = inside.left.items; vertices = length inside.stars } in
    let view : s ≡ c.args.self.now = c.self.view_is in
    let h = c.args.half in
    let g = c.twin-twin.result in
    let from = c.start-from.result in
    let to = c.start-to.result in
    let can = subst (Can h) (sym view) c.requires.can in
    let p : from ≡ starts_at s h = c.start-from.ensures.value ∙ ap (λ v. starts_at v h) (sym view) in
    let q : to ≡ starts_at s g = c.start-to.ensures.value ∙ ap (λ v. starts_at v g) (sym view) in
    let us = triples_of c.rename.new.triples in
    let count : length us ≡ length s.triples =
    omega (arith, length-map c.rename.new.triples triple_of, length-map inside.triples.items triple_of, c.rename.ensures.count, ap length c.deref_mut.ensures.value) in
    let renames = renamed_so c.deref_mut.result.now inside.triples.items us c.star.result.now (get_or (joined inside.stars from to) from []) to from c.deref_mut.ensures.value
    (c.star.ensures ∙ ap (λ st. get_or st from []) c.in_ok-join.ensures.joined) c.rename.ensures.renamed in
    let follows = follows_so s inside.twins.items inside.stars c.self.invariant h (subst (λ v. Has v h) (sym view) c.requires.has) can.0 can.1 can.2 can.3 can.4
    g (subst (λ v. IsTwin v h g) (sym view) c.twin-twin.ensures) refl from to p q us count renames in
    let triples_is = with_items_is inside.triples c.rename.new.triples (omega (arith, c.rename.ensures.count, ap length c.deref_mut.ensures.value, inside.triples.ok.0)) in
    let left = without inside.left.items (h / 3) (g / 3) in
    subst (λ v. HasCollapsed v (record { triples = triples_of (with_items inside.triples c.rename.new.triples).items; left = left; vertices = length c.join.new.self }) h) view
    (subst (λ st. HasCollapsed s (record { triples = triples_of (with_items inside.triples c.rename.new.triples).items; left = left; vertices = length st }) h)
    (sym c.in_ok-join.ensures.joined)
    (subst (λ ts. HasCollapsed s (record { triples = triples_of ts; left = left; vertices = length (joined inside.stars from to) }) h) (sym triples_is) follows))
