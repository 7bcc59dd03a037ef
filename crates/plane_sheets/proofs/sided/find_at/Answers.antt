use Rattle.std.proofs.Common.{arith, rules, ◌≡◌, ◌<◌, ◌≤◌, ◌^◌, ◌+ℤ◌, ℕ, ℤ, List, get_or, length, map, sym, ap, subst, ◌∙◌}
use Rattle.std.specs.List.{All}
use Rattle.std.proofs.lemmas.List.{length-map}
use Rattle.face_plane.specs.Planes.{Plane}
use Rattle.plane_chains.specs.EdgeBoxes.{pair_of}
use Rattle.plane_sheets.specs.declared.passing.Passing.{Passing}
use Rattle.plane_sheets.specs.Boxed.{HasEdges, edge_height}
use Rattle.plane_sheets.specs.Found.{HasCrossing}
use Rattle.plane_sheets.specs.Seen.{seen_in}
use Rattle.plane_sheets.proofs.Kept.{kept}
use Rattle.plane_sheets.proofs.Outcomes.{always_ok, both_ok}
use Rattle.plane_sheets.proofs.Seated.{near_sided}
use Rattle.plane_sheets.proofs.Sizing.{near_small, own_small}
use Rattle.plane_sheets.proofs.sided.find_at.Goals as goal

-- what was found for the height of the edge's middle
near_found : (at : Plane) (rows used : List (List ℕ)) (e : ℕ) (a b : ℤ × ℤ) (m : ℤ) (p : Passing) (near : List ℕ) → used ≡ rows →
    a ≡ at (get_or (map pair_of used) e (0, 0)).0 → b ≡ at (get_or (map pair_of used) e (0, 0)).1 → m ≡ a.1 +ℤ b.1 → p.height ≡ m → HasEdges at (map pair_of rows) p →
    near ≡ p.near.items → HasCrossing at (map pair_of rows) e near
near_found at rows used e a b m p near same from to middle height edges is =
    let own : edge_height at (map pair_of used) e ≡ p.height =
    ap (λ (q : ℤ × ℤ). q.1 +ℤ (at (get_or (map pair_of used) e (0, 0)).1).1) (sym from) ∙ ap (λ (q : ℤ × ℤ). a.1 +ℤ q.1) (sym to) ∙ sym middle ∙ sym height in
    subst (HasCrossing at (map pair_of rows) e) (sym is) (edges.last e (ap (λ (l : List (List ℕ)). edge_height at (map pair_of l) e) (sym same) ∙ own))

pub find_sides-requires-clause-near : goal.find_sides-requires-clause-near
find_sides-requires-clause-near c =
    let at = seen_in c.args.flat in
    let rows = c.args.chain.now.edges.items in
    let es = map pair_of rows in
    let near = c.deref-2.result.now in
    let edges = c.in_ok-find.ensures.edges at es c.requires.edges in
    let fits : kept c.middle_height.result ≡ c.middle_height.result = search rules in
    let found : HasCrossing at es c.args.edge near =
    near_found at rows c.deref.result.now c.args.edge c.ends_at-a.result.0 c.ends_at-a.result.1 c.middle_height.result c.find.new.self near c.deref.ensures.value
    c.ends_at-a.ensures.start c.ends_at-a.ensures.end c.middle_height.ensures (c.in_ok-find.ensures.height ∙ fits) edges c.deref-2.ensures.value in
    subst (λ (n : ℕ). All (λ i. i < n) near) (length-map rows pair_of) found.below

pub find_sides-requires-clause-small : goal.find_sides-requires-clause-small
find_sides-requires-clause-small c =
    let at = seen_in c.args.flat in
    let rows = c.args.chain.now.edges.items in
    let es = map pair_of rows in
    let near = c.deref-2.result.now in
    let edges = c.in_ok-find.ensures.edges at es c.requires.edges in
    let fits : kept c.middle_height.result ≡ c.middle_height.result = search rules in
    let found : HasCrossing at es c.args.edge near =
    near_found at rows c.deref.result.now c.args.edge c.ends_at-a.result.0 c.ends_at-a.result.1 c.middle_height.result c.find.new.self near c.deref.ensures.value
    c.ends_at-a.ensures.start c.ends_at-a.ensures.end c.middle_height.ensures (c.in_ok-find.ensures.height ∙ fits) edges c.deref-2.ensures.value in
    near_small c.args.chain.now.nets.0 (length es) near (c.requires.nets ∙ sym (length-map rows pair_of)) found.sizes c.requires.small

pub find_sides-requires-clause-own_small : goal.find_sides-requires-clause-own_small
find_sides-requires-clause-own_small c = own_small c.args.chain.now.nets.0 c.args.edge (omega (arith, c.requires.edge, c.requires.nets)) c.requires.small

pub returns-clause-edges : goal.returns-clause-edges
returns-clause-edges c = always_ok c.find_sides.result _ (c.in_ok-find.ensures.edges (seen_in c.args.flat) (map pair_of c.args.chain.now.edges.items) c.requires.edges)

pub returns-clause-sides : goal.returns-clause-sides
returns-clause-sides c =
    let at = seen_in c.args.flat in
    let rows = c.args.chain.now.edges.items in
    let es = map pair_of rows in
    let near = c.deref-2.result.now in
    let edges = c.in_ok-find.ensures.edges at es c.requires.edges in
    let fits : kept c.middle_height.result ≡ c.middle_height.result = search rules in
    let found : HasCrossing at es c.args.edge near =
    near_found at rows c.deref.result.now c.args.edge c.ends_at-a.result.0 c.ends_at-a.result.1 c.middle_height.result c.find.new.self near c.deref.ensures.value
    c.ends_at-a.ensures.start c.ends_at-a.ensures.end c.middle_height.ensures (c.in_ok-find.ensures.height ∙ fits) edges c.deref-2.ensures.value in
    both_ok c.find_sides.result _ _ _ (λ left right. near_sided at es c.args.chain.now.nets.0 c.args.edge near c.find_sides.new.sides.items found left right) c.find_sides.ensures.left
    c.find_sides.ensures.right
