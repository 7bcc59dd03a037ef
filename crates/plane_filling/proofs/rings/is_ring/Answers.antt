use Rattle.std.proofs.Common.{◌≡◌, List, ℕ, Bool, true, false, get_or, ap, rules, sym, ◌∙◌}
use Rattle.std.specs.Prelude.{IsTrue, ◌&&◌, ◌↔◌}
use Rattle.std.specs.List.{list_all, list_any}
use Rattle.chain_terms.specs.Paths.{round_edges}
use Rattle.face_plane.specs.Rings.{IsRing}
use Rattle.loop_ring.specs.Turning.{turned_to}
use Rattle.plane_filling.specs.Cuttings.{differ, is_other}
use Rattle.plane_filling.proofs.Tests.{passes, passes_ring, ring_passes}
use Rattle.plane_filling.proofs.rings.is_ring.Goals as goal

-- a test with the value of both tests
tells : (r : List ℕ) (t : Bool) → t ≡ passes r → IsTrue t ↔ IsRing r
tells r t e = (λ y. passes_ring r (sym e ∙ true_of t y), λ ringy. of_true t (e ∙ ring_passes r ringy))
  where
    true_of : (t : Bool) → IsTrue t → t ≡ true
    true_of t y = search rules

    of_true : (t : Bool) → t ≡ true → IsTrue t
    of_true t y = search rules

pub returns-then-do_differ-clause-ring : goal.returns-then-do_differ-clause-ring
returns-then-do_differ-clause-ring c =
    let r = c.args.ring.now in
    let first = c.get-first.ensures in
    let second = c.ahead-second.ensures in
    let here : c.has_other.result ≡ list_any (is_other (get_or r 0 0) (get_or (turned_to 1 r) 0 0)) r =
    c.has_other.ensures.value ∙ (λ j. list_any (is_other (first j) (second j)) (c.do_differ.ensures.same j)) in
    let both : true ≡ list_all differ (round_edges r) = sym c.if-do_differ.true ∙ c.do_differ.ensures.value in
    tells r c.has_other.result (here ∙ ap (λ t. t && list_any (is_other (get_or r 0 0) (get_or (turned_to 1 r) 0 0)) r) both)

pub returns-else-do_differ-clause-ring : goal.returns-else-do_differ-clause-ring
returns-else-do_differ-clause-ring c =
    let r = c.args.ring.now in
    let none : false ≡ list_all differ (round_edges r) = sym c.if-do_differ.false ∙ c.do_differ.ensures.value in
    tells r c.do_differ.result (c.if-do_differ.false ∙ ap (λ t. t && list_any (is_other (get_or r 0 0) (get_or (turned_to 1 r) 0 0)) r) none)
