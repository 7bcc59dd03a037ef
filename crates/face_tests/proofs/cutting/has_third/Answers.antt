use Rattle.std.proofs.Common.{◌<◌, ◌≤◌, ℕ, zero, suc, List, [], ◌∷◌, length, get_or, arith, refl, sym, inl, inr}
use Rattle.std.specs.Prelude.{◌==◌}
use Rattle.std.proofs.lemmas.Bool.{eqb-false, not-true}
use Rattle.face_plane.specs.Rings.{In}
use Rattle.face_tests.proofs.cutting.has_third.Goals as goal

-- the vertex at a place stands in the list
in_at : (r : List ℕ) (i : ℕ) → i < length r → In (get_or r i 0) r
in_at [] i h = absurd (omega (arith, h))
in_at (x ∷ r) zero h = inl refl
in_at (x ∷ r) (suc i) h = inr (in_at r i (omega (arith, h)))

pub returns-then-v-b : goal.returns-then-v-b
returns-then-v-b c = λ yes.
    let r = c.args.ring.now in
    let i = c.loop-v.v-index in
    let two : 2 ≤ length r = c.requires in
    let not_a = c.if-v-a.true in
    let not_b = c.if-v-b.true in
    record {
      a = get_or r 0 0;
      b = get_or r 1 0;
      c = get_or r i 0;
      a_in = in_at r 0 (omega (arith, two));
      b_in = in_at r 1 (omega (arith, two));
      c_in = in_at r i c.loop-v-test.true;
      ab = eqb-false (get_or r 0 0) (get_or r 1 0) (not-true (get_or r 0 0 == get_or r 1 0) yes);
      bc = λ e. not_b (sym e);
      ca = not_a;
    }
