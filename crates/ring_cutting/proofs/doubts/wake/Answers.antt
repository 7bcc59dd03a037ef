use Rattle.std.proofs.Common.{ℕ, ◌≡◌, ◌+◌, ◌<◌, List, [], ◌∷◌, true, take, length, get_or, sym, subst, ap, inl, inr, ◌∙◌}
use Rattle.std.proofs.lemmas.List.{take_more, take_all}
use Rattle.std.specs.Ordering.{nat_cmp}
use Rattle.std.specs.BTreeSet.{contains}
use Rattle.face_plane.specs.Rings.{In}
use Rattle.ring_cutting.specs.Left.{lives}
use Rattle.ring_cutting.proofs.Members.{in_either}
use Rattle.ring_cutting.proofs.doubts.wake.Goals as goal

-- one place more
in_more : (q k : ℕ) (xs : List ℕ) (P : Type 0) → k < length xs → (In q (take k xs) → P) → (q ≡ get_or xs k 0 → P) → In q (take (k + 1) xs) → P
in_more q k xs P less before here h = elim (in_either q (take k xs) (get_or xs k 0 ∷ []) (subst (In q) (take_more xs k 0 less) h)) as (λ _. P) [
  | inl i ↦ before i
  | inr i ↦ elim i as (λ _. P) [
    | inl e ↦ here e
    | inr n ↦ elim n [ ]
  ]
]

pub loop-k-preserved : goal.loop-k-preserved
loop-k-preserved c =
    let h = c.loop-k.invariant in
    let xs = c.args.places.now in
    let k = c.loop-k.k in
    let new = c.wake_one.new.doubtful in
    let one = c.in_ok-wake_one.ensures in
    record {
      woken = λ q i l. in_more q k xs (contains nat_cmp new q ≡ true) c.loop-k-test.true (λ w. one.kept q (h.woken q w l))
          (λ e. ap (contains nat_cmp new) e ∙ one.woken (ap (lives c.args.living.now) (sym e) ∙ l)) i;
      kept = λ q y. one.kept q (h.kept q y);
      known = λ f. one.known (h.known f);
    }

pub returns-clause-woken : goal.returns-clause-woken
returns-clause-woken c = λ q i l.
    let all = take_all c.loop-k.k c.args.places.now c.loop-k-test.false in
    c.loop-k.invariant.woken q (subst (In q) (sym all) i) l
