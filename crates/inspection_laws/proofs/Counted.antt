-- Counts of what has a property: there is only one; and that of the pairs of triangles that cut one another is what signs tell.
use Rattle.std.specs.Prelude.{◌≡◌, ℕ, List, Bool, true, false}
use Rattle.std.proofs.Common.{refl, sym, ◌∙◌}
use Rattle.mesh_terms.specs.Meshes.{Mesh}
use Rattle.inspection_terms.specs.Inspected.{IsCount, IsCutCount}
use Rattle.inspection_laws.specs.Counts.{cuts_of}
use Rattle.inspection_laws.proofs.Counting.{count-same}
use Rattle.inspection_laws.proofs.Near.{cut_count}

-- tests that say the same
same_test : (a b : Bool) → (a ≡ true → b ≡ true) → (b ≡ true → a ≡ true) → a ≡ b
same_test true b f g = sym (f refl)
same_test false true f g = absurd (let e : false ≡ true = g refl in cc)
same_test false false f g = refl

-- two counts of what has a property are one
pub one_count : {X : Type 0} (P : X → Type 0) (xs : List X) (n k : ℕ) → IsCount P xs n → IsCount P xs k → n ≡ k
one_count P xs n k h g =
    h.counted ∙ count-same h.test g.test xs (λ x. same_test (h.test x) (g.test x) (λ e. g.tells x (h.holds x e)) (λ e. h.tells x (g.holds x e)))
    ∙ sym g.counted

pub cuts_are_counted : (m : Mesh) → IsCutCount m (cuts_of m)
cuts_are_counted m = cut_count m (cuts_of m) refl
