-- Marks of the points that triangles use.
use Rattle.std.proofs.Common.{◌≡◌, ℕ, ◌<◌, Bool, true, false, List, [], ◌∷◌, ◌++◌, length, get_or, set, refl, ap, ◌∙◌, sym, arith, ⊎_elim, get_or-set_same, get_or-set_other}
use Rattle.std.specs.Prelude.{◌==◌, ◌||◌}
use Rattle.std.proofs.lemmas.Bool.{cases_eq}
use Rattle.std.proofs.lemmas.List.{length-set}
use Rattle.std.proofs.lemmas.List.Folds.{list_any-append}
use borrow.Author.Tests.{eq-eqb, ne_eqb}
use Rattle.mesh_terms.specs.Meshes.{Triple, IsBelow, has, is_used}
use Rattle.unused_points.specs.Used.{MarksUsed}

-- the marks after one is set
set_mark : (marks : List Bool) (i v : ℕ) → i < length marks → get_or (set marks i true) v false ≡ ((i == v) || get_or marks v false)
set_mark marks i v h = ⊎_elim same other (cases_eq v i) where
  same : v ≡ i → get_or (set marks i true) v false ≡ ((i == v) || get_or marks v false)
  same e = rw (e, eq-eqb i i refl) (get_or-set_same marks i true false h)

  other : (v ≡ i → ⊥) → get_or (set marks i true) v false ≡ ((i == v) || get_or marks v false)
  other e = rw (ne_eqb i v (λ f. e (sym f))) (get_or-set_other marks i v true false e)

-- the order in which a mark may be found does not count
or_shuffled : (a b c u : Bool) → (c || (b || (a || u))) ≡ (u || (((a || b) || c) || false))
or_shuffled a b c u = grind arith

-- three marks set, one after the other
set_marks : (marks : List Bool) (t : Triple) (n v : ℕ) → length marks ≡ n → IsBelow n t →
    get_or (set (set (set marks t.0 true) t.1 true) t.2 true) v false ≡ ((t.2 == v) || ((t.1 == v) || ((t.0 == v) || get_or marks v false)))
set_marks marks t n v each below =
    let one : length (set marks t.0 true) ≡ n = length-set marks t.0 true ∙ each in
    let two : length (set (set marks t.0 true) t.1 true) ≡ n = length-set (set marks t.0 true) t.1 true ∙ one in
    set_mark (set (set marks t.0 true) t.1 true) t.2 v (omega (arith, below.c))
    ∙ ap (λ (b : Bool). (t.2 == v) || b) (set_mark (set marks t.0 true) t.1 v (omega (arith, below.b)))
    ∙ ap (λ (b : Bool). (t.2 == v) || ((t.1 == v) || b)) (set_mark marks t.0 v (omega (arith, below.a)))

-- the marks of one more triangle
pub MarksUsed-more : (n : ℕ) (ts : List Triple) (t : Triple) (marks : List Bool) → MarksUsed n ts marks → IsBelow n t →
    MarksUsed n (ts ++ t ∷ []) (set (set (set marks t.0 true) t.1 true) t.2 true)
MarksUsed-more n ts t marks m below = record {
  each = length-set (set (set marks t.0 true) t.1 true) t.2 true ∙ length-set (set marks t.0 true) t.1 true ∙ length-set marks t.0 true ∙ m.each;
  used = λ v h.
      set_marks marks t n v m.each below
      ∙ ap (λ (b : Bool). (t.2 == v) || ((t.1 == v) || ((t.0 == v) || b))) (m.used v h)
      ∙ or_shuffled (t.0 == v) (t.1 == v) (t.2 == v) (is_used ts v)
      ∙ sym (list_any-append (λ u. has u v) ts (t ∷ []));
}
