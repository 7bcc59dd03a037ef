-- Runs, records and points that are those of what is given.
use Rattle.std.proofs.Common.{◌≡◌, ℕ, ◌+◌, ℤ, List, ◌∷◌, [], map, sym, ap, subst, ◌∙◌}
use Rattle.std.specs.Prelude.{slice_index}
use Rattle.mb_base.specs.declared.op.Op.{Op}
use Rattle.side_terms.specs.Sides.{Side}
use Rattle.side_terms.specs.Prescribed.{Numbers, p_kept, p_number, q_kept, q_number}
use Rattle.source_faces.specs.declared.lists.runs.CopyRange.{CopyRange}
use Rattle.source_faces.specs.declared.lists.stands.Stand.{Stand}
use Rattle.source_faces.specs.Runs.{runs_from}
use Rattle.source_faces.specs.Stands.{sorted_stands}
use Rattle.source_faces.specs.Given.{given_p_runs, given_q_runs, given_stands}
use Rattle.source_faces.specs.Parts.{HaveParts, both_parts}

-- the runs of P's vertices
pub p_runs_given : (op : Op) (n : Numbers) (ws : List ℤ) (rs made : List CopyRange) → rs ≡ made →
    made ≡ runs_from 0 (map (p_number op) ws) → ws ≡ n.w03 → rs ≡ given_p_runs op n
p_runs_given op n ws rs made e f g = e ∙ f ∙ ap (λ vs. runs_from 0 (map (p_number op) vs)) g

-- and of Q's, which follow
pub q_runs_given : (op : Op) (n : Numbers) (kept : List ℕ) (ws : List ℤ) (rs made : List CopyRange) → rs ≡ made →
    made ≡ runs_from (slice_index kept 0) (map (q_number op) ws) → ws ≡ n.w30 → kept ≡ p_kept op n ∷ q_kept op n ∷ [] → rs ≡ given_q_runs op n
q_runs_given op n kept ws rs made e f g k =
    e ∙ f ∙ ap (λ vs. runs_from (slice_index kept 0) (map (q_number op) vs)) g ∙ ap (λ ks. runs_from (slice_index ks 0) (map (q_number op) n.w30)) k

-- the records
pub stands_given : (op : Op) (p q : Side) (n : Numbers) (kept : List ℕ) (ss made : List Stand) → ss ≡ made →
    made ≡ sorted_stands op p q n.x12 n.x21 (slice_index kept 0 + slice_index kept 1) → kept ≡ p_kept op n ∷ q_kept op n ∷ [] →
    ss ≡ given_stands op p q n
stands_given op p q n kept ss made e f k = e ∙ f ∙ ap (λ ks. sorted_stands op p q n.x12 n.x21 (slice_index ks 0 + slice_index ks 1)) k

-- a side has its parts from the same lists
pub parts_same : (side : Side) (rs us : List CopyRange) (ps ts : List (List ℤ)) (x : ℕ) (ss vs : List Stand) → rs ≡ us → ps ≡ ts → ss ≡ vs →
    HaveParts side us ts x vs → HaveParts side rs ps x ss
parts_same side rs us ps ts x ss vs e f g h =
    subst (λ (l : List CopyRange). HaveParts side l ps x ss) (sym e)
    (subst (λ (l : List (List ℤ)). HaveParts side us l x ss) (sym f) (subst (λ (l : List Stand). HaveParts side us ts x l) (sym g) h))

-- and so have both
pub both_same : (p q : Side) (rs us ks ls : List CopyRange) (ps ts : List (List ℤ)) (ss vs : List Stand) → rs ≡ us → ks ≡ ls → ps ≡ ts →
    ss ≡ vs → both_parts p q rs ks ps ss ≡ both_parts p q us ls ts vs
both_same p q rs us ks ls ps ts ss vs e d f g = λ i. both_parts p q (e i) (d i) (f i) (g i)
