-- Edges of regions that are added label by label.
use Rattle.std.proofs.Common.{◌≡◌, ℕ, ◌+◌, ◌-◌, ◌<◌, min, List, [], ◌∷◌, ◌++◌, drop, get_or, length, sym, ap, ◌∙◌, append_assoc}
use Rattle.std.proofs.lemmas.List.{drop_more}
use Rattle.sheet_terms.specs.Numbers.{above_zero}
use Rattle.plane_sheets.specs.declared.borders.RegionEdge.{RegionEdge}
use Rattle.plane_sheets.specs.declared.side_numbers.SideNumbers.{SideNumbers}
use Rattle.plane_sheets.specs.Dealt.{dealt_edges, levels, run}
use Rattle.plane_sheets.specs.Sides.{no_sides}

-- both runs of an edge, one after the other
pub both_runs : (l x y a b : ℕ) (old mid new : List RegionEdge) → mid ≡ old ++ run l y x (a ∷ b ∷ []) → new ≡ mid ++ run l x y (b ∷ a ∷ []) → new ≡ old ++ levels l x y a b
both_runs l x y a b old mid new first second =
    second ∙ ap (λ m. m ++ run l x y (b ∷ a ∷ [])) first ∙ append_assoc old (run l y x (a ∷ b ∷ [])) (run l x y (b ∷ a ∷ []))

-- what is dealt to the next label, and what is left for later ones
pub dealt_next : (most a b left right : ℕ) (ss : List SideNumbers) (i x y u v : ℕ) (old new all : List RegionEdge) → i < length ss →
    x ≡ min left (above_zero (get_or ss i no_sides).left) → y ≡ min right (above_zero (get_or ss i no_sides).right) → u ≡ min x most → v ≡ min y most →
    new ≡ old ++ levels (get_or ss i no_sides).label u v a b → old ++ dealt_edges most a b left right (drop i ss) ≡ all →
    new ++ dealt_edges most a b (left - x) (right - y) (drop (i + 1) ss) ≡ all
dealt_next most a b left right ss i x y u v old new all below dx dy du dv grown before =
    let s = get_or ss i no_sides in
    let rest = drop (i + 1) ss in
    let f : ℕ → ℕ → ℕ → ℕ → List RegionEdge = λ x y u v. levels s.label u v a b ++ dealt_edges most a b (left - x) (right - y) rest in
    let mx = min left (above_zero s.left) in
    let my = min right (above_zero s.right) in
    ap (λ l. l ++ dealt_edges most a b (left - x) (right - y) rest) grown ∙ append_assoc old (levels s.label u v a b) (dealt_edges most a b (left - x) (right - y) rest)
    ∙ ap (λ l. old ++ l)
    (ap (f x y u) dv ∙ ap (λ n. f x y n (min y most)) du ∙ ap (λ n. f n y (min n most) (min y most)) dx ∙ ap (λ n. f mx n (min mx most) (min n most)) dy
    ∙ sym (ap (dealt_edges most a b left right) (drop_more ss i no_sides below)))
    ∙ before
