-- What a test knows so far of numbers that may be conserved.
use Rattle.std.proofs.Common.{◌≡◌, ℕ, ◌+◌, ◌*◌, ◌<◌, ℤ, pos, List, [], ◌∷◌, ◌++◌, length, take, get_or, ap, ◌∙◌}
use Rattle.std.specs.Prelude.{◌-ℤ◌, ◌+ℤ◌, neg_ℤ, cond, ◌==◌, ◌&&◌}
use Rattle.std.proofs.lemmas.List.{take_more}
use Rattle.chain_laws.specs.Sums.{total_push}
use Rattle.chain_terms.specs.Ranks.{start, finish}
use Rattle.chain_terms.specs.Sums.{total, upto}
use Rattle.mb_base.specs.declared.results.Hit.{Hit}
use Rattle.side_terms.specs.Conservation.{hit_number}

-- the number after one more hit
pub one_more_hit : (hs : List Hit) (e f i : ℕ) (h : Hit) → i < length hs → get_or hs i h ≡ h →
    hit_number (take (i + 1) hs) e f ≡ hit_number (take i hs) e f +ℤ cond ((h.edge == e) && (h.face == f)) h.number (pos 0)
one_more_hit hs e f i h below is =
    let step : take (i + 1) hs ≡ take i hs ++ h ∷ [] = rw is at (take_more hs i h below) in
    ap (λ (l : List Hit). hit_number l e f) step ∙ total_push (λ (k : Hit). cond ((k.edge == e) && (k.face == f)) k.number (pos 0)) (take i hs) h

-- the half-edges before this one agree
abbrev pub AgreeBelow : List (ℕ × ℕ) → ℕ → (ℕ → ℤ) → (ℕ → ℕ → ℤ) → ℕ → Type 0
AgreeBelow es faces winding number n = (h : ℕ) → h < n → (winding (finish es h) -ℤ winding (start es h)) ≡ neg_ℤ (total (number h) (upto faces))

-- the pairs of a face with the faces before this one agree
abbrev pub RowAgrees : (ℕ → ℕ → ℤ) → (ℕ → ℕ → ℤ) → ℕ → ℕ → Type 0
RowAgrees one other f n = (g : ℕ) → g < n → total (λ i. one (3 * f + i) g) (upto 3) ≡ total (λ i. other (3 * g + i) f) (upto 3)
