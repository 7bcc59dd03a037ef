use Rattle.std.proofs.Common.{◌≡◌, ℕ, ◌<◌, ◌≤◌, Bool, true, false, List, [], ◌∷◌, length, take, drop, get_or, refl, arith, add-one}
use Rattle.std.specs.Prelude.{◌==◌}
use Rattle.std.proofs.Math.Seq.{take-length, drop-length}
use Rattle.text_terms.specs.Lines.{raw_lines}
use Rattle.grid_number.proofs.LineSteps.{raw_lines-cut, raw_lines-last}
use Rattle.grid_number.proofs.lines.cut_line.Goals as goal

-- a test that is not passed fails
fails : (b : Bool) → (b ≡ true → ⊥) → b ≡ false
fails true h = absurd (h refl)
fails false h = refl

-- a text without a line feed is one line, and nothing follows
one_line : (text : List ℕ) → 0 < length text → ((k : ℕ) → 0 ≤ k → k < length text → (get_or text k 0 == 10) ≡ true → ⊥) →
    raw_lines text ≡ take (length text) text ∷ raw_lines (drop (length text) text)
one_line [] some none = absurd (omega arith)
one_line (c ∷ cs) some none = rw (take-length (c ∷ cs), drop-length (c ∷ cs)) (raw_lines-last c cs (λ k h. fails _ (none k (omega arith) h)))

pub returns-in-None-clause-lines : goal.returns-in-None-clause-lines
returns-in-None-clause-lines c = rw (c.split_at.ensures.front, c.split_at.ensures.back) (one_line c.args.text.now c.requires c.in-None.ensures)

pub returns-in-Some-clause-lines : goal.returns-in-Some-clause-lines
returns-in-Some-clause-lines c =
    let found = c.in-Some.ensures in
    rw (c.split_at-in-Some.ensures.front, c.split_at-in-Some-2.ensures.back, add-one)
    (raw_lines-cut c.in-Some.end c.args.text.now found.0.high (λ k h. fails _ (found.0.before k (omega arith) h)) found.1)
