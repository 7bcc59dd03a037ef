-- A text that is written line by line is cut into those lines.
use Rattle.std.proofs.Common.{◌≡◌, ℕ, ◌<◌, Bool, false, cond, List, [], ◌∷◌, ◌++◌, map, refl, ap, ◌∙◌, arith, append_assoc}
use Rattle.std.specs.Prelude.{◌==◌}
use Rattle.std.specs.List.{All, flat_map}
use Rattle.std.proofs.lemmas.Bool.Decides.{nat_tests}
use Rattle.std.proofs.lemmas.List.Elements.{All-head, All-tail}
use Rattle.text_terms.specs.Lines.{add_first, raw_lines, without_cr, lines_of}
use Rattle.text_terms.specs.Written.{line_of}
use Rattle.format_laws.proofs.Bytes.{Above, Above-lower}

-- a byte above n is not n
other_byte : (n c : ℕ) → n < c → (c == n) ≡ false
other_byte n c more = grind (arith, nat_tests)

-- a line ends at its line feed
raw_lines-line : (line rest : List ℕ) → Above 10 line → raw_lines (line ++ 10 ∷ rest) ≡ line ∷ raw_lines rest
raw_lines-line [] rest above = refl
raw_lines-line (c ∷ cs) rest above =
    ap (λ (b : Bool). cond b ([] ∷ raw_lines (cs ++ 10 ∷ rest)) (add_first c (raw_lines (cs ++ 10 ∷ rest)))) (other_byte 10 c above.0)
    ∙ ap (add_first c) (raw_lines-line cs rest above.1)

-- without a CR nothing is dropped
without_cr-line : (line : List ℕ) → Above 13 line → without_cr line ≡ line
without_cr-line [] above = refl
without_cr-line (c ∷ []) above = ap (λ (b : Bool). cond b [] (c ∷ [])) (other_byte 13 c above.0)
without_cr-line (c ∷ d ∷ cs) above = ap (λ (xs : List ℕ). c ∷ xs) (without_cr-line (d ∷ cs) above.1)

-- a written line is the first line
pub lines_of-line : (line rest : List ℕ) → Above 13 line → lines_of (line_of line ++ rest) ≡ line ∷ lines_of rest
lines_of-line line rest above =
    ap lines_of (append_assoc line (10 ∷ []) rest)
    ∙ ap (λ (ls : List (List ℕ)). map without_cr ls) (raw_lines-line line rest (Above-lower 10 13 line (omega arith) above))
    ∙ ap (λ (l : List ℕ). l ∷ lines_of rest) (without_cr-line line above)

-- so are the lines of a list
pub lines_of-each : {X : Type 0} (P : X → Type 0) (text : X → List ℕ) → ((x : X) → P x → Above 13 (text x)) → (xs : List X) → All P xs → (rest : List ℕ) →
    lines_of (flat_map (λ x. line_of (text x)) xs ++ rest) ≡ map text xs ++ lines_of rest
lines_of-each P text above [] all rest = refl
lines_of-each P text above (x ∷ xs) all rest =
    ap lines_of (append_assoc (line_of (text x)) (flat_map (λ x. line_of (text x)) xs) rest)
    ∙ lines_of-line (text x) (flat_map (λ x. line_of (text x)) xs ++ rest) (above x (All-head P x xs all))
    ∙ ap (λ (ls : List (List ℕ)). text x ∷ ls) (lines_of-each P text above xs (All-tail P x xs all) rest)
