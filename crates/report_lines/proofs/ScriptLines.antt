-- The parts of the lines that the steps of a script say.
use Rattle.std.proofs.Common.{◌≡◌, ◌++◌, [], ◌∷◌, codes, ap, sym, ◌∙◌, append_assoc, append-nil}
use Rattle.text_terms.specs.Written.{line_of}
use Rattle.run_terms.specs.Files.{Bytes}
use Rattle.mb_base.specs.declared.op.Op.{Op}
use Rattle.play_terms.specs.Combined.{Combined, Combined2}
use Rattle.play_terms.specs.ScriptCommands.{op_word, op2_word}
use Rattle.play_terms.specs.ScriptLines.{combine2_line, combine_line, combined2_text, combined_text, operation2_text, operation_text}

-- five texts, joined from the left and from the right
from_right : (a b c d e : Bytes) → a ++ b ++ c ++ d ++ e ≡ a ++ (b ++ (c ++ (d ++ e)))
from_right a b c d e = append_assoc (a ++ b ++ c) d e ∙ append_assoc (a ++ b) c (d ++ e) ∙ append_assoc a b (c ++ (d ++ e))

-- four texts before a line
pub four_before : (a b c d text line : Bytes) → line ≡ line_of text → a ++ (b ++ (c ++ (d ++ (line ++ [])))) ≡ line_of (a ++ b ++ c ++ d ++ text)
four_before a b c d text line is =
    sym (from_right a b c d (line ++ [])) ∙ ap (λ t. a ++ b ++ c ++ d ++ t) (append-nil line ∙ is) ∙ sym (append_assoc (a ++ b ++ c ++ d) text (10 ∷ []))

-- two texts before a line
pub two_before : (a b text line : Bytes) → line ≡ line_of text → a ++ (b ++ (line ++ [])) ≡ line_of (a ++ b ++ text)
two_before a b text line is = sym (append_assoc a b (line ++ [])) ∙ ap (λ t. a ++ b ++ t) (append-nil line ∙ is) ∙ sym (append_assoc (a ++ b) text (10 ∷ []))

-- the word of an operation with what stands round it, before a text
op_parts : (op : Op) (left right text : Bytes) → (codes " = " ++ op_word op ++ codes " ") ++ (left ++ (codes " " ++ (right ++ text))) ≡ codes " = "
    ++ (operation_text op left right ++ text)
op_parts op left right text =
    let word = op_word op in
    let rest = left ++ (codes " " ++ (right ++ text)) in
    append_assoc (codes " = " ++ word) (codes " ") rest
    ∙ ap (λ t. codes " = " ++ t) (sym (append_assoc (word ++ codes " " ++ left ++ codes " ") right text ∙ from_right word (codes " ") left (codes " ") (right ++ text)))

-- the parts of the line that reports an operation
pub combined_parts : (op : Op) (name left right line : Bytes) (o : Combined) → line ≡ line_of (combined_text o)
    → name ++ ((codes " = " ++ op_word op ++ codes " ") ++ (left ++ (codes " " ++ (right ++ (line ++ []))))) ≡ combine_line op name left right o
combined_parts op name left right line o is =
    ap (λ t. name ++ t) (op_parts op left right (line ++ []))
    ∙ ap (λ t. name ++ (codes " = " ++ (operation_text op left right ++ t))) (append-nil line ∙ is)
    ∙ sym (from_right name (codes " = ") (operation_text op left right) (combined_text o) (10 ∷ []))

-- and that of an operation on outlines
op2_parts : (op : Op) (left right text : Bytes) →
    (codes " = " ++ op2_word op ++ codes " ") ++ (left ++ (codes " " ++ (right ++ text))) ≡ codes " = " ++ (operation2_text op left right ++ text)
op2_parts op left right text =
    let word = op2_word op in
    let rest = left ++ (codes " " ++ (right ++ text)) in
    append_assoc (codes " = " ++ word) (codes " ") rest
    ∙ ap (λ t. codes " = " ++ t) (sym (append_assoc (word ++ codes " " ++ left ++ codes " ") right text ∙ from_right word (codes " ") left (codes " ") (right ++ text)))

-- and of one that reports an operation on outlines
pub combined2_parts : (op : Op) (name left right line : Bytes) (o : Combined2) → line ≡ line_of (combined2_text o)
    → name ++ ((codes " = " ++ op2_word op ++ codes " ") ++ (left ++ (codes " " ++ (right ++ (line ++ []))))) ≡ combine2_line op name left right o
combined2_parts op name left right line o is =
    ap (λ t. name ++ t) (op2_parts op left right (line ++ []))
    ∙ ap (λ t. name ++ (codes " = " ++ (operation2_text op left right ++ t))) (append-nil line ∙ is)
    ∙ sym (from_right name (codes " = ") (operation2_text op left right) (combined2_text o) (10 ∷ []))
