-- What words give, one after the other.
use Rattle.std.proofs.Common.{◌≡◌, ◌∙◌, List, [], ◌∷◌, ◌++◌, true, false, not, ◌||◌, ◌⊎◌, inl, inr, Option, Some, None, codes, drop, refl, ap, append_assoc, append-nil}
use Rattle.std.specs.Str.{bytes_eq}
use Rattle.std.proofs.lemmas.Bool.{cases_Bool}
use Rattle.run_terms.specs.Files.{Bytes}
use Rattle.play_terms.specs.Words.{Given, after_end, before_end, begins_with, digits_of, given, is_option_end, with_digits, with_more, with_operand, with_word}
use Rattle.command_words.specs.Grammar.{given_by}
use Rattle.command_words.proofs.Walks.{are_some, digits_given, joined, one_operand, one_value}

-- ---- these first, then those

pub joined-nothing : (o : Option Given) → joined (record { operands = []; digits = [] }) o ≡ o
joined-nothing None = refl
joined-nothing (Some g) = refl

pub joined-end : (g : Given) → joined g (Some (record { operands = []; digits = [] })) ≡ Some g
joined-end g = rw (append-nil g.operands, append-nil g.digits) refl

-- an operand, or a value, comes first in the rest
pub joined-operand : (g : Given) (w : Bytes) (rest : Option Given) → joined (one_operand g w) rest ≡ joined g (with_operand w rest)
joined-operand g w None = refl
joined-operand g w (Some f) = ap (λ ws. Some (record { operands = ws; digits = g.digits ++ f.digits })) (append_assoc g.operands (w ∷ []) f.operands)

pub joined-value : (g : Given) (v : Bytes) (rest : Option Given) → joined (one_value g v) rest ≡ joined g (with_digits v rest)
joined-value g v None = refl
joined-value g v (Some f) = ap (λ vs. Some (record { operands = g.operands ++ f.operands; digits = vs })) (append_assoc g.digits (v ∷ []) f.digits)

-- ---- digits that are none

two_values : (v w : Bytes) (more : List Bytes) → digits_of (v ∷ w ∷ more) ≡ None
two_values [] w more = refl
two_values (c ∷ []) w more = refl
two_values (c ∷ e ∷ cs) w more = refl

-- a value behind another, or one that is no digit
no_digits : (vs : List Bytes) (v : Bytes) (more : List Bytes) → (are_some vs ≡ true) ⊎ (digits_of (v ∷ []) ≡ None) → digits_of (vs ++ v ∷ more) ≡ None
no_digits [] v more (inl some) = cc
no_digits [] v [] (inr none) = none
no_digits [] v (w ∷ more) (inr none) = two_values v w more
no_digits (x ∷ []) v more why = two_values x v more
no_digits (x ∷ y ∷ vs) v more why = two_values x y (vs ++ v ∷ more)

pub no_value : (g : Given) (v : Bytes) (rest : Option Given) → (are_some g.digits ≡ true) ⊎ (digits_of (v ∷ []) ≡ None)
    → digits_given (joined g (with_digits v rest)) ≡ None
no_value g v None why = refl
no_value g v (Some f) why = no_digits g.digits v f.digits why

-- ---- a word first

-- operands after the end of options stay behind a word
more-operand : (ws : List Bytes) (w : Bytes) (o : Option Given) → with_more ws (with_operand w o) ≡ with_operand w (with_more ws o)
more-operand ws w None = refl
more-operand ws w (Some g) = refl

more-digits : (ws : List Bytes) (v : Bytes) (o : Option Given) → with_more ws (with_digits v o) ≡ with_digits v (with_more ws o)
more-digits ws v None = refl
more-digits ws v (Some g) = refl

more-word : (ws : List Bytes) (w : Bytes) (o : Option Given) → with_more ws (with_word w o) ≡ with_word w (with_more ws o)
more-word ws w o =
    elim (cases_Bool (begins_with (codes "--digits=") w)) [
      | inl is ↦ rw is (more-digits ws (drop 9 w) o)
      | inr other ↦
          rw other
          (elim (cases_Bool (bytes_eq w (codes "-") || not (begins_with (codes "-") w))) [ inl is ↦ rw is (more-operand ws w o) | inr none ↦ rw none refl ])
    ]

given_word : (w : Bytes) (ws : List Bytes) → bytes_eq w (codes "--digits") ≡ false → given (w ∷ ws) ≡ with_word w (given ws)
given_word w [] other = rw other refl
given_word w (v ∷ ws) other = rw other refl

-- a word before the end of options that takes no next word
pub given_by-word : (w : Bytes) (ws : List Bytes) → is_option_end w ≡ false → bytes_eq w (codes "--digits") ≡ false → given_by (w ∷ ws) ≡ with_word w (given_by ws)
given_by-word w ws unended other = rw unended (ap (with_more (after_end ws)) (given_word w (before_end ws) other) ∙ more-word (after_end ws) w (given (before_end ws)))

-- --digits with its value, also where that is another option
pub given_by-value : (v : Bytes) (ws : List Bytes) → is_option_end v ≡ false → given_by (codes "--digits" ∷ v ∷ ws) ≡ with_digits v (given_by ws)
given_by-value v ws unended = rw unended (more-digits (after_end ws) v (given (before_end ws)))

pub given_by-attached : (v : Bytes) (ws : List Bytes) → given_by ((codes "--digits=" ++ v) ∷ ws) ≡ with_digits v (given_by ws)
given_by-attached v ws = given_by-word (codes "--digits=" ++ v) ws refl refl
