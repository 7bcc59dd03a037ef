use Rattle.std.proofs.Common.{◌≡◌, ℕ, ◌-◌, List, ◌∷◌, ◌++◌, take, drop, ap, ◌∙◌, sym, arith}
use Rattle.std.proofs.lemmas.List.{take-append-drop}
use Rattle.text_terms.specs.Numbers.{digits_value}
use Rattle.obj_text.specs.Plain.{SpellsOn, BeginsIndex}
use Rattle.obj_text.proofs.plain.next_index.Goals as goal

-- digits behind a space
index_first : (text digits rest : List ℕ) (number count : ℕ) → text ≡ 32 ∷ digits → SpellsOn 0 digits number count → (number ≡ 0 → ⊥) →
    rest ≡ drop count digits → BeginsIndex text (number - 1) rest
index_first text digits rest number count behind spells some left =
    let word = take count digits in
    let value : digits_value word ≡ number = sym spells.spelled in
    record {
      word = word;
      split = behind ∙ ap (λ (ds : List ℕ). 32 ∷ ds) (sym (take-append-drop count digits) ∙ ap (λ (ds : List ℕ). word ++ ds) (sym left));
      index = record { digits = spells.digits; spelled = omega (arith, value) };
    }

pub returns : goal.returns
returns c =
    index_first c.args.text.now c.in_ok-text.text.now c.split_at.result.1.now c.leading_digits-number.result.0 c.leading_digits-number.result.1 c.in_ok-text.ensures
    c.leading_digits-number.ensures.spelled c.if-number-eq0.false c.split_at.ensures.back
