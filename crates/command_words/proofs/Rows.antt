-- What the rows say after one more use.
use Rattle.std.proofs.Common.{◌≡◌, ◌∙◌, List, [], ◌∷◌, ◌++◌, true, false, Option, Some, None, is_some, option_map, unwrap_or, codes, refl, ap, ap₂, sym, inl, inr}
use Rattle.std.specs.List.{find}
use Rattle.std.specs.Option.{option_and_then}
use Rattle.std.specs.Prelude.{slice_get}
use Rattle.std.specs.Str.{bytes_eq}
use Rattle.std.proofs.lemmas.Bool.{cases_Bool, or_parts}
use Rattle.std.proofs.lemmas.Slice.Eq.{bytes_eq-Decides}
use Rattle.run_terms.specs.Files.{Bytes}
use Rattle.clap.specs.Words.{Row, all_of}
use Rattle.clap.specs.Walk.{has_row, with_values, without}
use Rattle.clap.specs.declared.builder.value_parser.Reading.{Reading}
use Rattle.clap.specs.declared.builder.value_parser.Reading.TheVariants.{AsWritten}
use Rattle.clap.specs.declared.parser.matches.ValueSource.{ValueSource}
use Rattle.clap.specs.declared.parser.matches.ValueSource.TheVariants.{CommandLine}
use Rattle.play_terms.specs.Words.{Given}
use Rattle.command_words.specs.Values.{listed}
use Rattle.command_words.proofs.Walks.{Tells, are_some, digits_use, one_operand, one_value, operand_use, with_use}

abbrev row_of : Bytes → List Row → Option Row
row_of id rows = find (λ r. bytes_eq r.id id) rows

has_row-row_of : (id : Bytes) (rows : List Row) → has_row id rows ≡ is_some (row_of id rows)
has_row-row_of id [] = refl
has_row-row_of id (r ∷ rs) = elim (cases_Bool (bytes_eq r.id id)) [ inl is ↦ rw is refl | inr other ↦ rw other (has_row-row_of id rs) ]

module _ (how : Reading) (s : ValueSource) (vs : List Bytes) where
  -- the values of the argument that was used
  values-used : (id : Bytes) (rows : List Row) → bytes_eq id id ≡ true → unwrap_or (all_of id (with_values id how s vs rows)) [] ≡ unwrap_or (all_of id rows) [] ++ vs
  values-used id [] same = rw same refl
  values-used id (r ∷ rs) same =
      elim (cases_Bool (bytes_eq r.id id)) [ inl is ↦ rw is (rw is refl) | inr other ↦ rw other (rw other (values-used id rs same)) ]

  -- a row of another stays
  row_of-other : (id other : Bytes) (rows : List Row) → bytes_eq id other ≡ false → row_of other (with_values id how s vs rows) ≡ row_of other rows
  row_of-other id other [] apart = rw apart refl
  row_of-other id other (r ∷ rs) apart =
      elim (cases_Bool (bytes_eq r.id id)) [
        | inl is ↦
            let away : bytes_eq r.id other ≡ false = ap (λ x. bytes_eq x other) ((bytes_eq-Decides r.id id).0 is) ∙ apart in
            rw (is, away) refl
        | inr is_not ↦
            let rest = row_of-other id other rs apart in
            rw is_not (elim (cases_Bool (bytes_eq r.id other)) [ inl here ↦ rw here refl | inr away ↦ rw away rest ])
      ]

  -- a first use makes a row
  row_of-first : (id : Bytes) (rows : List Row) → bytes_eq id id ≡ true → has_row id rows ≡ false
      → row_of id (with_values id how s vs (without id rows)) ≡ Some (record { id = id; values = vs; count = None; source = Some s; reading = how })
  row_of-first id [] same none = rw same refl
  row_of-first id (r ∷ rs) same none =
      let parts = or_parts (bytes_eq r.id id) (has_row id rs) none in
      rw parts.0 (rw parts.0 (rw parts.0 (row_of-first id rs same parts.1)))

without-none : (id : Bytes) (rows : List Row) → has_row id rows ≡ false → without id rows ≡ rows
without-none id [] none = refl
without-none id (r ∷ rs) none =
    let parts = or_parts (bytes_eq r.id id) (has_row id rs) none in
    rw parts.0 (ap (λ x. r ∷ x) (without-none id rs parts.1))

-- one more operand
pub tells-operand : (rows : List Row) (g : Given) (w : Bytes) → Tells rows g → Tells (with_use (operand_use w) rows) (one_operand g w)
tells-operand rows g w t =
    let digits = row_of-other AsWritten CommandLine (w ∷ []) (codes "operands") (codes "digits") rows refl in
    record {
      given = ap₂ (λ os ds. record { operands = os; digits = ds })
          (values-used AsWritten CommandLine (w ∷ []) (codes "operands") rows refl ∙ ap (λ (f : Given). f.operands ++ w ∷ []) t.given)
          (ap (λ o. listed (option_and_then (λ (r : Row). slice_get r.values 0) o)) digits ∙ ap (λ (f : Given). f.digits) t.given);
      met = has_row-row_of (codes "digits") (with_use (operand_use w) rows) ∙ ap is_some digits ∙ sym (has_row-row_of (codes "digits") rows) ∙ t.met;
    }

none_given : (vs : List Bytes) → are_some vs ≡ false → vs ≡ []
none_given [] none = refl
none_given (v ∷ vs) none = cc

-- the first value of the digits
pub tells-value : (rows : List Row) (g : Given) (v : Bytes) → Tells rows g → has_row (codes "digits") rows ≡ false
    → Tells (with_use (digits_use (v ∷ [])) rows) (one_value g v)
tells-value rows g v t none =
    let first = row_of-first AsWritten CommandLine (v ∷ []) (codes "digits") rows refl none in
    let before : g.digits ≡ [] = none_given g.digits (sym t.met ∙ none) in
    let operands = row_of-other AsWritten CommandLine (v ∷ []) (codes "digits") (codes "operands") (without (codes "digits") rows) refl
    ∙ ap (row_of (codes "operands")) (without-none (codes "digits") rows none) in
    record {
      given = ap₂ (λ os ds. record { operands = os; digits = ds })
          (ap (λ o. unwrap_or (option_map (λ (r : Row). r.values) o) []) operands ∙ ap (λ (f : Given). f.operands) t.given)
          (ap (λ o. listed (option_and_then (λ (r : Row). slice_get r.values 0) o)) first ∙ sym (ap (λ ds. ds ++ v ∷ []) before));
      met = has_row-row_of (codes "digits") (with_use (digits_use (v ∷ [])) rows) ∙ ap is_some first ∙ sym (ap (λ ds. are_some (ds ++ v ∷ [])) before);
    }
