-- What the code reads of clap's answers.
use Rattle.std.proofs.Common.{◌≡◌, ◌∙◌, ℕ, List, [], ◌∷◌, true, ◌⊎◌, inl, inr}
use Rattle.std.proofs.Common.{length, map, Option, Some, None, unwrap_or, codes, refl, ap, ap₂, sym, subst}
use Rattle.std.specs.Prelude.{String, string_bytes}
use Rattle.std.specs.Option.{option_and_then}
use Rattle.std.proofs.lemmas.Str.{IsUtf8-string_bytes}
use Rattle.run_terms.specs.Files.{Bytes}
use Rattle.clap.specs.Words.{App, HasMatchesOf, IsAmong, fault_of, found_of, is_simple, is_simple_and_free, matches_of, rows_of}
use Rattle.clap.specs.declared.error.kind.ErrorKind.{ErrorKind}
use Rattle.clap.specs.declared.error.kind.ErrorKind.TheVariants.{OutOfMemory}
use Rattle.clap.specs.declared.parser.matches.ArgMatches.{ArgMatches}
use Rattle.clap.specs.declared.parser.matches.Found.{Found}
use Rattle.clap.proofs.WalkLemmas.{first_value-rows, raw_values-rows}
use Rattle.play_terms.specs.Words.{Given, command, command_by, command_with, inside_of}
use Rattle.command_words.specs.Values.{listed}
use Rattle.command_words.specs.ClapGrammar.{grammar_app}
use Rattle.command_words.specs.Grammar.{IsNoCommand, given_by, given_in}
use Rattle.command_words.proofs.ReadByClap.{read_by_clap}
use Rattle.command_words.proofs.Walks.{AreTexts, IsFault, digits_given, given_rows, refused, taken}

-- the bytes of strings are texts
texts_of : {Z : Type 0} (ss : List (String Z)) → AreTexts (map string_bytes ss)
texts_of [] = tt
texts_of (s ∷ ss) = (IsUtf8-string_bytes s, texts_of ss)

-- the getters read the rows
given_in-rows : (f : Found) → given_in f ≡ given_rows (rows_of f)
given_in-rows f =
    ap₂ (λ (a : Option (List Bytes)) (b : Option Bytes). record { operands = unwrap_or a []; digits = listed b })
    (raw_values-rows f (codes "operands")) (first_value-rows f (codes "digits"))

-- clap's matches say what the words give
pub matches_read : {Z : Type 0} (a : App) (ss : List (String Z)) (m : ArgMatches) → a ≡ grammar_app
    → (is_simple_and_free a ≡ true → fault_of a (map string_bytes ss) ≡ []) → HasMatchesOf a (map string_bytes ss) m
    → given_by (map string_bytes ss) ≡ Some (given_in (found_of m))
matches_read a ss m ours none has =
    let ws = map string_bytes ss in
    let rows : rows_of (found_of m) ≡ matches_of grammar_app ws = subst (λ x. rows_of (found_of m) ≡ matches_of x ws) ours (has (ap is_simple ours)).0 in
    let no_fault : fault_of grammar_app ws ≡ [] = subst (λ x. fault_of x ws ≡ []) ours (none (ap is_simple_and_free ours)) in
    elim (read_by_clap ws (texts_of ss)) [
      | taken fine reads ↦ reads ∙ ap Some (sym (given_in-rows (found_of m) ∙ ap given_rows rows))
      | refused bad unlawful ↦ absurd (subst IsFault no_fault bad)
    ]

no_command : (o : Option Given) → digits_given o ≡ None → IsNoCommand o
no_command None none w = refl
no_command (Some g) none w = ap (option_and_then (command_with w g.operands)) none

-- words that clap refuses are of no command
pub refusal_read : {Z : Type 0} (a : App) (ss : List (String Z)) (k : ErrorKind) → a ≡ grammar_app
    → (is_simple_and_free a ≡ true → (k ≡ OutOfMemory) ⊎ IsAmong k (fault_of a (map string_bytes ss))) → (k ≡ OutOfMemory → ⊥)
    → IsNoCommand (given_by (map string_bytes ss))
refusal_read a ss k ours kinds memory =
    let ws = map string_bytes ss in
    elim (kinds (ap is_simple_and_free ours)) [
      | inl wanting ↦ absurd (memory wanting)
      | inr among ↦
          elim (read_by_clap ws (texts_of ss)) [
            | taken fine reads ↦ absurd (subst (IsAmong k) (ap (λ x. fault_of x ws) ours ∙ fine) among)
            | refused bad unlawful ↦ no_command (given_by ws) unlawful
          ]
    ]

-- ---- the command

-- the words by the first and the others
pub command_named : {Z : Type 0} (ws : List Bytes) (ss : List (String Z)) (name : String Z) (rest : List (String Z)) → map string_bytes ss ≡ ws → ss ≡ name ∷ rest
    → command ws ≡ command_by (string_bytes name) (given_by (map string_bytes rest))
command_named ws ss name rest same parts = ap command (sym same) ∙ ap (λ x. command (map string_bytes x)) parts

-- fewer or more operands than four
pub not_four : (k : ℕ) (operands : List Bytes) → (length operands ≡ 4 → ⊥) → inside_of k operands ≡ None
not_four k [] other = refl
not_four k (a ∷ []) other = refl
not_four k (a ∷ b ∷ []) other = refl
not_four k (a ∷ b ∷ c ∷ []) other = refl
not_four k (a ∷ b ∷ c ∷ d ∷ []) other = absurd (other refl)
not_four k (a ∷ b ∷ c ∷ d ∷ e ∷ rest) other = refl
