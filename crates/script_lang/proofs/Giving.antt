-- What a step gives names, and what the lines of a script leave them with it.
use Rattle.std.proofs.Common.{◌≡◌, Bool, true, false, List, [], ◌∷◌, ◌++◌, map, Option, Some, None, refl, ap, sym, ◌∙◌}
use Rattle.std.specs.Prelude.{if◌then◌else◌, bytes_eq}
use Rattle.std.proofs.lemmas.List.{map-append}
use Rattle.run_terms.specs.Files.{Bytes}
use Rattle.play_terms.specs.Steps as terms
use Rattle.play_terms.specs.Steps.{given_kind, gives, is_that, new_kind, new_name, or_before}
use Rattle.play_terms.specs.declared.held.HeldKind.{HeldKind}
use Rattle.play_terms.proofs.GivenKinds.{given_more}
use Rattle.script_lang.specs.Names.{with_more}
use Rattle.script_lang.specs.Steps.{line_of, step_of}
use Rattle.script_lang.specs.declared.steps.Line.{Line}

-- a step that gives this name something
pub gives_some : (step : terms.Step) (name : Bytes) (had : Bytes → Option HeldKind) (w : Bytes) →
    new_name step ≡ Some name → with_more name (new_kind step) had w ≡ or_before (gives w step) (had w)
gives_some step name had w is =
    by (bytes_eq w name) ∙ sym (ap (λ n. or_before (if is_that w n then Some (new_kind step) else None) (had w)) is)
  where
    by : (b : Bool) → (if b then Some (new_kind step) else had w) ≡ or_before (if b then Some (new_kind step) else None) (had w)
    by true = refl
    by false = refl

-- one that gives no name anything
pub gives_none : (step : terms.Step) (had : Option HeldKind) (w : Bytes) → new_name step ≡ None → had ≡ or_before (gives w step) had
gives_none step had w is = sym (ap (λ n. or_before (if is_that w n then Some (new_kind step) else None) had) is)

-- one line more
pub given_next : (w : Bytes) (ls : List Line) (l : Line) (old new : Option HeldKind) → new ≡ or_before (gives w (step_of l.step)) old → old ≡ given_kind w (map line_of ls)
    → new ≡ given_kind w (map line_of (ls ++ l ∷ []))
given_next w ls l old new is known =
    is ∙ ap (or_before (gives w (step_of l.step))) known ∙ sym (given_more w (map line_of ls) (line_of l)) ∙ sym (ap (given_kind w) (map-append line_of ls (l ∷ [])))
