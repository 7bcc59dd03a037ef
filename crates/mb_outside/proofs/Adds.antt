-- Texts that reach a sink piece by piece.
use Rattle.std.proofs.Common.{◌≡◌, ℕ, ◌+◌, ◌-◌, ◌≤◌, arith, length, length-take-le, take-append-drop, List, ◌++◌, take, drop, Option, Some, None, [], ap, sym, ◌∙◌, append_assoc, append-nil, refl}
use Rattle.std.specs.Option.{option_map}
use Rattle.std.proofs.Math.Seq.{take-add}
use Rattle.run_terms.specs.Files.{Bytes}
use Rattle.mb_outside.specs.Sinks.{AddsPart, TakesPart}

-- after the first bytes of a text the first of the rest came
pub adds_on : (base text piece : List ℕ) (done n : ℕ) → piece ≡ drop done text → (base ++ take done text) ++ take n piece ≡ base ++ take (done + n) text
adds_on base text piece done n from =
    ap (λ x. (base ++ take done text) ++ take n x) from ∙ append_assoc base (take done text) (take n (drop done text)) ∙ ap (λ x. base ++ x) (sym (take-add done n text))

-- the same where the bytes may not be told
pub told_on : (o old new : Option (List ℕ)) (text piece : List ℕ) (done n : ℕ) → piece ≡ drop done text
    → old ≡ option_map (λ b. b ++ take done text) o → new ≡ option_map (λ b. b ++ take n piece) old → new ≡ option_map (λ b. b ++ take (done + n) text) o
told_on None old new text piece done n from was is = is ∙ ap (option_map (λ b. b ++ take n piece)) was
told_on (Some base) old new text piece done n from was is = is ∙ ap (option_map (λ b. b ++ take n piece)) was ∙ ap Some (adds_on base text piece done n from)

-- bytes that were added in two parts were added at once
pub added_twice : (old mid new : Option Bytes) (a b : Bytes) → mid ≡ option_map (λ held. held ++ a) old → new ≡ option_map (λ held. held ++ b) mid →
    new ≡ option_map (λ held. held ++ (a ++ b)) old
added_twice None mid new a b first then = then ∙ ap (option_map (λ held. held ++ b)) first
added_twice (Some old) mid new a b first then = then ∙ ap (option_map (λ held. held ++ b)) first ∙ ap Some (append_assoc old a b)

-- nothing was added
pub added_none : (old : Option Bytes) → old ≡ option_map (λ held. held ++ []) old
added_none None = refl
added_none (Some old) = ap Some (sym (append-nil old))

-- after a whole text a first part of the next
pub part_after : (old mid new : Option Bytes) (a b : Bytes) → mid ≡ option_map (λ held. held ++ a) old → AddsPart b mid new → AddsPart (a ++ b) old new
part_after old mid new a b first part =
    (a ++ part.0, (part.1.0, append_assoc a part.0 part.1.0 ∙ ap (λ x. a ++ x) part.1.1), added_twice old mid new a part.0 first part.2)

-- a first part of a text is a first part of a longer one
pub part_longer : (old new : Option Bytes) (a b : Bytes) → AddsPart a old new → AddsPart (a ++ b) old new
part_longer old new a b part = (part.0, (part.1.0 ++ b, sym (append_assoc part.0 part.1.0 b) ∙ ap (λ x. x ++ b) part.1.1), part.2)

-- a room that was lowered twice was lowered at once
pub lowered_twice : (old mid new : Option ℕ) (a b : ℕ) → mid ≡ option_map (λ free. free - a) old → new ≡ option_map (λ free. free - b) mid →
    new ≡ option_map (λ free. free - (a + b)) old
lowered_twice None mid new a b first then = then ∙ ap (option_map (λ free. free - b)) first
lowered_twice (Some free) mid new a b first then =
    let same : free - a - b ≡ free - (a + b) = omega arith in
    then ∙ ap (option_map (λ free. free - b)) first ∙ ap Some same

-- the first bytes of a text were taken
pub first_taken : (text : Bytes) (done : ℕ) (told_old told_new : Option Bytes) (room_old room_new : Option ℕ) → done ≤ length text
    → told_new ≡ option_map (λ held. held ++ take done text) told_old → room_new ≡ option_map (λ free. free - done) room_old
    → TakesPart text told_old told_new room_old room_new
first_taken text done told_old told_new room_old room_new within added taken = record {
  part = take done text;
  first = (drop done text, take-append-drop done text);
  added = added;
  taken = taken ∙ ap (λ (n : ℕ). option_map (λ free. free - n) room_old) (sym (length-take-le done text within));
}

-- what was taken of a text was added
pub adds_part : (text : Bytes) (told_old told_new : Option Bytes) (room_old room_new : Option ℕ) → TakesPart text told_old told_new room_old room_new →
    AddsPart text told_old told_new
adds_part text told_old told_new room_old room_new p = (p.part, p.first, p.added)
