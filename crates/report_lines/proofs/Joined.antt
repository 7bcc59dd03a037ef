-- Texts of a list that reach a sink one after the other.
use Rattle.std.proofs.Common.{◌≡◌, ℕ, ◌+◌, ◌-◌, ◌<◌, List, [], ◌∷◌, ◌++◌, get_or, take, drop, length, Option, Some, None, refl, ap, sym, ◌∙◌, append_assoc, append-nil, length-append, arith}
use Rattle.std.specs.List.{flat_map}
use Rattle.std.specs.Option.{option_map}
use Rattle.std.proofs.lemmas.Grind.{flat_map-append}
use Rattle.std.proofs.lemmas.List.{take_more, take-append-drop}
use Rattle.run_terms.specs.Files.{Bytes}
use Rattle.mb_outside.specs.Sinks.{TakesPart}
use Rattle.mb_outside.proofs.Adds.{added_twice, lowered_twice}

-- the texts of the first members and of one more
next_text : {X : Type 0} (f : X → Bytes) (xs : List X) (i : ℕ) (d : X) → i < length xs → flat_map f (take (i + 1) xs) ≡ flat_map f (take i xs) ++ f (get_or xs i d)
next_text f xs i d low =
    ap (flat_map f) (take_more xs i d low) ∙ flat_map-append f (take i xs) (get_or xs i d ∷ []) ∙ ap (λ t. flat_map f (take i xs) ++ t) (append-nil (f (get_or xs i d)))

-- and of the others after them
all_texts : {X : Type 0} (f : X → Bytes) (xs : List X) (i : ℕ) (d : X) → i < length xs
    → flat_map f (take i xs) ++ (f (get_or xs i d) ++ flat_map f (drop (i + 1) xs)) ≡ flat_map f xs
all_texts f xs i d low =
    sym (append_assoc (flat_map f (take i xs)) (f (get_or xs i d)) (flat_map f (drop (i + 1) xs)))
    ∙ ap (λ t. t ++ flat_map f (drop (i + 1) xs)) (sym (next_text f xs i d low))
    ∙ sym (flat_map-append f (take (i + 1) xs) (drop (i + 1) xs)) ∙ ap (flat_map f) (take-append-drop (i + 1) xs)

-- one more text was added
pub one_more_added : {X : Type 0} (f : X → Bytes) (xs : List X) (i : ℕ) (d : X) (old mid new : Option Bytes) → i < length xs
    → mid ≡ option_map (λ held. held ++ flat_map f (take i xs)) old → new ≡ option_map (λ held. held ++ f (get_or xs i d)) mid
    → new ≡ option_map (λ held. held ++ flat_map f (take (i + 1) xs)) old
one_more_added f xs i d old mid new low first then =
    added_twice old mid new (flat_map f (take i xs)) (f (get_or xs i d)) first then ∙ ap (λ (t : Bytes). option_map (λ held. held ++ t) old) (sym (next_text f xs i d low))

-- and taken off the room
pub one_more_taken : {X : Type 0} (f : X → Bytes) (xs : List X) (i : ℕ) (d : X) (old mid new : Option ℕ) → i < length xs
    → mid ≡ option_map (λ free. free - length (flat_map f (take i xs))) old → new ≡ option_map (λ free. free - length (f (get_or xs i d))) mid
    → new ≡ option_map (λ free. free - length (flat_map f (take (i + 1) xs))) old
one_more_taken f xs i d old mid new low first then =
    let both : length (flat_map f (take i xs)) + length (f (get_or xs i d)) ≡ length (flat_map f (take (i + 1) xs)) =
    sym (length-append (flat_map f (take i xs)) (f (get_or xs i d))) ∙ ap length (sym (next_text f xs i d low)) in
    lowered_twice old mid new (length (flat_map f (take i xs))) (length (f (get_or xs i d))) first then ∙ ap (λ (n : ℕ). option_map (λ free. free - n) old) both

-- after whole texts a first part of the next one was taken
pub part_of_next : {X : Type 0} (f : X → Bytes) (xs : List X) (i : ℕ) (d : X) (old mid new : Option Bytes) (room room_mid room_new : Option ℕ) → i < length xs
    → mid ≡ option_map (λ held. held ++ flat_map f (take i xs)) old → room_mid ≡ option_map (λ free. free - length (flat_map f (take i xs))) room
    → TakesPart (f (get_or xs i d)) mid new room_mid room_new → TakesPart (flat_map f xs) old new room room_new
part_of_next f xs i d old mid new room room_mid room_new low added taken part =
    let before = flat_map f (take i xs) in
    let rest = flat_map f (drop (i + 1) xs) in
    let next = f (get_or xs i d) in
    record {
      part = before ++ part.part;
      first = (
        part.first.0 ++ rest,
        append_assoc before part.part (part.first.0 ++ rest) ∙ ap (λ t. before ++ t) (sym (append_assoc part.part part.first.0 rest) ∙ ap (λ t. t ++ rest) part.first.1)
            ∙ all_texts f xs i d low,
      );
      added = added_twice old mid new before part.part added part.added;
      taken = lowered_twice room room_mid room_new (length before) (length part.part) taken part.taken ∙ ap (λ (n : ℕ). option_map (λ free. free - n) room)
          (sym (length-append before part.part));
    }

-- no texts
pub none_added : (old : Option Bytes) → old ≡ option_map (λ held. held ++ []) old
none_added None = refl
none_added (Some held) = ap Some (sym (append-nil held))

pub none_taken : (old : Option ℕ) → old ≡ option_map (λ free. free - 0) old
none_taken None = refl
none_taken (Some free) = let same : free ≡ free - 0 = omega arith in ap Some same
