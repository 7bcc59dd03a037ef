-- Texts pass one after the other.
use Rattle.std.proofs.Common.{◌≡◌, ℕ, ◌+◌, ◌-◌, ◌≤◌, List, [], ◌∷◌, ◌++◌, ◌<◌, subst, take, drop, get_or, length, Option, Some, None, refl, ap, sym, ◌∙◌, append_assoc, append-nil, arith, length-append}
use Rattle.std.proofs.lemmas.Grind.{flat_map-append}
use Rattle.std.proofs.lemmas.List.{take_more, take-append-drop}
use Rattle.std.specs.List.{flat_map}
use Rattle.std.specs.Option.{option_map}
use Rattle.run_terms.specs.Files.{Bytes}
use Rattle.mb_outside.proofs.Adds.{added_twice, added_none, lowered_twice}
use Rattle.mb_outside.specs.Sinks.{TakesPart}
use Rattle.mesh_writer.specs.Passing.{Passed, Stopped}

-- nothing was taken off a room
lowered_none : (room : Option ℕ) → room ≡ option_map (λ free. free - 0) room
lowered_none None = refl
lowered_none (Some free) = let same : free ≡ free - 0 = omega arith in ap Some same

-- two texts were taken off a room
lowered_by_both : (a b : Bytes) (old mid new : Option ℕ) → mid ≡ option_map (λ free. free - length a) old → new ≡ option_map (λ free. free - length b) mid
    → new ≡ option_map (λ free. free - length (a ++ b)) old
lowered_by_both a b old mid new first then =
    lowered_twice old mid new (length a) (length b) first then ∙ ap (λ (n : ℕ). option_map (λ free. free - n) old) (sym (length-append a b))

-- what is left of a room that is told
pub left_of : (old new : Option ℕ) (free n : ℕ) → new ≡ option_map (λ (m : ℕ). m - n) old → old ≡ Some free → new ≡ Some (free - n)
left_of old new free n less is = less ∙ ap (option_map (λ (m : ℕ). m - n)) is

-- nothing passes
pub passed-none : (held : Bytes) (told : Option Bytes) (room : Option ℕ) → Passed [] held held told told room room
passed-none held told room = record { sent = []; split = sym (append-nil held); told = added_none told; room = lowered_none room }

-- a line is put on the page
pub passed-put : (text line held_old held_new next : Bytes) (told_old told_new : Option Bytes) (room_old room_new : Option ℕ)
    → Passed text held_old held_new told_old told_new room_old room_new → next ≡ held_new ++ line
    → Passed (text ++ line) held_old next told_old told_new room_old room_new
passed-put text line held_old held_new next told_old told_new room_old room_new p is = record {
  sent = p.sent;
  split = ap (λ x. p.sent ++ x) is ∙ sym (append_assoc p.sent held_new line) ∙ ap (λ x. x ++ line) p.split ∙ append_assoc held_old text line;
  told = p.told;
  room = p.room;
}

-- the sizes of the parts of a text that passed
pub sizes : (sent held_new held_old text : Bytes) → sent ++ held_new ≡ held_old ++ text → length sent + length held_new ≡ length held_old + length text
sizes sent held_new held_old text e = sym (length-append sent held_new) ∙ ap length e ∙ length-append held_old text

-- one text passes after the other
pub passed-then : (a b held_old held_mid held_new : Bytes) (told_old told_mid told_new : Option Bytes) (room_old room_mid room_new : Option ℕ)
    → Passed a held_old held_mid told_old told_mid room_old room_mid → Passed b held_mid held_new told_mid told_new room_mid room_new
    → Passed (a ++ b) held_old held_new told_old told_new room_old room_new
passed-then a b held_old held_mid held_new told_old told_mid told_new room_old room_mid room_new p q = record {
  sent = p.sent ++ q.sent;
  split = append_assoc p.sent q.sent held_new ∙ ap (λ x. p.sent ++ x) q.split ∙ sym (append_assoc p.sent held_mid b) ∙ ap (λ x. x ++ b) p.split ∙ append_assoc held_old a b;
  told = added_twice told_old told_mid told_new p.sent q.sent p.told q.told;
  room = lowered_by_both p.sent q.sent room_old room_mid room_new p.room q.room;
}

-- a stop in a later text is a stop of both
pub stopped-then : (a b held_old held_mid : Bytes) (told_old told_mid told_new : Option Bytes) (room_old room_mid room_new : Option ℕ)
    → Passed a held_old held_mid told_old told_mid room_old room_mid → Stopped b held_mid told_mid told_new room_mid room_new
    → Stopped (a ++ b) held_old told_old told_new room_old room_new
stopped-then a b held_old held_mid told_old told_mid told_new room_old room_mid room_new p q =
    let part = q.part.part in
    let rest = q.part.first.0 in
    record {
      part = record {
        part = p.sent ++ part;
        first = (
          rest,
          append_assoc p.sent part rest ∙ ap (λ x. p.sent ++ x) q.part.first.1 ∙ sym (append_assoc p.sent held_mid b) ∙ ap (λ x. x ++ b) p.split
              ∙ append_assoc held_old a b,
        );
        added = added_twice told_old told_mid told_new p.sent part p.told q.part.added;
        taken = lowered_by_both p.sent part room_old room_mid room_new p.room q.part.taken;
      };
      small = λ free is fits.
          let s = sizes p.sent held_mid held_old a p.split in
          let n = length-append a b in
          q.small (free - length p.sent) (left_of room_old room_mid free (length p.sent) p.room is) (omega (arith, fits, n, s));
    }

-- a stop in the first text is a stop of both
pub stopped-longer : (a b held_old : Bytes) (told_old told_new : Option Bytes) (room_old room_new : Option ℕ)
    → Stopped a held_old told_old told_new room_old room_new → Stopped (a ++ b) held_old told_old told_new room_old room_new
stopped-longer a b held_old told_old told_new room_old room_new q =
    let part = q.part.part in
    let rest = q.part.first.0 in
    record {
      part = record {
        part = part;
        first = (rest ++ b, sym (append_assoc part rest b) ∙ ap (λ x. x ++ b) q.part.first.1 ∙ append_assoc held_old a b);
        added = q.part.added;
        taken = q.part.taken;
      };
      small = λ free is fits. q.small free is (omega (arith, fits, length-append a b));
    }

-- the whole page goes to the sink
pub passed-sent : (held next : Bytes) (told_old told_new : Option Bytes) (room_old room_new : Option ℕ)
    → next ≡ [] → told_new ≡ option_map (λ b. b ++ held) told_old → room_new ≡ option_map (λ free. free - length held) room_old
    → Passed [] held next told_old told_new room_old room_new
passed-sent held next told_old told_new room_old room_new empty told room =
    record { sent = held; split = ap (λ x. held ++ x) empty; told = told; room = room }

-- the page goes to the sink, or stays
pub passed-page : (a held_old held_mid held_new : Bytes) (told_old told_mid told_new : Option Bytes) (room_old room_mid room_new : Option ℕ)
    → Passed a held_old held_mid told_old told_mid room_old room_mid → Passed [] held_mid held_new told_mid told_new room_mid room_new
    → Passed a held_old held_new told_old told_new room_old room_new
passed-page a held_old held_mid held_new told_old told_mid told_new room_old room_mid room_new p q =
    let P : Bytes → Type 0 = λ text. Passed text held_old held_new told_old told_new room_old room_new in
    subst P (append-nil a) (passed-then a [] held_old held_mid held_new told_old told_mid told_new room_old room_mid room_new p q)

-- the sink failed as the page went to it
pub stopped-page : (a held_old held_mid : Bytes) (told_old told_mid told_new : Option Bytes) (room_old room_mid room_new : Option ℕ)
    → Passed a held_old held_mid told_old told_mid room_old room_mid → Stopped [] held_mid told_mid told_new room_mid room_new
    → Stopped a held_old told_old told_new room_old room_new
stopped-page a held_old held_mid told_old told_mid told_new room_old room_mid room_new p q =
    let P : Bytes → Type 0 = λ text. Stopped text held_old told_old told_new room_old room_new in
    subst P (append-nil a) (stopped-then a [] held_old held_mid told_old told_mid told_new room_old room_mid room_new p q)

-- the texts of the first elements and one more
pub flat_map-more : {X : Type 0} (f : X → Bytes) (xs : List X) (i : ℕ) (d x : X) → x ≡ get_or xs i d → i < length xs → flat_map f (take i xs) ++ f x ≡ flat_map f (take (i + 1) xs)
flat_map-more f xs i d x is within =
    let first = ap (flat_map f) (take_more xs i d within) ∙ flat_map-append f (take i xs) (get_or xs i d ∷ []) in
    let one = ap (λ y. flat_map f (take i xs) ++ y) (append-nil (f (get_or xs i d))) in
    ap (λ y. flat_map f (take i xs) ++ f y) is ∙ sym (first ∙ one)

-- the texts of the first elements and of the others
pub flat_map-split : {X : Type 0} (f : X → Bytes) (xs : List X) (i : ℕ) → flat_map f (take i xs) ++ flat_map f (drop i xs) ≡ flat_map f xs
flat_map-split f xs i = sym (flat_map-append f (take i xs) (drop i xs)) ∙ ap (flat_map f) (take-append-drop i xs)

-- one line more passes
pub line_passed : {X : Type 0} (f : X → Bytes) (xs : List X) (i : ℕ) (d x : X) → x ≡ get_or xs i d → i < length xs
    → (held_old held_mid put held_new : Bytes) (told_old told_mid told_new : Option Bytes) (room_old room_mid room_new : Option ℕ)
    → Passed (flat_map f (take i xs)) held_old held_mid told_old told_mid room_old room_mid → put ≡ held_mid ++ f x
    → Passed [] put held_new told_mid told_new room_mid room_new
    → Passed (flat_map f (take (i + 1) xs)) held_old held_new told_old told_new room_old room_new
line_passed f xs i d x is within held_old held_mid put held_new told_old told_mid told_new room_old room_mid room_new p line q =
    let P : Bytes → Type 0 = λ text. Passed text held_old held_new told_old told_new room_old room_new in
    let more = passed-put (flat_map f (take i xs)) (f x) held_old held_mid put told_old told_mid room_old room_mid p line in
    subst P (flat_map-more f xs i d x is within) (passed-page (flat_map f (take i xs) ++ f x) held_old put held_new told_old told_mid told_new room_old room_mid room_new more q)

-- the sink failed after one line more
pub line_stopped : {X : Type 0} (f : X → Bytes) (xs : List X) (i : ℕ) (d x : X) → x ≡ get_or xs i d → i < length xs
    → (held_old held_mid put : Bytes) (told_old told_mid told_new : Option Bytes) (room_old room_mid room_new : Option ℕ)
    → Passed (flat_map f (take i xs)) held_old held_mid told_old told_mid room_old room_mid → put ≡ held_mid ++ f x
    → Stopped [] put told_mid told_new room_mid room_new
    → Stopped (flat_map f xs) held_old told_old told_new room_old room_new
line_stopped f xs i d x is within held_old held_mid put told_old told_mid told_new room_old room_mid room_new p line q =
    let P : Bytes → Type 0 = λ text. Stopped text held_old told_old told_new room_old room_new in
    let more = passed-put (flat_map f (take i xs)) (f x) held_old held_mid put told_old told_mid room_old room_mid p line in
    let page = subst P (flat_map-more f xs i d x is within)
    (stopped-page (flat_map f (take i xs) ++ f x) held_old put told_old told_mid told_new room_old room_mid room_new more q) in
    subst P (flat_map-split f xs (i + 1)) (stopped-longer (flat_map f (take (i + 1) xs)) (flat_map f (drop (i + 1) xs)) held_old told_old told_new room_old room_new page)

-- the last of the page came after the text
pub ended : (text page : Bytes) (told_old told_mid told_new : Option Bytes) (room_old room_mid : Option ℕ)
    → Passed text [] page told_old told_mid room_old room_mid → told_new ≡ option_map (λ held. held ++ page) told_mid
    → told_new ≡ option_map (λ held. held ++ text) told_old
ended text page told_old told_mid told_new room_old room_mid p last =
    added_twice told_old told_mid told_new p.sent page p.told last ∙ ap (λ x. option_map (λ held. held ++ x) told_old) p.split

-- the room is less by the whole text
pub ended_room : (text page : Bytes) (told_old told_mid : Option Bytes) (room_old room_mid room_new : Option ℕ)
    → Passed text [] page told_old told_mid room_old room_mid → room_new ≡ option_map (λ free. free - length page) room_mid
    → room_new ≡ option_map (λ free. free - length text) room_old
ended_room text page told_old told_mid room_old room_mid room_new p last =
    lowered_by_both p.sent page room_old room_mid room_new p.room last ∙ ap (λ (x : Bytes). option_map (λ free. free - length x) room_old) p.split

-- a part of the last of the page came
pub ended_in_part : (text page : Bytes) (told_old told_mid told_new : Option Bytes) (room_old room_mid room_new : Option ℕ)
    → Passed text [] page told_old told_mid room_old room_mid → TakesPart page told_mid told_new room_mid room_new
    → TakesPart text told_old told_new room_old room_new
ended_in_part text page told_old told_mid told_new room_old room_mid room_new p last = record {
  part = p.sent ++ last.part;
  first = (last.first.0, append_assoc p.sent last.part last.first.0 ∙ ap (λ x. p.sent ++ x) last.first.1 ∙ p.split);
  added = added_twice told_old told_mid told_new p.sent last.part p.told last.added;
  taken = lowered_by_both p.sent last.part room_old room_mid room_new p.room last.taken;
}

-- the last of the page fits where the text does
pub last_fits : (text page : Bytes) (told_old told_mid : Option Bytes) (room_old room_mid : Option ℕ)
    → (p : Passed text [] page told_old told_mid room_old room_mid) (free : ℕ) → length text ≤ free → length page ≤ free - length p.sent
last_fits text page told_old told_mid room_old room_mid p free fits = omega (arith, fits, sizes p.sent page [] text p.split)
