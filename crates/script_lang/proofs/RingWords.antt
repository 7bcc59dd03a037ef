-- The words of a polygon, and its step.
use Rattle.std.proofs.Common.{◌≡◌, ℕ, ◌+◌, ◌*◌, ◌%◌, ◌-◌, ◌<◌, ◌≤◌, ◌==◌, Bool, true, false, List, [], ◌∷◌, ◌++◌, length, get_or, drop, map, replicate, ℤ, Option, Some, None, Ok, Err, Bor, refl, sym, ap, subst, ◌∙◌, arith}
use Rattle.std.specs.Prelude.{◌&&◌, nat_le, if◌then◌else◌}
use Rattle.std.proofs.Math.ListN.{drop_of_length-le}
use Rattle.std.proofs.lemmas.Bool.{eq-eqb, eqb-true, leb-true}
use Rattle.std.proofs.lemmas.List.{drop_more, get_or-map, length-map, length-replicate, map-append}
use Rattle.chain_terms.specs.Sums.{upto}
use Rattle.chain_laws.proofs.Places.{upto_more}
use Rattle.run_terms.specs.Files.{Bytes}
use Rattle.play_terms.specs.Operands.{Number, new_name_fault, number_fault, operands_fault, or_later}
use Rattle.play_terms.specs.ScriptCommands.{are_pairs, at, pair_at, polygon, ring_at, ring_numbers}
use Rattle.play_terms.specs.Scripts.{command_step, unless_refused}
use Rattle.play_terms.specs.Steps.{Line, Polygon}
use Rattle.script_lang.specs.Faults.{IsFaultOf}
use Rattle.script_lang.specs.Polygons.{IsBadAs, numbers_fault, pair_fault, pair_of}
use Rattle.script_lang.specs.declared.fault.ScriptFault.{ScriptFault}
use Rattle.script_lang.specs.declared.fault.ScriptFault.TheVariants.{Bad, NoMemory}
use Rattle.text_terms.specs.FirstFault.{on_line}

-- words as numbers
as_numbers : (k : ℕ) (before : List Line) (ws : List Bytes) → operands_fault k before (replicate (length ws) Number) ws ≡ numbers_fault k ws
as_numbers k before [] = refl
as_numbers k before (w ∷ ws) = ap (or_later (number_fault k w)) (as_numbers k before ws)

-- two more words without a fault
pub two_more : (k : ℕ) (ws : List Bytes) (n : ℕ) → n + 1 < length ws → number_fault k (at ws n) ≡ None → number_fault k (at ws (n + 1)) ≡ None
    → numbers_fault k (drop n ws) ≡ numbers_fault k (drop (n + 1 + 1) ws)
two_more k ws n inside x y =
    ap (numbers_fault k) (drop_more ws n [] (omega (arith, inside)))
    ∙ ap (λ f. or_later f (numbers_fault k (drop (n + 1) ws))) x
    ∙ ap (numbers_fault k) (drop_more ws (n + 1) [] inside)
    ∙ ap (λ f. or_later f (numbers_fault k (drop (n + 1 + 1) ws))) y

-- or with one
pub two_bad : (k : ℕ) (ws : List Bytes) (n kind : ℕ) → n + 1 < length ws → pair_fault k (at ws n) (at ws (n + 1)) ≡ Some kind → numbers_fault k (drop n ws) ≡ Some kind
two_bad k ws n kind inside bad =
    ap (numbers_fault k) (drop_more ws n [] (omega (arith, inside)))
    ∙ ap (λ r. or_later (number_fault k (at ws n)) (numbers_fault k r)) (drop_more ws (n + 1) [] inside)
    ∙ by (number_fault k (at ws n)) (number_fault k (at ws (n + 1))) bad
  where
    by : (a b : Option ℕ) → or_later a b ≡ Some kind → or_later a (or_later b (numbers_fault k (drop (n + 1 + 1) ws))) ≡ Some kind
    by (Some a) b e = e
    by None (Some b) e = e
    by None None e = absurd (cc)

-- no word is left
pub none_left : (k : ℕ) (ws : List Bytes) (n : ℕ) → length ws ≤ n → numbers_fault k (drop n ws) ≡ None
none_left k ws n past = ap (numbers_fault k) (drop_of_length-le ws past)

-- the word of a reference
pub word_at : (ops : List (Bor Bytes)) (n : ℕ) (d : Bor Bytes) → n < length ops → (get_or ops n d).now ≡ at (map (λ w. w.now) ops) n
word_at ops n d inside = sym (get_or-map (λ w. w.now) ops n d [] inside)

-- two words of references without a fault, and with the first one
module _ (k : ℕ) (ops : List (Bor Bytes)) (n m : ℕ) (d : Bor Bytes) (next : m ≡ n + 1) (inside : m < length ops) where
  abbrev ws : List Bytes
  ws = map (λ w. w.now) ops

  abbrev x : Bytes
  x = (get_or ops n d).now

  abbrev y : Bytes
  y = (get_or ops m d).now

  is_x : x ≡ at ws n
  is_x = word_at ops n d (omega (arith, inside, next))

  is_y : y ≡ at ws (n + 1)
  is_y = word_at ops m d inside ∙ ap (at ws) next

  long : n + 1 < length ws
  long = omega (arith, inside, next, length-map ops (λ w. w.now))

  pub words_taken : number_fault k x ≡ None → number_fault k y ≡ None → numbers_fault k (drop n ws) ≡ numbers_fault k (drop (n + 1 + 1) ws)
  words_taken a b = two_more k ws n long (ap (number_fault k) (sym is_x) ∙ a) (ap (number_fault k) (sym is_y) ∙ b)

  pub words_refused : (kind : ℕ) → pair_fault k x y ≡ Some kind → numbers_fault k (drop n ws) ≡ Some kind
  words_refused kind bad = two_bad k ws n kind long ((λ i. pair_fault k (sym is_x i) (sym is_y i)) ∙ bad)

  pub pair_is : pair_of k x y ≡ pair_at k ws n
  pair_is = λ i. pair_of k (is_x i) (is_y i)

-- one place more
pub place_more : (k : ℕ) (ws : List Bytes) (n : ℕ) (places : List (List ℤ)) → places ≡ map (λ j. pair_at k ws (2 * j + 1)) (upto n) → (p : List ℤ) → p ≡ pair_at k ws (2 * n + 1)
    → places ++ p ∷ [] ≡ map (λ j. pair_at k ws (2 * j + 1)) (upto (n + 1))
place_more k ws n places is p same =
    (λ i. is i ++ same i ∷ []) ∙ sym (map-append (λ j. pair_at k ws (2 * j + 1)) (upto n) (n ∷ [])) ∙ ap (map (λ j. pair_at k ws (2 * j + 1))) (sym (upto_more n))

-- what is known of so many words
pub pairs_known : (n : ℕ) → are_pairs n ≡ true → (7 ≤ n) × (n ≤ 129) × (n % 2 ≡ 1)
pairs_known n e =
    let range = both (nat_le 7 n && nat_le n 129) (n % 2 == 1) e in
    let ends = both (nat_le 7 n) (nat_le n 129) range.0 in
    (leb-true 7 n ends.0, leb-true n 129 ends.1, eqb-true (n % 2) 1 range.1)
  where
    both : (a b : Bool) → (a && b) ≡ true → (a ≡ true) × (b ≡ true)
    both true true e = (refl, refl)
    both true false e = absurd (cc)
    both false b e = absurd (cc)

-- the operands of so many words
numbered : (n : ℕ) → are_pairs n ≡ true → ring_numbers n ≡ n - 1
numbered n e = ap (λ b. if b then n - 1 else 6) e

counted : (ws : List Bytes) → are_pairs (length ws) ≡ true → (length ws == length (polygon.operands (length ws))) ≡ true
counted ws e =
    let same : length ws ≡ length (polygon.operands (length ws))
    = omega (arith, numbered (length ws) e, length-replicate (ring_numbers (length ws)) Number, (pairs_known (length ws) e).0) in
    eq-eqb (length ws) (length (polygon.operands (length ws))) same

-- their faults: first that of the name
operands_are : (k : ℕ) (before : List Line) (ws : List Bytes) → are_pairs (length ws) ≡ true
    → operands_fault k before (polygon.operands (length ws)) ws ≡ or_later (new_name_fault (at ws 0)) (numbers_fault k (drop 1 ws))
operands_are k before [] e = absurd (omega (arith, (pairs_known 0 e).0))
operands_are k before (w ∷ ws) e =
    let m : ring_numbers (length (w ∷ ws)) ≡ length ws = omega (arith, numbered (length (w ∷ ws)) e) in
    ap (λ m. or_later (new_name_fault w) (operands_fault k before (replicate m Number) ws)) m ∙ ap (or_later (new_name_fault w)) (as_numbers k before ws)

-- the step, where the words are so many
stepped : (k : ℕ) (before : List Line) (ws : List Bytes) → are_pairs (length ws) ≡ true
    → command_step k before ws polygon ≡ unless_refused (Polygon (at ws 0) (ring_at k ws)) (or_later (new_name_fault (at ws 0)) (numbers_fault k (drop 1 ws)))
stepped k before ws e =
    ap (λ b. if b then unless_refused (polygon.step k ws) (operands_fault k before (polygon.operands (length ws)) ws) else Err 21) (counted ws e)
    ∙ ap (unless_refused (polygon.step k ws)) (operands_are k before ws e)

pub drawn : (k : ℕ) (before : List Line) (ws : List Bytes) → are_pairs (length ws) ≡ true → new_name_fault (at ws 0) ≡ None → numbers_fault k (drop 1 ws) ≡ None
    → command_step k before ws polygon ≡ Ok (Polygon (at ws 0) (ring_at k ws))
drawn k before ws e name numbers = stepped k before ws e ∙ (λ i. unless_refused (Polygon (at ws 0) (ring_at k ws)) (or_later (name i) (numbers i)))

-- no name
pub unnamed : (k : ℕ) (before : List Line) (ws : List Bytes) (kind : ℕ) → are_pairs (length ws) ≡ true → new_name_fault (at ws 0) ≡ Some kind
    → command_step k before ws polygon ≡ Err kind
unnamed k before ws kind e name = stepped k before ws e ∙ ap (λ f. unless_refused (Polygon (at ws 0) (ring_at k ws)) (or_later f (numbers_fault k (drop 1 ws)))) name

-- a name, but not all numbers
pub unnumbered : (k : ℕ) (before : List Line) (ws : List Bytes) (kind : ℕ) →
    are_pairs (length ws) ≡ true → new_name_fault (at ws 0) ≡ None → numbers_fault k (drop 1 ws) ≡ Some kind
    → command_step k before ws polygon ≡ Err kind
unnumbered k before ws kind e name numbers = stepped k before ws e ∙ (λ i. unless_refused (Polygon (at ws 0) (ring_at k ws)) (or_later (name i) (numbers i)))

-- another number of words
pub uncounted : (k : ℕ) (before : List Line) (ws : List Bytes) → are_pairs (length ws) ≡ false → command_step k before ws polygon ≡ Err 21
uncounted k before ws e =
    ap (λ b. if b then unless_refused (polygon.step k ws) (operands_fault k before (polygon.operands (length ws)) ws) else Err 21)
    (other (length ws == length (polygon.operands (length ws))) refl)
  where
    six : ring_numbers (length ws) ≡ 6
    six = ap (λ b. if b then length ws - 1 else 6) e

    seven : length ws ≡ 7 → ⊥
    seven is = let P : ℕ → Type 0 = λ m. are_pairs m ≡ false in let wrong = subst P is e in cc

    other : (b : Bool) → (length ws == length (polygon.operands (length ws))) ≡ b → (length ws == length (polygon.operands (length ws))) ≡ false
    other false is = is
    other true is =
        absurd (seven (omega (arith, eqb-true (length ws) (length (polygon.operands (length ws))) is, length-replicate (ring_numbers (length ws)) Number, six)))

-- the fault of a line that draws, as that of its numbers
pub refused : (k line : ℕ) (before : List Line) (words : List Bytes) (e : ScriptFault) → are_pairs (length words) ≡ true → new_name_fault (at words 0) ≡ None
    → IsBadAs line (numbers_fault k (drop 1 words)) e → IsFaultOf (on_line line (command_step k before words polygon)) e
refused k line before words (Bad l kind) many name (reason, is, same) = ap (on_line line) (unnumbered k before words reason many name is) ∙ ap Err (sym same)
refused k line before words NoMemory many name bad = bad
