-- The parts of a text whose runs of digits are known.
use Rattle.std.proofs.Common.{◌≡◌, ℕ, ◌+◌, ◌<◌, ◌&&◌, cond, if◌then◌else◌, nat_lt, Bool, List, [], ◌∷◌, ◌++◌, true, false, length, refl, sym, ap, ◌∙◌, arith, append-nil, Option, Some, None, option_map, ℤ, nat_abs, MatchBool, suc, ◌≤◌, ◌*◌, ◌^◌, length-append}
use Rattle.std.proofs.lemmas.Bool.Decides.{nat_tests}
use Rattle.text_terms.proofs.Cuts.{cut_at-here, cut_at-past}
use Rattle.text_terms.specs.Numbers.{Parts, is_digit, all_digits, cut_at, is_e, mantissa_ok, exponent_ok, exponent_of, or_empty, signed, number_parts}
use Rattle.grid_number.specs.Reading.{parts_with, parts_from, parts_after, is_point, begins_digit, exponent_after, AfterPoint, saturated_size, saturated_parts}
use Rattle.grid_number.proofs.Saturated.{saturated_size-within}
use Rattle.grid_number.proofs.Cuts.{cut_at-digits, digit_is_no_e, digit_is_no_point, all_digits-broken, is_digits-broken, and-false}

-- the parts of digits before and after a point, where there are any, and of what is left behind them
abbrev pub parts_of_runs : Bool → List ℕ → List ℕ → List ℕ → Option Parts
parts_of_runs negative ds fs left = cond (nat_lt 0 (length ds + length fs))
    (option_map (parts_with negative ds fs) (exponent_after left)) None

none-either : {A : Type 0} (b : Bool) → cond {A = Option A} b None None ≡ None
none-either true = refl
none-either false = refl

-- both have to be of the form
both-parts : (f : ℤ → Parts) (e : ℤ) (a b : Bool) → cond (a && b) (Some (f e)) None ≡ cond a
    (option_map f (if b then Some e else None)) None
both-parts f e true true = refl
both-parts f e true false = refl
both-parts f e false b = refl

-- a mantissa of the form
parts-ok : (negative : Bool) (ds fs : List ℕ) (o x : Option (List ℕ)) (left : List ℕ) →
    mantissa_ok ds o ≡ nat_lt 0 (length ds + length fs) → or_empty o ≡ fs →
    (if exponent_ok x then Some (exponent_of x) else None) ≡ exponent_after left →
    parts_from negative (ds, o) x ≡ parts_of_runs negative ds fs left
parts-ok negative ds fs o x left ok part power =
    ap (λ (b : Bool). cond (b && exponent_ok x) (Some (parts_with negative ds (or_empty o) (exponent_of x))) None) ok
    ∙ ap (λ (l : List ℕ). cond (nat_lt 0 (length ds + length fs) && exponent_ok x)
    (Some (parts_with negative ds l (exponent_of x))) None) part
    ∙ both-parts (parts_with negative ds fs) (exponent_of x) (nat_lt 0 (length ds + length fs)) (exponent_ok x)
    ∙ ap (λ (e : Option ℤ). cond (nat_lt 0 (length ds + length fs)) (option_map (parts_with negative ds fs) e) None)
    power

-- a mantissa of another form
parts-broken : (negative : Bool) (ds fs : List ℕ) (m : List ℕ × Option (List ℕ)) (x : Option (List ℕ)) (left : List ℕ)
    → mantissa_ok m.0 m.1 ≡ false → exponent_after left ≡ None →
    parts_from negative m x ≡ parts_of_runs negative ds fs left
parts-broken negative ds fs m x left broken none =
    ap (λ (b : Bool). cond (b && exponent_ok x) (Some (parts_with negative m.0 (or_empty m.1) (exponent_of x))) None)
    broken
    ∙ sym (none-either (nat_lt 0 (length ds + length fs)))
    ∙ sym (ap (λ (e : Option ℤ). cond (nat_lt 0 (length ds + length fs)) (option_map (parts_with negative ds fs) e)
    None) none)

-- digits alone are a mantissa where there are any
mantissa-whole : (ds : List ℕ) → all_digits ds ≡ true → mantissa_ok ds None ≡ nat_lt 0 (length ds + length {A = ℕ} [])
mantissa-whole [] digits = refl
mantissa-whole (d ∷ ds) digits = digits ∙ grind (arith, nat_tests)

-- so are digits on either side of a point
mantissa-point : (ds fs : List ℕ) → all_digits ds ≡ true → all_digits fs ≡ true →
    mantissa_ok ds (Some fs) ≡ nat_lt 0 (length ds + length fs)
mantissa-point ds fs p q = ap (λ (b : Bool). b && all_digits fs && nat_lt 0 (length ds + length fs)) p
    ∙ ap (λ (b : Bool). true && b && nat_lt 0 (length ds + length fs)) q

-- what goes on with something else is none
mantissa-broken : (ds : List ℕ) (c : ℕ) (cs : List ℕ) (o : Option (List ℕ)) → is_digit c ≡ false →
    mantissa_ok (ds ++ c ∷ cs) o ≡ false
mantissa-broken ds c cs None other = is_digits-broken ds (c ∷ cs) (omega arith) other
mantissa-broken ds c cs (Some fs) other =
    ap (λ (b : Bool). b && all_digits fs && nat_lt 0 (length (ds ++ c ∷ cs) + length fs))
    (all_digits-broken ds (c ∷ cs) (omega arith) other)

fraction-broken : (ds fs : List ℕ) (c : ℕ) (cs : List ℕ) → is_digit c ≡ false →
    mantissa_ok ds (Some (fs ++ c ∷ cs)) ≡ false
fraction-broken ds fs c cs other =
    ap (λ (b : Bool). all_digits ds && b && nat_lt 0 (length ds + length (fs ++ c ∷ cs)))
    (all_digits-broken fs (c ∷ cs) (omega arith) other)
    ∙ ap (λ (b : Bool). b && nat_lt 0 (length ds + length (fs ++ c ∷ cs))) (and-false (all_digits ds))

-- the cuts go past the digits in front
cut_twice : (negative : Bool) (ds rest : List ℕ) → all_digits ds ≡ true →
    let e = cut_at is_e rest in let m = cut_at is_point e.0 in parts_after (negative, ds ++ rest) ≡ parts_from
    negative (ds ++ m.0, m.1) e.1
cut_twice negative ds rest digits =
    let e = cut_at is_e rest in
    ap (λ (x : List ℕ × Option (List ℕ)). parts_from negative (cut_at is_point x.0) x.1)
    (cut_at-digits is_e digit_is_no_e ds rest digits)
    ∙ ap (λ (m : List ℕ × Option (List ℕ)). parts_from negative m e.1)
    (cut_at-digits is_point digit_is_no_point ds e.0 digits)

-- an exponent behind its e
power-after : (c : ℕ) (cs : List ℕ) → is_e c ≡ true → (if exponent_ok (Some cs) then Some (exponent_of (Some cs)) else
    None) ≡ exponent_after (c ∷ cs)
power-after c cs e = sym (ap
    (λ (b : Bool). if b then (if exponent_ok (Some cs) then Some (exponent_of (Some cs)) else None) else None) e)

no_power-after : (c : ℕ) (cs : List ℕ) → is_e c ≡ false → exponent_after (c ∷ cs) ≡ None
no_power-after c cs e = ap (λ (b : Bool). if b then
    (if exponent_ok (Some cs) then Some (exponent_of (Some cs)) else None) else None) e

-- something that is no point comes next
parts-other : (negative : Bool) (ds : List ℕ) (c : ℕ) (cs : List ℕ) (e : Bool) → all_digits ds ≡ true →
    is_digit c ≡ false → is_point c ≡ false → is_e c ≡ e →
    parts_after (negative, ds ++ c ∷ cs) ≡ parts_of_runs negative ds [] (c ∷ cs)
parts-other negative ds c cs true digits other point test =
    cut_twice negative ds (c ∷ cs) digits
    ∙ ap (λ (x : List ℕ × Option (List ℕ)). let m = cut_at is_point x.0 in parts_from negative (ds ++ m.0, m.1) x.1)
    (cut_at-here is_e c cs test)
    ∙ ap (λ (l : List ℕ). parts_from negative (l, None) (Some cs)) (append-nil ds)
    ∙ parts-ok negative ds [] None (Some cs) (c ∷ cs) (mantissa-whole ds digits) refl (power-after c cs test)
parts-other negative ds c cs false digits other point test =
    let e = cut_at is_e cs in
    let m = cut_at is_point e.0 in
    cut_twice negative ds (c ∷ cs) digits
    ∙ ap (λ (x : List ℕ × Option (List ℕ)). let m = cut_at is_point x.0 in parts_from negative (ds ++ m.0, m.1) x.1)
    (cut_at-past is_e c cs test)
    ∙ ap (λ (x : List ℕ × Option (List ℕ)). parts_from negative (ds ++ x.0, x.1) e.1)
    (cut_at-past is_point c e.0 point)
    ∙ parts-broken negative ds [] (ds ++ c ∷ m.0, m.1) e.1 (c ∷ cs) (mantissa-broken ds c m.0 m.1 other)
    (no_power-after c cs test)

-- digits before and after a point, and what is left behind them
parts-left : (negative : Bool) (ds fs left : List ℕ) → all_digits ds ≡ true → all_digits fs ≡ true →
    begins_digit left ≡ false →
    let l = cut_at is_e left in parts_from negative (ds, Some (fs ++ l.0)) l.1 ≡ parts_of_runs negative ds fs left
parts-left negative ds fs [] digits more ends =
    ap (λ (l : List ℕ). parts_from negative (ds, Some l) None) (append-nil fs)
    ∙ parts-ok negative ds fs (Some fs) None [] (mantissa-point ds fs digits more) refl refl
parts-left negative ds fs (c ∷ cs) digits more ends = parts-left_at negative ds fs c cs (is_e c) digits more ends refl
  where
    parts-left_at : (negative : Bool) (ds fs : List ℕ) (c : ℕ) (cs : List ℕ) (e : Bool) → all_digits ds ≡ true →
        all_digits fs ≡ true → is_digit c ≡ false → is_e c ≡ e →
        let l = cut_at is_e (c ∷ cs) in parts_from negative (ds, Some (fs ++ l.0)) l.1 ≡ parts_of_runs negative ds fs
        (c ∷ cs)
    parts-left_at negative ds fs c cs true digits more other test =
        ap (λ (x : List ℕ × Option (List ℕ)). parts_from negative (ds, Some (fs ++ x.0)) x.1)
        (cut_at-here is_e c cs test)
        ∙ ap (λ (l : List ℕ). parts_from negative (ds, Some l) (Some cs)) (append-nil fs)
        ∙ parts-ok negative ds fs (Some fs) (Some cs) (c ∷ cs) (mantissa-point ds fs digits more) refl
        (power-after c cs test)
    parts-left_at negative ds fs c cs false digits more other test =
        let e = cut_at is_e cs in
        ap (λ (x : List ℕ × Option (List ℕ)). parts_from negative (ds, Some (fs ++ x.0)) x.1)
        (cut_at-past is_e c cs test)
        ∙ parts-broken negative ds fs (ds, Some (fs ++ c ∷ e.0)) e.1 (c ∷ cs) (fraction-broken ds fs c e.0 other)
        (no_power-after c cs test)

-- the point of a number is no e
point_is_no_e : (c : ℕ) → is_point c ≡ true → is_e c ≡ false
point_is_no_e c point = grind (arith, nat_tests)

-- a point comes next
parts-point : (negative : Bool) (ds : List ℕ) (c : ℕ) (fs left : List ℕ) → all_digits ds ≡ true → is_point c ≡ true →
    all_digits fs ≡ true → begins_digit left ≡ false →
    parts_after (negative, ds ++ c ∷ (fs ++ left)) ≡ parts_of_runs negative ds fs left
parts-point negative ds c fs left digits point more ends =
    let e = cut_at is_e (fs ++ left) in
    let l = cut_at is_e left in
    cut_twice negative ds (c ∷ (fs ++ left)) digits
    ∙ ap (λ (x : List ℕ × Option (List ℕ)). let m = cut_at is_point x.0 in parts_from negative (ds ++ m.0, m.1) x.1)
    (cut_at-past is_e c (fs ++ left) (point_is_no_e c point))
    ∙ ap (λ (x : List ℕ × Option (List ℕ)). parts_from negative (ds ++ x.0, x.1) e.1)
    (cut_at-here is_point c e.0 point)
    ∙ ap (λ (x : List ℕ). parts_from negative (x, Some e.0) e.1) (append-nil ds)
    ∙ ap (λ (x : List ℕ × Option (List ℕ)). parts_from negative (ds, Some x.0) x.1)
    (cut_at-digits is_e digit_is_no_e fs left more)
    ∙ parts-left negative ds fs left digits more ends

-- the parts of a text whose runs of digits are known
pub parts-runs : (negative : Bool) (ds rest fs left : List ℕ) → all_digits ds ≡ true → begins_digit rest ≡ false →
    AfterPoint rest fs left → all_digits fs ≡ true → begins_digit left ≡ false →
    parts_after (negative, ds ++ rest) ≡ parts_of_runs negative ds fs left
parts-runs negative ds [] fs left digits ends after more left_ends =
    cut_twice negative ds [] digits
    ∙ ap (λ (l : List ℕ). parts_from negative (l, None) None) (append-nil ds)
    ∙ parts-ok negative ds [] None None [] (mantissa-whole ds digits) refl refl
    ∙ sym (ap (λ (l : List ℕ). parts_of_runs negative ds l []) after.0)
    ∙ sym (ap (λ (l : List ℕ). parts_of_runs negative ds fs l) after.1)
parts-runs negative ds (c ∷ cs) fs left digits ends after more left_ends = parts-runs_at negative ds c cs fs left
    (is_point c) digits ends refl after more left_ends
  where
    parts-runs_at : (negative : Bool) (ds : List ℕ) (c : ℕ) (cs fs left : List ℕ) (p : Bool) → all_digits ds ≡ true →
        is_digit c ≡ false → is_point c ≡ p →
        MatchBool p (cs ≡ fs ++ left) ((fs ≡ []) × (left ≡ c ∷ cs)) → all_digits fs ≡ true →
        begins_digit left ≡ false → parts_after (negative, ds ++ c ∷ cs) ≡ parts_of_runs negative ds fs left
    parts-runs_at negative ds c cs fs left true digits ends point after more left_ends =
        ap (λ (l : List ℕ). parts_after (negative, ds ++ c ∷ l)) after
        ∙ parts-point negative ds c fs left digits point more left_ends
    parts-runs_at negative ds c cs fs left false digits ends point after more left_ends =
        parts-other negative ds c cs (is_e c) digits ends point refl
        ∙ sym (ap (λ (l : List ℕ). parts_of_runs negative ds l (c ∷ cs)) after.0)
        ∙ sym (ap (λ (l : List ℕ). parts_of_runs negative ds fs l) after.1)

-- nothing stands for an exponent
pub no_exponent : (o : Option ℤ) → None ≡ option_map saturated_size o → o ≡ None
no_exponent None e = refl
no_exponent (Some z) e = absurd (cc)

pub parts-none : (negative : Bool) (ds fs left : List ℕ) → exponent_after left ≡ None →
    parts_of_runs negative ds fs left ≡ None
parts-none negative ds fs left none =
    ap (λ (e : Option ℤ). cond (nat_lt 0 (length ds + length fs)) (option_map (parts_with negative ds fs) e) None)
    none ∙ none-either (nat_lt 0 (length ds + length fs))

-- an exponent as far as a word holds it
pub exponent-within : (o : Option ℤ) (e : ℤ) → Some e ≡ option_map saturated_size o → nat_abs e ≤ 10 * 2 ^ 60
exponent-within None e known = absurd (cc)
exponent-within (Some z) e known = let same : e ≡ saturated_size z = cc in omega
    (arith, ap nat_abs same, saturated_size-within z)

-- the parts with it
parts-some : (negative : Bool) (ds fs : List ℕ) (o : Option ℤ) (e : ℤ) → Some e ≡ option_map saturated_size o →
    option_map saturated_parts (option_map (parts_with negative ds fs) o) ≡ Some (parts_with negative ds fs e)
parts-some negative ds fs None e known = absurd (cc)
parts-some negative ds fs (Some z) e known = let same : saturated_size z ≡ e = cc in ap
    (λ (x : ℤ). Some (parts_with negative ds fs x)) same

pub parts-known : (negative : Bool) (ds fs left : List ℕ) (e : ℤ) → 0 < length ds + length fs →
    Some e ≡ option_map saturated_size (exponent_after left) →
    option_map saturated_parts (parts_of_runs negative ds fs left) ≡ Some (parts_with negative ds fs e)
parts-known negative ds fs left e some known =
    let there : nat_lt 0 (length ds + length fs) ≡ true = grind (arith, nat_tests) in
    ap (λ (b : Bool). option_map saturated_parts (cond b
    (option_map (parts_with negative ds fs) (exponent_after left)) None)) there
    ∙ parts-some negative ds fs (exponent_after left) e known

-- the parts of a text, from its sign and its runs
pub number_parts-runs : (negative : Bool) (text unsigned ds rest fs left : List ℕ) →
    signed text ≡ (negative, unsigned) → unsigned ≡ ds ++ rest →
    all_digits ds ≡ true → begins_digit rest ≡ false → AfterPoint rest fs left → all_digits fs ≡ true →
    begins_digit left ≡ false →
    number_parts text ≡ parts_of_runs negative ds fs left
number_parts-runs negative text unsigned ds rest fs left sign split digits ends after more left_ends =
    ap parts_after sign ∙ ap (λ (u : List ℕ). parts_after (negative, u)) split
    ∙ parts-runs negative ds rest fs left digits ends after more left_ends

-- the runs are no longer than the text
length-signed : (text : List ℕ) → length (signed text).1 ≤ length text
length-signed [] = omega arith
length-signed (c ∷ cs) = grind (arith, nat_tests)

length-after : (rest fs left : List ℕ) → AfterPoint rest fs left → length fs ≤ length rest
length-after [] fs left after = omega (arith, ap (λ (l : List ℕ). length l) after.0)
length-after (c ∷ cs) fs left after = length-after_at c cs fs left (is_point c) after
  where
    length-after_at : (c : ℕ) (cs fs left : List ℕ) (p : Bool) →
        MatchBool p (cs ≡ fs ++ left) ((fs ≡ []) × (left ≡ c ∷ cs)) → length fs ≤ suc (length cs)
    length-after_at c cs fs left true after = omega (
      arith,
      ap (λ (l : List ℕ). length l) after,
      length-append fs
          left,
    )
    length-after_at c cs fs left false after = omega (arith, ap (λ (l : List ℕ). length l) after.0)

pub length-runs : (negative : Bool) (text unsigned ds rest fs left : List ℕ) → signed text ≡ (negative, unsigned) →
    unsigned ≡ ds ++ rest → AfterPoint rest fs left →
    length ds + length fs ≤ length text
length-runs negative text unsigned ds rest fs left sign split after =
    omega (
      arith,
      length-signed text,
      ap (λ (s : Bool × List ℕ). length s.1) sign,
      ap (λ (l : List ℕ). length l)
          split,
      length-append ds rest,
      length-after rest fs left after,
    )
