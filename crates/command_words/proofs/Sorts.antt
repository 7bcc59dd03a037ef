-- What sort a word is of.
use Rattle.std.proofs.Common.{◌≡◌, ◌∙◌, ℕ, ◌==◌, List, [], ◌∷◌, ◌++◌, true, false, ◌⊎◌, inl, inr, Some, codes, drop, get_or, length, take, refl, ap, sym, subst, arith}
use Rattle.std.specs.Str.{bytes_eq, chars, encode_utf8_all, IsUtf8}
use Rattle.std.specs.List.{after_first, before_first, position_or_len}
use Rattle.std.specs.Prelude.{slice_get}
use Rattle.std.proofs.lemmas.Bool.{cases_Bool, cases_lt, eqb-true, false_from_ne_true, true≢false}
use Rattle.std.proofs.lemmas.List.{take-append-drop, take_all}
use Rattle.std.proofs.lemmas.List.Sums.{passes_at_first, split_at_first}
use Rattle.std.proofs.lemmas.Slice.Eq.{bytes_eq-Decides}
use Rattle.std.proofs.lemmas.Str.{IsCharBoundary-after_ascii, IsUtf8-drop, encodes-chars}
use Rattle.run_terms.specs.Files.{Bytes}
use Rattle.clap.specs.Words.{Row}
use Rattle.clap.specs.Lexer.{long_of}
use Rattle.clap.specs.Faults.{flag_word_fault, flags_fault}
use Rattle.command_words.proofs.Given.{given_by-word}
use Rattle.command_words.proofs.Walks.{IsFault, Sort, Unknown, Use, attaches, ends, held, opens, plain, rules, unknown}

-- ---- words with one hyphen

-- a text that is not empty has a first character
first_char : (b : ℕ) (bs : Bytes) → IsUtf8 (b ∷ bs) → (x : ℕ) × (slice_get (chars (b ∷ bs)) 0 ≡ Some x)
first_char b bs text = go (chars (b ∷ bs)) (encodes-chars (b ∷ bs) text)
  where
    go : (cs : List ℕ) → encode_utf8_all cs ≡ b ∷ bs → (x : ℕ) × (slice_get cs 0 ≡ Some x)
    go [] e = cc
    go (x ∷ cs) e = (x, refl)

-- there are no short options
no_short_option : (d : ℕ) (ds : Bytes) (x : ℕ) → (d == 45) ≡ false → slice_get (chars (d ∷ ds)) 0 ≡ Some x → (rows : List Row) (p : Use)
    → IsFault (flag_word_fault rules false (long_of (45 ∷ d ∷ ds)) (45 ∷ d ∷ ds) (held rows p))
unfolding flags_fault
no_short_option d ds x other first rows p = rw other (rw other (rw first tt))

short_word : (d : ℕ) (ds : Bytes) → (d == 45) ≡ false → IsUtf8 (d ∷ ds) → Unknown (45 ∷ d ∷ ds)
short_word d ds other text =
    let first = first_char d ds text in
    record {
      unended = rw other refl;
      no_digit = refl;
      gives = λ ws. given_by-word (45 ∷ d ∷ ds) ws (rw other refl) (rw other refl) ∙ rw other refl;
      fault = no_short_option d ds first.0 other first.1;
    }

-- ---- words with two

-- what stands before the first =
abbrev name_of : Bytes → Bytes
name_of ds = before_first (λ x. x == 61) ds

-- a name alone, or with = and a value
name_split : (ds : Bytes) → (name_of ds ≡ ds) ⊎ ((v : Bytes) × (ds ≡ name_of ds ++ 61 ∷ v))
name_split ds =
    let n = position_or_len (λ x. x == 61) ds in
    elim (cases_lt n (length ds)) [
      | inl at ↦
          let equals : get_or ds n 0 ≡ 61 = eqb-true (get_or ds n 0) 61 (passes_at_first (λ x. x == 61) ds 0 at) in
          inr (after_first (λ x. x == 61) ds, split_at_first (λ x. x == 61) ds 0 at ∙ ap (λ c. name_of ds ++ c ∷ after_first (λ x. x == 61) ds) equals)
      | inr past ↦ inl (take_all n ds past)
    ]

-- a name that is another
long_word : (d : ℕ) (ds : Bytes) → bytes_eq (codes "digits") (name_of (d ∷ ds)) ≡ false → Unknown (45 ∷ 45 ∷ d ∷ ds)
long_word d ds other =
    record {
      unended = refl;
      no_digit = refl;
      gives = λ ws. given_by-word (45 ∷ 45 ∷ d ∷ ds) ws refl no_option ∙ rw no_value refl;
      fault = λ rows p. rw other tt;
    }
  where
    apart : (word : Bytes) → bytes_eq (codes "digits") (name_of word) ≡ true → d ∷ ds ≡ word → ⊥
    apart word named is = true≢false (sym named ∙ ap (λ x. bytes_eq (codes "digits") (name_of x)) (sym is) ∙ other)

    no_option : bytes_eq (d ∷ ds) (codes "digits") ≡ false
    no_option = false_from_ne_true _ (λ is. apart (codes "digits") refl ((bytes_eq-Decides (d ∷ ds) (codes "digits")).0 is))

    no_value : bytes_eq (take 7 (d ∷ ds)) (codes "digits=") ≡ false
    no_value = false_from_ne_true _ (λ is.
        apart (codes "digits=" ++ drop 7 (d ∷ ds)) refl
        (sym (take-append-drop 7 (d ∷ ds)) ∙ ap (λ x. x ++ drop 7 (d ∷ ds)) ((bytes_eq-Decides (take 7 (d ∷ ds)) (codes "digits=")).0 is)))

digits_word : (ds : Bytes) → codes "digits" ≡ name_of ds → Sort (45 ∷ 45 ∷ ds)
digits_word ds named =
    elim (name_split ds) [
      | inl alone ↦ subst (λ x. Sort (45 ∷ 45 ∷ x)) (named ∙ alone) opens
      | inr valued ↦ subst (λ x. Sort (45 ∷ 45 ∷ x)) (ap (λ name. name ++ 61 ∷ valued.0) named ∙ sym valued.1) (attaches valued.0)
    ]

twice_dashed : (ds : Bytes) → Sort (45 ∷ 45 ∷ ds)
twice_dashed [] = ends
twice_dashed (d ∷ ds) =
    elim (cases_Bool (bytes_eq (codes "digits") (name_of (d ∷ ds)))) [
      | inl is ↦ digits_word (d ∷ ds) ((bytes_eq-Decides (codes "digits") (name_of (d ∷ ds))).0 is)
      | inr other ↦ unknown (long_word d ds other)
    ]

-- ---- all words

dashed : (cs : Bytes) → IsUtf8 (45 ∷ cs) → Sort (45 ∷ cs)
dashed [] text = plain (record { unended = refl; no_long = refl; no_short = refl; gives = λ ws. given_by-word (codes "-") ws refl refl })
dashed (d ∷ ds) text =
    elim (cases_Bool (d == 45)) [
      | inl is ↦ subst (λ n. Sort (45 ∷ n ∷ ds)) (sym (eqb-true d 45 is)) (twice_dashed ds)
      | inr other ↦ unknown (short_word d ds other (IsUtf8-drop (45 ∷ d ∷ ds) 1 text (IsCharBoundary-after_ascii (45 ∷ d ∷ ds) 0 text (omega arith) (omega arith))))
    ]

pub sort_of : (w : Bytes) → IsUtf8 w → Sort w
sort_of [] text = plain (record { unended = refl; no_long = refl; no_short = refl; gives = λ ws. given_by-word [] ws refl refl })
sort_of (c ∷ cs) text =
    elim (cases_Bool (c == 45)) [
      | inl is ↦
          let hyphen : c ≡ 45 = eqb-true c 45 is in
          subst (λ n. Sort (n ∷ cs)) (sym hyphen) (dashed cs (subst (λ n. IsUtf8 (n ∷ cs)) hyphen text))
      | inr other ↦
          plain (record {
            unended = rw other refl;
            no_long = rw other refl;
            no_short = rw other refl;
            gives = λ ws. given_by-word (c ∷ cs) ws (rw other refl) (rw other refl) ∙ rw other refl;
          })
    ]
