-- On texts, clap's walk over the words finds what they give, or a fault where they are of no command.
use Rattle.std.proofs.Common.{◌≡◌, ◌∙◌, List, [], ◌∷◌, ◌++◌, Bool, true, false, inl, inr, Option, Some, None, is_some, codes, refl, ap, ap₂, sym, subst}
use Rattle.run_terms.specs.Files.{Bytes}
use Rattle.clap.specs.Words.{Kinds, Row, built, fault_of, matches_of}
use Rattle.clap.specs.Kinds.{or_else}
use Rattle.clap.specs.Simple.{entered}
use Rattle.clap.specs.Walk.{Waiting, Walk, idle, nothing_held, option, positional, walk}
use Rattle.clap.specs.Faults.{entered_fault, level_fault, walk_fault}
use Rattle.play_terms.specs.Words.{Given, digits_of, is_option_end}
use Rattle.command_words.specs.ClapGrammar.{grammar_app}
use Rattle.command_words.specs.Grammar.{given_by}
use Rattle.command_words.proofs.Given.{given_by-attached, given_by-value, joined-nothing, joined-operand, joined-value, no_value}
use Rattle.command_words.proofs.Sorts.{sort_of}
use Rattle.command_words.proofs.Turns.{attached_turn, end_turn, ended_turn, ends_well, fault_first, fault_second, goes_on, nothing_settles}
use Rattle.command_words.proofs.Turns.{operand_settles, operand_turn, option_turn, stops, unknown_fails, value_settles, value_turn}
use Rattle.command_words.proofs.Walks.{AreTexts, IsFault, Reads, Settles, Sort, Tells, Use, attaches, digits_given, digits_use, ends, free, joined, one_operand}
use Rattle.command_words.proofs.Walks.{one_value, opens, operand_use, outcome, plain, refused, rules, shape, stands, turn, unknown, use_faults, with_use}

-- one word, which is no fault, and then the others
reads_on : (w later : Walk) (word : Bytes) (ws : List Bytes) (o rest : Option Given) → turn w word ≡ ([], later) → rest ≡ o → Reads (outcome later ws) rest
    → Reads (outcome w (word ∷ ws)) o
reads_on w later word ws o rest step same reads = subst (λ e. Reads e o) (sym (goes_on w later word ws step)) (subst (Reads (outcome later ws)) same reads)

-- the turn of a use that settles
settled_turn : (w later : Walk) (word : Bytes) (k : Kinds) → turn w word ≡ (k, later) → k ≡ [] → turn w word ≡ ([], later)
settled_turn w later word k step none = step ∙ ap (λ (x : Kinds). (x, later)) none

abbrev FailsAt : Kinds × Walk → Type 0
FailsAt t = IsFault t.0

fails_on : (w later : Walk) (word : Bytes) (ws : List Bytes) → turn w word ≡ ([], later) → IsFault (outcome later ws).0 → IsFault (outcome w (word ∷ ws)).0
fails_on w later word ws step bad = subst (λ e. IsFault e.0) (sym (goes_on w later word ws step)) bad

-- ---- a use that can't settle is a fault in the end

doomed_ended : (ws : List Bytes) (waiting : Waiting) (rows : List Row) (p : Use) → IsFault (use_faults rows p) → IsFault (outcome (stands true waiting rows p) ws).0
unfolding walk_fault
doomed_ended [] waiting rows p bad = fault_first (use_faults rows p) _ bad
doomed_ended (w ∷ ws) waiting rows p bad = stops (stands true waiting rows p) w ws (subst FailsAt (sym (ended_turn waiting rows p w)) bad)

doomed_on : (w : Bytes) → Sort w → (ws : List Bytes) (rows : List Row) (p : Use) → IsFault (use_faults rows p) → IsFault (outcome (stands false idle rows p) (w ∷ ws)).0
doomed_on _ ends ws rows p bad = fails_on (stands false idle rows p) (stands true idle rows p) (codes "--") ws (end_turn idle rows p) (doomed_ended ws idle rows p bad)
doomed_on _ (attaches v) ws rows p bad =
    let second = use_faults (with_use p rows) (digits_use (v ∷ [])) in
    stops (stands false idle rows p) (codes "--digits=" ++ v) ws
    (subst FailsAt (sym (attached_turn idle rows p v)) (fault_first (or_else (use_faults rows p) second) [] (fault_first (use_faults rows p) second bad)))
doomed_on _ opens ws rows p bad = stops (stands false idle rows p) (codes "--digits") ws (subst FailsAt (sym (option_turn idle rows p)) (fault_first (use_faults rows p) [] bad))
doomed_on w (unknown is) ws rows p bad = stops (stands false idle rows p) w ws (unknown_fails idle rows p w is)
doomed_on w (plain is) ws rows p bad = stops (stands false idle rows p) w ws (subst FailsAt (sym (operand_turn false rows p w is)) bad)

doomed : (ws : List Bytes) → AreTexts ws → (rows : List Row) (p : Use) → IsFault (use_faults rows p) → IsFault (outcome (stands false idle rows p) ws).0
unfolding walk_fault
doomed [] texts rows p bad = fault_first (use_faults rows p) _ bad
doomed (w ∷ ws) texts rows p bad = doomed_on w (sort_of w texts.0) ws rows p bad

-- ---- after the end of options

trails : (ws : List Bytes) (waiting : Waiting) (rows : List Row) (p : Use) (g : Given) → Settles rows p g
    → Reads (outcome (stands true waiting rows p) ws) (joined g (Some (record { operands = ws; digits = [] })))
trails [] waiting rows p g s = ends_well true waiting rows p g s
trails (w ∷ ws) waiting rows p g s =
    let here = stands true waiting rows p in
    let r = with_use p rows in
    let later = stands true positional r (operand_use w) in
    reads_on here later w ws _ _ (settled_turn here later w (use_faults rows p) (ended_turn waiting rows p w) s.fault)
    (joined-operand g w (Some (record { operands = ws; digits = [] })))
    (trails ws positional r (operand_use w) (one_operand g w) (operand_settles r g w s.tells))

-- ---- before it

-- where --digits waits for its value
abbrev opened_at : List Row → Walk
opened_at rows = stands false (option (codes "digits")) rows (digits_use [])

-- these words are read, where no option waits
abbrev Walks : List Bytes → Type 0
Walks ws = (more : Bool) (rows : List Row) (p : Use) (g : Given) → Settles rows p g → Reads (outcome (stands false (free more) rows p) ws) (joined g (given_by ws))

-- and where --digits waits
abbrev Opens : List Bytes → Type 0
Opens ws = (rows : List Row) (g : Given) → Tells rows g → Reads (outcome (opened_at rows) ws) (joined g (given_by (codes "--digits" ∷ ws)))

walks_end : Walks []
walks_end more rows p g s = ends_well false (free more) rows p g s

opens_end : Opens []
unfolding walk_fault
opens_end rows g t = refused tt refl

no_digit_given : (v : Bytes) (ws : List Bytes) (g : Given) → is_option_end v ≡ false → digits_of (v ∷ []) ≡ None
    → digits_given (joined g (given_by (codes "--digits" ∷ v ∷ ws))) ≡ None
no_digit_given v ws g unended none = ap (λ o. digits_given (joined g o)) (given_by-value v ws unended) ∙ no_value g v (given_by ws) (inr none)

-- the value of --digits
opens_on : (v : Bytes) → Sort v → (ws : List Bytes) → AreTexts ws → Walks ws → Opens (v ∷ ws)
opens_on _ ends ws texts rest rows g t =
    let later = stands true (option (codes "digits")) rows (digits_use []) in
    refused
    (fails_on (opened_at rows) later (codes "--") ws (end_turn (option (codes "digits")) rows (digits_use [])) (doomed_ended ws (option (codes "digits")) rows (digits_use []) tt))
    refl
opens_on _ (attaches u) ws texts rest rows g t =
    let v = codes "--digits=" ++ u in
    refused
    (stops (opened_at rows) v ws (subst FailsAt (sym (attached_turn (option (codes "digits")) rows (digits_use []) u)) tt))
    (no_digit_given v ws g refl refl)
opens_on _ opens ws texts rest rows g t =
    refused
    (stops (opened_at rows) (codes "--digits") ws (subst FailsAt (sym (option_turn (option (codes "digits")) rows (digits_use []))) tt))
    (no_digit_given (codes "--digits") ws g refl refl)
opens_on v (unknown is) ws texts rest rows g t =
    refused (stops (opened_at rows) v ws (unknown_fails (option (codes "digits")) rows (digits_use []) v is)) (no_digit_given v ws g is.unended is.no_digit)
opens_on v (plain is) ws texts rest rows g t =
    let later = stands false idle rows (digits_use (v ∷ [])) in
    let gives = given_by-value v ws is.unended in
    elim (value_settles rows g v t) [
      | inl settles ↦
          reads_on (opened_at rows) later v ws _ _ (value_turn rows v is) (joined-value g v (given_by ws) ∙ ap (joined g) (sym gives))
          (rest false rows (digits_use (v ∷ [])) (one_value g v) settles)
      | inr twice ↦
          refused (fails_on (opened_at rows) later v ws (value_turn rows v is) (doomed ws texts rows (digits_use (v ∷ [])) twice.0))
          (ap (λ o. digits_given (joined g o)) gives ∙ no_value g v (given_by ws) (inl twice.1))
    ]

-- a word where no option waits
word_on : (w : Bytes) → Sort w → (ws : List Bytes) → Walks ws → Opens ws → Walks (w ∷ ws)
word_on _ ends ws rest opened more rows p g s =
    reads_on (stands false (free more) rows p) (stands true (free more) rows p) (codes "--") ws _ _ (end_turn (free more) rows p) refl (trails ws (free more) rows p g s)
word_on _ (attaches v) ws rest opened more rows p g s =
    let here = stands false (free more) rows p in
    let r = with_use p rows in
    let word = codes "--digits=" ++ v in
    let gives = given_by-attached v ws in
    let first = use_faults rows p in
    let second = use_faults r (digits_use (v ∷ [])) in
    elim (value_settles r g v s.tells) [
      | inl settles ↦
          let after = with_use (digits_use (v ∷ [])) r in
          let later = stands false idle after None in
          let met = ap₂ (λ a b. or_else (or_else a b) []) s.fault settles.fault in
          reads_on here later word ws _ _ (settled_turn here later word (or_else (or_else first second) []) (attached_turn (free more) rows p v) met)
          (joined-value g v (given_by ws) ∙ ap (joined g) (sym gives))
          (rest false after None (one_value g v) (nothing_settles after (one_value g v) settles.tells))
      | inr twice ↦
          refused (stops here word ws (subst FailsAt (sym (attached_turn (free more) rows p v)) (fault_first (or_else first second) [] (fault_second first second twice.0))))
          (ap (λ o. digits_given (joined g o)) gives ∙ no_value g v (given_by ws) (inl twice.1))
    ]
word_on _ opens ws rest opened more rows p g s =
    let here = stands false (free more) rows p in
    let later = stands false (option (codes "digits")) (with_use p rows) (digits_use []) in
    let met = ap (λ k. or_else k []) s.fault in
    reads_on here later (codes "--digits") ws _ _ (settled_turn here later (codes "--digits") (or_else (use_faults rows p) []) (option_turn (free more) rows p) met) refl
    (opened (with_use p rows) g s.tells)
word_on w (unknown is) ws rest opened more rows p g s =
    refused (stops (stands false (free more) rows p) w ws (unknown_fails (free more) rows p w is)) (ap (λ o. digits_given (joined g o)) (is.gives ws))
word_on w (plain is) ws rest opened more rows p g s =
    let here = stands false (free more) rows p in
    let r = with_use p rows in
    let later = stands false positional r (operand_use w) in
    reads_on here later w ws _ _ (settled_turn here later w (use_faults rows p) (operand_turn more rows p w is) s.fault)
    (joined-operand g w (given_by ws) ∙ ap (joined g) (sym (is.gives ws)))
    (rest true r (operand_use w) (one_operand g w) (operand_settles r g w s.tells))

walks : (ws : List Bytes) → AreTexts ws → Walks ws
walks [] texts = walks_end
walks (w ∷ []) texts = word_on w (sort_of w texts.0) [] walks_end opens_end
walks (w ∷ v ∷ ws) texts = word_on w (sort_of w texts.0) (v ∷ ws) (walks (v ∷ ws) texts.1) (opens_on v (sort_of v texts.1.0) ws texts.1.1 (walks ws texts.1.1))

-- ---- all words

no_subcommand_faults : (ws : List Bytes) → fault_of grammar_app ws ≡ level_fault shape [] nothing_held ws false []
no_subcommand_faults ws = go (walk rules [] nothing_held ws).stopped
  where
    go : (stop : Option (Bytes × List Bytes))
        → level_fault shape [] nothing_held ws (is_some (entered (built grammar_app) stop)) (entered_fault (built grammar_app) stop) ≡ level_fault shape [] nothing_held ws false []
    go None = refl
    go (Some p) = refl

-- clap finds no fault, and its rows say what the words give, or it finds one, and the digits that they give are none
pub read_by_clap : (ws : List Bytes) → AreTexts ws → Reads (fault_of grammar_app ws, matches_of grammar_app ws) (given_by ws)
read_by_clap ws texts =
    let nothing : Given = record { operands = []; digits = [] } in
    let start : Settles [] None nothing = nothing_settles [] nothing (record { given = refl; met = refl }) in
    subst (λ k. Reads (k, matches_of grammar_app ws) (given_by ws)) (sym (no_subcommand_faults ws))
    (subst (Reads (outcome (stands false idle [] None) ws)) (joined-nothing (given_by ws)) (walks ws texts false [] None nothing start))
