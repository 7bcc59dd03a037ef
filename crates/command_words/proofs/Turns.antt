-- One turn of clap's walk, by where it stands and the sort of the word.
use Rattle.std.proofs.Common.{◌≡◌, ◌∙◌, List, [], ◌∷◌, ◌++◌, Bool, true, false, cond, ◌⊎◌, inl, inr, Some, None, codes, fold, refl, ap, ap₂, sym}
use Rattle.std.proofs.lemmas.Bool.{and_right, cases_Bool, or_right}
use Rattle.run_terms.specs.Files.{Bytes}
use Rattle.clap.specs.Words.{Kinds, Row}
use Rattle.clap.specs.Kinds.{or_else}
use Rattle.clap.specs.Walk.{Held, Step, Waiting, Walk, after_step, finished, has_row, idle, is_pending, next, option, positional, subcommand_met, value, walked, word_met}
use Rattle.clap.specs.Faults.{check_fault, defaults_fault, step_fault, walk_fault, word_fault}
use Rattle.clap.proofs.OnLiterals.{clap_on_literals}
use Rattle.play_terms.specs.Words.{Given}
use Rattle.command_words.specs.ClapGrammar.{operands_rule}
use Rattle.command_words.proofs.Given.{joined-end}
use Rattle.command_words.proofs.Rows.{tells-operand, tells-value}
use Rattle.command_words.proofs.Walks.{IsFault, Plain, Reads, Settles, Tells, Unknown, Use, are_some, digits_use, free, given_rows, held, joined}
use Rattle.command_words.proofs.Walks.{last_faults, one_operand, one_value, operand_use, outcome, rules, shape, stands, taken, turn, use_faults, with_use}

-- ---- faults

pub fault_first : (a b : Kinds) → IsFault a → IsFault (or_else a b)
fault_first [] b bad = absurd bad
fault_first (k ∷ ks) b bad = tt

pub fault_second : (a b : Kinds) → IsFault b → IsFault (or_else a b)
fault_second [] b bad = bad
fault_second (k ∷ ks) b bad = tt

-- ---- uses that settle

pub operand_settles : (rows : List Row) (g : Given) (w : Bytes) → Tells rows g → Settles rows (operand_use w) (one_operand g w)
operand_settles rows g w t = record { fault = refl; tells = tells-operand rows g w t }

pub nothing_settles : (rows : List Row) (g : Given) → Tells rows g → Settles rows None g
nothing_settles rows g t = record { fault = refl; tells = t }

-- a value settles where it is the first
pub value_settles : (rows : List Row) (g : Given) (v : Bytes) → Tells rows g
    → Settles rows (digits_use (v ∷ [])) (one_value g v) ⊎ (IsFault (use_faults rows (digits_use (v ∷ []))) × (are_some g.digits ≡ true))
value_settles rows g v t =
    elim (cases_Bool (has_row (codes "digits") rows)) [
      | inl had ↦ inr (rw had tt, sym t.met ∙ had)
      | inr none ↦ inl (record { fault = rw none refl; tells = tells-value rows g v t none })
    ]

-- ---- the end

same_choice : {X : Type 0} (b : Bool) (x : X) → cond b x x ≡ x
same_choice true x = refl
same_choice false x = refl

-- no argument has a default
finished_rows : (rows : List Row) (p : Use) → finished rules (held rows p) ≡ with_use p rows
finished_rows rows p =
    let r = with_use p rows in
    let s = cond (has_row (codes "digits") r) r r in
    same_choice (has_row (codes "operands") s) s ∙ same_choice (has_row (codes "digits") r) r

no_default : (rows : List Row) → defaults_fault rows rules ≡ []
unfolding defaults_fault
no_default rows =
    let s = cond (has_row (codes "digits") rows) rows rows in
    rw (or_right (has_row (codes "digits") rows) true refl) (rw (or_right (has_row (codes "operands") s) true refl) refl)

-- a walk that is over reads as what was given
pub ends_well : (ended : Bool) (waiting : Waiting) (rows : List Row) (p : Use) (g : Given) → Settles rows p g
    → Reads (outcome (stands ended waiting rows p) []) (joined g (Some (record { operands = []; digits = [] })))
unfolding walk_fault
ends_well ended waiting rows p g s =
    taken
    (ap (λ k. or_else k (or_else (defaults_fault (with_use p rows) rules) (check_fault shape (finished rules (held rows p)) false))) s.fault
    ∙ ap (λ k. or_else k (check_fault shape (finished rules (held rows p)) false)) (no_default (with_use p rows)))
    (joined-end g ∙ ap Some (sym s.tells.given) ∙ ap (λ r. Some (given_rows r)) (sym (finished_rows rows p)))

-- ---- words after the end of options

pub ended_turn : (waiting : Waiting) (rows : List Row) (p : Use) (w : Bytes)
    → turn (stands true waiting rows p) w ≡ (use_faults rows p, stands true positional (with_use p rows) (operand_use w))
unfolding clap_on_literals
ended_turn waiting rows p w = rw (and_right (is_pending (record operands_rule { index = Some 1 }) p) false refl) refl

-- ---- words before it

no_subcommand : (waiting : Waiting) (w : Bytes) → subcommand_met [] waiting w ≡ None
no_subcommand idle w = refl
no_subcommand (option id) w = refl
no_subcommand positional w = refl

pub end_turn : (waiting : Waiting) (rows : List Row) (p : Use) → turn (stands false waiting rows p) (codes "--") ≡ ([], stands true waiting rows p)
unfolding clap_on_literals
end_turn waiting rows p = rw (no_subcommand waiting (codes "--")) refl

pub attached_turn : (waiting : Waiting) (rows : List Row) (p : Use) (v : Bytes)
    → turn (stands false waiting rows p) (codes "--digits=" ++ v)
    ≡ (or_else (or_else (use_faults rows p) (use_faults (with_use p rows) (digits_use (v ∷ [])))) [], stands false idle (with_use (digits_use (v ∷ [])) (with_use p rows)) None)
unfolding clap_on_literals
attached_turn waiting rows p v = rw (no_subcommand waiting (codes "--digits=" ++ v)) refl

pub option_turn : (waiting : Waiting) (rows : List Row) (p : Use)
    → turn (stands false waiting rows p) (codes "--digits") ≡ (or_else (use_faults rows p) [], stands false (option (codes "digits")) (with_use p rows) (digits_use []))
unfolding clap_on_literals
option_turn waiting rows p = rw (no_subcommand waiting (codes "--digits")) refl

pub unknown_fails : (waiting : Waiting) (rows : List Row) (p : Use) (w : Bytes) → Unknown w → IsFault (turn (stands false waiting rows p) w).0
unknown_fails waiting rows p w is =
    let met = word_met rules [] false waiting 1 w (held rows p) in
    fault_first (word_fault shape [] false waiting w (held rows p)) (step_fault shape 1 met.0 met.1)
    (rw (no_subcommand waiting w) (rw is.unended (is.fault rows p)))

-- a turn by what the word is
met_turn : (waiting : Waiting) (rows : List Row) (p : Use) (w : Bytes) (h : Held) (step : Step) → word_fault shape [] false waiting w (held rows p) ≡ []
    → word_met rules [] false waiting 1 w (held rows p) ≡ (h, step)
    → turn (stands false waiting rows p) w ≡ (step_fault shape 1 h step, after_step rules w (stands false waiting rows p) h step)
unfolding walked
met_turn waiting rows p w h step none met =
    ap₂ (λ k (m : Held × Step). (or_else k (step_fault shape 1 m.0 m.1), after_step rules w (stands false waiting rows p) m.0 m.1)) none met

no_flag : (waiting : Waiting) (w : Bytes) (h : Held) → Plain w → word_fault shape [] false waiting w h ≡ []
no_flag waiting w h is = rw (no_subcommand waiting w) (rw is.unended (rw is.no_long (rw is.no_short refl)))

-- an operand
operand_met : (more : Bool) (w : Bytes) (h : Held) → Plain w → word_met rules [] false (free more) 1 w h ≡ (h, value)
operand_met true w h is = rw is.unended (rw is.no_long (rw is.no_short refl))
operand_met false w h is = rw is.unended (rw is.no_long (rw is.no_short refl))

pub operand_turn : (more : Bool) (rows : List Row) (p : Use) (w : Bytes) → Plain w
    → turn (stands false (free more) rows p) w ≡ (use_faults rows p, stands false positional (with_use p rows) (operand_use w))
operand_turn more rows p w is =
    met_turn (free more) rows p w (held rows p) value (no_flag (free more) w (held rows p) is) (operand_met more w (held rows p) is)
    ∙ rw (and_right (is_pending (record operands_rule { index = Some 1 }) p) false refl) refl

-- the value that the option waits for
value_met : (rows : List Row) (w : Bytes) → Plain w
    → word_met rules [] false (option (codes "digits")) 1 w (held rows (digits_use [])) ≡ (held rows (digits_use (w ∷ [])), next idle)
value_met rows w is = rw is.unended (rw is.no_long (rw is.no_short refl))

pub value_turn : (rows : List Row) (w : Bytes) → Plain w
    → turn (stands false (option (codes "digits")) rows (digits_use [])) w ≡ ([], stands false idle rows (digits_use (w ∷ [])))
value_turn rows w is =
    met_turn (option (codes "digits")) rows (digits_use []) w (held rows (digits_use (w ∷ []))) (next idle)
    (no_flag (option (codes "digits")) w (held rows (digits_use [])) is) (value_met rows w is)

-- ---- the words, one after the other

-- a word that is no fault
pub goes_on : (w later : Walk) (word : Bytes) (ws : List Bytes) → turn w word ≡ ([], later) → outcome w (word ∷ ws) ≡ outcome later ws
unfolding walk_fault
goes_on w later word ws step =
    let end : Walk → Held = λ v. (fold (walked rules []) v ws).held in
    ap (λ (t : Kinds × Walk). (or_else (or_else t.0 (walk_fault shape [] t.1 ws)) (last_faults (end t.1)), finished rules (end t.1))) step

-- a word that is one
pub stops : (w : Walk) (word : Bytes) (ws : List Bytes) → IsFault (turn w word).0 → IsFault (outcome w (word ∷ ws)).0
unfolding walk_fault
stops w word ws bad =
    let here = turn w word in
    let after = walk_fault shape [] here.1 ws in
    fault_first (or_else here.0 after) (last_faults (fold (walked rules []) here.1 ws).held) (fault_first here.0 after bad)
