use Rattle.std.proofs.Common.{◌∙◌, not, rules, tests, ap, length, unwrap_or}
use Rattle.std.proofs.lemmas.Iterator.{YieldsList-from_slice}
use Rattle.std.proofs.lemmas.Iterator.Search.{position_from_yields_List}
use Rattle.text_terms.specs.Numbers.{is_digit}
use Rattle.grid_number.proofs.Positions.{unwrap_or-position}
use Rattle.obj_text.proofs.decimals.digits_len.Goals as goal

pub returns : goal.returns
returns c =
    let text = c.args.text.now in
    let found = position_from_yields_List (λ x. not (is_digit x)) _ _ c.position.result c.position.ensures.ran (YieldsList-from_slice text cc) (λ x b q k. search (rules, tests)) in
    c.unwrap_or.ensures ∙ ap (λ o. unwrap_or o (length text)) found ∙ unwrap_or-position (λ x. not (is_digit x)) text
