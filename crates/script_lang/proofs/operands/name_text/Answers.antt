use Rattle.std.proofs.Common.{◌∙◌, sym}
use Rattle.script_lang.proofs.NameTests.{name-utf8}
use Rattle.script_lang.proofs.operands.name_text.Goals as goal

pub unreachable-requires : goal.unreachable-requires
unreachable-requires c = c.in-Err.ensures.cases.0 (name-utf8 c.args.word.now (sym c.is_name.ensures ∙ c.if-not-is_name.false))
