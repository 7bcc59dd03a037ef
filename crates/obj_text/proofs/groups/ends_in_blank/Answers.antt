use Rattle.std.proofs.Common.{[], ◌∙◌, sym, ap}
use Rattle.text_terms.specs.Lines.{last_is}
use Rattle.format_laws.proofs.Plain.{last_is-append}
use Rattle.obj_text.proofs.groups.ends_in_blank.Goals as goal

pub returns-in-Some : goal.returns-in-Some
returns-in-Some c = sym (ap (last_is 32) c.in-Some.ensures.cases.0 ∙ last_is-append 32 c.in-Some.field-0-1.now c.in-Some.last.now [])
