use Rattle.std.proofs.Common.{false, true}
use Rattle.std.proofs.lemmas.Option.{IfSome_then}
use Rattle.obj_text.proofs.plain.after_line_end.Goals as goal

pub returns-in-Some : goal.returns-in-Some
returns-in-Some c = record { cr = false; split = c.in-Some.ensures }

pub returns-in-None : goal.returns-in-None
returns-in-None c = IfSome_then c.after_cr_lf.result c.after_cr_lf.ensures (λ rest ends. record { cr = true; split = ends })
