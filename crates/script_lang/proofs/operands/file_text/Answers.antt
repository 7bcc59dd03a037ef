use Rattle.std.proofs.Common.{◌∙◌, sym}
use Rattle.script_lang.proofs.NameTests.{file-taken, file-suffix, file-bytes}
use Rattle.script_lang.proofs.operands.file_text.Goals as goal
use Rattle.script_lang.proofs.operands.file_text.Goals.{in_default-via-in-Ok+else-is_mesh_name, in_default-via-in_default}

pub returns-in-Ok-clause-file : goal.returns-in-Ok-clause-file
returns-in-Ok-clause-file c = file-taken c.args.word.now c.in-Ok.ensures.cases.1 (sym c.is_mesh_name.ensures ∙ c.if-is_mesh_name.true)

pub returns-in_default-clause-fault : goal.returns-in_default-clause-fault
returns-in_default-clause-fault c =
    elim c.in_default.branch [
      | in_default-via-in-Ok+else-is_mesh_name w ↦ file-suffix c.args.word.now (sym w.is_mesh_name.ensures ∙ w.if-is_mesh_name.false)
      | in_default-via-in_default w ↦ file-bytes c.args.word.now w.in_default.ensures.cases.0
    ]
