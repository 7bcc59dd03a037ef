use Rattle.command_words.proofs.Operands.{copy_named, tested, two_of}
use Rattle.command_words.proofs.commands.copy_with.Goals as goal

pub returns-clause-command : goal.returns-clause-command
returns-clause-command c =
    copy_named c.args.digits _ _ _ (two_of (λ w. w.now) c.args.operands.now _ c.if-operands-ne2.false)
    (tested _ _ _ c.as_bytes.ensures.value c.is_mesh_name.ensures c.if-not-is_mesh_name.false)
    (tested _ _ _ c.as_bytes-else-not-is_mesh_name.ensures.value c.is_mesh_name-else-not-is_mesh_name.ensures c.if-not-is_mesh_name-2.false)
