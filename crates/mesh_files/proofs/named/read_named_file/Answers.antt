use Rattle.mesh_files.proofs.named.read_named_file.Goals as goal

pub returns-in-Err-clause-meets : goal.returns-in-Err-clause-meets
returns-in-Err-clause-meets g c = c.in-Err.ensures.meets
