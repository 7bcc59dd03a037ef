use Rattle.play_terms.specs.Words.{command}
use Rattle.program_runs.proofs.WritesBack.{copies_back, few_digits, keeps_meshes, reads_stl, writes_back}
use Rattle.program_runs.proofs.back.plays_are_readable.Goals as goal

pub returns-clause-mesh_back : goal.returns-clause-mesh_back
returns-clause-mesh_back c = copies_back c.args.limits.now (command c.args.words.now) c.file_bytes.ensures.lawful (few_digits c.args.words.now)

pub returns-clause-back : goal.returns-clause-back
returns-clause-back c files =
    writes_back c.args.limits.now (command c.args.words.now) c.file_bytes.ensures.lawful (few_digits c.args.words.now) c.operations_are_readable.ensures.readable files

pub returns-clause-held : goal.returns-clause-held
returns-clause-held c =
    keeps_meshes c.args.limits.now (command c.args.words.now) c.file_bytes.ensures.lawful (few_digits c.args.words.now) c.operations_are_readable.ensures.readable

pub returns-clause-stl : goal.returns-clause-stl
returns-clause-stl c =
    reads_stl c.args.limits.now (command c.args.words.now) c.file_bytes.ensures.lawful (few_digits c.args.words.now) c.operations_are_readable.ensures.readable
