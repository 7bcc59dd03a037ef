use Rattle.format_laws.proofs.StlFiles as files
use Rattle.format_laws.proofs.stl.spelled_files_read.Goals as goal

pub returns : goal.returns
returns c = files.files_read
