use Rattle.format_laws.proofs.ObjFiles as files
use Rattle.format_laws.proofs.obj.spelled_files_read.Goals as goal

pub returns : goal.returns
returns c = files.files_read
