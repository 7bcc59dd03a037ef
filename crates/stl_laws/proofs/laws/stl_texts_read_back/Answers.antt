use Rattle.stl_laws.proofs.ReadingBack.{stl_texts_read_back as law}
use Rattle.stl_laws.proofs.laws.stl_texts_read_back.Goals as goal

pub returns : goal.returns
returns c = law
