use Rattle.cover_laws.proofs.Triangles.{triangles_cover_once as law}
use Rattle.cover_laws.proofs.laws.triangles_cover_once.Goals as goal

pub returns : goal.returns
returns c = law
