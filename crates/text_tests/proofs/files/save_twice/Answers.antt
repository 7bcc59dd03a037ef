use Rattle.mesh_files.proofs.Spares.{room_for_first, room_for_more}
use Rattle.text_tests.proofs.files.save_twice.Goals as goal

pub returns-in_err-save_mesh : goal.returns-in_err-save_mesh
returns-in_err-save_mesh g c has = let ok = c.in_err-save_mesh.ensures.sure (room_for_first _ _ _ _ has) in cc

pub returns : goal.returns
returns g c has = c.save_mesh-2.ensures.sure (room_for_more _ _ _ _ _ has c.in_ok-save_mesh.ensures.spare)
