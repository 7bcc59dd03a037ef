use Rattle.source_faces.proofs.RecordGroups.{ascend_faces, faces_are_groups}
use Rattle.source_faces.proofs.lists.group_laws.records_are_groups.Goals as goal

pub returns-clause-records : goal.returns-clause-records
returns-clause-records c stands x up = faces_are_groups stands x (ascend_faces stands up)

pub returns-clause-faces : goal.returns-clause-faces
returns-clause-faces c stands x up = faces_are_groups stands x up
