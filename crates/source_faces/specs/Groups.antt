-- Records in the order of their faces: those of each face stand together.
use Rattle.std.specs.Prelude.{◌≡◌, ℕ, ◌+◌, ◌<◌, ◌≤◌, List, nat_lt, length, get_or, take, drop, count_by}
use Rattle.source_faces.specs.declared.lists.stands.Stand.{Stand}
use Rattle.source_faces.specs.Agreement.{Ascend, no_stand, records_of}
use Rattle.source_faces.specs.Stands.{face_count, group_end}

-- no record is of an earlier face than one before it
abbrev pub FacesAscend : List Stand → Type 0
FacesAscend stands = (i j : ℕ) → i < j → j < length stands → (get_or stands i no_stand).face ≤ (get_or stands j no_stand).face

-- how many records are of faces before this one
abbrev pub earlier : List Stand → ℕ → ℕ
earlier stands x = count_by (λ s. nat_lt s.face x) stands

-- from there on the records of the face stand, as far as those of the next face
pub record IsGroup (stands : List Stand) (x : ℕ) : Type 0 where
  pub begins : earlier stands x ≤ length stands
  pub records : take (face_count (drop (earlier stands x) stands) x) (drop (earlier stands x) stands) ≡ records_of stands x
  pub ends : group_end stands (earlier stands x) x ≡ earlier stands (x + 1)

-- so it is with each face where records ascend
abbrev pub RecordsAreGroups : Type 0
RecordsAreGroups = (stands : List Stand) (x : ℕ) → Ascend stands → IsGroup stands x

-- and where their faces do
abbrev pub FacesAreGroups : Type 0
FacesAreGroups = (stands : List Stand) (x : ℕ) → FacesAscend stands → IsGroup stands x
