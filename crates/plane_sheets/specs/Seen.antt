-- Places as they are seen.
use Rattle.face_plane.specs.Planes.{Plane, face_plane}
use Rattle.plane_chains.specs.declared.flat_places.FlatPlaces.{FlatPlaces}

-- where each place is
abbrev pub seen_in : FlatPlaces → Plane
seen_in flat = face_plane flat.plane.drop flat.turned flat.points.now
