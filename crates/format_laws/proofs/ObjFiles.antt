-- What the files that are spelled out give is computed.
use Rattle.std.proofs.Common.{refl, arith}
use Rattle.format_laws.specs.ObjFiles.{FilesRead}

pub files_read : FilesRead
files_read = record {
  lawful =
      record {
        few_triangles = omega arith;
        few_points = omega arith;
        triangles_enough = omega arith;
        points_enough = omega arith;
        bytes_enough =
            omega arith;
        bytes_bounded = omega arith;
      };
  modelled = refl;
  marked = refl;
  joined = refl;
  alone = refl;
  polygon = refl;
  grouped = refl;
  cut = refl;
  replaced = refl;
  weighted = refl;
  unknown = refl;
  few = refl;
  many = refl;
  no_number = refl;
  off_grid = refl;
  no_face = refl;
  no_item = refl;
  no_index = refl;
  no_vertex = refl;
  repeated = refl;
  first_part = refl;
  over_points = refl;
  over_triangles = refl;
  within = refl;
}
