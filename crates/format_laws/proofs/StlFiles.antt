-- What the files that are spelled out give is computed.
use Rattle.std.proofs.Common.{refl, arith}
use Rattle.format_laws.specs.StlFiles.{FilesRead}

pub files_read : FilesRead
files_read = record {
  lawful = record {
    few_triangles = omega arith;
    few_points = omega arith;
    triangles_enough = omega arith;
    points_enough = omega arith;
    bytes_enough =
        omega arith;
    bytes_bounded = omega arith;
  };
  tetrahedron = refl;
  apart = refl;
  welded = refl;
  dropped = refl;
  unused = refl;
  first_two = refl;
  last_two = refl;
  spaced = refl;
  several = refl;
  empty = refl;
  no_solid = refl;
  no_facet = refl;
  no_normal = refl;
  no_loop = refl;
  no_vertex = refl;
  no_end = refl;
  no_other = refl;
  longer = refl;
  no_number = refl;
  off_grid = refl;
  nothing = refl;
  blank = refl;
  cut_solid = refl;
  cut_facet = refl;
  cut_number = refl;
  over_points = refl;
  over_triangles = refl;
  within = refl;
  renumbered = refl;
  joined = refl;
}
