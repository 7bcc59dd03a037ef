-- The least open edge of closed triangles.
pub use Rattle.halfedge.proofs.OpenPair.{open_pair_closed}
