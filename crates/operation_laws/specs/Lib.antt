pub mod Kernels
pub mod Laws
pub mod Results
