pub mod Balance
pub mod Laws
pub mod Lists
pub mod Numbers
