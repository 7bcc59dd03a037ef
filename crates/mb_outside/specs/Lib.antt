pub mod Calls
pub mod SinkState
pub mod Seen
pub mod Sinks
pub mod Store
pub mod ShelfState
pub mod SureState
pub mod ShortState
