pub mod FillingLaws
pub mod SegmentLaws
