pub mod Masks
pub mod LaneSums
pub mod LaneWindows
pub mod Skipping
pub mod WideAnswers
