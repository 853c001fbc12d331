pub mod Answers
pub mod Replays
