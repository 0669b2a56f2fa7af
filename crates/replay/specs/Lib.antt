pub mod Answers
pub mod Runs
pub mod Replays
pub mod Parties
pub mod Replies
