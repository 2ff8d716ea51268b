pub mod Answered
pub mod Beside
pub mod Answering
pub mod Transcripts
pub mod Summaries
pub mod Verdicts
pub mod Words
