pub mod UnreadInput
pub mod WrongWords
