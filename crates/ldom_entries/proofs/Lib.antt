pub mod EntryCount
pub mod UnseenPassed
