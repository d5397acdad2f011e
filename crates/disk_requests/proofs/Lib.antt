pub mod Repetition
pub mod Cookies
