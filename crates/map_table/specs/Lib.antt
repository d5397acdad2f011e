pub mod Cookies
pub mod Table
