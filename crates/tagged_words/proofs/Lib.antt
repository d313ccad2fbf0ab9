pub mod Fixnums
pub mod Quotients
pub mod Chars
