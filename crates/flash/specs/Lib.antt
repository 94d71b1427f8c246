pub mod Limits
pub mod Meaning
pub mod Numbers
pub mod Refusals
