pub mod Answers
pub mod Carry
pub mod Law
pub mod Numbers
pub mod Records
pub mod Runs
pub mod Totals
