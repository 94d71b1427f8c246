pub mod Calls
pub mod Choice
pub mod Law
pub mod Moves
pub mod Ready
pub mod Runs
pub mod Sets
pub mod State
