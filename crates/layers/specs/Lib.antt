pub mod Good
pub mod Pair
pub mod Stack
