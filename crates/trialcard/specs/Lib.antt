pub mod Card
pub mod Lines
