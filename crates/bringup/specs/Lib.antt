pub mod Checked
pub mod Pattern
pub mod Printed
pub mod Probed
