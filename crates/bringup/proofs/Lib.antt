pub mod CheckLaws
pub mod FlashLaws
pub mod ProbeLaws
