pub mod FlashLaws
pub mod GoodLaws
pub mod MapLaws
pub mod PairLaws
pub mod SeenLaws
pub mod WhenLaws
