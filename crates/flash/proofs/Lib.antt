pub mod CardLaws
pub mod RefusalLaws
pub mod SoundLaws
