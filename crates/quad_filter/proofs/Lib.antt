pub mod KeptLaws
pub mod WantedLaws
