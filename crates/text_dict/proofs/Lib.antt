pub mod TextLaws
pub mod SlotLaws
pub mod MoveLaws
pub mod FormLaws
pub mod TruncateLaws
