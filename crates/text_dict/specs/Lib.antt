pub mod Texts
pub mod Forms
pub mod Slots
pub mod TextDict
