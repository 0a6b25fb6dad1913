pub mod KindLaws
pub mod FormLaws
pub mod ClassLaws
pub mod ProductionLaws
pub mod MatchLaws
pub mod PlaceLaws
