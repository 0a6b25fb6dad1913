pub mod PatternLaws
pub mod ProductionLaws
pub mod TagLaws
pub mod RowLaws
pub mod ScanLaws
pub mod KindLaws
pub mod ValueLaws
pub mod ColonlessLaws
