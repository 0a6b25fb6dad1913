pub mod ReturnSteps
pub mod ReadingLaws
pub mod TakingLaws
mod ProjectSteps
mod DistinctSteps
mod TableSteps
mod FilterSteps
mod ValueSteps
mod ExtendSteps
mod PatternSteps
mod JoinSteps
mod GraphSteps
mod NamedSteps
mod TreeSteps
mod EvaluateSteps
mod ComputedSteps
mod UnitSteps
mod UnionSteps
mod WithinSteps
mod ClosedSteps
mod RequiredSteps
mod KeySteps
mod SeparatedSteps
mod FittingSteps
mod UnboundLaws
mod MentionSteps
mod OutwardLaws
mod ExtendLaws
mod EachJoinLaws
mod PossibleLaws
mod PossibleSteps
mod OutwardSteps
