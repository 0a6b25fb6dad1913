mod PatternLaws
mod OperatorLaws
mod GraphLaws
mod NeededLaws
mod BuildingLaws
mod RestrictedSteps
mod PlanSteps
mod TreeSteps
