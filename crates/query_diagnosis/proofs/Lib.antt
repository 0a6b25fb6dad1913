mod PrefixLaws
mod PlaceSteps
mod RuleSteps
mod ReportSteps
