pub mod CutLaws
mod BlockSteps
mod PieceLaws
