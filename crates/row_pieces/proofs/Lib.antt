pub mod PieceLaws
mod PieceSteps
