pub mod PieceLaws
pub mod RoundLaws
