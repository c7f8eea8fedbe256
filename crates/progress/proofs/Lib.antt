pub mod ComesLaws
pub mod CountLaws
pub mod ReadOnLaws
pub mod StatusLaws
pub mod StepLaws
pub mod WordLaws
