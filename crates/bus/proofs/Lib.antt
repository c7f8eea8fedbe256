pub mod LineLaws
pub mod LegalLaws
pub mod QuietLaws
pub mod StepLaws
pub mod WordLaws
