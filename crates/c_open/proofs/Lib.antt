pub mod ByteLaws
pub mod RoundLaws
