pub mod CallLaws
pub mod ResetLaws
pub mod StartLaws
