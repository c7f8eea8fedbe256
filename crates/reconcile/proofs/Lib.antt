pub mod Examples
pub mod SignedLaws
pub mod SaleLaws
pub mod SumLaws
pub mod PassLaws
pub mod BalanceLaws
pub mod ReconcileLaws
pub mod EndLaws
