pub mod Sales
pub mod Totals
pub mod Told
pub mod Balance
pub mod Next
