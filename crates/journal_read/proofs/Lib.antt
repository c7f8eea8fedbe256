pub mod PartLaws
pub mod RanLaws
pub mod PassLaws
pub mod SumLaws
