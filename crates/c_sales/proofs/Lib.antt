pub mod SalesLaws
