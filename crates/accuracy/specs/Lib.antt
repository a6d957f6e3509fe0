pub mod ColumnRule
pub mod PriceRule
