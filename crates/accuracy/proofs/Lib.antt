pub mod Same
pub mod Rule
pub mod PriceRule
