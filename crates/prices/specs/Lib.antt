pub mod PriceSteps
