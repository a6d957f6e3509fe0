pub mod OutPlaces
