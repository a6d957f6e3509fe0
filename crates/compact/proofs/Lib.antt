pub mod Listings
mod Packing
