mod SamePrices
mod Endings
