mod ScaledRows
mod KeptTests
