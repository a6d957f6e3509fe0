pub mod Answer
mod TextLengths
