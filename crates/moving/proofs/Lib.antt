mod Room
mod Endings
