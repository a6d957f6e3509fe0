mod Asked
mod Endings
