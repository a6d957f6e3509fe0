mod Pivots
