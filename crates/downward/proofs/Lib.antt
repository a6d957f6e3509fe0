mod Downward
