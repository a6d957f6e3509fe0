mod Idling
