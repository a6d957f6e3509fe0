mod Conditions
mod Joining
mod KeptStages
