mod QuickNumbers
mod QuickSheets
