pub mod LoadedTable
