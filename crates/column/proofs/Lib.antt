mod ColumnStages
mod ColumnRange
mod ColumnSolved
