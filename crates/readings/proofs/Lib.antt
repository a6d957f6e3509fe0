mod SheetSteps
