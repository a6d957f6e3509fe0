mod RefusedLine
