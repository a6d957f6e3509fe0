mod TableCalls
