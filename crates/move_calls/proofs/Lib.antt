mod MoveCalls
