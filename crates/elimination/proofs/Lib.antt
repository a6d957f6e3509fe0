mod Quotients
