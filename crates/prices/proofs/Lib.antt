mod PriceTests
