mod RatioLaws
