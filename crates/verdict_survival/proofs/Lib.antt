mod SurviveLaws
