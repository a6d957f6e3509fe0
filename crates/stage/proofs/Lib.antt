mod StageSteps
