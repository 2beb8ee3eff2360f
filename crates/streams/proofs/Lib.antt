mod InputExamples
