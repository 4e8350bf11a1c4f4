mod MarkedLines
