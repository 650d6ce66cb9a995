mod Behind
