mod Lengthening
