mod CallTexts
mod CustomLines
mod CustomValues
