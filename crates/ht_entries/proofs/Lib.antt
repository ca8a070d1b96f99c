mod Days
mod InstantCuts
mod InstantExamples
mod InstantTexts
mod Pairs
mod Words
