mod Dates
mod Pieces
mod Rows
