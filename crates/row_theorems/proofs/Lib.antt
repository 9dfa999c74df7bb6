mod OnLiterals
mod Terms
mod Rows
