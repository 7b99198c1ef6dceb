mod Covered
mod Lasts
mod Totals
