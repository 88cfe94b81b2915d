mod Cells
mod Ticks
