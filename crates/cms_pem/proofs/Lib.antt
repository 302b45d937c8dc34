mod Edges
mod Lines
