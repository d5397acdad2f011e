mod Begun
mod Shapes
