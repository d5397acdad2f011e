mod NamedLanes
mod HexText
mod PaddedArrays
