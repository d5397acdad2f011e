pub mod BlockWords
pub mod PackedBlocks
