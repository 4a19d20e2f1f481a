pub mod PaddedBlocks
