pub mod Chunked
pub mod Chunks
pub mod Shelves
