pub mod KeyLengths
pub mod Laid
pub mod Spelling
