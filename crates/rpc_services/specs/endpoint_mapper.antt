pub mod Lookup
pub mod Annotation
pub mod Entry
pub mod Mapper
