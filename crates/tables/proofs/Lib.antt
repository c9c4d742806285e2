-- What a pick and a run tell of a caller's table with more records behind those that it looks at.
pub mod Longer
