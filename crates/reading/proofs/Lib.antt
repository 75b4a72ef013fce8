-- What one more read leaves at the front of a buffer.
pub mod More
