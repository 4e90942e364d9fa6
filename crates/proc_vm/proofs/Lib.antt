pub mod BlockLemmas
pub mod KeptLemmas
