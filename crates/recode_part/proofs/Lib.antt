pub mod BoundLemmas
