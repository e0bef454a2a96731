pub mod LoopLemmas
pub mod WholeLemmas
pub mod HeaderLemmas
pub mod TokenLemmas
pub mod ParameterLemmas
pub mod SpaceLemmas
pub mod LabelLemmas
