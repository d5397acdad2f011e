pub mod GatheredText
mod LowerDigits
