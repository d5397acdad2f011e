mod LineParts
mod NextLine
pub mod ReportLines
pub mod StopLemmas
