pub mod CpsTexts
pub mod FrameTexts
pub mod WordTexts
