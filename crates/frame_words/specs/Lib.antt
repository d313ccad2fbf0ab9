pub mod Segments
pub mod Layouts
pub mod ValueWords
pub mod Contents
pub mod Holding
pub mod Origins
pub mod Growing
pub mod Laws
