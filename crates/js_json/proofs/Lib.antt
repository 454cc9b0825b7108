mod Rows
pub mod Objects
pub mod Items
pub mod Digits
pub mod TimeParts
pub mod ClockParts
pub mod Moments
pub mod Days
pub mod Written
pub mod CivilDays
pub mod Numerals
pub mod ReadParts
pub mod Printing
pub mod TimeBytes
pub mod Fractions
