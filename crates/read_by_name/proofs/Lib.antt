-- Laws of where reading ends, of options with nothing beside their values, and of the options left to a last arm.
pub mod EndPlaces
pub mod PlainOptions
pub mod Options
