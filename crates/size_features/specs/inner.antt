-- What private functions cite: component values between signs.
pub mod Signs
